-- What the reader needs: the entry of a line, the entry that it stores, and the loop over the lines.
use Prim.Native.Nat.{ℕ, suc, ◌+◌, ◌^◌, ◌≤◌, ◌<◌}
use native.Mathlib.Numerals.{add-one}
use native.Mathlib.Omega.{arith}
use mathlib.Core.Bool.{Bool, true, false, ◌&&◌}
use Rattle.std.proofs.Common.{Option, None, Some}
use mathlib.Core.Path.{◌≡◌, refl, sym, ap, subst, ◌∙◌}
use mathlib.Core.List.{List, [], ◌∷◌}
use lib.Dec.{leb, lit≤}
use lib.IntN.{ℤ, pos, neg_ℤ, nat_abs, ◌-ℤ◌, +ℤ_idl}
use lib.ListN.{length, set as store}
use mir.Syntax.{w64}
use mir.Val.{SFits, to_z, of_z}
use mir.Facts.{to_z-of_z}
use borrow.Author.Tests.{leb-true, le-leb, lt-leb}
use Rattle.figuring.proofs.SignedLaws.{small, as_signed, abs_neg}
use Rattle.book.specs.Ledger.{book_of, key, cell, place}
use Rattle.book.specs.Postings.{stored}
use Rattle.book.specs.Refusals.{Answered}
use Rattle.book.specs.Rules.{answered}
use Rattle.book.specs.declared.answers.Posted.{Posted}
use Rattle.book.specs.declared.ledger.Book.{Book}
use Rattle.text.specs.declared.entries.Entry.{Entry}
use Rattle.std.specs.Option.{option_and_then}
use Rattle.std.proofs.lemmas.Option.{none-some, same_Some}
use Rattle.text.specs.Pattern.{fit, hashes}
use Rattle.text.specs.Line.{figure}
use Rattle.text.specs.Lines.{Lacks, lines_from, lines_of, OneLine}
use Rattle.text.specs.Rendered.{FewDigits}
use Rattle.text.specs.Entries.{in_book, rank, enter, empty_at}
use Rattle.text.specs.BookText.{EntryForm, family_below, open_form}
use Rattle.text.specs.BookReading.{book_digits, only_if, entry_in, entry_of, entered}
use Rattle.text.specs.BookReading.{book_in, ends_in_feed, all_ended}
use Rattle.text.specs.Desk.{line_feed}
use Rattle.text.specs.FirstLine.{Parted}
use Rattle.text.specs.EntryReading.{above_0, entered_text}
use Rattle.std.proofs.lemmas.List.{nil_from_length}
use Rattle.text.proofs.FormLaws.{listed}
use Rattle.text.proofs.RenderLaws.{fit_fills}
use Rattle.text.proofs.SessionLaws.{lines}
use Rattle.text.proofs.FeedLaws.{feed_then, no_feed_lem}

-- ---- the entry of a form
module _ (f : EntryForm) (s : List ℕ) {ns : List ℕ} (fits : fit book_digits f.pattern s ≡ Some ns) where
  pub one_by : {x : Entry} → f.least ≤ figure ns 3 → x ≡ f.entry ns → Some x ≡ entry_in f s
  one_by h e = rw (fits, le-leb f.least (figure ns 3) h, e)

-- a figure of at most 18 digits as a part, and with its minus
pub minus_fits : (n : ℕ) → n < 10 ^ book_digits → SFits w64 (pos 0 -ℤ to_z w64 n)
minus_fits n h =
    rw (as_signed n (omega arith))
    (small (pos 0 -ℤ pos n) (omega (arith, ap nat_abs (+ℤ_idl (neg_ℤ (pos n))), abs_neg (pos n))))

pub minus_is : (n : ℕ) → n < 10 ^ book_digits → to_z w64 (of_z w64 (pos 0 -ℤ to_z w64 n)) ≡ neg_ℤ (pos n)
minus_is n h = to_z-of_z (minus_fits n h) ∙ rw (as_signed n (omega arith)) (+ℤ_idl (neg_ℤ (pos n)))

pub plus_is : (n : ℕ) → n < 10 ^ book_digits → to_z w64 n ≡ pos n
plus_is n h = as_signed n (omega arith)

-- the fourth figure of a line has at most 18 digits
fourth : (ns : List ℕ) → length ns ≡ 4 → FewDigits book_digits ns → figure ns 3 < 10 ^ book_digits
fourth ns l =
    subst (λ (x : List ℕ). FewDigits book_digits x → figure x 3 < 10 ^ book_digits) (listed 4 ns l)
    (λ h. h.1.1.1.0)

pub fourth_small :
    (p s : List ℕ) {ns : List ℕ} → fit book_digits p s ≡ Some ns → hashes p ≡ 4 → figure ns 3 < 10 ^ book_digits
fourth_small p s {ns} e q = let w = fit_fills book_digits (lit≤ tt) p s ns e in fourth ns (w.count ∙ q) w.small

-- a line whose fourth figure is not 0
above_is :
    (o : Option (List ℕ)) {ns : List ℕ} → above_0 o ≡ Some ns → (o ≡ Some ns) × (1 ≤ figure ns 3)
above_is None e = absurd (none-some _ e)
above_is (Some ns) e = go (leb 1 (figure ns 3)) refl e
  where
    go :
        {ms : List ℕ} (b : Bool) → leb 1 (figure ns 3) ≡ b → only_if b (Some ns) ≡ Some ms
        → (Some ns ≡ Some ms) × (1 ≤ figure ms 3)
    go true l e = let q = same_Some _ _ e in rw (← q) (refl, leb-true 1 (figure ns 3) l)
    go false l e = absurd (none-some _ e)

module _ (p s : List ℕ) {ns : List ℕ} (fits : above_0 (fit book_digits p s) ≡ Some ns) where
  pub above_small : hashes p ≡ 4 → figure ns 3 < 10 ^ book_digits
  above_small q = fourth_small p s (above_is (fit book_digits p s) fits).0 q

  pub above_by :
      {x : Entry} → x ≡ Entry.Family (figure ns 0) (figure ns 1) (figure ns 2) (neg_ℤ (pos (figure ns 3)))
      → p ≡ family_below.pattern → Some x ≡ entry_in family_below s
  above_by e q =
      let w = above_is (fit book_digits p s) fits in
      one_by family_below s (rw q at w.0) w.1 e

-- ---- an entry stored
pub family_stored :
    {e : Entry} {m s n : ℕ} {z : ℤ} (b : Book) {d : Book} {a : Answered} → e ≡ Entry.Family m s n z
    → answered a d ≡ stored b (cell m s) n z → d ≡ enter b e
unfolding enter
family_stored b q h = rw q (ap (λ (p : Posted). p.book) h)

module _ {e : Entry} {m s y mg : ℕ} (b : Book) {at : ℕ} (i : at ≡ place (key m s y)) where
  pub lot_stored :
      e ≡ Entry.Lot m s y mg
      → book_of b.open_year b.marks b.parts (store b.lots at mg) b.shortages ≡ enter b e
  unfolding enter
  lot_stored q = rw (q, i)

  pub shortage_stored :
      e ≡ Entry.Shortage m s y mg
      → book_of b.open_year b.marks b.parts b.lots (store b.shortages at mg) ≡ enter b e
  unfolding enter
  shortage_stored q = rw (q, i)

-- ---- a text by its first line
unended_text : (t : List ℕ) → 0 < length t → OneLine t → all_ended t ≡ false
unended_text [] h one = absurd (omega arith)
unended_text (c ∷ s) h one = no_feed_lem true c s one

-- a condition on all lines is one on those after the first
later :
    (t : Bool) (o : Option Entry) (k : Entry → Bool) (f : Entry → Option Book)
    → only_if t (option_and_then (λ e. only_if (k e) (f e)) o)
    ≡ option_and_then (λ e. only_if (k e) (only_if t (f e))) o
later true o k f = refl
later false None k f = refl
later false (Some e) k f = go (k e)
  where
    go : (b : Bool) → ◌≡◌ {A = Option Book} None (only_if b None)
    go true = refl
    go false = refl

-- ---- the loop
-- where an entry ranks, it is the book's
ranked_if : (in_it : Bool) (x r : ℕ) → ◌≡◌ {A = Option ℕ} (only_if in_it (Some x)) (Some r) → (in_it ≡ true) × (r ≡ x)
ranked_if true x r w = (refl, sym (same_Some _ _ w))
ranked_if false x r w = absurd (none-some _ w)

not_if : (in_it : Bool) (x : ℕ) → ◌≡◌ {A = Option ℕ} (only_if in_it (Some x)) None → in_it ≡ false
not_if true x w = absurd (none-some _ (sym w))
not_if false x w = refl

module _ (e : Entry) {o : Option ℕ} (q : o ≡ only_if (in_book e) (Some (rank e))) where
  pub ranked_in : {r : ℕ} → o ≡ Some r → in_book e ≡ true
  ranked_in w = (ranked_if (in_book e) (rank e) _ (sym q ∙ w)).0

  pub ranked_at : {r : ℕ} → o ≡ Some r → r ≡ rank e
  ranked_at w = (ranked_if (in_book e) (rank e) _ (sym q ∙ w)).1

  not_ranked : o ≡ None → in_book e ≡ false
  not_ranked h = not_if (in_book e) (rank e) (sym q ∙ h)

-- at the end of the text, or where its line has no line feed
module _ (t : List ℕ) (least : ℕ) (b : Book) where
  pub text_ends : length t ≡ 0 → entered_text least b t ≡ Some b
  unfolding entered lines_from ends_in_feed
  text_ends h = rw (nil_from_length t h)

  pub unfed : 0 < length t → Lacks line_feed t → entered_text least b t ≡ None
  unfed h one = rw (unended_text t h one)

-- at a line with one
module _ {t l r : List ℕ} (cut : Parted line_feed t l r) (least : ℕ) (b : Book) where
  goes :
      entered_text least b t
      ≡ option_and_then (λ e. only_if (in_book e && leb least (rank e)) (entered_text (suc (rank e)) (enter b e) r))
      (entry_of l)
  unfolding entered
  goes =
      rw (cut.parts, feed_then true l r, lines.ended l r cut.lacks)
      (later (all_ended r) (entry_of l) (λ e. in_book e && leb least (rank e))
      (λ e. entered (suc (rank e)) (enter b e) (lines_of r)))

  pub no_entry : entry_of l ≡ None → entered_text least b t ≡ None
  no_entry h = goes ∙ rw h

  module _ {e : Entry} (is : entry_of l ≡ Some e) where
    -- it is turned away where it does not rank, or ranks too low
    pub nowhere : {o : Option ℕ} → o ≡ only_if (in_book e) (Some (rank e)) → o ≡ None → entered_text least b t ≡ None
    nowhere q h = goes ∙ rw (is, not_ranked e q h)

    module _ {o : Option ℕ} {k : ℕ} (q : o ≡ only_if (in_book e) (Some (rank e))) (w : o ≡ Some k) where
      pub too_low : k < least → entered_text least b t ≡ None
      too_low h =
          let low : rank e < least = rw (ranked_at e q w) at h in
          goes ∙ rw (is, ranked_in e q w, lt-leb least (rank e) low)

      pub one_more : least ≤ k → {b' : Book} → b' ≡ enter b e → entered_text least b t ≡ entered_text (k + 1) b' r
      one_more h p =
          let high : least ≤ rank e = rw (ranked_at e q w) at h in
          goes ∙ rw (is, ranked_in e q w, le-leb least (rank e) high, p, ranked_at e q w, add-one (rank e))

-- ---- the first line, and the whole
module _ (t : List ℕ) where
  abbrev read : Option Book
  read = only_if (all_ended t) (book_in (lines_of t))

  pub no_line : Lacks line_feed t → read ≡ None
  unfolding book_in lines_from ends_in_feed
  no_line one = go t refl one
    where
      go : (s : List ℕ) → t ≡ s → OneLine s → only_if (all_ended s) (book_in (lines_of s)) ≡ None
      go [] p one = refl
      go (c ∷ s) p one = rw (unended_text (c ∷ s) (omega arith) one)

  module _ {l r : List ℕ} (cut : Parted line_feed t l r) where
    opens :
        read ≡ option_and_then (λ n. entered_text 0 (empty_at (figure n 0)) r) (fit book_digits open_form l)
    unfolding book_in
    opens =
        rw (cut.parts, feed_then true l r, lines.ended l r cut.lacks) (go (all_ended r) (fit book_digits open_form l))
      where
        go :
            (b : Bool) (o : Option (List ℕ))
            → only_if b (option_and_then (λ n. entered 0 (empty_at (figure n 0)) (lines_of r)) o)
            ≡ option_and_then (λ n. only_if b (entered 0 (empty_at (figure n 0)) (lines_of r))) o
        go true o = refl
        go false None = refl
        go false (Some n) = refl

    pub not_open : fit book_digits open_form l ≡ None → read ≡ None
    not_open h = opens ∙ rw h

    pub lines_after :
        {n : List ℕ} → fit book_digits open_form l ≡ Some n → read ≡ entered_text 0 (empty_at (figure n 0)) r
    lines_after h = opens ∙ rw h

-- what each reader needs: of a family's line, of the first line, of the lines after it
pub ruleset reads_family = (fourth_small, one_by, plus_is)

pub ruleset reads_below = (above_small, above_by, minus_fits, minus_is)

pub ruleset reads_open = (no_line, not_open, lines_after)

pub ruleset reads_lines = (text_ends, unfed, no_entry, ranked_in, nowhere, too_low, one_more)
