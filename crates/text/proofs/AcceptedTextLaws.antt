-- A text that is read as a book is that book's, and the book is one that a text can say.
use Prim.Native.Nat.{ℕ, zero, suc, ◌^◌, ◌≤◌, ◌<◌}
use native.Mathlib.Omega.{arith}
use mathlib.Core.Bool.{Bool, true, false, ◌&&◌}
use mathlib.Core.Path.{◌≡◌, refl, sym, ap, ap₂, subst, ◌∙◌}
use Rattle.std.proofs.Common.{Option, None, Some}
use mathlib.Core.List.{List, [], ◌∷◌, ◌++◌}
use lib.Dec.{leb, lit≤}
use lib.ListN.{get_or, set as store, replicate}
use lib.IntN.{ℤ, pos, negsuc, nat_abs}
use borrow.Author.Tests.{leb-true}
use Rattle.figuring.proofs.BoolLaws.{both}
use Rattle.book.specs.Sizes.{places, all_parts}
use Rattle.book.specs.Postings.{stored}
use Rattle.book.specs.declared.ledger.Book.{Book}
use Rattle.text.specs.Gather.{gather}
use Rattle.text.specs.declared.entries.Entry.{Entry}
use Rattle.std.specs.Option.{option_and_then}
use Rattle.text.specs.Pattern.{fit}
use Rattle.text.specs.Line.{figure}
use Rattle.text.specs.Desk.{line_feed}
use Rattle.text.specs.Lines.{lines_of}
use Rattle.text.specs.Rendered.{FewDigits}
use Rattle.text.specs.Entries.{entries, in_book, rank, all_entries, enter, empty_at}
use Rattle.text.specs.BookText.{entry_figures, entry_lines, open_form, open_line, book_text}
use Rattle.text.specs.BookReading.{book_digits, only_if, entry_of, entered, book_in, all_ended}
use Rattle.text.specs.RoundTrip.{Writable}
use Rattle.text.proofs.FeedLaws.{fed, lines_fed}
use Rattle.text.proofs.EntryLineLaws.{entry_is, open_is}
use Rattle.text.proofs.EntryOrderLaws.{Rising, rising_map, enter_all, entered_collected}
use Rattle.text.proofs.EntryFacts.{Inside, inside_is, rank_below}
use Rattle.text.proofs.EntryLaws.{Neat, empty_neat, empty_look, stores, entries_are}

-- an entry of the book whose figures a text can hold
abbrev pub Fine : Entry → Type 0
Fine e = Inside e × FewDigits book_digits (entry_figures e)

pub only_inside : (least : ℕ) (es : List Entry) → Rising Fine all_entries least es → Rising Inside all_entries least es
only_inside least es h = rising_map (λ e i. i.0) all_entries least es h

-- ---- lines that are entered are those of entries that rise
record Entries (b : Book) (least : ℕ) (ls : List (List ℕ)) (b' : Book) : Type 0 where
  es : List Entry
  text : fed ls ≡ entry_lines es
  rises : Rising Fine all_entries least es
  book_is : enter_all b es ≡ b'

pub no_book : {X : Type 0} (b : Book) → ◌≡◌ {A = Option Book} None (Some b) → X
no_book b q = let z : ◌≡◌ {A = ℕ} 0 1 = cc in absurd (omega arith)

entered_is :
    (ls : List (List ℕ)) (least : ℕ) (b b' : Book) → least ≤ all_entries → entered least b ls ≡ Some b'
    → Entries b least ls b'
unfolding entered enter_all entry_lines fed
entered_is [] least b b' h q =
    record { es = []; text = refl; rises = h; book_is = (let z : b ≡ b' = cc in z) }
entered_is (l ∷ ls) least b b' h q = on (entry_of l) refl q (entered_is ls)
  where
    go :
        (e : Entry) → entry_of l ≡ Some e → (t : Bool) → (in_book e && leb least (rank e)) ≡ t
        → only_if t (entered (suc (rank e)) (enter b e) ls) ≡ Some b'
        → ((least : ℕ) (b b' : Book) → least ≤ all_entries → entered least b ls ≡ Some b' → Entries b least ls b')
        → Entries b least (l ∷ ls) b'
    go e p true t q ih =
        let w = both (in_book e) (leb least (rank e)) t in
        let k = entry_is l e p in
        let i = inside_is e w.0 k.above in
        let r = ih (suc (rank e)) (enter b e) b' (rank_below e i) q in
        record {
          es = e ∷ r.es;
          text = ap₂ (λ (x y : List ℕ). x ++ (line_feed ∷ y)) k.line r.text;
          rises = ((i, k.small), (leb-true least (rank e) w.1, r.rises));
          book_is = r.book_is;
        }
    go e p false t q ih = no_book b' q

    on :
        (o : Option Entry) → entry_of l ≡ o
        → option_and_then (λ e. only_if (in_book e && leb least (rank e)) (entered (suc (rank e)) (enter b e) ls)) o
        ≡ Some b'
        → ((least : ℕ) (b b' : Book) → least ≤ all_entries → entered least b ls ≡ Some b' → Entries b least ls b')
        → Entries b least (l ∷ ls) b'
    on None p q ih = no_book b' q
    on (Some e) p q ih = go e p (in_book e && leb least (rank e)) refl q ih

-- ---- entries that rise, entered into an empty book, are that book's
enter_open : (b : Book) (e : Entry) → (enter b e).open_year ≡ b.open_year
unfolding enter stored
enter_open b (Entry.Family m s n part) = refl
enter_open b (Entry.Lot m s y mg) = refl
enter_open b (Entry.Shortage m s y mg) = refl

all_open : (b : Book) (es : List Entry) → (enter_all b es).open_year ≡ b.open_year
unfolding enter_all
all_open b [] = refl
all_open b (e ∷ es) = all_open (enter b e) es ∙ enter_open b e

pub open_year_lem : (y : ℕ) (es : List Entry) → (enter_all (empty_at y) es).open_year ≡ y
unfolding empty_at
open_year_lem y es = all_open (empty_at y) es

entries_of : (y : ℕ) (es : List Entry) → Rising Inside all_entries 0 es → entries (enter_all (empty_at y) es) ≡ es
unfolding gather
entries_of y es h =
    entries_are (enter_all (empty_at y) es)
    ∙ entered_collected stores 0 (empty_at y) es (empty_neat y) (λ r l. empty_look y r) h

text_of :
    (y : ℕ) (es : List Entry) → Rising Inside all_entries 0 es
    → book_text (enter_all (empty_at y) es) ≡ open_line y ++ (line_feed ∷ entry_lines es)
unfolding book_text
text_of y es h =
    ap₂ (λ (x z : List ℕ). x ++ (line_feed ∷ z)) (ap open_line (open_year_lem y es)) (ap entry_lines (entries_of y es h))

-- ---- their figures have at most 18 digits
set_all :
    {A : Type 0} (P : A → Type 0) (d : A) (l : List A) (i : ℕ) (v : A)
    → ((j : ℕ) → P (get_or l j d)) → P v → (j : ℕ) → P (get_or (store l i v) j d)
set_all P d [] i v h k j = h j
set_all P d (x ∷ l) zero v h k zero = k
set_all P d (x ∷ l) zero v h k (suc j) = h (suc j)
set_all P d (x ∷ l) (suc i) v h k zero = h zero
set_all P d (x ∷ l) (suc i) v h k (suc j) = set_all P d l i v (λ j. h (suc j)) k j

replicate_all : {A : Type 0} (P : A → Type 0) (d : A) → P d → (n j : ℕ) → P (get_or (replicate n d) j d)
replicate_all P d h zero j = h
replicate_all P d h (suc n) zero = h
replicate_all P d h (suc n) (suc j) = replicate_all P d h n j

abbrev pub Low : ℕ → Type 0
Low n = n < 10 ^ book_digits

abbrev pub Lowℤ : ℤ → Type 0
Lowℤ z = nat_abs z < 10 ^ book_digits

record Bounded (b : Book) : Type 0 where
  parts : (i : ℕ) → Lowℤ (get_or b.parts i (pos 0))
  lots : (i : ℕ) → Low (get_or b.lots i 0)
  shortages : (i : ℕ) → Low (get_or b.shortages i 0)

empty_bounded : (y : ℕ) → Bounded (empty_at y)
unfolding empty_at
empty_bounded y =
    record {
      parts = replicate_all Lowℤ (pos 0) (lit≤ tt) all_parts;
      lots = replicate_all Low 0 (lit≤ tt) places;
      shortages = replicate_all Low 0 (lit≤ tt) places;
    }

-- the fourth figure
low_part : (m s n : ℕ) (z : ℤ) → FewDigits book_digits (entry_figures (Entry.Family m s n z)) → Lowℤ z
low_part m s n (pos z) h = h.1.1.1.0
low_part m s n (negsuc z) h = h.1.1.1.0

stays_bounded : (b : Book) (e : Entry) → Bounded b → Fine e → Bounded (enter b e)
unfolding enter stored
stays_bounded b (Entry.Family m s n z) g h =
    record {
      parts = set_all Lowℤ (pos 0) b.parts _ z g.parts (low_part m s n z h.1);
      lots = g.lots;
      shortages = g.shortages;
    }
stays_bounded b (Entry.Lot m s y mg) g h =
    record {
      parts = g.parts;
      lots = set_all Low 0 b.lots _ mg g.lots h.1.1.1.1.0;
      shortages = g.shortages;
    }
stays_bounded b (Entry.Shortage m s y mg) g h =
    record {
      parts = g.parts;
      lots = g.lots;
      shortages = set_all Low 0 b.shortages _ mg g.shortages h.1.1.1.1.0;
    }

all_neat : (es : List Entry) (least : ℕ) (b : Book) → Neat b → Rising Inside all_entries least es → Neat (enter_all b es)
unfolding enter_all
all_neat [] least b g h = g
all_neat (e ∷ es) least b g h = all_neat es (suc (rank e)) (enter b e) (stores.keeps b e g h.0) h.1.1

all_bounded :
    (es : List Entry) (least : ℕ) (b : Book) → Bounded b → Rising Fine all_entries least es → Bounded (enter_all b es)
unfolding enter_all
all_bounded [] least b g h = g
all_bounded (e ∷ es) least b g h = all_bounded es (suc (rank e)) (enter b e) (stays_bounded b e g h.0) h.1.1

all_writable : (y : ℕ) (es : List Entry) → Low y → Rising Fine all_entries 0 es → Writable (enter_all (empty_at y) es)
all_writable y es l h =
    let n = all_neat es 0 (empty_at y) (empty_neat y) (only_inside 0 es h) in
    let k = all_bounded es 0 (empty_at y) (empty_bounded y) h in
    record {
      sized = n.sized;
      bits = n.bits;
      unmarked = n.unmarked;
      year = rw (open_year_lem y es) l;
      parts = k.parts;
      lots = k.lots;
      shortages = k.shortages;
    }

-- ---- the whole text
pub record IsText (t : List ℕ) (b : Book) : Type 0 where
  pub text : book_text b ≡ t
  pub writable : Writable b

lines_are : (ls : List (List ℕ)) (b : Book) → book_in ls ≡ Some b → IsText (fed ls) b
unfolding book_in fed
lines_are [] b q = no_book b q
lines_are (l ∷ ls) b q = go (fit book_digits open_form l) refl q
  where
    go :
        (o : Option (List ℕ)) → fit book_digits open_form l ≡ o
        → option_and_then (λ n. entered 0 (empty_at (figure n 0)) ls) o ≡ Some b
        → IsText (l ++ (line_feed ∷ fed ls)) b
    go None p q = no_book b q
    go (Some ns) p q =
        let o = open_is l ns p in
        let f : entered 0 (empty_at o.0) ls ≡ Some b =
        subst (λ (x : List ℕ). entered 0 (empty_at (figure x 0)) ls ≡ Some b) o.1 q in
        let r = entered_is ls 0 (empty_at o.0) b (omega arith) f in
        record {
          text =
              ap book_text (sym r.book_is) ∙ text_of o.0 r.es (only_inside 0 r.es r.rises)
              ∙ sym (ap₂ (λ (x z : List ℕ). x ++ (line_feed ∷ z)) o.2 r.text);
          writable = subst Writable r.book_is (all_writable o.0 r.es o.3 r.rises);
        }

pub text_is : (t : List ℕ) (b : Book) → only_if (all_ended t) (book_in (lines_of t)) ≡ Some b → IsText t b
text_is t b q = go (all_ended t) refl q
  where
    go : (e : Bool) → all_ended t ≡ e → only_if e (book_in (lines_of t)) ≡ Some b → IsText t b
    go true e q = subst (λ (x : List ℕ). IsText x b) (lines_fed t e) (lines_are (lines_of t) b q)
    go false e q = no_book b q
