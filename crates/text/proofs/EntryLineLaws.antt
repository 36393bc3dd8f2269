-- A line is read as an entry just where it is that entry's line.
use Prim.Native.Nat.{ℕ, zero, suc, ◌^◌, ◌≤◌, ◌<◌}
use native.Mathlib.Omega.{arith}
use mathlib.Core.Bool.{Bool, true, false, ◌&&◌}
use mathlib.Core.Path.{◌≡◌, refl, sym, ap, subst, ◌∙◌}
use Rattle.std.proofs.Common.{Option, None, Some}
use mathlib.Core.List.{List, [], ◌∷◌, ◌++◌}
use lib.Dec.{leb, lit≤}
use lib.ListN.{length, get_or}
use lib.IntN.{pos, negsuc}
use borrow.Author.Tests.{le-leb, leb-true}
use Rattle.figuring.proofs.BoolLaws.{both}
use Rattle.std.specs.Option.{option_or, option_and_then}
use Rattle.text.specs.declared.entries.Entry.{Entry}
use Rattle.text.specs.Pattern.{fit, filled, hashes}
use Rattle.text.specs.Line.{figure}
use Rattle.text.specs.Lines.{OneLine}
use Rattle.text.specs.Rendered.{FewDigits}
use Rattle.text.specs.BookText.{EntryForm, family, family_below, lot, short, entry_forms, form_for, entry_figures}
use Rattle.text.specs.BookText.{entry_line, open_form, open_line}
use Rattle.text.specs.BookReading.{book_digits, only_if, entry_by, first_entry, entry_of}
use Rattle.text.proofs.FormLaws.{listed}
use Rattle.text.proofs.FirstLineLaws.{no_feed, one_filled}
use Rattle.text.proofs.RenderLaws.{fit_fills, fills_fit, separate, apart, apart_unfit}

-- ---- a line that is read as an entry is its line
-- a lot and a shortage are above 0
abbrev pub AboveZero : Entry → Type 0
AboveZero (Entry.Family m s n part) = Unit {0}
AboveZero (Entry.Lot m s y mg) = 0 < mg
AboveZero (Entry.Shortage m s y mg) = 0 < mg

-- an entry is of a form, with these figures
record Made (f : EntryForm) (e : Entry) (ns : List ℕ) : Type 0 where
  form_is : form_for e ≡ f
  figures_are : entry_figures e ≡ ns
  above : AboveZero e

-- the entry that a form makes of four figures is of that form, with those figures, if the fourth is not below the least
abbrev Again : EntryForm → Type 0
Again f =
    (a b c d : ℕ) → f.least ≤ d
    → Made f (f.entry (a ∷ b ∷ c ∷ d ∷ [])) (a ∷ b ∷ c ∷ d ∷ [])

abbrev AllAgain : List EntryForm → Type 0
AllAgain [] = Unit {0}
AllAgain (f ∷ fs) = Again f × ((hashes f.pattern ≡ 4) × AllAgain fs)

family_again : Again family
family_again a b c d h = record { form_is = refl; figures_are = refl; above = tt }

below_again : Again family_below
below_again a b c zero h = absurd (omega arith)
below_again a b c (suc d) h = record { form_is = refl; figures_are = refl; above = tt }

lot_again : Again lot
lot_again a b c d h = record { form_is = refl; figures_are = refl; above = h }

short_again : Again short
short_again a b c d h = record { form_is = refl; figures_are = refl; above = h }

all_again : AllAgain entry_forms
unfolding hashes
all_again = (family_again, (refl, (below_again, (refl, (lot_again, (refl, (short_again, (refl, tt))))))))

no_some : {A : Type 0} {X : Type 0} (e : A) → ◌≡◌ {A = Option A} None (Some e) → X
no_some e q = let z : ◌≡◌ {A = ℕ} 0 1 = cc in absurd (omega arith)

made_of_four :
    (f : EntryForm) (e : Entry) (a b c d : ℕ) → Again f → entry_by f (a ∷ b ∷ c ∷ d ∷ []) ≡ Some e
    → Made f e (a ∷ b ∷ c ∷ d ∷ [])
made_of_four f e a b c d g q = go (leb f.least d) refl q
  where
    go :
        (t : Bool) → leb f.least d ≡ t → only_if t (Some (f.entry (a ∷ b ∷ c ∷ d ∷ []))) ≡ Some e
        → Made f e (a ∷ b ∷ c ∷ d ∷ [])
    go true p q =
        let w : f.entry (a ∷ b ∷ c ∷ d ∷ []) ≡ e = cc in
        rw w at (g a b c d (leb-true f.least d p))
    go false p q = no_some e q

made :
    (f : EntryForm) (ns : List ℕ) (e : Entry) → Again f → length ns ≡ 4 → entry_by f ns ≡ Some e → Made f e ns
made f ns e g l =
    subst (λ (x : List ℕ). entry_by f x ≡ Some e → Made f e x) (listed 4 ns l) (made_of_four f e _ _ _ _ g)

-- what a line that is read as an entry is
pub record IsLine (s : List ℕ) (e : Entry) : Type 0 where
  pub line : s ≡ entry_line e
  pub above : AboveZero e
  pub small : FewDigits book_digits (entry_figures e)

first_is : (fs : List EntryForm) → AllAgain fs → (s : List ℕ) (e : Entry) → first_entry fs s ≡ Some e → IsLine s e
first_is [] a s e q = no_some e q
first_is (f ∷ fs) a s e q = go (fit book_digits f.pattern s) refl q (first_is fs a.1.1 s e)
  where
    -- a form that the line fits makes its entry, or none
    fits :
        (ns : List ℕ) → fit book_digits f.pattern s ≡ Some ns → (o : Option Entry) → entry_by f ns ≡ o
        → option_or o (first_entry fs s) ≡ Some e → (first_entry fs s ≡ Some e → IsLine s e) → IsLine s e
    fits ns p None t q ih = ih q
    fits ns p (Some x) t q ih =
        let w = fit_fills book_digits (lit≤ tt) f.pattern s ns p in
        let m = made f ns e a.0 (w.count ∙ a.1.0) (t ∙ q) in
        record {
          line = rw (m.form_is, m.figures_are) w.text;
          above = m.above;
          small = rw m.figures_are w.small;
        }

    go :
        (o : Option (List ℕ)) → fit book_digits f.pattern s ≡ o
        → option_or (option_and_then (λ n. entry_by f n) o) (first_entry fs s) ≡ Some e
        → (first_entry fs s ≡ Some e → IsLine s e) → IsLine s e
    go None p q ih = ih q
    go (Some ns) p q ih = fits ns p (entry_by f ns) refl q ih

pub entry_is : (s : List ℕ) (e : Entry) → entry_of s ≡ Some e → IsLine s e
unfolding entry_of
entry_is s e q = first_is entry_forms all_again s e q

-- ---- an entry's line is read as the entry
unfoldable pub all_apart : List EntryForm → List ℕ → Bool
all_apart [] q = true
all_apart (f ∷ fs) q = apart f.pattern q && all_apart fs q

chosen :
    (gs : List EntryForm) (f : EntryForm) (fs : List EntryForm) (ns : List ℕ)
    → all_apart gs f.pattern ≡ true
    → FewDigits book_digits ns
    → f.least ≤ figure ns 3
    → fit book_digits f.pattern (filled f.pattern ns) ≡ Some ns
    → first_entry (gs ++ f ∷ fs) (filled f.pattern ns) ≡ Some (f.entry ns)
unfolding all_apart
chosen [] f fs ns a h l e = rw (e, le-leb f.least (figure ns 3) l)
chosen (g ∷ gs) f fs ns a h l e =
    let w = both (apart g.pattern f.pattern) (all_apart gs f.pattern) a in
    rw (apart_unfit book_digits (lit≤ tt) (lit≤ tt) g.pattern f.pattern ns w.0 h)
    (chosen gs f fs ns w.1 h l e)

read_back :
    (gs : List EntryForm) (f : EntryForm) (fs : List EntryForm) (ns : List ℕ)
    → all_apart gs f.pattern ≡ true
    → separate f.pattern ≡ true
    → length ns ≡ hashes f.pattern
    → FewDigits book_digits ns
    → f.least ≤ figure ns 3
    → entry_forms ≡ gs ++ f ∷ fs
    → entry_of (filled f.pattern ns) ≡ Some (f.entry ns)
unfolding entry_of
read_back gs f fs ns a p l h m e =
    ap (λ (x : List EntryForm). first_entry x (filled f.pattern ns)) e
    ∙ chosen gs f fs ns a h m (fills_fit book_digits (lit≤ tt) (lit≤ tt) f.pattern ns p l h)

pub line_read : (e : Entry) → FewDigits book_digits (entry_figures e) → AboveZero e → entry_of (entry_line e) ≡ Some e
unfolding hashes separate apart all_apart
line_read (Entry.Family m s n (pos z)) h a =
    read_back [] family (family_below ∷ lot ∷ short ∷ []) (m ∷ s ∷ n ∷ z ∷ []) refl refl refl h (omega arith) refl
line_read (Entry.Family m s n (negsuc z)) h a =
    read_back (family ∷ []) family_below (lot ∷ short ∷ []) (m ∷ s ∷ n ∷ suc z ∷ []) refl refl refl h (omega arith) refl
line_read (Entry.Lot m s y mg) h a =
    read_back (family ∷ family_below ∷ []) lot (short ∷ []) (m ∷ s ∷ y ∷ mg ∷ []) refl refl refl h a refl
line_read (Entry.Shortage m s y mg) h a =
    read_back (family ∷ family_below ∷ lot ∷ []) short [] (m ∷ s ∷ y ∷ mg ∷ []) refl refl refl h a refl

-- it is one line
pub one_line : (e : Entry) → OneLine (entry_line e)
unfolding no_feed
one_line (Entry.Family m s n (pos z)) = one_filled _ _ refl
one_line (Entry.Family m s n (negsuc z)) = one_filled _ _ refl
one_line (Entry.Lot m s y mg) = one_filled _ _ refl
one_line (Entry.Shortage m s y mg) = one_filled _ _ refl

-- ---- the first line
pub open_is :
    (s ns : List ℕ) → fit book_digits open_form s ≡ Some ns
    → (y : ℕ) × (ns ≡ y ∷ []) × (s ≡ open_line y) × (y < 10 ^ book_digits)
unfolding hashes
open_is s ns e =
    let w = fit_fills book_digits (lit≤ tt) open_form s ns e in
    let l = sym (listed 1 ns w.count) in
    let m : FewDigits book_digits (get_or ns 0 0 ∷ []) = rw l at w.small in
    (get_or ns 0 0, l, w.text ∙ ap (filled open_form) l, m.0)

pub open_read : (y : ℕ) → y < 10 ^ book_digits → fit book_digits open_form (open_line y) ≡ Some (y ∷ [])
unfolding hashes separate
open_read y h = fills_fit book_digits (lit≤ tt) (lit≤ tt) open_form (y ∷ []) refl refl (h, tt)

pub open_one : (y : ℕ) → OneLine (open_line y)
unfolding no_feed
open_one y = one_filled open_form (y ∷ []) refl
