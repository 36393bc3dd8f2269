-- No line fits two of the forms of an entry.
use Prim.Native.Nat.{ℕ, zero, suc, ◌+◌, ◌≤◌, ◌<◌}
use native.Mathlib.Omega.{arith}
use mathlib.Core.Bool.{Bool, true, cond, ◌&&◌}
use mathlib.Core.Path.{◌≡◌, refl, sym, ap, ◌∙◌}
use mathlib.Core.List.{List, [], ◌∷◌}
use lib.Dec.{lit≤}
use lib.ListN.{length, get_or}
use Rattle.std.proofs.Common.{Option, None, Some}
use Rattle.std.specs.List.{count_by}
use Rattle.std.specs.Option.{is_some, option_or}
use Rattle.std.proofs.lemmas.Option.{none-some}
use Rattle.std.proofs.lemmas.List.Sums.{sum_by-cons}
use Rattle.figuring.proofs.BoolLaws.{both}
use Rattle.text.specs.declared.entries.Entry.{Entry}
use Rattle.text.specs.BookText.{EntryForm, entry_forms}
use Rattle.text.specs.Pattern.{fit}
use Rattle.text.specs.BookReading.{book_digits, entry_by, first_entry, entry_of}
use Rattle.text.specs.OneForm.{by_form, OneForm}
use Rattle.text.proofs.RenderLaws.{fit_fills, apart, apart_unfit}

-- each form is apart from those after it
unfoldable apart_from : EntryForm → List EntryForm → Bool
apart_from f [] = true
apart_from f (g ∷ gs) = apart f.pattern g.pattern && apart_from f gs

unfoldable all_apart : List EntryForm → Bool
all_apart [] = true
all_apart (f ∷ fs) = apart_from f fs && all_apart fs

apart_at :
    (f g : EntryForm) (gs : List EntryForm) (k : ℕ) (d : EntryForm) → apart_from f gs ≡ true → k < length gs → get_or gs k d ≡ g
    → apart f.pattern g.pattern ≡ true
unfolding apart_from
apart_at f g [] k d a h e = absurd (omega arith)
apart_at f g (x ∷ xs) zero d a h e = rw e at (both (apart f.pattern x.pattern) (apart_from f xs) a).0
apart_at f g (x ∷ xs) (suc k) d a h e =
    apart_at f g xs k d (both (apart f.pattern x.pattern) (apart_from f xs) a).1 (omega arith) e

module _ (s : List ℕ) where
  abbrev count : List EntryForm → ℕ
  count fs = count_by (λ f. is_some (by_form s f)) fs

  counted : (f : EntryForm) (fs : List EntryForm) → count (f ∷ fs) ≡ cond (is_some (by_form s f)) 1 0 + count fs
  counted f fs = sum_by-cons (λ f. cond (is_some (by_form s f)) 1 0) f fs

  -- what a later form reads, no form does that is apart from it
  unfit_before : (f g : EntryForm) {n : List ℕ} → apart f.pattern g.pattern ≡ true → by_form s g ≡ Some n → by_form s f ≡ None
  unfit_before f g {n} a e =
      let w = fit_fills book_digits (lit≤ tt) g.pattern s n e in
      ap (fit book_digits f.pattern) w.text ∙ apart_unfit book_digits (lit≤ tt) (lit≤ tt) f.pattern g.pattern n a w.small

  unfit_after : (f g : EntryForm) {n : List ℕ} → apart f.pattern g.pattern ≡ true → by_form s f ≡ Some n → by_form s g ≡ None
  unfit_after f g {n} a e = go (by_form s g) refl
    where
      go : (o : Option (List ℕ)) → by_form s g ≡ o → o ≡ None
      go None q = refl
      go (Some m) q = absurd (none-some n (sym (unfit_before f g a q) ∙ e))

  -- so no other is fitted
  none_after :
      (f : EntryForm) (gs : List EntryForm) {n : List ℕ} → apart_from f gs ≡ true → by_form s f ≡ Some n
      → (first_entry gs s ≡ None) × (count gs ≡ 0)
  unfolding apart_from
  none_after f [] a e = (refl, refl)
  none_after f (g ∷ gs) a e =
      let w = both (apart f.pattern g.pattern) (apart_from f gs) a in
      let u = unfit_after f g w.0 e in
      let r = none_after f gs w.1 e in
      (rw u r.0, counted g gs ∙ rw (u, r.1))

  at_most_one : (fs : List EntryForm) → all_apart fs ≡ true → count fs ≤ 1
  unfolding all_apart
  at_most_one [] a = omega arith
  at_most_one (f ∷ fs) a =
      let w = both (apart_from f fs) (all_apart fs) a in
      go (by_form s f) refl w.0 (at_most_one fs w.1)
    where
      go : (o : Option (List ℕ)) → by_form s f ≡ o → apart_from f fs ≡ true → count fs ≤ 1 → count (f ∷ fs) ≤ 1
      go None e v ih = rw (counted f fs, e) (omega arith)
      go (Some n) e v ih = rw (counted f fs, e, (none_after f fs v e).1) (omega arith)

  alone : (o : Option Entry) → option_or o None ≡ o
  alone None = refl
  alone (Some x) = refl

  of_it :
      (fs : List EntryForm) → all_apart fs ≡ true → (f : EntryForm) (k : ℕ) (d : EntryForm) → k < length fs → get_or fs k d ≡ f
      → (n : List ℕ) → by_form s f ≡ Some n → first_entry fs s ≡ entry_by f n
  unfolding all_apart
  of_it [] a f k d h e n q = absurd (omega arith)
  of_it (g ∷ gs) a f zero d h e n q =
      let w = both (apart_from g gs) (all_apart gs) a in
      let r : by_form s g ≡ Some n = rw e q in
      rw (r, (none_after g gs w.0 r).0, ← e) (alone (entry_by g n))
  of_it (g ∷ gs) a f (suc k) d h e n q =
      let w = both (apart_from g gs) (all_apart gs) a in
      let u : by_form s g ≡ None = unfit_before g f (apart_at g f gs k d w.0 (omega arith) e) q in
      rw u (of_it gs w.1 f k d (omega arith) e n q)

pub one_form : OneForm
unfolding entry_of all_apart apart_from apart
one_form =
    record {
      at_most_one = λ s. at_most_one s entry_forms refl;
      of_it = λ f c s n q. of_it s entry_forms refl f c.0 f c.1 c.2 n q;
    }
