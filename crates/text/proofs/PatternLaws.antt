-- Laws of reading a text against a pattern, a step at a time.
use Prim.Native.Nat.{ℕ, suc, ◌+◌, ◌-◌, ◌≤◌, ◌<◌}
use native.Mathlib.Omega.{arith}
use native.Mathlib.Numerals.{add-one}
use mathlib.Core.Bool.{Bool, true, false, cond, ◌&&◌}
use mathlib.Core.Logic.{inl, inr}
use mathlib.Core.Path.{◌≡◌, refl, sym, ap, ◌∙◌}
use mathlib.Core.List.{List, [], ◌∷◌, ◌++◌, append_assoc, append-nil}
use lib.ListN.{length, take, drop, set, replicate, length-drop, length-replicate, length-set}
use lib.Seq.{take-suc-set, take_all}
use borrow.Author.Tests.{ne_eqb, eq-eqb, eqb-false, ltb-true}
use Rattle.std.specs.Borrow.{Bor}
use Rattle.std.specs.Cmp.Lexicographic.{pointwise}
use Rattle.text.specs.Lines.{Lacks}
use lib.Dec.{eqb}
use Rattle.std.proofs.Common.{Option, Some, None}
use Rattle.std.proofs.lemmas.List.{take_rest}
use Rattle.std.proofs.lemmas.Option.{none-some, same_Some}
use Rattle.text.specs.Numeral.{number, proper, leading, value}
use Rattle.text.specs.Pattern.{ToNumber, fit, hashes, on_byte, on_number, prepended, hash}
use Rattle.figuring.proofs.BoolLaws.{both}
use Rattle.text.proofs.DigitLaws.{lead_length}

-- a number that is read is the digits that the text starts with
its_digits :
    (most : ℕ) (s : List ℕ) (v d : ℕ) → number most s ≡ Some (v, d)
    → (proper most (leading s) ≡ true) × (length (leading s) ≡ d)
unfolding number
its_digits most s v d e = go (proper most (leading s)) refl e
  where
    go :
        (b : Bool) → proper most (leading s) ≡ b
        → ◌≡◌ {A = Option (ℕ × ℕ)} (cond b (Some (value (leading s), length (leading s))) None) (Some (v, d))
        → (proper most (leading s) ≡ true) × (length (leading s) ≡ d)
    go true p q = (p, ap (λ (r : ℕ × ℕ). r.1) (same_Some _ _ q))
    go false p q = absurd (none-some _ q)

pub number_length : (most : ℕ) (s : List ℕ) (v d : ℕ) → number most s ≡ Some (v, d) → d ≤ length s
number_length most s v d e = omega (arith, (its_digits most s v d e).1, lead_length s)

number_some : (most : ℕ) (s : List ℕ) (v d : ℕ) → number most s ≡ Some (v, d) → 0 < d
number_some most s v d e =
    let n = its_digits most s v d e in omega (arith, n.1, ltb-true 0 (length (leading s)) (both _ _ n.0).0)

-- ---- a text that is shorter than a pattern does not fit it
-- f is what the rest of the pattern does with the rest of the text
short_number :
    (most m : ℕ) (s : List ℕ) (f : List ℕ → Option (List ℕ)) → length s ≤ m → ((r : List ℕ) → length r < m → f r ≡ None)
    → on_number (number most s) (λ v k. prepended (v ∷ []) (f (drop k s))) ≡ None
short_number most m s f h none = go (number most s) refl
  where
    go :
        (o : Option (ℕ × ℕ)) → number most s ≡ o → on_number o (λ v k. prepended (v ∷ []) (f (drop k s))) ≡ None
    go None e = refl
    go (Some (v, d)) e =
        let l : length (drop d s) < m =
        rw length-drop (omega (arith, h, number_some most s v d e, number_length most s v d e)) in
        rw (none (drop d s) l) refl

short_byte :
    (c m : ℕ) (s : List ℕ) (f : List ℕ → Option (List ℕ)) → length s ≤ m → ((r : List ℕ) → length r < m → f r ≡ None)
    → on_byte c s f ≡ None
short_byte c m [] f h none = refl
short_byte c m (b ∷ s) f h none = go (eqb b c)
  where
    go : (x : Bool) → cond x (f s) None ≡ None
    go true = none s (omega arith)
    go false = refl

short_fits_not : (most : ℕ) (p s : List ℕ) → length s < length p → fit most p s ≡ None
unfolding fit
short_fits_not most [] s h = absurd (omega arith)
short_fits_not most (c ∷ p) s h =
    go (eqb c hash) (short_number most (length p) s (fit most p) (omega arith) (short_fits_not most p))
    (short_byte c (length p) s (fit most p) (omega arith) (short_fits_not most p))
  where
    go : (x : Bool) {a b : Option (List ℕ)} → a ≡ None → b ≡ None → cond x a b ≡ None
    go true e f = e
    go false e f = f

pub too_short : (most : ℕ) (p s : List ℕ) → length s < length p → None ≡ fit most p s
too_short most p s h = sym (short_fits_not most p s h)

prepended_twice : (a b : List ℕ) (o : Option (List ℕ)) → prepended a (prepended b o) ≡ prepended (a ++ b) o
prepended_twice a b None = refl
prepended_twice a b (Some ns) = ap {B = Option (List ℕ)} Some (sym (append_assoc a b ns))

prepended_nil : (o : Option (List ℕ)) → o ≡ prepended [] o
prepended_nil None = refl
prepended_nil (Some ns) = refl

-- ---- the end of a pattern
-- the last word of a pattern is what is left of the text
fit_end : (most : ℕ) (w s : List ℕ) → Lacks hash w → fit most w s ≡ cond (pointwise eqb s w) (Some []) None
unfolding fit
fit_end most [] [] h = refl
fit_end most [] (b ∷ s) h = refl
fit_end most (c ∷ w) [] h = rw (ne_eqb c hash h.0)
fit_end most (c ∷ w) (b ∷ s) h = rw (ne_eqb c hash h.0, fit_end most w s h.1) (go (eqb b c) (pointwise eqb s w))
  where
    go : (x y : Bool) → ◌≡◌ {A = Option (List ℕ)} (cond x (cond y (Some []) None) None) (cond (x && y) (Some []) None)
    go true y = refl
    go false y = refl

-- a pattern that has no # left
no_hash : (p : List ℕ) → hashes p ≡ 0 → Lacks hash p
unfolding hashes
no_hash [] e = tt
no_hash (c ∷ p) e = go (eqb c hash) refl e (no_hash p)
  where
    go : (b : Bool) → eqb c hash ≡ b → cond b (suc (hashes p)) (hashes p) ≡ 0 → (hashes p ≡ 0 → Lacks hash p) → Lacks hash (c ∷ p)
    go true q e ih = absurd (omega arith)
    go false q e ih = (eqb-false c hash q, ih e)

-- ---- on to a pattern's next number
-- with this left of the pattern and of the text, it goes on as from the start
pub record Onward (form s left rest : List ℕ) : Type 0 where
  pub hashes_are : hashes form ≡ hashes left
  pub goes : (most : ℕ) → fit most form s ≡ fit most left rest

pub from_start : (form s : List ℕ) → Onward form s form s
from_start form s = record { hashes_are = refl; goes = λ _. refl }

module _ {form s left rest : List ℕ} (o : Onward form s left rest) where
  pub over : left ≡ [] → hashes form ≡ 0
  unfolding hashes
  over e = o.hashes_are ∙ rw e

  module _ {p : ℕ} {after : List ℕ} (l : left ≡ p ∷ after) where
    pub at_number :
        p ≡ hash → (hashes form ≡ suc (hashes after))
        × ((most : ℕ)
        → fit most form s ≡ on_number (number most rest) (λ v k. prepended (v ∷ []) (fit most after (drop k rest))))
    unfolding fit hashes
    at_number e = (o.hashes_are ∙ rw (l, e) refl, λ most. o.goes most ∙ rw (l, e) refl)

    module _ (n : p ≡ hash → ⊥) where
      pub text_over : rest ≡ [] → (most : ℕ) → fit most form s ≡ None
      unfolding fit
      text_over e most = o.goes most ∙ rw (l, e, ne_eqb p hash n) refl

      pub other_byte : {b : ℕ} {more : List ℕ} → rest ≡ b ∷ more → (b ≡ p → ⊥) → (most : ℕ) → fit most form s ≡ None
      unfolding fit
      other_byte {b} r d most = o.goes most ∙ rw (l, r, ne_eqb p hash n, ne_eqb b p d) refl

      pub same_byte : {b : ℕ} {more : List ℕ} → rest ≡ b ∷ more → b ≡ p → Onward form s after more
      unfolding fit hashes
      same_byte {b} r e =
          record {
            hashes_are = o.hashes_are ∙ rw (l, ne_eqb p hash n) refl;
            goes = λ most. o.goes most ∙ rw (l, r, ne_eqb p hash n, eq-eqb b p e) refl;
          }

-- ---- the loop
-- the first i numbers of n are read, `form` is left of a pattern p and `rest` of a text s
pub record Half (N most : ℕ) (p s n : List ℕ) (i : ℕ) (form rest : List ℕ) : Type 0 where
  pub wide : length n ≡ N
  pub room : i + hashes form ≡ N
  pub goes : fit most p s ≡ prepended (take i n) (fit most form rest)

pub start : (most : ℕ) (p s : List ℕ) {N : ℕ} → hashes p ≡ N → Half N most p s (replicate N 0) 0 p s
start most p s {N} h =
    record { wide = length-replicate N 0; room = omega (arith, h); goes = prepended_nil (fit most p s) }

module _ {N most : ℕ} {p s n : List ℕ} {i : ℕ} {form rest : List ℕ} (half : Half N most p s n i form rest) where
  stops : fit most form rest ≡ None → None ≡ fit most p s
  stops e = sym (half.goes ∙ rw e)

  module _ (here : i < N) where
    pub not_reached : ToNumber form rest None → None ≡ fit most p s
    not_reached (inl e) = absurd (omega (arith, half.room, e, here))
    not_reached (inr none) = stops (none most)

    module _ (after from : Bor (List ℕ)) (to : ToNumber form rest (Some (after, from))) where
      pub no_number : number most from.now ≡ None → None ≡ fit most p s
      no_number e = stops (to.1 most ∙ rw e refl)

      pub a_number :
          (v d : ℕ) → number most from.now ≡ Some (v, d)
          → Half N most p s (set n i v) (i + 1) after.now (take (length from.now - d) (drop d from.now))
      a_number v d e =
          let q : fit most form rest ≡ prepended (v ∷ []) (fit most after.now (drop d from.now)) = to.1 most ∙ rw e refl in
          let t : take (i + 1) (set n i v) ≡ take i n ++ (v ∷ []) =
          rw (add-one i) (take-suc-set n i v (omega (arith, here, half.wide))) in
          record {
            wide = length-set n i v ∙ half.wide;
            room = omega (arith, half.room, to.0);
            goes = half.goes ∙ rw (q, t, take_rest from.now d) (prepended_twice (take i n) (v ∷ []) _);
          }

  module _ (done : N ≤ i) where
    none_left : Lacks hash form
    none_left = no_hash form (omega (arith, half.room))

    pub other_end : pointwise eqb rest form ≡ false → None ≡ fit most p s
    other_end e = stops (fit_end most form rest none_left ∙ rw e)

    pub whole : pointwise eqb rest form ≡ true → Some n ≡ fit most p s
    whole e =
        let t : take i n ≡ n = take_all i n (omega (arith, half.room, half.wide)) in
        sym (half.goes ∙ rw (fit_end most form rest none_left, e, t, append-nil n))

-- what the reader of a pattern needs, but for the step of its loop
pub ruleset reads_pattern = (too_short, start, not_reached, no_number, number_length, other_end, whole)
