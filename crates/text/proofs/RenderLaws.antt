-- A text fits a pattern just where it is the pattern filled with numbers of few enough digits.
use Prim.Native.Nat.{ℕ, suc, ◌^◌, ◌≤◌, ◌<◌}
use native.Mathlib.Nat.{pow-le-pow_right}
use native.Mathlib.Omega.{arith}
use mathlib.Core.Bool.{Bool, true, false, not, cond, ◌&&◌, false≢true}
use mathlib.Core.Path.{◌≡◌, refl, sym, ap, ◌∙◌}
use Rattle.std.proofs.Common.{Option, None, Some}
use mathlib.Core.List.{List, [], ◌∷◌, ◌++◌}
use lib.Dec.{eqb}
use lib.ListN.{length, get_or, drop}
use lib.Seq.{drop_at}
use borrow.Author.Tests.{eqb-true, eq-eqb, not-true}
use Rattle.figuring.proofs.BoolLaws.{both}
use Rattle.text.specs.Numeral.{number, numeral, digit, leading}
use Rattle.text.specs.Pattern.{fit, filled, hashes, on_number, on_byte, prepended, hash}
use Rattle.text.specs.Rendered.{FewDigits}
use Rattle.text.proofs.CanonLaws.{read_is, numeral_read, stops}

-- what a pattern's numbers are: as many as it has #, each below 10 ^ most, and the text is the pattern filled with them
pub record Fills (most : ℕ) (p s ns : List ℕ) : Type 0 where
  pub text : s ≡ filled p ns
  pub count : length ns ≡ hashes p
  pub small : FewDigits most ns

no_some : {X : Type 0} (ns : List ℕ) → ◌≡◌ {A = Option (List ℕ)} None (Some ns) → X
no_some ns e = let z : ◌≡◌ {A = ℕ} 0 1 = cc in absurd (omega arith)

pub fit_fills : (most : ℕ) → most ≤ 18 → (p s ns : List ℕ) → fit most p s ≡ Some ns → Fills most p s ns
unfolding fit filled hashes
fit_fills most m [] [] [] e = record { text = refl; count = refl; small = tt }
fit_fills most m [] [] (n ∷ ns) e = let z : ◌≡◌ {A = ℕ} 0 1 = cc in absurd (omega arith)
fit_fills most m [] (c ∷ s) ns e = no_some ns e
fit_fills most m (p ∷ ps) s ns e = go (eqb p 35) refl e (fit_fills most m ps)
  where
    byte :
        (s : List ℕ) → on_byte p s (λ r. fit most ps r) ≡ Some ns
        → ((s ns : List ℕ) → fit most ps s ≡ Some ns → Fills most ps s ns)
        → (s ≡ p ∷ filled ps ns) × (length ns ≡ hashes ps) × FewDigits most ns
    byte [] q ih = no_some ns q
    byte (c ∷ s) q ih = inner (eqb c p) refl q
      where
        inner :
            (b : Bool) → eqb c p ≡ b → cond b (fit most ps s) None ≡ Some ns
            → ((c ∷ s) ≡ p ∷ filled ps ns) × (length ns ≡ hashes ps) × FewDigits most ns
        inner true a q =
            let f = ih s ns q in
            (rw (eqb-true c p a, f.text), f.count, f.small)
        inner false a q = no_some ns q

    front :
        (v : ℕ) (o : Option (List ℕ)) (ns : List ℕ) → prepended (v ∷ []) o ≡ Some ns
        → (ms : List ℕ) × (o ≡ Some ms) × (ns ≡ v ∷ ms)
    front v None ns q = no_some ns q
    front v (Some ms) ns q = (ms, refl, (let z : v ∷ ms ≡ ns = cc in sym z))

    numb :
        (m : Option (ℕ × ℕ)) → number most s ≡ m → on_number m (λ v k. prepended (v ∷ []) (fit most ps (drop k s))) ≡ Some ns
        → ((s ns : List ℕ) → fit most ps s ≡ Some ns → Fills most ps s ns)
        → (s ≡ numeral (get_or ns 0 0) ++ filled ps (drop 1 ns)) × (length ns ≡ suc (hashes ps)) × FewDigits most ns
    numb None a q ih = no_some ns q
    numb (Some r) a q ih =
        let v : ℕ = r.0 in
        let k : ℕ = r.1 in
        let t = front v (fit most ps (drop k s)) ns q in
        let f = ih (drop k s) t.0 t.1 in
        let i = read_is most s v k m a in
        let x : s ≡ numeral v ++ filled ps t.0 = i.0 ∙ ap (λ (l : List ℕ). numeral v ++ l) f.text in
        (rw t.2 x, rw t.2 (ap suc f.count), rw t.2 (i.1, f.small))

    go :
        (b : Bool) → eqb p hash ≡ b
        → cond b (on_number (number most s) (λ v k. prepended (v ∷ []) (fit most ps (drop k s))))
        (on_byte p s (λ r. fit most ps r)) ≡ Some ns
        → ((s ns : List ℕ) → fit most ps s ≡ Some ns → Fills most ps s ns)
        → Fills most (p ∷ ps) s ns
    go true a q ih =
        let w = numb (number most s) refl q ih in
        record { text = rw a w.0; count = rw a w.1; small = w.2 }
    go false a q ih = let w = byte s q ih in record { text = rw a w.0; count = rw a w.1; small = w.2 }

-- after each # of a pattern comes a byte that is neither a digit nor #, or the end
abbrev pub plain : List ℕ → Bool
plain [] = true
plain (c ∷ s) = not (digit c) && not (eqb c hash)

unfoldable pub separate : List ℕ → Bool
separate [] = true
separate (p ∷ ps) = cond (eqb p hash) (plain ps) true && separate ps

plain_stops : (p ns : List ℕ) → plain p ≡ true → stops (filled p ns) ≡ true
unfolding filled
plain_stops [] ns e = refl
plain_stops (c ∷ s) ns e =
    let w = both (not (digit c)) (not (eqb c hash)) e in
    rw (not-true (eqb c hash) w.1) w.0

pub fills_fit :
    (most : ℕ) → 0 < most → most ≤ 18 → (p ns : List ℕ) → separate p ≡ true → length ns ≡ hashes p → FewDigits most ns
    → fit most p (filled p ns) ≡ Some ns
unfolding fit filled hashes separate
fills_fit most o m [] [] e l h = refl
fills_fit most o m [] (n ∷ ns) e l h = absurd (omega arith)
fills_fit most o m (p ∷ ps) ns e l h = go (eqb p hash) refl e l (fills_fit most o m ps)
  where
    numb :
        (ns : List ℕ)
        → (plain ps && separate ps) ≡ true
        → length ns ≡ suc (hashes ps)
        → FewDigits most ns
        → ((ns : List ℕ) → separate ps ≡ true → length ns ≡ hashes ps → FewDigits most ns
        → fit most ps (filled ps ns) ≡ Some ns)
        → on_number (number most (numeral (get_or ns 0 0) ++ filled ps (drop 1 ns)))
        (λ v k. prepended (v ∷ []) (fit most ps (drop k (numeral (get_or ns 0 0) ++ filled ps (drop 1 ns))))) ≡ Some ns
    numb [] e l h ih = absurd (omega arith)
    numb (n ∷ ns) e l h ih =
        let w = both (plain ps) (separate ps) e in
        rw (
          numeral_read most n (filled ps ns) o m h.0 (plain_stops ps ns w.0),
          drop_at (numeral n) (filled ps ns) (length (numeral n)) refl,
          ih ns w.1 (omega arith) h.1,
        )

    go :
        (b : Bool)
        → eqb p hash ≡ b
        → (cond b (plain ps) true && separate ps) ≡ true
        → length ns ≡ cond b (suc (hashes ps)) (hashes ps)
        → ((ns : List ℕ) → separate ps ≡ true → length ns ≡ hashes ps → FewDigits most ns
        → fit most ps (filled ps ns) ≡ Some ns)
        → fit most (p ∷ ps) (filled (p ∷ ps) ns) ≡ Some ns
    go true a e l ih = rw a (numb ns e l h ih)
    go false a e l ih = rw (a, eq-eqb p p refl) (ih ns e l h)

-- two patterns that differ: in a byte, or in that the first has a number where the second has a byte that is no digit;
-- after nothing but bytes and numbers that they share
unfoldable pub apart : List ℕ → List ℕ → Bool
apart [] q = false
apart (a ∷ p) [] = false
apart (a ∷ p) (b ∷ q) =
    let r = apart p q in
    cond (eqb a hash) (cond (eqb b hash) (plain q && r) (not (digit b)))
    (not (eqb b hash) && cond (eqb b a) r true)

no_number : (most b : ℕ) (s : List ℕ) → digit b ≡ false → number most (b ∷ s) ≡ None
unfolding number leading
no_number most b s e = rw e

-- a pattern does not fit what another, apart from it, is filled to
module _ (most : ℕ) (o : 0 < most) (m : most ≤ 18) where
  pub apart_unfit : (p q ns : List ℕ) → apart p q ≡ true → FewDigits most ns → fit most p (filled q ns) ≡ None
  unfolding fit filled apart
  apart_unfit [] q ns e h = absurd (false≢true e)
  apart_unfit (a ∷ p) [] ns e h = absurd (false≢true e)
  apart_unfit (a ∷ p) (b ∷ q) ns e h = go (eqb a hash) refl (eqb b hash) refl e (apart_unfit p q)
    where
      -- the number that both have is read, and the rest is apart
      shared :
          (n : ℕ) (ns : List ℕ) → n < 10 ^ most → plain q ≡ true → fit most p (filled q ns) ≡ None
          → on_number (number most (numeral n ++ filled q ns))
          (λ v k. prepended (v ∷ []) (fit most p (drop k (numeral n ++ filled q ns)))) ≡ None
      shared n ns h e f =
          rw (
            numeral_read most n (filled q ns) o m h (plain_stops q ns e),
            drop_at (numeral n) (filled q ns) (length (numeral n)) refl,
            f,
          )

      numb :
          (ns : List ℕ) → FewDigits most ns → (plain q && apart p q) ≡ true
          → ((ns : List ℕ) → apart p q ≡ true → FewDigits most ns → fit most p (filled q ns) ≡ None)
          → on_number (number most (numeral (get_or ns 0 0) ++ filled q (drop 1 ns)))
          (λ v k. prepended (v ∷ []) (fit most p (drop k (numeral (get_or ns 0 0) ++ filled q (drop 1 ns))))) ≡ None
      numb [] h e ih =
          let w = both (plain q) (apart p q) e in
          let o = pow-le-pow_right {n = 10} (omega arith) {i = 0} {j = most} (omega arith) in
          shared 0 [] (omega (arith, o)) w.0 (ih [] w.1 tt)
      numb (n ∷ ns) h e ih =
          let w = both (plain q) (apart p q) e in
          shared n ns h.0 w.0 (ih ns w.1 h.1)

      byte :
          (x : Bool) → cond x (apart p q) true ≡ true → (apart p q ≡ true → fit most p (filled q ns) ≡ None)
          → cond x (fit most p (filled q ns)) None ≡ None
      byte true e ih = ih e
      byte false e ih = refl

      go :
          (x : Bool) → eqb a hash ≡ x → (y : Bool) → eqb b hash ≡ y
          → cond x (cond y (plain q && apart p q) (not (digit b))) (not y && cond (eqb b a) (apart p q) true) ≡ true
          → ((ns : List ℕ) → apart p q ≡ true → FewDigits most ns → fit most p (filled q ns) ≡ None)
          → fit most (a ∷ p) (filled (b ∷ q) ns) ≡ None
      go true u true v e ih = rw (u, v) (numb ns h e ih)
      go true u false v e ih = rw (u, v, no_number most b (filled q ns) (not-true (digit b) e))
      go false u true v e ih = absurd (false≢true e)
      go false u false v e ih = rw (u, v) (byte (eqb b a) e (λ f. ih ns f h))
