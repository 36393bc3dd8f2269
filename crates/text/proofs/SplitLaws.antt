-- A text at the first place of a byte, by what std says of that place.
use Prim.Native.Nat.{ℕ, suc, ◌+◌, ◌-◌, ◌<◌}
use native.Mathlib.Omega.{arith}
use mathlib.Core.Bool.{Bool, true, false, not, cond}
use mathlib.Core.Path.{◌≡◌, refl, sym, subst, ◌∙◌}
use mathlib.Core.List.{List, [], ◌∷◌, ◌++◌}
use lib.Dec.{eqb, ltb}
use lib.ListN.{length, get_or, take, drop}
use lib.Seq.{take_all}
use borrow.Author.Tests.{eqb-true, eqb-false, ltb-true, ltb-false}
use Rattle.std.proofs.Common.{Option, None, Some}
use Rattle.std.specs.List.{position_or_len}
use Rattle.std.proofs.lemmas.List.{take_rest}
use Rattle.std.proofs.lemmas.List.Sums.{split_at_first, passes_at_first}
use Rattle.std.proofs.lemmas.Option.{none-some, same_Some}
use Rattle.text.specs.FirstLine.{Parted}
use Rattle.text.specs.Lines.{Lacks}

module _ (b : ℕ) where
  abbrev place : List ℕ → ℕ
  place s = position_or_len (λ c. eqb c b) s

  before : (s : List ℕ) → Lacks b (take (place s) s)
  before [] = tt
  before (c ∷ s) = go (eqb c b) refl (before s)
    where
      go : (e : Bool) → eqb c b ≡ e → Lacks b (take (place s) s) → Lacks b (take (cond (not e) (1 + place s) 0) (c ∷ s))
      go true e ih = tt
      go false e ih =
          let n : 1 + place s ≡ suc (place s) = omega arith in
          subst (λ (i : ℕ). Lacks b (take i (c ∷ s))) (sym n) (eqb-false c b e, ih)

  around : (s : List ℕ) → place s < length s → s ≡ take (place s) s ++ (b ∷ drop (place s + 1) s)
  around s h =
      let f : get_or s (place s) 0 ≡ b = eqb-true _ b (passes_at_first (λ c. eqb c b) s 0 h) in
      rw f at (split_at_first (λ c. eqb c b) s 0 h)

  module _ (s : List ℕ) {o : Option ℕ} (f : o ≡ cond (ltb (place s) (length s)) (Some (place s)) None) where
    pub lacking : o ≡ None → Lacks b s
    lacking e = go (ltb (place s) (length s)) refl (sym f ∙ e)
      where
        go : (t : Bool) → ltb (place s) (length s) ≡ t → cond t (Some (place s)) None ≡ None → Lacks b s
        go true p q = absurd (none-some _ (sym q))
        go false p q = rw (take_all (place s) s (ltb-false (place s) (length s) p)) at (before s)

    pub parted : {n : ℕ} → o ≡ Some n → Parted b s (take n s) (take (length s - (n + 1)) (drop (n + 1) s))
    parted {n} e = go (ltb (place s) (length s)) refl (sym f ∙ e)
      where
        go :
            (t : Bool) → ltb (place s) (length s) ≡ t → cond t (Some (place s)) None ≡ Some n
            → Parted b s (take n s) (take (length s - (n + 1)) (drop (n + 1) s))
        go true p q =
            let k : place s ≡ n = same_Some _ _ q in
            rw (take_rest s (n + 1), ← k)
            (record { lacks = before s; parts = around s (ltb-true (place s) (length s) p) })
        go false p q = absurd (none-some _ q)
