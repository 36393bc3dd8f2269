-- Card 4: CF ten times as large, and with it every part and every sum, in a unit ten times as fine.
use Prim.Native.Nat.{ℕ, zero, suc, ◌+◌, ◌*◌, ◌<◌, ◌≤◌}
use mathlib.Core.Bool.{Bool, true, false, ◌&&◌, cond, and-true, and-false}
use mathlib.Core.List.{List, [], ◌∷◌, map}
use mathlib.Core.Path.{◌≡◌, refl, sym, ◌∙◌, ap}
use native.Mathlib.Omega.{arith}
use borrow.Author.Tests.{leb-true, leb-false, le-leb, lt-leb}
use lib.Dec.{leb}
use lib.IntN.{ℤ, pos, negsuc, neg_ℤ, nat_abs, ◌-ℤ◌, ◌*ℤ◌, zero-*ℤ}
use Rattle.figuring.specs.Units.{engine_unit}
use Rattle.figuring.specs.Parts.{cf_most, part_most, between, within_limits, part_of}
use Rattle.figuring.specs.Netting.{nearest, shortage, surplus, net_of}
use Rattle.figuring.specs.FiveDecimals.{CardFigures, OldFigures, SameMg, Figures, finer, old_cf_most, old_cf, old_unit, old_part_most}
use Rattle.figuring.specs.FiveDecimals.{restated_cf, restated_part, restated, part_from, sum_from}
use Rattle.figuring.proofs.SignedLaws.{abs_mul, mul_mul, add_mul}
use Rattle.figuring.proofs.NearestLaws.{HasHalf, nearest_finer}

-- ---- limits
-- the other three figures within their limits
cf_decides : (cf : ℕ) → within_limits 465 cf 1000 435 ≡ between 1 cf_most cf
unfolding within_limits between
cf_decides cf = and-true (leb 1 cf && leb cf cf_most)

pub card_figures : CardFigures
unfolding between
card_figures = record { cf = cf_decides; half = refl; bound = refl }

-- a test "at most" of ten times a number
leb_finer : (n most : ℕ) → leb (n * finer) (most * finer) ≡ leb n most
leb_finer n most = go (leb n most) refl
  where
    go : (t : Bool) → leb n most ≡ t → leb (n * finer) (most * finer) ≡ t
    go true e = let h : n ≤ most = leb-true n most e in le-leb (n * finer) (most * finer) (omega arith)
    go false e = let h : most < n = leb-false n most e in lt-leb (n * finer) (most * finer) (omega arith)

-- of CF alone: restated, and read by the limits of now, it is within them exactly when it is 1 to the old most
cf_restated : (cf : ℕ) → between 1 cf_most (restated_cf cf) ≡ between 1 old_cf_most cf
unfolding between
cf_restated zero = refl
cf_restated (suc n) =
    rw (le-leb 1 (restated_cf (suc n)) (omega arith), le-leb 1 (suc n) (omega arith), leb_finer (suc n) old_cf_most)

cf_old : (cf : ℕ) → between 1 cf_most (old_cf cf) ≡ between 1 old_cf_most cf
unfolding between
cf_old cf = go (leb cf old_cf_most) refl
  where
    go : (t : Bool) → leb cf old_cf_most ≡ t
        → (leb 1 (cond t cf (cf_most + 1)) && leb (cond t cf (cf_most + 1)) cf_most) ≡ (leb 1 cf && t)
    go true e = let h : cf ≤ old_cf_most = leb-true cf old_cf_most e in rw (le-leb cf cf_most (omega arith))
    go false e = sym (and-false (leb 1 cf))

pub limits_old :
    (fcl cf volume life : ℕ) → within_limits fcl (restated_cf cf) volume life ≡ within_limits fcl (old_cf cf) volume life
unfolding within_limits
limits_old fcl cf volume life = rw (cf_restated cf, cf_old cf)

pub old_figures : OldFigures
unfolding between net_of nearest
old_figures =
    record { cf = λ cf. cf_decides (old_cf cf) ∙ cf_old cf; half_even = refl; half_odd = refl; half_below = refl }

-- ---- parts
pub part_finer :
    (s fcl cf volume life : ℕ) → part_of s fcl (restated_cf cf) volume life ≡ restated_part (part_of s fcl cf volume life)
unfolding part_of
part_finer s fcl cf volume life =
    let e : cf * finer * volume * life ≡ cf * volume * life * finer = omega arith in
    ap (λ (n : ℕ). (pos s -ℤ pos fcl) *ℤ pos n) e ∙ sym (mul_mul (pos s -ℤ pos fcl) (cf * volume * life) finer)

part : (f : Figures) → part_from (restated f) ≡ restated_part (part_from f)
part f = part_finer f.standard f.fcl f.cf f.volume f.life

pub bound_finer : (z : ℤ) → leb (nat_abs (restated_part z)) part_most ≡ leb (nat_abs z) old_part_most
bound_finer z = ap (λ (n : ℕ). leb n part_most) (abs_mul z finer) ∙ leb_finer (nat_abs z) old_part_most

-- ---- sums
sum_finer : (fs : List Figures) → sum_from (map restated fs) ≡ restated_part (sum_from fs)
sum_finer [] = sym (zero-*ℤ (pos finer))
sum_finer (f ∷ fs) = rw (part f, sum_finer fs) (sym (add_mul (part_from f) (sum_from fs) finer))

old_half : HasHalf old_unit
old_half = record { above = omega arith; whole = refl }

-- below zero by the size
net_below : (unit n : ℕ) → 0 < n → net_of unit (neg_ℤ (pos n)) ≡ shortage (nearest unit n)
unfolding net_of
net_below unit zero h = absurd (omega arith)
net_below unit (suc n) h = refl

pub net_finer : (z : ℤ) → net_of engine_unit (restated_part z) ≡ net_of old_unit z
unfolding net_of
net_finer (pos n) = ap surplus (nearest_finer old_unit old_half n)
net_finer (negsuc n) =
    net_below engine_unit (suc n * finer) (omega arith) ∙ ap shortage (nearest_finer old_unit old_half (suc n))

pub same_mg : SameMg
same_mg =
    record {
      limits = λ f. limits_old f.fcl f.cf f.volume f.life;
      part = part;
      bound = bound_finer;
      net = λ fs. ap (net_of engine_unit) (sum_finer fs) ∙ net_finer (sum_from fs);
    }
