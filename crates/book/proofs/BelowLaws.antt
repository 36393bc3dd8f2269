-- Laws of an amount under a condition, and of the test of any and the sums over the numbers below a bound: what a counted loop needs
-- at each turn and at its end, and what the theorems need of a sum of which one term changed.
use Prim.Native.Nat.{ℕ, zero, suc, ◌+◌, ◌*◌, ◌<◌, ◌≤◌, min}
use mathlib.Core.Bool.{Bool, true, false, ◌||◌}
use mathlib.Core.Logic.{◌≢◌}
use mathlib.Core.Path.{◌≡◌, refl, ap, ap₂}
use native.Mathlib.Omega.{arith}
use native.Mathlib.Numerals.{add-one}
use native.Mathlib.Nat.{le_refl, suc-mul}
use native.Mathlib.Decide.{ℕ_discrete}
use borrow.Author.Tests.{eq-eqb, ne_eqb}
use lib.Dec.{eqb}
use lib.IntN.{ℤ, pos, nat_abs, ◌+ℤ◌}
use Rattle.figuring.proofs.SignedLaws.{abs_add}
use Rattle.book.specs.Below.{only, sum_below, sum_below_ℤ, count_below, one_if}

-- ---- an amount under a condition
pub only_most : (t : Bool) (n : ℕ) → only t n ≤ n
unfolding only
only_most true n = omega arith
only_most false n = omega arith

pub only_same : (y z n : ℕ) → y ≡ z → only (eqb y z) n ≡ n
unfolding only
only_same y z n e = rw (eq-eqb y z e)

pub only_other : (y z n : ℕ) → y ≢ z → only (eqb y z) n ≡ 0
unfolding only
only_other y z n e = rw (ne_eqb y z e)

pub only_never : (t : Bool) (n : ℕ) → (t ≡ true → ⊥) → only t n ≡ 0
unfolding only
only_never true n h = absurd (h refl)
only_never false n h = refl

-- an amount above q: the condition holds
pub only_some : (t : Bool) (n q : ℕ) → q < only t n → (t ≡ true) × (q < n)
unfolding only
only_some true n q h = (refl, h)
only_some false n q h = absurd (omega arith)

pub only_alike : (t : Bool) (x y : ℕ) → (t ≡ true → x ≡ y) → only t x ≡ only t y
unfolding only
only_alike true x y h = h refl
only_alike false x y h = refl

pub only_less : (t : Bool) (x q z : ℕ) → x + q ≡ z → only t x + only t q ≡ only t z
unfolding only
only_less true x q z e = e
only_less false x q z e = refl

pub only_falls : (t : Bool) (x y : ℕ) → (t ≡ true → x ≤ y) → only t x ≤ only t y
unfolding only
only_falls true x y h = h refl
only_falls false x y h = omega arith

pub only_first : (p q : Bool) (n : ℕ) → (p ≡ false → q ≡ true → n ≡ 0) → only (p || q) n ≤ only p n
unfolding only
only_first true q n h = omega arith
only_first false true n h = omega (arith, h refl refl)
only_first false false n h = omega arith

pub only_either : (p q : Bool) (n : ℕ) → only p n ≤ only (p || q) n
unfolding only
only_either true q n = omega arith
only_either false true n = omega arith
only_either false false n = omega arith

-- ---- sums
pub sum_more : (f : ℕ → ℕ) (n : ℕ) → sum_below (n + 1) f ≡ sum_below n f + f n
unfolding sum_below
sum_more f n = rw add-one

pub sum_rises : (f : ℕ → ℕ) (n i : ℕ) → i ≤ n → sum_below i f ≤ sum_below n f
unfolding sum_below
sum_rises f zero i h = let e : i ≡ 0 = omega arith in rw e (le_refl 0)
sum_rises f (suc n) i h = go (ℕ_discrete i (suc n)) (λ m. sum_rises f n i m)
  where
    go : Dec (i ≡ suc n) → (i ≤ n → sum_below i f ≤ sum_below n f) → sum_below i f ≤ sum_below n f + f n
    go (yes e) r = rw e (le_refl (sum_below n f + f n))
    go (no ne) r = omega (arith, r (omega (arith, ne)))

pub sum_at_lem : (f : ℕ → ℕ) (n i : ℕ) → i < n → f i ≤ sum_below n f
sum_at_lem f n i h = omega (arith, sum_more f i, sum_rises f n (i + 1) (omega arith))

pub sum_done : (f : ℕ → ℕ) (n i : ℕ) → i ≤ n → n ≤ i → sum_below i f ≡ sum_below n f
sum_done f n i l g = ap (λ (k : ℕ). sum_below k f) (omega arith)

-- ---- every one of them
pub sum_zero : (f : ℕ → ℕ) (n : ℕ) → ((i : ℕ) → i < n → f i ≡ 0) → sum_below n f ≡ 0
unfolding sum_below
sum_zero f zero h = refl
sum_zero f (suc n) h = omega (arith, sum_zero f n (λ i l. h i (omega arith)), h n (omega arith))

-- where each pair of terms of two sums has a 0, one of the sums is 0
pub either_zero :
    (f g : ℕ → ℕ) (n : ℕ) → ((i j : ℕ) → i < n → j < n → min (f i) (g j) ≡ 0)
    → min (sum_below n f) (sum_below n g) ≡ 0
either_zero f g n h = go (ℕ_discrete (sum_below n f) 0)
  where
    at_one : (j : ℕ) → j < n → sum_below n f ≢ 0 → Dec (g j ≡ 0) → g j ≡ 0
    at_one j hj e (yes z) = z
    at_one j hj e (no z) = absurd (e (sum_zero f n (λ i hi. omega (arith, h i j hi hj, z))))

    go : Dec (sum_below n f ≡ 0) → min (sum_below n f) (sum_below n g) ≡ 0
    go (yes z) = omega arith
    go (no e) = omega (arith, sum_zero g n (λ j hj. at_one j hj e (ℕ_discrete (g j) 0)))

-- ---- counts
pub count_more : (p : ℕ → Bool) (n : ℕ) → count_below (n + 1) p ≡ count_below n p + one_if (p n)
unfolding count_below
count_more p n = sum_more (λ i. one_if (p i)) n

pub one_if_small : (b : Bool) → one_if b ≤ 1
one_if_small true = omega arith
one_if_small false = omega arith

-- ---- sums of signed numbers
-- terms of size at most k add up to at most n * k
pub sum_ℤ_small : (f : ℕ → ℤ) (n k : ℕ) → ((i : ℕ) → i < n → nat_abs (f i) ≤ k) → nat_abs (sum_below_ℤ n f) ≤ n * k
unfolding sum_below_ℤ
sum_ℤ_small f zero k h = omega arith
sum_ℤ_small f (suc n) k h =
    omega (arith, abs_add (sum_below_ℤ n f) (f n), sum_ℤ_small f n k (λ i l. h i (omega arith)), h n (omega arith), suc-mul n k)

pub sum_ℤ_same : (f g : ℕ → ℤ) (n : ℕ) → ((i : ℕ) → i < n → g i ≡ f i) → sum_below_ℤ n g ≡ sum_below_ℤ n f
unfolding sum_below_ℤ
sum_ℤ_same f g zero e = refl
sum_ℤ_same f g (suc n) e = ap₂ ◌+ℤ◌ (sum_ℤ_same f g n (λ i l. e i (omega arith))) (e n (omega arith))

pub sum_ℤ_zero : (f : ℕ → ℤ) (n : ℕ) → ((i : ℕ) → i < n → f i ≡ pos 0) → sum_below_ℤ n f ≡ pos 0
unfolding sum_below_ℤ
sum_ℤ_zero f zero e = refl
sum_ℤ_zero f (suc n) e =
    let h : sum_below_ℤ n f ≡ pos 0 = sum_ℤ_zero f n (λ i l. e i (omega arith)) in
    let t : f n ≡ pos 0 = e n (omega arith) in
    rw (h, t)
