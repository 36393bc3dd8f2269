-- Laws of sums whose terms fell or of which one changed, and with them of the total of a set and vintage over the makers.
use Prim.Native.Nat.{ℕ, zero, suc, ◌+◌, ◌*◌, ◌≤◌, ◌<◌}
use mathlib.Core.List.{List}
use mathlib.Core.Logic.{◌≢◌}
use mathlib.Core.Path.{◌≡◌, refl, sym, ap}
use native.Mathlib.Omega.{arith}
use native.Mathlib.Nat.{suc-mul}
use native.Mathlib.Decide.{ℕ_discrete}
use borrow.Author.Tests.{eq-eqb, ne_eqb}
use lib.ListN.{length}
use Rattle.figuring.specs.Years.{first_year}
use Rattle.book.specs.Sizes.{makers, sets, years, places}
use Rattle.book.specs.Below.{only, sum_below}
use Rattle.book.specs.Ledger.{Key, key, In, figure_at, lower, raise}
use Rattle.book.specs.Accounts.{same_key}
use Rattle.book.proofs.LedgerLaws.{at_lower, at_raise, other_year}

-- ---- sums
pub sum_small : (f : ℕ → ℕ) (n k : ℕ) → ((i : ℕ) → i < n → f i ≤ k) → sum_below n f ≤ n * k
unfolding sum_below
sum_small f zero k h = omega arith
sum_small f (suc n) k h = omega (arith, sum_small f n k (λ i l. h i (omega arith)), h n (omega arith), suc-mul n k)

pub sum_falls : (f g : ℕ → ℕ) (n : ℕ) → ((i : ℕ) → i < n → g i ≤ f i) → sum_below n g ≤ sum_below n f
unfolding sum_below
sum_falls f g zero h = omega arith
sum_falls f g (suc n) h = omega (arith, sum_falls f g n (λ i l. h i (omega arith)), h n (omega arith))

pub sum_same : (f g : ℕ → ℕ) (n : ℕ) → ((i : ℕ) → i < n → g i ≡ f i) → sum_below n g ≡ sum_below n f
unfolding sum_below
sum_same f g zero h = refl
sum_same f g (suc n) h = omega (arith, sum_same f g n (λ i l. h i (omega arith)), h n (omega arith))

-- what a sum comes to after one of its terms changed
pub sum_change :
    (f g : ℕ → ℕ) (n j : ℕ) → j < n → ((i : ℕ) → i < n → i ≢ j → g i ≡ f i)
    → sum_below n g + f j ≡ sum_below n f + g j
unfolding sum_below
sum_change f g zero j h e = absurd (omega arith)
sum_change f g (suc n) j h e = go (ℕ_discrete n j) (λ l. sum_change f g n j l (λ i m. e i (omega arith)))
  where
    go :
        Dec (n ≡ j) → (j < n → sum_below n g + f j ≡ sum_below n f + g j)
        → sum_below n g + g n + f j ≡ sum_below n f + f n + g j
    go (yes p) ih = omega (arith, sum_same f g n (λ i l. e i (omega arith) (omega arith)), ap f p, ap g p)
    go (no p) ih = omega (arith, ih (omega arith), e n (omega arith) p)

-- ---- the total of a set and vintage
-- the lots of all makers, i years after the first
abbrev pub total_of : List ℕ → ℕ → ℕ → ℕ
total_of l s i = sum_below makers (λ m. figure_at l (key m s (first_year + i)))

-- what is moved at a lot of another maker, and at one of another year
other_maker : (k : Key) (m s y n : ℕ) → m ≢ k.maker → only (same_key k (key m s y)) n ≡ 0
unfolding same_key only
other_maker k m s y n h = rw (ne_eqb k.maker m (λ e. h (sym e)))

pub other_vintage : (k j : Key) (n : ℕ) → k.year ≢ j.year → only (same_key k j) n ≡ 0
unfolding only
other_vintage k j n h = rw (other_year k j h)

module _ (l : List ℕ) (k : Key) (n s i : ℕ) (size : length l ≡ places) (ik : In k) (hs : s < sets) (hi : i < years) where
  pub total_lower :
      n ≤ figure_at l k → total_of (lower l k n) s i + only (same_key k (key k.maker s (first_year + i))) n ≡ total_of l s i
  total_lower b =
      let y = first_year + i in
      let t = sum_change (λ m. figure_at l (key m s y)) (λ m. figure_at (lower l k n) (key m s y)) makers k.maker ik.maker
      (λ m hm h. omega (arith, at_lower l k (key m s y) n size ik (omega arith) b, other_maker k m s y n h)) in
      omega (arith, at_lower l k (key k.maker s y) n size ik (omega arith) b)

  pub total_raise :
      total_of (raise l k n) s i ≡ total_of l s i + only (same_key k (key k.maker s (first_year + i))) n
  total_raise =
      let y = first_year + i in
      let t = sum_change (λ m. figure_at l (key m s y)) (λ m. figure_at (raise l k n) (key m s y)) makers k.maker ik.maker
      (λ m hm h. omega (arith, at_raise l k (key m s y) n size ik (omega arith), other_maker k m s y n h)) in
      omega (arith, at_raise l k (key k.maker s y) n size ik (omega arith))

-- whether two lots of one maker are the same lot does not depend on the maker
pub any_maker : (m n s t v y : ℕ) → same_key (key m s v) (key m t y) ≡ same_key (key n s v) (key n t y)
unfolding same_key
any_maker m n s t v y = rw (eq-eqb m m refl, eq-eqb n n refl)
