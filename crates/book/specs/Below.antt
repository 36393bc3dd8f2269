-- An amount under a condition; a test and sums over the numbers below a bound.
use Rattle.std.specs.Prelude.{ℕ, zero, suc, ◌+◌, Bool, true, false, ◌||◌, ℤ, pos, ◌+ℤ◌}

-- an amount under a condition, else nothing
unfoldable pub only : Bool → ℕ → ℕ
only true n = n
only false n = 0

-- p 0 or p 1 or .. or p (n - 1)
unfoldable pub any_below : ℕ → (ℕ → Bool) → Bool
any_below zero p = false
any_below (suc n) p = any_below n p || p n

-- f 0 + f 1 + .. + f (n - 1)
unfoldable pub sum_below : ℕ → (ℕ → ℕ) → ℕ
sum_below zero f = 0
sum_below (suc n) f = sum_below n f + f n

-- the same of signed numbers
unfoldable pub sum_below_ℤ : ℕ → (ℕ → ℤ) → ℤ
sum_below_ℤ zero f = pos 0
sum_below_ℤ (suc n) f = sum_below_ℤ n f +ℤ f n

abbrev pub one_if : Bool → ℕ
one_if true = 1
one_if false = 0

-- how many numbers below n have p
unfoldable pub count_below : ℕ → (ℕ → Bool) → ℕ
count_below n p = sum_below n (λ i. one_if (p i))
