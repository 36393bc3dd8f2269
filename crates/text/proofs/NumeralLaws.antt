-- Laws of a number's digits.
use Prim.Native.Nat.{ℕ, zero, suc, ◌+◌, ◌*◌, ◌/◌, ◌%◌, ◌^◌, ◌≤◌, ◌<◌}
use native.Mathlib.Nat.{pow-suc}
use native.Mathlib.Omega.{arith}
use mathlib.Core.Bool.{Bool, true, false, cond}
use mathlib.Core.Path.{◌≡◌, refl, ap}
use mathlib.Core.List.{List, [], ◌∷◌, ◌++◌}
use lib.Dec.{ltb}
use lib.ListN.{length, length-append}
use borrow.Author.Tests.{lt-ltb, le-ltb}
use Rattle.text.specs.Numeral.{numeral_of, numeral}

-- one place more changes nothing, where the number has no more digits
fuel : (k n : ℕ) → n < 10 ^ suc k → numeral_of (suc k) n ≡ numeral_of (suc (suc k)) n
unfolding numeral_of
fuel zero n h = rw (lt-ltb n 10 h)
fuel (suc k) n h = go (ltb n 10) refl (fuel k (n / 10))
  where
    go :
        (b : Bool)
        → ltb n 10 ≡ b → (n / 10 < 10 ^ suc k → numeral_of (suc k) (n / 10) ≡ numeral_of (suc (suc k)) (n / 10)) →
        cond b ((48 + n) ∷ []) (numeral_of (suc k) (n / 10) ++ ((48 + n % 10) ∷ []))
        ≡ cond b ((48 + n) ∷ []) (numeral_of (suc (suc k)) (n / 10) ++ ((48 + n % 10) ∷ []))
    go true e ih = refl
    go false e ih =
        ap (λ (l : List ℕ). l ++ ((48 + n % 10) ∷ []))
        (ih (let q : n < 10 ^ suc k * 10 = rw pow-suc at h in omega arith))

pub numeral_small : (n : ℕ) → n < 10 → numeral n ≡ (48 + n) ∷ []
unfolding numeral_of
numeral_small n h = rw (lt-ltb n 10 h)

pub numeral_more : (n : ℕ) → 10 ≤ n → n < 2 ^ 64 → numeral n ≡ numeral (n / 10) ++ ((48 + n % 10) ∷ [])
unfolding numeral_of
numeral_more n h l =
    rw (le-ltb n 10 h) (ap (λ (l : List ℕ). l ++ ((48 + n % 10) ∷ [])) (fuel 18 (n / 10) (omega arith)))

pub more_length : (n : ℕ) → 10 ≤ n → n < 2 ^ 64 → length (numeral n) ≡ length (numeral (n / 10)) + 1
more_length n h l = rw (numeral_more n h l) (length-append (numeral (n / 10)) ((48 + n % 10) ∷ []))

-- a number below 10 ^ (m + 1) has at most m + 1 digits
pub numeral_short : (m k n : ℕ) → n < 10 ^ suc m → length (numeral_of k n) ≤ suc m
unfolding numeral_of
numeral_short m zero n h = omega arith
numeral_short zero (suc k) n h = rw (lt-ltb n 10 h) (omega arith)
numeral_short (suc m) (suc k) n h = go (ltb n 10) (numeral_short m k (n / 10))
  where
    go :
        (b : Bool) → (n / 10 < 10 ^ suc m → length (numeral_of k (n / 10)) ≤ suc m)
        → length (cond b ((48 + n) ∷ []) (numeral_of k (n / 10) ++ ((48 + n % 10) ∷ []))) ≤ suc (suc m)
    go true ih = omega arith
    go false ih = let q : n < 10 ^ suc m * 10 = rw pow-suc at h in rw length-append (omega (arith, ih (omega arith)))
