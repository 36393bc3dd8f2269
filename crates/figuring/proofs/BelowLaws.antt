-- Laws of the test of all the numbers below a bound: what a counted loop needs at each turn and at its end.
use Prim.Native.Nat.{ℕ, zero, suc, ◌+◌, ◌<◌, ◌≤◌}
use mathlib.Core.Bool.{Bool, true, false, ◌&&◌, and-true, and-false, and_assoc, false≢true}
use mathlib.Core.Logic.{⊎_elim, ◌⊎◌, inl, inr}
use mathlib.Core.List.{List, [], ◌∷◌}
use mathlib.Core.Path.{◌≡◌, refl, sym, ◌∙◌, ap}
use native.Mathlib.Omega.{arith}
use native.Mathlib.Numerals.{add-one}
use native.Mathlib.Decide.{ℕ_discrete}
use lib.ListN.{length, get_or}
use Rattle.std.specs.List.{list_all, zip}
use Rattle.figuring.specs.Below.{all_below}
use Rattle.figuring.proofs.BoolLaws.{and_intro}

-- ---- one more
pub all_more : (p : ℕ → Bool) (n : ℕ) → all_below n p ≡ true → p n ≡ true → all_below (n + 1) p ≡ true
unfolding all_below
all_more p n h k = rw (add-one, h, k)

-- ---- one that decides
pub below_suc : {i n : ℕ} → i < suc n → (i ≡ n) ⊎ (i < n)
below_suc {i} {n} h = go (ℕ_discrete i n)
  where
    go : Dec (i ≡ n) → (i ≡ n) ⊎ (i < n)
    go (yes e) = inl e
    go (no ne) = inr (omega (arith, ne))

pub all_fails : (p : ℕ → Bool) (n i : ℕ) → i < n → p i ≡ false → all_below n p ≡ false
unfolding all_below
all_fails p zero i l h = absurd (omega arith)
all_fails p (suc n) i l h =
    ⊎_elim (λ e. rw (← e, h) (and-false (all_below i p))) (λ m. rw (all_fails p n i m h)) (below_suc l)

-- ---- what a true test of all says at one
pub all_at : (p : ℕ → Bool) (n i : ℕ) → i < n → all_below n p ≡ true → p i ≡ true
all_at p n i l h = go (p i) refl
  where
    go : (b : Bool) → p i ≡ b → p i ≡ true
    go true e = e
    go false e = absurd (false≢true (sym (all_fails p n i l e) ∙ h))

-- ---- where a loop that counts i up to n ends
pub all_done : (p : ℕ → Bool) (n i : ℕ) {b : Bool} → i ≤ n → n ≤ i → all_below i p ≡ b → all_below n p ≡ b
all_done p n i l g h = ap (λ (k : ℕ). all_below k p) (omega arith) ∙ h

-- ---- two lists of n numbers held against each other pair by pair, as a `zip` holds them, are tested at each place below n
all_front : (p : ℕ → Bool) (n : ℕ) → all_below (suc n) p ≡ (p 0 && all_below n (λ i. p (suc i)))
unfolding all_below
all_front p zero = sym (and-true (p 0))
all_front p (suc n) = rw (all_front p n) (and_assoc (p 0) (all_below n (λ i. p (suc i))) (p (suc n)))

pub all_zipped :
    (p : ℕ → ℕ → Bool) (xs ys : List ℕ) (n : ℕ) → length xs ≡ n → length ys ≡ n
    → list_all (λ q. p q.0 q.1) (zip xs ys) ≡ all_below n (λ i. p (get_or xs i 0) (get_or ys i 0))
unfolding all_below
all_zipped p [] [] zero h k = refl
all_zipped p (x ∷ xs) (y ∷ ys) (suc n) h k =
    ap (λ b. p x y && b) (all_zipped p xs ys n (omega arith) (omega arith))
    ∙ sym (all_front (λ i. p (get_or (x ∷ xs) i 0) (get_or (y ∷ ys) i 0)) n)
all_zipped p [] ys (suc n) h k = absurd (omega arith)
all_zipped p (x ∷ xs) ys zero h k = absurd (omega arith)
all_zipped p [] (y ∷ ys) zero h k = absurd (omega arith)
all_zipped p (x ∷ xs) [] (suc n) h k = absurd (omega arith)

-- ---- every one of them
pub all_of : (p : ℕ → Bool) (n : ℕ) → ((i : ℕ) → i < n → p i ≡ true) → all_below n p ≡ true
unfolding all_below
all_of p zero h = refl
all_of p (suc n) h = and_intro (all_of p n (λ i l. h i (omega arith))) (h n (omega arith))
