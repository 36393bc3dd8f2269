-- Laws of lists one after the other.
use Prim.Native.Nat.{ℕ, zero, suc, ◌+◌, ◌≤◌, ◌<◌}
use native.Mathlib.Omega.{arith}
use native.Mathlib.Decide.{dec_lt}
use mathlib.Core.Path.{◌≡◌, refl, ap₂, subst, ◌∙◌}
use mathlib.Core.List.{List, [], ◌++◌, append_assoc, append-nil}
use Rattle.book.specs.Orders.{Among}
use Rattle.book.proofs.AmongLaws.{in_left, in_right}
use Rattle.text.specs.Gather.{gather}

module _ {A : Type 0} where
  pub gather_same : (f g : ℕ → List A) (n : ℕ) → ((i : ℕ) → i < n → f i ≡ g i) → gather n f ≡ gather n g
  unfolding gather
  gather_same f g zero h = refl
  gather_same f g (suc n) h = rw (gather_same f g n (λ i l. h i (omega arith)), h n (omega arith))

  -- from k on there is nothing
  pub gather_rest : (f : ℕ → List A) (k d : ℕ) → ((i : ℕ) → k ≤ i → f i ≡ []) → gather (d + k) f ≡ gather k f
  unfolding gather
  gather_rest f k zero h = let e : zero + k ≡ k = omega arith in rw e
  gather_rest f k (suc d) h =
      let e : suc d + k ≡ suc (d + k) = omega arith in
      rw (e, h (d + k) (omega arith), append-nil) (gather_rest f k d h)

  -- some, and the rest after them
  pub gather_append : (f : ℕ → List A) (n m : ℕ) → gather (n + m) f ≡ gather n f ++ gather m (λ i. f (n + i))
  unfolding gather
  gather_append f n zero = let e : n + zero ≡ n = omega arith in rw (e, append-nil)
  gather_append f n (suc m) =
      let e : n + suc m ≡ suc (n + m) = omega arith in
      rw (e, gather_append f n m) (append_assoc (gather n f) (gather m (λ i. f (n + i))) (f (n + m)))

  -- what is among one of them is among all
  pub in_gather : {x : A} (n : ℕ) (f : ℕ → List A) (i : ℕ) → i < n → Among x (f i) → Among x (gather n f)
  unfolding gather
  in_gather zero f i h m = absurd (omega arith)
  in_gather {x} (suc n) f i h m = go (dec_lt i n) (λ l. in_gather n f i l m)
    where
      go : Dec (i < n) → (i < n → Among x (gather n f)) → Among x (gather n f ++ f n)
      go (yes l) ih = in_left (f n) (ih l)
      go (no l) ih = let e : i ≡ n = omega arith in in_right (gather n f) (subst (λ (j : ℕ). Among x (f j)) e m)

-- a text made of each of them, piece by piece, is the text made of all
pub gather_through :
    {A B : Type 0} (p : List A → List B) → p [] ≡ [] → ((xs ys : List A) → p (xs ++ ys) ≡ p xs ++ p ys)
    → (n : ℕ) (f : ℕ → List A) (g : ℕ → List B) → ((i : ℕ) → i < n → p (f i) ≡ g i) → p (gather n f) ≡ gather n g
unfolding gather
gather_through p e a zero f g h = e
gather_through p e a (suc n) f g h =
    a (gather n f) (f n) ∙ ap₂ ◌++◌ (gather_through p e a n f g (λ i l. h i (omega arith))) (h n (omega arith))
