-- Laws of leading digits and of what digits are worth.
use Prim.Native.Nat.{ℕ, zero, suc, ◌+◌, ◌-◌, ◌*◌, ◌^◌, ◌≤◌, ◌<◌}
use native.Mathlib.Nat.{le_of_suc-le-suc, not-suc-le-zero, pow-suc, pow-le-pow_right}
use native.Mathlib.Numerals.{add-one}
use native.Mathlib.Omega.{arith}
use mathlib.Core.Bool.{Bool, true, false, cond}
use mathlib.Core.Path.{◌≡◌, refl, sym, ap, ◌∙◌}
use mathlib.Core.List.{List, [], ◌∷◌}
use lib.Dec.{leb}
use lib.ListN.{length, get_or, take}
use lib.Seq.{get_or-take, take-suc}
use borrow.Author.Tests.{le-leb, lt-leb, leb-true, lt-ltb, eq-eqb, ne_eqb}
use Rattle.text.specs.Numeral.{digit, leading, worth, value, number}
use Rattle.figuring.proofs.BoolLaws.{both}
use Rattle.std.proofs.Common.{Some, None}
use Rattle.std.specs.Char.{is_ascii_digit}
use Rattle.std.specs.List.{take_while}
use Rattle.std.proofs.lemmas.List.Sums.{take_while-cons, fold-append}

pub is_digit : {c : ℕ} → 48 ≤ c → c ≤ 57 → digit c ≡ true
is_digit {c} a b = rw (le-leb 48 c a, le-leb c 57 b)

pub digit_low : (c : ℕ) → digit c ≡ true → 48 ≤ c
digit_low c e = leb-true 48 c (both (leb 48 c) (leb c 57) e).0

pub digit_high : (c : ℕ) → digit c ≡ true → c ≤ 57
digit_high c e = leb-true c 57 (both (leb 48 c) (leb c 57) e).1

-- std's word for them
pub lead_while : (s : List ℕ) → leading s ≡ take_while is_ascii_digit s
unfolding leading
lead_while [] = refl
lead_while (c ∷ s) = rw (lead_while s, take_while-cons is_ascii_digit c s)

pub lead_length : (s : List ℕ) → length (leading s) ≤ length s
unfolding leading
lead_length [] = omega arith
lead_length (c ∷ s) = go (digit c) (lead_length s)
  where
    go : (b : Bool) → length (leading s) ≤ length s → length (cond b (c ∷ leading s) []) ≤ suc (length s)
    go true ih = omega arith
    go false ih = omega arith

pub lead_digit : (s : List ℕ) (j : ℕ) → j < length (leading s) → digit (get_or s j 0) ≡ true
unfolding leading
lead_digit [] j h = absurd (not-suc-le-zero h)
lead_digit (c ∷ s) zero h = go (digit c) h
  where
    go : (b : Bool) → 0 < length (cond b (c ∷ leading s) []) → b ≡ true
    go true k = refl
    go false k = absurd (not-suc-le-zero k)
lead_digit (c ∷ s) (suc j) h = go (digit c) (lead_digit s j) h
  where
    go :
        (b : Bool) → (j < length (leading s) → digit (get_or s j 0) ≡ true) → suc j < length (cond b (c ∷ leading s) [])
        → digit (get_or s j 0) ≡ true
    go true ih k = ih (le_of_suc-le-suc k)
    go false ih k = absurd (not-suc-le-zero k)

-- in a text of digits alone each byte is one
pub all_digits : {s : List ℕ} (i : ℕ) → leading s ≡ s → i < length s → (48 ≤ get_or s i 0) × (get_or s i 0 ≤ 57)
all_digits {s} i e h =
    let d : digit (get_or s i 0) ≡ true = lead_digit s i (rw e h) in
    (digit_low (get_or s i 0) d, digit_high (get_or s i 0) d)

pub worth_bound : (v d k : ℕ) → v < 10 ^ k → d ≤ 9 → v * 10 + d < 10 ^ suc k
worth_bound v d k h l = rw pow-suc (omega arith)

pub lead_take : (s : List ℕ) → take (length (leading s)) s ≡ leading s
unfolding leading
lead_take [] = refl
lead_take (c ∷ s) = go (digit c) (lead_take s)
  where
    go :
        (b : Bool) → take (length (leading s)) s ≡ leading s
        → take (length (cond b (c ∷ leading s) [])) (c ∷ s) ≡ cond b (c ∷ leading s) []
    go true ih = ap (λ (l : List ℕ). c ∷ l) ih
    go false ih = refl

pub lead_again : (s : List ℕ) → leading (leading s) ≡ leading s
unfolding leading
lead_again [] = refl
lead_again (c ∷ s) = go (digit c) refl (lead_again s)
  where
    go :
        (b : Bool) → digit c ≡ b → leading (leading s) ≡ leading s
        → leading (cond b (c ∷ leading s) []) ≡ cond b (c ∷ leading s) []
    go true e ih = rw (e, ih)
    go false e ih = refl

pub lead_get : (s : List ℕ) (j : ℕ) → j < length (leading s) → get_or (leading s) j 0 ≡ get_or s j 0
lead_get s j h = ap (λ (l : List ℕ). get_or l j 0) (sym (lead_take s)) ∙ get_or-take (length (leading s)) s j 0 h

-- ---- a loop over digits
-- v is what the first i of them are worth
pub record Worth (s : List ℕ) (v i : ℕ) : Type 0 where
  pub value_is : v ≡ value (take i s)
  pub below : v < 10 ^ i

pub nothing_yet : (s : List ℕ) → Worth s 0 0
unfolding value worth
nothing_yet s = record { value_is = refl; below = omega arith }

-- so many are worth less than 10 ^ 18
pub fits_18 : (k : ℕ) → k ≤ 18 → 10 ^ k ≤ 1000000000000000000
fits_18 k h = pow-le-pow_right (omega arith) h

pub one_more :
    {s : List ℕ} {v i : ℕ} → leading s ≡ s → i < length s → Worth s v i
    → Worth s (v * 10 + (get_or s i 0 - 48)) (i + 1)
unfolding value worth
one_more {s} {v} {i} e h w =
    let d = all_digits i e h in
    record {
      value_is = rw (add-one i, take-suc s i 0 h, fold-append, w.value_is) refl;
      below = rw (add-one i) (worth_bound v (get_or s i 0 - 48) i w.below (omega (arith, d.1)));
    }

module _ (most : ℕ) (s : List ℕ) where
  pub none_short : length (leading s) ≡ 0 → number most s ≡ None
  unfolding number
  none_short h = rw h

  pub none_long : most < length (leading s) → number most s ≡ None
  unfolding number
  none_long h = rw (lt-ltb 0 (length (leading s)) (omega arith), lt-leb (length (leading s)) most h)

  module _ (k : length (leading s) ≤ most) where
    pub none_zero : 1 < length (leading s) → get_or s 0 0 ≡ 48 → number most s ≡ None
    unfolding number
    none_zero h e =
        rw (
          lt-ltb 0 (length (leading s)) (omega arith),
          le-leb (length (leading s)) most k,
          lt-leb (length (leading s)) 1 h,
          eq-eqb _ 48 (lead_get s 0 (omega arith) ∙ e),
        )

    pub one_digit : length (leading s) ≡ 1 → number most s ≡ Some (value (leading s), 1)
    unfolding number
    one_digit h = rw (le-leb (length (leading s)) most k, h)

    pub more_digits :
        1 < length (leading s) → (get_or s 0 0 ≡ 48 → ⊥)
        → number most s ≡ Some (value (leading s), length (leading s))
    unfolding number
    more_digits h e =
        rw (
          lt-ltb 0 (length (leading s)) (omega arith),
          le-leb (length (leading s)) most k,
          lt-leb (length (leading s)) 1 h,
          ne_eqb _ 48 (λ q. e (sym (lead_get s 0 (omega arith)) ∙ q)),
        )

-- what the reader of a number needs
pub ruleset reads_number = (none_short, none_long, none_zero, one_digit, more_digits, lead_length, lead_take, lead_again)
