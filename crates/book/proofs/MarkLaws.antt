-- Setting a family's bit.
use Prim.Native.Nat.{ℕ, zero, suc, ◌+◌, ◌*◌, ◌-◌, ◌/◌, ◌%◌, ◌^◌, ◌≤◌, ◌<◌}
use mathlib.Core.Bool.{true, false, true≢false}
use mathlib.Core.Path.{◌≡◌, refl, sym, ◌∙◌, ap, ap₂}
use native.Mathlib.Omega.{arith}
use native.Mathlib.Nat.{one-mul, add-zero, pow-suc, div-eq_of_lt, mod-lt}
use native.Mathlib.Decide.{dec_lt, ℕ_discrete}
use borrow.Author.Tests.{eqb-false}
use lib.Dec.{eqb}
use lib.Bits.{bit_or, or_shr, or_mod, or_zero_r, or_block}
use lib.Pow.{pow_pos, pow-lt, pow-add, shl-shr, shr-shr, split}
use lib.Count.{ones, ones_cat, ones_step}
use Rattle.std.proofs.Math.Nat.{pow-le-pow_right}
use Rattle.book.specs.Ledger.{marked, with_mark, filed_in}

-- the digit at place g of a | b
or_digit : (a b g : ℕ) → bit_or a b / 2 ^ g % 2 ≡ bit_or (a / 2 ^ g % 2) (b / 2 ^ g % 2)
or_digit a b g = ap (λ (x : ℕ). x % 2) (or_shr a b g) ∙ or_mod (a / 2 ^ g) (b / 2 ^ g) 1

or_one : (x : ℕ) → x < 2 → bit_or x 1 ≡ 1
or_one zero h = refl
or_one (suc zero) h = refl
or_one (suc (suc x)) h = absurd (omega arith)

own_digit : (f : ℕ) → 2 ^ f / 2 ^ f % 2 ≡ 1
own_digit f = ap (λ (x : ℕ). x / 2 ^ f % 2) (sym (one-mul (2 ^ f))) ∙ ap (λ (x : ℕ). x % 2) (shl-shr 1 f)

-- 2 ^ f at a place above f, and below it
high_digit : (f d : ℕ) → 2 ^ f / 2 ^ (f + suc d) % 2 ≡ 0
high_digit f d = ap (λ (x : ℕ). x % 2) (div-eq_of_lt (pow-lt {i = f} {j = f + suc d} (omega arith)))

low_digit : (g d : ℕ) → 2 ^ (suc d + g) / 2 ^ g % 2 ≡ 0
low_digit g d =
    ap (λ (x : ℕ). x / 2 ^ g % 2) (pow-add 2 (suc d) g)
    ∙ ap (λ (x : ℕ). x % 2) (shl-shr (2 ^ suc d) g)
    ∙ ap (λ (x : ℕ). x % 2) (pow-suc 2 d)
    ∙ (omega arith)

other_digit : (f g : ℕ) → (g ≡ f → ⊥) → 2 ^ f / 2 ^ g % 2 ≡ 0
other_digit f g ne = go (dec_lt f g)
  where
    go : Dec (f < g) → 2 ^ f / 2 ^ g % 2 ≡ 0
    go (yes h) = let e : g ≡ f + suc (g - f - 1) = omega arith in rw e (high_digit f (g - f - 1))
    go (no h) = let e : f ≡ suc (f - g - 1) + g = omega arith in rw e (low_digit g (f - g - 1))

pub marked_same : (mark f : ℕ) → marked (with_mark mark f) f ≡ true
unfolding marked with_mark
marked_same mark f =
    ap (λ (x : ℕ). eqb x 1) (or_digit mark (2 ^ f) f ∙ ap (bit_or (mark / 2 ^ f % 2)) (own_digit f) ∙ or_one (mark / 2 ^ f % 2) (omega arith))

pub marked_other : (mark f g : ℕ) → (g ≡ f → ⊥) → marked (with_mark mark f) g ≡ marked mark g
unfolding marked with_mark
marked_other mark f g ne =
    ap (λ (x : ℕ). eqb x 1) (or_digit mark (2 ^ f) g ∙ ap (bit_or (mark / 2 ^ g % 2)) (other_digit f g ne) ∙ or_zero_r (mark / 2 ^ g % 2))

-- one family more
ones_even : (q : ℕ) → q % 2 ≡ 0 → ones (bit_or q 1) ≡ ones q + 1
ones_even q h =
    ones_step (bit_or q 1)
    ∙ ap₂ (λ (x y : ℕ). x + ones y) (or_mod q 1 1 ∙ ap (λ (x : ℕ). bit_or x 1) h) (or_shr q 1 1 ∙ or_zero_r (q / 2))
    ∙ (let e : ones q ≡ q % 2 + ones (q / 2) = ones_step q in omega arith)

pub count_more : (mark f : ℕ) → marked mark f ≡ false → filed_in (with_mark mark f) ≡ filed_in mark + 1
unfolding marked with_mark
count_more mark f h =
    let q = mark / 2 ^ f in
    let r = mark % 2 ^ f in
    let l : r < 2 ^ f = mod-lt mark (pow_pos f) in
    let ne = eqb-false (mark / 2 ^ f % 2) 1 h in
    let even : q % 2 ≡ 0 = omega (arith, ne) in
    let whole : mark ≡ q * 2 ^ f + r = sym (split mark f) in
    let bit : 2 ^ f ≡ 1 * 2 ^ f + 0 = sym (add-zero (1 * 2 ^ f) ∙ one-mul (2 ^ f)) in
    ap₂ (λ (x y : ℕ). ones (bit_or x y)) whole bit
    ∙ ap ones (or_block f q 1 r 0 l (pow_pos f) ∙ ap (λ (x : ℕ). bit_or q 1 * 2 ^ f + x) (or_zero_r r))
    ∙ ones_cat f (bit_or q 1) r l
    ∙ ap (λ (x : ℕ). x + ones r) (ones_even q even)
    ∙ (let e : ones mark ≡ ones q + ones r = ap ones whole ∙ ones_cat f q r l in omega arith)

-- ---- a mark is given by its digits
same_digit : (x y : ℕ) → x < 2 → y < 2 → eqb x 1 ≡ eqb y 1 → x ≡ y
same_digit zero zero h k e = refl
same_digit zero (suc zero) h k e = absurd (true≢false (sym e))
same_digit (suc zero) zero h k e = absurd (true≢false e)
same_digit (suc zero) (suc zero) h k e = refl
same_digit (suc (suc x)) y h k e = absurd (omega arith)
same_digit zero (suc (suc y)) h k e = absurd (omega arith)
same_digit (suc zero) (suc (suc y)) h k e = absurd (omega arith)

half_marked : (mark n : ℕ) → marked (mark / 2) n ≡ marked mark (1 + n)
unfolding marked
half_marked mark n = ap (λ (x : ℕ). eqb (x % 2) 1) (shr-shr mark 1 n)

same_below : (n x y : ℕ) → x ≤ n → y ≤ n → ((i : ℕ) → marked x i ≡ marked y i) → x ≡ y
unfolding marked
same_below zero x y h k e = omega arith
same_below (suc n) x y h k e =
    let halves =
    same_below n (x / 2) (y / 2) (omega arith) (omega arith) (λ i. half_marked x i ∙ e (1 + i) ∙ sym (half_marked y i))
    in
    let last : x / 1 % 2 ≡ y / 1 % 2 = same_digit (x / 1 % 2) (y / 1 % 2) (omega arith) (omega arith) (e 0) in
    omega arith

pub same_mark : (x y : ℕ) → ((i : ℕ) → marked x i ≡ marked y i) → x ≡ y
same_mark x y e = same_below (x + y) x y (omega arith) (omega arith) e

-- so a mark in which the family's bit is set already stays as it is
pub mark_kept : (mark f : ℕ) → marked mark f ≡ true → with_mark mark f ≡ mark
mark_kept mark f h = same_mark (with_mark mark f) mark (λ i. go i (ℕ_discrete i f))
  where
    go : (i : ℕ) → Dec (i ≡ f) → marked (with_mark mark f) i ≡ marked mark i
    go i (yes e) = rw e (marked_same mark f ∙ sym h)
    go i (no n) = marked_other mark f i n

-- a mark is below 2 ^ 64, so that no family from 64 on has a bit of it
pub none_above : (mark number : ℕ) → mark < 2 ^ 64 → 64 ≤ number → marked mark number ≡ false
unfolding marked
none_above mark number m n =
    let p : 2 ^ 64 ≤ 2 ^ number = pow-le-pow_right (omega arith) n in
    let z : mark / 2 ^ number ≡ 0 = div-eq_of_lt (omega (arith, p, m)) in
    rw z
