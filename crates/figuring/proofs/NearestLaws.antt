-- The nearest Mg to a sum, in any unit of which half a Mg is a whole number of part units. Above zero it is what `nearest`
-- gives; a sum below zero is the mirror of one above. A unit ten times as fine, with a sum ten times as large, changes
-- nothing.
use Prim.Native.Nat.{ℕ, zero, suc, ◌+◌, ◌*◌, ◌-◌, ◌/◌, ◌%◌, ◌<◌, ◌≤◌}
use mathlib.Core.Bool.{Bool, true, false}
use mathlib.Core.Path.{◌≡◌, refl, sym, ◌∙◌, ap}
use native.Mathlib.Omega.{arith}
use native.Mathlib.Nat.{div-add-mod', mod-lt, mul-le-mul_right}
use borrow.Author.Tests.{ltb-true, ltb-false, eqb-true, eqb-false, lt-ltb, le-ltb}
use lib.Dec.{ltb, eqb}
use lib.IntN.{ℤ, pos, negsuc, nat_abs, neg_ℤ, ◌-ℤ◌, ◌*ℤ◌, neg_ℤ-neg_ℤ, neg_ℤ-+ℤ}
use Rattle.figuring.specs.FiveDecimals.{finer}
use Rattle.figuring.specs.Netting.{half_mg, nearest, distance, IsNearest}
use Rattle.figuring.proofs.SignedLaws.{abs_neg, abs_apart, neg_mul}

-- ---- `nearest`, by the rest beyond the whole Mg
module _ (unit n : ℕ) where
  pub below_half : n % unit < half_mg unit → nearest unit n ≡ n / unit
  unfolding nearest
  below_half h = rw (lt-ltb (n % unit) (half_mg unit) h)

  pub above_half : half_mg unit < n % unit → nearest unit n ≡ n / unit + 1
  unfolding nearest
  above_half h = rw (le-ltb (n % unit) (half_mg unit) (omega arith), lt-ltb (half_mg unit) (n % unit) h)

  module _ (h : n % unit ≡ half_mg unit) where
    pub half_even : n / unit % 2 ≡ 0 → nearest unit n ≡ n / unit
    unfolding nearest
    half_even e = rw (le-ltb (n % unit) (half_mg unit) (omega arith), le-ltb (half_mg unit) (n % unit) (omega arith), e)

    pub half_odd : n / unit % 2 ≡ 1 → nearest unit n ≡ n / unit + 1
    unfolding nearest
    half_odd e = rw (le-ltb (n % unit) (half_mg unit) (omega arith), le-ltb (half_mg unit) (n % unit) (omega arith), e)

-- half a Mg is a whole number of part units, above 0
pub record HasHalf (unit : ℕ) : Type 0 where
  pub above : 0 < unit
  pub whole : unit % 2 ≡ 0

distance_above : (unit n m : ℕ) → distance unit (pos n) (pos m) ≡ (n - m * unit) + (m * unit - n)
distance_above unit n m = abs_apart n (m * unit)

module _ (unit : ℕ) (u : HasHalf unit) where
  -- ---- above zero
  pub near : (n : ℕ) → IsNearest unit (pos n) (pos (nearest unit n))
  near n = go (ltb rest half) (ltb half rest) (eqb (whole % 2) 0) refl refl refl
    where
      half : ℕ
      half = half_mg unit

      whole : ℕ
      whole = n / unit

      rest : ℕ
      rest = n % unit

      parted : whole * unit + rest ≡ n
      parted = div-add-mod' n unit

      go :
          (under over even : Bool)
          → ltb rest half ≡ under → ltb half rest ≡ over → eqb (whole % 2) 0 ≡ even
          → IsNearest unit (pos n) (pos (nearest unit n))
      go true over even a b e =
          let h : rest < half = ltb-true rest half a in
          let d = distance_above unit n whole in
          rw (below_half unit n h)
          (record { within = omega (arith, d, parted); even = λ k. omega (arith, d, k, parted) })
      go false true even a b e =
          let h : half < rest = ltb-true half rest b in
          let d = distance_above unit n (whole + 1) in
          let l : rest < unit = mod-lt n u.above in
          rw (above_half unit n h)
          (record { within = omega (arith, d, parted, u); even = λ k. omega (arith, d, k, parted, u) })
      go false false true a b e =
          let h : rest ≡ half = omega (arith, ltb-false rest half a, ltb-false half rest b) in
          let f : whole % 2 ≡ 0 = eqb-true (whole % 2) 0 e in
          let d = distance_above unit n whole in
          rw (half_even unit n h f) (record { within = omega (arith, d, parted); even = λ k. f })
      go false false false a b e =
          let h : rest ≡ half = omega (arith, ltb-false rest half a, ltb-false half rest b) in
          let f : whole % 2 ≡ 1 = omega (arith, eqb-false (whole % 2) 0 e) in
          let d = distance_above unit n (whole + 1) in
          rw (half_odd unit n h f) (record { within = omega (arith, d, parted, u); even = λ k. omega (arith, f) })

  pub nearest_most : (n : ℕ) → nearest unit n * unit ≤ n + half_mg unit
  nearest_most n = omega (arith, distance_above unit n (nearest unit n), (near n).within)

  -- of two Mg the greater is not nearest as well: both would be exactly half a Mg away, next to one another, and even
  not_both : (n a b : ℕ) → a < b → IsNearest unit (pos n) (pos a) → IsNearest unit (pos n) (pos b) → ⊥
  not_both n a b l f g =
      let p = distance_above unit n a in
      let q = distance_above unit n b in
      let apart : (a + 1) * unit ≤ b * unit = mul-le-mul_right unit (omega arith) in
      let x : distance unit (pos n) (pos a) ≡ half_mg unit = omega (arith, p, q, f.within, g.within, apart, u) in
      let y : distance unit (pos n) (pos b) ≡ half_mg unit = omega (arith, p, q, f.within, g.within, apart, u) in
      let even-a : a % 2 ≡ 0 = f.even x in
      let even-b : b % 2 ≡ 0 = g.even y in
      let further : (a + 2) * unit ≤ b * unit = mul-le-mul_right unit (omega arith) in
      omega (arith, p, q, x, y, further, u)

  none_below : (n a : ℕ) → IsNearest unit (pos n) (negsuc a) → ⊥
  none_below n a f =
      let most : 1 * unit ≤ suc a * unit = mul-le-mul_right unit (omega arith) in
      omega (arith, far n (suc a * unit), f.within, most, u)
    where
      far : (a b : ℕ) → b ≤ nat_abs (pos a -ℤ neg_ℤ (pos b))
      far a zero = omega arith
      far a (suc b) = omega arith

  only_above : (n : ℕ) (m m' : ℤ) → IsNearest unit (pos n) m → IsNearest unit (pos n) m' → m ≡ m'
  only_above n (pos a) (pos b) f g = ap pos (go (ltb a b) (ltb b a) refl refl)
    where
      go : (less more : Bool) → ltb a b ≡ less → ltb b a ≡ more → a ≡ b
      go true more l k = absurd (not_both n a b (ltb-true a b l) f g)
      go false true l k = absurd (not_both n b a (ltb-true b a k) g f)
      go false false l k =
          let x : b ≤ a = ltb-false a b l in
          let y : a ≤ b = ltb-false b a k in
          omega arith
  only_above n (negsuc a) m' f g = absurd (none_below n a f)
  only_above n (pos a) (negsuc b) f g = absurd (none_below n b g)

  -- ---- below zero, the mirror
  mirror_distance : (z m : ℤ) → distance unit (neg_ℤ z) (neg_ℤ m) ≡ distance unit z m
  mirror_distance z m =
      ap (λ (x : ℤ). nat_abs (neg_ℤ z -ℤ x)) (neg_mul m unit)
      ∙ ap nat_abs (sym (neg_ℤ-+ℤ z (neg_ℤ (m *ℤ pos unit))))
      ∙ abs_neg (z -ℤ m *ℤ pos unit)

  pub mirror : (z m : ℤ) → IsNearest unit z m → IsNearest unit (neg_ℤ z) (neg_ℤ m)
  mirror z m f =
      record {
        within = rw (mirror_distance z m) f.within;
        even = λ h. abs_even (f.even (sym (mirror_distance z m) ∙ h));
      }
    where
      abs_even : nat_abs m % 2 ≡ 0 → nat_abs (neg_ℤ m) % 2 ≡ 0
      abs_even e = rw (abs_neg m) e

  -- ---- any sum
  pub only_one : (sum m m' : ℤ) → IsNearest unit sum m → IsNearest unit sum m' → m ≡ m'
  only_one (pos n) m m' f g = only_above n m m' f g
  only_one (negsuc n) m m' f g =
      sym (neg_ℤ-neg_ℤ m)
      ∙ ap neg_ℤ (only_above (suc n) (neg_ℤ m) (neg_ℤ m') (mirror (negsuc n) m f) (mirror (negsuc n) m' g))
      ∙ neg_ℤ-neg_ℤ m'

-- ---- ten times as many part units to one Mg
module _ (unit : ℕ) (u : HasHalf unit) where
  finer_half : HasHalf (unit * finer)
  finer_half = record { above = omega (arith, u); whole = omega (arith, u) }

  -- what is nearest is so in the finer unit, and there is only one
  pub nearest_finer : (n : ℕ) → nearest (unit * finer) (n * finer) ≡ nearest unit n
  nearest_finer n =
      ap nat_abs
      (only_one (unit * finer) finer_half (pos (n * finer)) (pos (nearest (unit * finer) (n * finer))) (pos (nearest unit n))
      (near (unit * finer) finer_half (n * finer)) scaled)
    where
      m : ℕ
      m = nearest unit n

      old : IsNearest unit (pos n) (pos m)
      old = near unit u n

      scaled : IsNearest (unit * finer) (pos (n * finer)) (pos m)
      scaled =
          let d = distance_above unit n m in
          let e = distance_above (unit * finer) (n * finer) m in
          record {
            within = omega (arith, d, e, old.within, u);
            even = λ h. old.even (omega (arith, d, e, h, u));
          }
