-- A number that is read is written as its numeral, and a numeral is read as its number.
use Prim.Native.Nat.{ℕ, zero, suc, ◌+◌, ◌-◌, ◌*◌, ◌/◌, ◌%◌, ◌^◌, ◌≤◌, ◌<◌}
use native.Mathlib.Nat.{add-zero, pow-suc, pow-le-pow_right, not-suc-le-zero}
use native.Mathlib.Omega.{arith}
use mathlib.Core.Bool.{Bool, true, false, not, cond, or-true, ◌&&◌, ◌||◌}
use mathlib.Core.Path.{◌≡◌, refl, sym, ap, ◌∙◌}
use mathlib.Core.List.{List, [], ◌∷◌, ◌++◌, append_assoc, append-nil}
use lib.Dec.{ltb, leb, eqb}
use lib.ListN.{length, get_or, drop, take-append-drop}
use borrow.Author.Tests.{lt-ltb, le-leb, lt-leb, ltb-true, ltb-false, leb-true, eqb-false, ne_eqb, not-true}
use Rattle.std.proofs.Common.{Option, Some, None}
use Rattle.std.proofs.lemmas.Option.{none-some, same_Some}
use Rattle.figuring.proofs.BoolLaws.{both}
use Rattle.text.specs.Numeral.{digit, leading, worth, value, proper, number, numeral, numeral_of}
use Rattle.text.proofs.DigitLaws.{digit_low, digit_high, is_digit, worth_bound, lead_take}
use Rattle.text.proofs.NumeralLaws.{numeral_small, numeral_more, numeral_short}

-- every byte of a list is a digit
abbrev pub Digits : List ℕ → Type 0
Digits [] = Unit {0}
Digits (c ∷ s) = (digit c ≡ true) × Digits s

pub lead_digits : (s : List ℕ) → Digits (leading s)
unfolding leading
lead_digits [] = tt
lead_digits (c ∷ s) = go (digit c) refl (lead_digits s)
  where
    go : (b : Bool) → digit c ≡ b → Digits (leading s) → Digits (cond b (c ∷ leading s) [])
    go true e ih = (e, ih)
    go false e ih = tt

worth_up : (v : ℕ) (s : List ℕ) → v ≤ worth v s
unfolding worth
worth_up v [] = omega arith
worth_up v (c ∷ s) = omega (arith, worth_up (v * 10 + (c - 48)) s)

pub worth_below : (v k : ℕ) (s : List ℕ) → v < 10 ^ k → Digits s → worth v s < 10 ^ (k + length s)
unfolding worth
worth_below v k [] h d = rw add-zero h
worth_below v k (c ∷ s) h d =
    let e : k + suc (length s) ≡ suc k + length s = omega arith in
    rw e
    (worth_below (v * 10 + (c - 48)) (suc k) s (worth_bound v (c - 48) k h (omega (arith, digit_high c d.0)))
    d.1)

-- digits after a number above zero
spelled : (v : ℕ) (s : List ℕ) → 0 < v → Digits s → worth v s < 2 ^ 64 → numeral (worth v s) ≡ numeral v ++ s
unfolding worth
spelled v [] h d l = sym (append-nil (numeral v))
spelled v (c ∷ s) h d l =
    let lo = digit_low c d.0 in
    let hi = digit_high c d.0 in
    let v' : ℕ = v * 10 + (c - 48) in
    let q : v' / 10 ≡ v = omega arith in
    let r : 48 + v' % 10 ≡ c = omega arith in
    let m : numeral v' ≡ numeral v ++ (c ∷ []) =
    numeral_more v' (omega arith) (omega (arith, worth_up v' s)) ∙ rw (q, r) in
    spelled v' s (omega arith) d.1 l ∙ ap (λ (x : List ℕ). x ++ s) m ∙ append_assoc (numeral v) (c ∷ []) s

either_right : (a b : Bool) → (a || b) ≡ true → a ≡ false → b ≡ true
either_right true b e f = let z : ◌≡◌ {A = ℕ} 1 0 = ap (λ (b : Bool). cond b 1 0) f in absurd (omega arith)
either_right false b e f = e

module _ (most : ℕ) (ds : List ℕ) (e : proper most ds ≡ true) where
  rest : (leb (length ds) most && (leb (length ds) 1 || not (eqb (get_or ds 0 0) 48))) ≡ true
  rest = (both (ltb 0 (length ds)) _ e).1

  pub proper_some : 0 < length ds
  proper_some = ltb-true 0 (length ds) (both (ltb 0 (length ds)) _ e).0

  pub proper_short : length ds ≤ most
  proper_short = leb-true (length ds) most (both (leb (length ds) most) _ rest).0

  pub proper_first : 1 < length ds → get_or ds 0 0 ≡ 48 → ⊥
  proper_first h =
      eqb-false (get_or ds 0 0) 48
      (not-true (eqb (get_or ds 0 0) 48)
      (either_right (leb (length ds) 1) _ (both (leb (length ds) most) _ rest).1 (lt-leb (length ds) 1 h)))

-- 1 to 18 digits with no leading zero are the numeral of what they are worth
pub canonical : (most : ℕ) (ds : List ℕ) → most ≤ 18 → Digits ds → proper most ds ≡ true → numeral (value ds) ≡ ds
unfolding value worth
canonical most [] m d e = absurd (not-suc-le-zero (proper_some most [] e))
canonical most (c ∷ []) m d e =
    let lo = digit_low c d.0 in
    let hi = digit_high c d.0 in
    let q : 0 * 10 + (c - 48) ≡ c - 48 = omega arith in
    let r : 48 + (c - 48) ≡ c = omega arith in
    rw q (numeral_small (c - 48) (omega arith) ∙ rw r)
canonical most (c ∷ x ∷ s) m d e =
    let lo = digit_low c d.0 in
    let hi = digit_high c d.0 in
    let q : 0 * 10 + (c - 48) ≡ c - 48 = omega arith in
    let r : 48 + (c - 48) ≡ c = omega arith in
    let n = proper_first most (c ∷ x ∷ s) e (omega arith) in
    let l = proper_short most (c ∷ x ∷ s) e in
    let top : worth (c - 48) (x ∷ s) < 2 ^ 64 =
    omega (
      arith,
      worth_below (c - 48) 1 (x ∷ s) (omega arith) d.1,
      pow-le-pow_right {n = 10} (omega arith) {i = 1 + length (x ∷ s)} {j = 18} (omega arith),
    ) in
    rw q (spelled (c - 48) (x ∷ s) (omega arith) d.1 top ∙ rw (numeral_small (c - 48) (omega arith), r))

pub small : (most : ℕ) (ds : List ℕ) → Digits ds → proper most ds ≡ true → value ds < 10 ^ most
unfolding value
small most ds d e =
    omega (
      arith,
      worth_below 0 0 ds (omega arith) d,
      pow-le-pow_right {n = 10} (omega arith) {i = 0 + length ds} {j = most} (omega (arith, proper_short most ds e)),
    )

-- a number that is read
pub read_is :
    (most : ℕ) (s : List ℕ) (v k : ℕ) → most ≤ 18 → number most s ≡ Some (v, k)
    → (s ≡ numeral v ++ drop k s) × (v < 10 ^ most)
unfolding number
read_is most s v k m e = go (proper most (leading s)) refl e
  where
    go :
        (b : Bool) → proper most (leading s) ≡ b
        → ◌≡◌ {A = Option (ℕ × ℕ)} (cond b (Some (value (leading s), length (leading s))) None) (Some (v, k))
        → (s ≡ numeral v ++ drop k s) × (v < 10 ^ most)
    go true p q =
        let w = same_Some _ _ q in
        let a : value (leading s) ≡ v = ap (λ (r : ℕ × ℕ). r.0) w in
        let b : length (leading s) ≡ k = ap (λ (r : ℕ × ℕ). r.1) w in
        let n : numeral v ≡ leading s = rw (← a) (canonical most (leading s) m (lead_digits s) p) in (
          rw (n, ← b) (sym (take-append-drop (length (leading s)) s)
              ∙ ap (λ (x : List ℕ). x ++ drop (length (leading s)) s) (lead_take s)),
          rw (← a)
              (small most (leading s) (lead_digits s) p),
        )
    go false p q = absurd (none-some _ q)

-- ---- the other way: a numeral is read as its number
abbrev pub stops : List ℕ → Bool
stops [] = true
stops (c ∷ s) = not (digit c)

digits_append : (a b : List ℕ) → Digits a → Digits b → Digits (a ++ b)
digits_append [] b p q = q
digits_append (x ∷ a) b p q = (p.0, digits_append a b p.1 q)

numeral_digits : (k n : ℕ) → Digits (numeral_of k n)
unfolding numeral_of
numeral_digits zero n = tt
numeral_digits (suc k) n = go (ltb n 10) refl (numeral_digits k (n / 10))
  where
    go :
        (b : Bool) → ltb n 10 ≡ b → Digits (numeral_of k (n / 10))
        → Digits (cond b ((48 + n) ∷ []) (numeral_of k (n / 10) ++ ((48 + n % 10) ∷ [])))
    go true e ih = let h = ltb-true n 10 e in (is_digit {c = 48 + n} (omega arith) (omega arith), tt)
    go false e ih =
        digits_append (numeral_of k (n / 10)) ((48 + n % 10) ∷ []) ih
        (is_digit {c = 48 + n % 10} (omega arith) (omega arith), tt)

lead_append : (a r : List ℕ) → Digits a → stops r ≡ true → leading (a ++ r) ≡ a
unfolding leading
lead_append [] [] d e = refl
lead_append [] (c ∷ r) d e = rw (not-true (digit c) e)
lead_append (x ∷ a) r d e = rw d.0 (ap (λ (l : List ℕ). x ∷ l) (lead_append a r d.1 e))

worth_snoc : (v : ℕ) (s : List ℕ) (c : ℕ) → worth v (s ++ (c ∷ [])) ≡ worth v s * 10 + (c - 48)
unfolding worth
worth_snoc v [] c = refl
worth_snoc v (x ∷ s) c = worth_snoc (v * 10 + (x - 48)) s c

worth_numeral : (k n : ℕ) → n < 10 ^ k → worth 0 (numeral_of k n) ≡ n
unfolding numeral_of worth
worth_numeral zero n h = omega arith
worth_numeral (suc k) n h = go (ltb n 10) (worth_numeral k (n / 10))
  where
    go :
        (b : Bool) → (n / 10 < 10 ^ k → worth 0 (numeral_of k (n / 10)) ≡ n / 10)
        → worth 0 (cond b ((48 + n) ∷ []) (numeral_of k (n / 10) ++ ((48 + n % 10) ∷ []))) ≡ n
    go true ih = omega arith
    go false ih =
        let q : n < 10 ^ k * 10 = rw pow-suc at h in
        let i = ih (omega arith) in
        worth_snoc 0 (numeral_of k (n / 10)) (48 + n % 10) ∙ rw i (omega arith)

-- the first digit of a number above zero
first_digit : (k n : ℕ) → 0 < n → n < 10 ^ k → (0 < length (numeral_of k n)) × (48 < get_or (numeral_of k n) 0 0)
unfolding numeral_of
first_digit zero n h l = absurd (omega arith)
first_digit (suc k) n h l = go (ltb n 10) refl (first_digit k (n / 10))
  where
    front : (a b : List ℕ) → 0 < length a → 48 < get_or a 0 0 → (0 < length (a ++ b)) × (48 < get_or (a ++ b) 0 0)
    front [] b p q = absurd (not-suc-le-zero p)
    front (x ∷ a) b p q = (omega arith, q)

    go :
        (b : Bool)
        → ltb n 10
        ≡ b → (0 < n / 10 → n / 10 < 10 ^ k → (0 < length (numeral_of k (n / 10)))
        × (48 < get_or (numeral_of k (n / 10)) 0 0)) →
        (0 < length (cond b ((48 + n) ∷ []) (numeral_of k (n / 10) ++ ((48 + n % 10) ∷ []))))
        × (48 < get_or (cond b ((48 + n) ∷ []) (numeral_of k (n / 10) ++ ((48 + n % 10) ∷ []))) 0 0)
    go true e ih = (omega arith, omega arith)
    go false e ih =
        let q : n < 10 ^ k * 10 = rw pow-suc at l in
        let i = ih (omega (arith, ltb-false n 10 e)) (omega arith) in
        front (numeral_of k (n / 10)) ((48 + n % 10) ∷ []) i.0 i.1

numeral_proper : (most n : ℕ) → 0 < most → most ≤ 18 → n < 10 ^ most → proper most (numeral n) ≡ true
unfolding numeral_of
numeral_proper most zero o m h = rw (le-leb 1 most o)
numeral_proper zero (suc n) o m h = absurd (omega arith)
numeral_proper (suc most) (suc n) o m h =
    let f =
    first_digit 20 (suc n) (omega arith)
    (omega (arith, pow-le-pow_right {n = 10} (omega arith) {i = suc most} {j = 18} m)) in
    rw (
      lt-ltb 0 (length (numeral (suc n))) f.0,
      le-leb (length (numeral (suc n))) (suc most) (numeral_short most 20 (suc n) h),
      ne_eqb (get_or (numeral (suc n)) 0 0) 48 (λ q. omega arith),
    ) (or-true (leb (length (numeral (suc n))) 1))

pub numeral_read :
    (most n : ℕ) (r : List ℕ) → 0 < most → most ≤ 18 → n < 10 ^ most
    → stops r ≡ true → number most (numeral n ++ r) ≡ Some (n, length (numeral n))
unfolding number value
numeral_read most n r o m h e =
    rw (
      lead_append (numeral n) r (numeral_digits 20 n) e,
      numeral_proper most n o m h,
      worth_numeral 20 n (omega (arith, pow-le-pow_right {n = 10} (omega arith) {i = most} {j = 18} m)),
    )
