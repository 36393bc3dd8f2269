-- Laws of the rule alone: what stands after a list of turns. Figures only fall; a turn leaves its lot or its shortage at 0;
-- and a lot is touched only where every older one that is asked first is at 0.
use Prim.Native.Nat.{ℕ, zero, suc, ◌+◌, ◌-◌, ◌≤◌, ◌<◌, min}
use mathlib.Core.List.{List, [], ◌∷◌, ◌++◌, map}
use mathlib.Core.Logic.{◌≢◌}
use mathlib.Core.Path.{◌≡◌, refl, ap}
use native.Mathlib.Omega.{arith}
use native.Mathlib.Decide.{ℕ_discrete}
use lib.Dec.{eqb}
use Rattle.book.specs.Below.{only}
use Rattle.book.specs.Coverage.{Standing, Turn, amount, after, rising, turn, turns}
use Rattle.book.proofs.BelowLaws.{only_most, only_same, only_other}

-- a turn with nothing to pay leaves all as it was
pub still : (h : Standing) (t : Turn) → amount h t ≡ 0 → after h t ≡ h
unfolding after
still h t e = λ i. record { lots = λ z. lots z i; shorts = λ z. shorts z i }
  where
    lots : (z : ℕ) → h.lots z - only (eqb t.vintage z) (amount h t) ≡ h.lots z
    lots z = omega (arith, only_most (eqb t.vintage z) (amount h t))

    shorts : (z : ℕ) → h.shorts z - only (eqb t.year z) (amount h t) ≡ h.shorts z
    shorts z = omega (arith, only_most (eqb t.year z) (amount h t))

-- ---- what stands after a list of turns
unfoldable pub left_after : Standing → List Turn → Standing
left_after h [] = h
left_after h (t ∷ ts) = left_after (after h t) ts

left_append : (xs ys : List Turn) (h : Standing) → left_after h (xs ++ ys) ≡ left_after (left_after h xs) ys
unfolding left_after
left_append [] ys h = refl
left_append (x ∷ xs) ys h = left_append xs ys (after h x)

pub lots_fall : (ts : List Turn) (h : Standing) (z : ℕ) → (left_after h ts).lots z ≤ h.lots z
unfolding left_after after
lots_fall [] h z = omega arith
lots_fall (t ∷ ts) h z = omega (arith, lots_fall ts (after h t) z)

shorts_fall : (ts : List Turn) (h : Standing) (z : ℕ) → (left_after h ts).shorts z ≤ h.shorts z
unfolding left_after after
shorts_fall [] h z = omega arith
shorts_fall (t ∷ ts) h z = omega (arith, shorts_fall ts (after h t) z)

-- ---- one shortage, paid from each lot in turn
abbrev row : ℕ → ℕ → ℕ → List Turn
row y a n = map (turn y) (rising a n)

-- a shortage at 0 asks for nothing
idle : (y : ℕ) (vs : List ℕ) (h : Standing) (z : ℕ) → h.shorts y ≡ 0 → (left_after h (map (turn y) vs)).lots z ≡ h.lots z
unfolding left_after after
idle y [] h z e = refl
idle y (v ∷ vs) h z e =
    omega (arith, idle y vs (after h (turn y v)) z (omega arith), only_most (eqb v z) (amount h (turn y v)))

-- the lot asked, or the shortage, is at 0 after its turn
pub used_here :
    (h : Standing) (y a v : ℕ) → a ≡ v → min ((after h (turn y a)).lots v) ((after h (turn y a)).shorts y) ≡ 0
unfolding after
used_here h y a v e =
    let q = amount h (turn y a) in omega (arith, only_same a v q e, only_same y y q refl, ap h.lots e)

used_row :
    (n y a v : ℕ) (h : Standing) → a ≤ v → v < a + n
    → min ((left_after h (row y a n)).lots v) ((left_after h (row y a n)).shorts y) ≡ 0
unfolding left_after rising
used_row zero y a v h l u = absurd (omega arith)
used_row (suc n) y a v h l u = go (ℕ_discrete a v) (λ m. used_row n y (a + 1) v (after h (turn y a)) m (omega arith))
  where
    g : Standing
    g = after h (turn y a)

    go :
        Dec (a ≡ v)
        → (a + 1 ≤ v → min ((left_after g (row y (a + 1) n)).lots v) ((left_after g (row y (a + 1) n)).shorts y) ≡ 0)
        → min ((left_after g (row y (a + 1) n)).lots v) ((left_after g (row y (a + 1) n)).shorts y) ≡ 0
    go (yes e) r =
        omega (
          arith,
          used_here h y a v e,
          lots_fall (row y (a + 1) n) g v,
          shorts_fall (row y (a + 1) n) g y,
        )
    go (no e) r = r (omega arith)

-- Of two lots the younger has p, its figure at the start, as long as the older has anything: `Kept h u w p`.
abbrev Kept : Standing → ℕ → ℕ → ℕ → Type 0
Kept h u w p = min (h.lots u) (p - h.lots w) ≡ 0

-- a turn of another lot leaves a lot as it was
other_lot : (h : Standing) (y a z : ℕ) → a ≢ z → (after h (turn y a)).lots z ≡ h.lots z
unfolding after
other_lot h y a z e = omega (arith, only_other a z (amount h (turn y a)) e)

kept_row :
    (n y a u w p : ℕ) (h : Standing) → a ≤ u → u < a + n → u < w → Kept h u w p → Kept (left_after h (row y a n)) u w p
unfolding left_after rising
kept_row zero y a u w p h l m o k = absurd (omega arith)
kept_row (suc n) y a u w p h l m o k =
    go (ℕ_discrete a u) (λ r. kept_row n y (a + 1) u w p (after h (turn y a)) r (omega arith) o)
  where
    g : Standing
    g = after h (turn y a)

    same : g.lots w ≡ h.lots w
    same = other_lot h y a w (omega arith)

    -- the older lot was asked: it is at 0, or the shortage is
    asked : a ≡ u → Dec (g.shorts y ≡ 0) → Kept (left_after g (row y (a + 1) n)) u w p
    asked e (yes z) =
        omega (
          arith,
          k,
          same,
          idle y (rising (a + 1) n) g w z,
          idle y (rising (a + 1) n) g u z,
          lots_fall (turn y a ∷ []) h u,
        )
    asked e (no z) = omega (arith, used_here h y a u e, lots_fall (row y (a + 1) n) g u)

    go : Dec (a ≡ u) → (a + 1 ≤ u → Kept g u w p → Kept (left_after g (row y (a + 1) n)) u w p) → Kept (left_after g (row y (a + 1) n)) u w p
    go (yes e) r = asked e (ℕ_discrete (g.shorts y) 0)
    go (no e) r = r (omega arith) (omega (arith, k, same, other_lot h y a u e))

-- ---- all of them
module _ (a n : ℕ) where
  pub used :
      (k c y v : ℕ) (h : Standing) → c ≤ y → y < c + k → a ≤ v → v < a + n
      → min ((left_after h (turns (rising c k) (rising a n))).lots v) ((left_after h (turns (rising c k) (rising a n))).shorts y) ≡ 0
  unfolding rising turns
  used zero c y v h l u m o = absurd (omega arith)
  used (suc k) c y v h l u m o =
      rw left_append
      (go (ℕ_discrete c y) (λ r. used k (c + 1) y v (left_after h (row c a n)) r (omega arith) m o))
    where
      g : Standing
      g = left_after h (row c a n)

      rest : List Turn
      rest = turns (rising (c + 1) k) (rising a n)

      go :
          Dec (c ≡ y) → (c + 1 ≤ y → min ((left_after g rest).lots v) ((left_after g rest).shorts y) ≡ 0)
          → min ((left_after g rest).lots v) ((left_after g rest).shorts y) ≡ 0
      go (yes e) r =
          omega (arith, used_row n c a v h m o, lots_fall rest g v, shorts_fall rest g y, ap g.shorts e)
      go (no e) r = r (omega arith)

  pub kept :
      (k c u w p : ℕ) (h : Standing) → a ≤ u → u < a + n → u < w → Kept h u w p
      → Kept (left_after h (turns (rising c k) (rising a n))) u w p
  unfolding rising turns left_after
  kept zero c u w p h l m o s = s
  kept (suc k) c u w p h l m o s =
      rw left_append (kept k (c + 1) u w p (left_after h (row c a n)) l m o (kept_row n c a u w p h l m o s))
