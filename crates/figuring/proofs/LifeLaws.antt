-- Laws of lots and shortages in time: what a test that holds says.
use Prim.Native.Nat.{ℕ, ◌+◌, ◌≤◌, ◌<◌}
use mathlib.Core.Bool.{true, false, not, ◌&&◌}
use mathlib.Core.Path.{◌≡◌}
use native.Mathlib.Omega.{arith}
use borrow.Author.Tests.{ltb-true, leb-true, not-false, lt-ltb, le-leb}
use lib.Dec.{ltb, leb}
use Rattle.figuring.specs.Years.{first_year}
use Rattle.figuring.proofs.BoolLaws.{both, and_intro}
use Rattle.figuring.specs.Life.{closed_year, live, open_short}

-- ── closed years
pub record Closed (Y y : ℕ) : Type 0 where
  pub from : first_year ≤ y
  pub closed : y < Y

pub closed_is : (Y y : ℕ) → closed_year Y y ≡ true → Closed Y y
unfolding closed_year
closed_is Y y e =
    let p = both _ _ e in
    record { from = leb-true _ _ p.0; closed = ltb-true _ _ p.1 }

-- ── what a test says where it holds
pub record Young (life Y y : ℕ) : Type 0 where
  pub from : first_year ≤ y
  pub closed : y < Y
  pub young : Y ≤ y + life

young_is : (life Y y : ℕ) → (closed_year Y y && leb Y (y + life)) ≡ true → Young life Y y
young_is life Y y e =
    let p = both _ _ e in
    let c = closed_is Y y p.0 in
    record { from = c.from; closed = c.closed; young = leb-true _ _ p.1 }

abbrev pub Live : ℕ → ℕ → Type 0
Live Y v = Young 6 Y v

pub live_is : (Y v : ℕ) → not (live Y v) ≡ false → Live Y v
unfolding live
live_is Y v e = young_is 6 Y v (not-false (live Y v) e)

abbrev pub OpenShort : ℕ → ℕ → Type 0
OpenShort Y y = Young 4 Y y

pub open_is : (Y y : ℕ) → not (open_short Y y) ≡ false → OpenShort Y y
unfolding open_short
open_is Y y e = young_is 4 Y y (not-false (open_short Y y) e)

-- ── and the other way round
is_young : (life Y y : ℕ) → Young life Y y → (closed_year Y y && leb Y (y + life)) ≡ true
unfolding closed_year
is_young life Y y h =
    and_intro (and_intro (le-leb first_year y h.from) (lt-ltb y Y h.closed)) (le-leb Y (y + life) h.young)

pub is_live : (Y v : ℕ) → Live Y v → live Y v ≡ true
unfolding live
is_live = is_young 6

pub is_open : (Y y : ℕ) → OpenShort Y y → open_short Y y ≡ true
unfolding open_short
is_open = is_young 4

-- ── an expired lot's year, and an overdue shortage's
pub record Old (life Y y : ℕ) : Type 0 where
  pub from : first_year ≤ y
  pub old : y + life < Y

pub old_is : (life Y y : ℕ) → (closed_year Y y && ltb (y + life) Y) ≡ true → Old life Y y
old_is life Y y e =
    let p = both _ _ e in
    record { from = (closed_is Y y p.0).from; old = ltb-true _ _ p.1 }

pub is_old : (life Y y : ℕ) → Old life Y y → (closed_year Y y && ltb (y + life) Y) ≡ true
unfolding closed_year
is_old life Y y h =
    and_intro (and_intro (le-leb first_year y h.from) (lt-ltb y Y (omega (arith, h)))) (lt-ltb (y + life) Y h.old)
