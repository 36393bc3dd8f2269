-- Document 01, "Accounts": fed, in list order, the calls' arguments other than the book and, of each answer, only
-- whether it was a refusal. The types show it: an entry is a call, its table and a Bool, and nothing here takes a book.
use Rattle.std.specs.Prelude.{ℕ, ◌+◌, ◌-◌, Bool, true, false, cond, ◌&&◌, List, [], ◌∷◌, eqb, ℤ, pos}
use Rattle.figuring.specs.Years.{first_year}
use Rattle.figuring.specs.Units.{engine_unit}
use Rattle.figuring.specs.Tables.{Table}
use Rattle.figuring.specs.Netting.{net_of, earned_of, shortfall_of}
use Rattle.book.specs.Sizes.{families}
use Rattle.book.specs.Below.{only, sum_below_ℤ}
use Rattle.book.specs.Ledger.{Key}
use Rattle.book.specs.Postings.{part_for, filing_key, seller_lot, buyer_lot, applied_lot, covered_shortage, retired_lot}
use Rattle.book.specs.Coverage.{Standing}
use Rattle.book.specs.Covering.{in_cell, applications_of}
use Rattle.book.specs.declared.kinds.Application.{Application}
use Rattle.book.specs.declared.kinds.Call.{Call}
use Rattle.book.specs.declared.kinds.Cover.{Cover}

-- a call's arguments, the table that it is handed among them, and whether it was accepted: "answered without" a refusal
pub record Entry : Type 0 where
  pub table : Table
  pub call : Call
  pub accepted : Bool

-- a call entered as accepted
abbrev pub as_accepted : Table → Call → Entry
as_accepted t c = record { table = t; call = c; accepted = true }

-- what trades, applications and retirements add to, in Mg
pub data Column : Type 0 where
  bought : Column
  sold : Column
  applied : Column
  retired : Column
  covered : Column

-- to tell two columns apart by a test
abbrev pub column_number : Column → ℕ
column_number bought = 0
column_number sold = 1
column_number applied = 2
column_number retired = 3
column_number covered = 4

-- Card 8: "balances count from its lots, shortages and filed parts as opening figures". A lot and a shortage of each
-- key, in Mg, and the part of each family of it. Card 9: and the open year that a list begins in.
pub record Opening : Type 0 where
  pub year : ℕ
  pub lot : Key → ℕ
  pub shortage : Key → ℕ
  pub part : Key → ℕ → ℤ

-- "For each maker, set and year 2014 to 2037 there are a sum in part units and, in Mg, earned, shortfall, bought,
-- sold, applied, retired and covered. All are exact whole numbers without bound and start at zero." Kept here for any
-- key: Demand3 speaks of those of the book. Since card 6 the sum is that of a part for each family number.
pub record Accounts : Type 0 where
  -- what they began with: no call moves it
  pub opening : Opening
  -- card 9: "2014 or the one read in, plus one for each accepted close"
  pub open_year : ℕ
  -- the part of a family, as it was last accepted
  pub last : Key → ℕ → ℤ
  pub earned : Key → ℕ
  pub shortfall : Key → ℕ
  pub mg : Column → Key → ℕ

-- Accounts before the first call: the parts are the opening ones, and all else starts at zero. A family that is neither
-- filed nor amended counts with its opening part.
abbrev pub begun_with : Opening → Accounts
begun_with o =
    record {
      opening = o;
      open_year = o.year;
      last = o.part;
      earned = λ k. 0;
      shortfall = λ k. 0;
      mg = λ c k. 0;
    }

unfoldable pub same_key : Key → Key → Bool
same_key k j = eqb k.maker j.maker && (eqb k.set j.set && eqb k.year j.year)

-- n more in column c at k, and the rest as before
abbrev pub add : Column → Key → ℕ → (Column → Key → ℕ) → Column → Key → ℕ
add c k n g d j = g d j + only (eqb (column_number c) (column_number d) && same_key k j) n

-- z for the family f at k, and the rest as before
abbrev pub put : Key → ℕ → ℤ → (Key → ℕ → ℤ) → Key → ℕ → ℤ
put k f z g j h = cond (same_key k j && eqb f h) z (g j h)

-- the sum in part units
abbrev pub sum_at : Accounts → Key → ℤ
sum_at a k = sum_below_ℤ families (a.last k)

-- what it comes to, "rounded as a close rounds"
abbrev pub earned_at : Accounts → Key → ℕ
earned_at a k = earned_of (net_of engine_unit (sum_at a k))

abbrev pub shortfall_at : Accounts → Key → ℕ
shortfall_at a k = shortfall_of (net_of engine_unit (sum_at a k))

-- in year y what v says, and the rest as before
abbrev pub in_year : ℕ → (Key → ℕ) → (Key → ℕ) → Key → ℕ
in_year y v f j = cond (eqb j.year y) (v j) (f j)

-- the columns as g says, and the rest as before
abbrev pub with_mg : Accounts → (Column → Key → ℕ) → Accounts
with_mg a g =
    record {
      opening = a.opening;
      open_year = a.open_year;
      last = a.last;
      earned = a.earned;
      shortfall = a.shortfall;
      mg = g;
    }

-- what a lot and a shortage come to by the accounts. In accounts that agree with a book no difference here stops at zero:
-- `Reconciled` of Demand3 has the same as sums
abbrev pub lot_by : Accounts → Key → ℕ
lot_by a k = a.opening.lot k + a.earned k + a.mg bought k - (a.mg sold k + a.mg applied k + a.mg retired k)

abbrev pub shortage_by : Accounts → Key → ℕ
shortage_by a k = a.opening.shortage k + a.shortfall k - a.mg covered k

-- an application: "its Mg are added to applied of its maker, set and vintage and to covered of its maker, set and year"
abbrev pub add_applied : Application → (Column → Key → ℕ) → Column → Key → ℕ
add_applied p g = add covered (covered_shortage p) p.mg (add applied (applied_lot p) p.mg g)

unfoldable pub add_all : List Application → (Column → Key → ℕ) → Column → Key → ℕ
add_all [] g = g
add_all (p ∷ ps) g = add_all ps (add_applied p g)

-- the applications of a cover: "the accounts figure these by this same rule from their own balances and open year"
abbrev pub in_accounts : Accounts → Cover → Standing
in_accounts a c = in_cell a.open_year (lot_by a) (shortage_by a) c

abbrev pub made_by : Accounts → Cover → List Application
made_by a c = applications_of c (in_accounts a c)

abbrev pub move : Table → Accounts → Call → Accounts
-- "its part, figured from its own arguments, is added to the sum of its maker, set and year"; of a filing and its
-- amendments the last: "a family counts with its last accepted figures of that year"
move t a (Call.File f) =
    record {
      opening = a.opening;
      open_year = a.open_year;
      last = put (filing_key f) f.family (part_for t f) a.last;
      earned = a.earned;
      shortfall = a.shortfall;
      mg = a.mg;
    }
-- "for every maker and set the sum of that year is rounded as a close rounds. Above zero it becomes earned; below zero,
-- without its sign, shortfall"
move t a (Call.Close y) =
    record {
      opening = a.opening;
      open_year = a.open_year + 1;
      last = a.last;
      earned = in_year y (earned_at a) a.earned;
      shortfall = in_year y (shortfall_at a) a.shortfall;
      mg = a.mg;
    }
-- "its Mg are added to sold of the from maker and to bought of the to maker, in its set and vintage"
move t a (Call.Trade x) = with_mg a (add bought (buyer_lot x) x.mg (add sold (seller_lot x) x.mg a.mg))
move t a (Call.Apply p) = with_mg a (add_applied p a.mg)
-- "its Mg are added to retired of its maker, set and vintage"
move t a (Call.Retire p) = with_mg a (add retired (retired_lot p) p.mg a.mg)
-- "It counts as the applications it made"
move t a (Call.Cover c) = with_mg a (add_all (made_by a c) a.mg)

-- "Refused: nothing moves."
abbrev pub when_accepted : Bool → Accounts → Accounts → Accounts
when_accepted true moved before = moved
when_accepted false moved before = before

unfoldable pub feed : Accounts → Entry → Accounts
feed a e = when_accepted e.accepted (move e.table a e.call) a

unfoldable pub feed_all : Accounts → List Entry → Accounts
feed_all a [] = a
feed_all a (e ∷ es) = feed_all (feed a e) es

-- the accounts of a history, begun with opening figures
unfoldable pub accounts_from : Opening → List Entry → Accounts
accounts_from o es = feed_all (begun_with o) es

-- and begun with none, in 2014, as on a fresh book: document 01's "start at zero"
abbrev pub zero_opening : Opening
zero_opening = record { year = first_year; lot = λ k. 0; shortage = λ k. 0; part = λ k f. pos 0 }

abbrev pub accounts_of : List Entry → Accounts
accounts_of es = accounts_from zero_opening es
