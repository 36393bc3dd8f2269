-- Each loop holds what it has walked past; a fault leaves by the label, and decides.
use mathlib.Core.Bool.{true}
use mathlib.Core.Path.{◌≡◌}
use Prim.Native.Nat.{◌≤◌, ◌-◌}
use Rattle.figuring.specs.Years.{first_year}
use Rattle.book.specs.Sizes.{makers, sets, families}
use Rattle.book.specs.Ledger.{cell}
use Rattle.figuring.specs.Below.{all_below}
use Rattle.book.specs.Soundness.{family_sound, year_sound, cell_sound, maker_sound}
use Rattle.book.proofs.soundness.cells_sound.Given as goal

abbrev pub invariant-loop-number : goal.invariant-loop-number
invariant-loop-number l = (l.number ≤ families) × ((l.good ≡ true) × (all_below l.number (family_sound l.book (cell l.maker l.set)) ≡ true))

abbrev pub decreases-loop-number : goal.decreases-loop-number
decreases-loop-number l = families - l.number

abbrev pub invariant-loop-year : goal.invariant-loop-year
invariant-loop-year l = (l.good ≡ true) × (all_below (l.year - first_year) (year_sound l.book l.maker l.set) ≡ true)

abbrev pub invariant-loop-set : goal.invariant-loop-set
invariant-loop-set l = (l.set ≤ sets) × ((l.good ≡ true) × (all_below l.set (cell_sound l.book l.maker) ≡ true))

abbrev pub decreases-loop-set : goal.decreases-loop-set
decreases-loop-set l = sets - l.set

abbrev pub invariant-walk : goal.invariant-walk
invariant-walk l = (l.maker ≤ makers) × ((l.good ≡ true) × (all_below l.maker (maker_sound l.book) ≡ true))

abbrev pub decreases-walk : goal.decreases-walk
decreases-walk l = makers - l.maker
