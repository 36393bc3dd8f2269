-- Each loop holds what it has walked past; a sum that would pass the most leaves by the label, and decides.
use mathlib.Core.Bool.{true}
use mathlib.Core.Path.{◌≡◌}
use Prim.Native.Nat.{◌≤◌, ◌-◌}
use Rattle.figuring.specs.Years.{first_year}
use Rattle.book.specs.Sizes.{makers, sets, lots_most}
use Rattle.figuring.specs.Below.{all_below}
use Rattle.book.specs.Below.{sum_below}
use Rattle.book.specs.Soundness.{lot_of, total_sound, set_sound}
use Rattle.book.proofs.soundness.totals_sound.Given as goal

abbrev pub invariant-loop-maker : goal.invariant-loop-maker
invariant-loop-maker l = (l.maker ≤ makers) × ((l.good ≡ true) × ((l.sum ≡ sum_below l.maker (lot_of l.lots l.set (l.year - first_year))) × (l.sum ≤ lots_most)))

abbrev pub decreases-loop-maker : goal.decreases-loop-maker
decreases-loop-maker l = makers - l.maker

abbrev pub invariant-loop-year : goal.invariant-loop-year
invariant-loop-year l = (l.good ≡ true) × (all_below (l.year - first_year) (total_sound l.lots l.set) ≡ true)

abbrev pub invariant-walk : goal.invariant-walk
invariant-walk l = (l.set ≤ sets) × ((l.good ≡ true) × (all_below l.set (set_sound l.lots) ≡ true))

abbrev pub decreases-walk : goal.decreases-walk
decreases-walk l = sets - l.set
