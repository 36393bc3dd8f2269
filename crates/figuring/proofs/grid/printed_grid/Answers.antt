-- The grid as it stands in the source is the printed one: one comparison over all its rows and columns, computed.
use mathlib.Core.Path.{refl}
use Rattle.figuring.specs.Standards.{standard_for, vocational, tractor, spark, printed_for}
use Rattle.figuring.specs.Grid.{grid_row, grid_from, printed_grid}
use Rattle.figuring.proofs.grid.printed_grid.Goals as goal

pub returns : goal.returns
unfolding printed_grid grid_from grid_row standard_for vocational tractor spark printed_for
returns c = refl
