-- The theorem, cited.
use mathlib.Core.Path.{refl}
use Rattle.figuring.proofs.MarkedLaws as laws
use Rattle.figuring.proofs.claims.marked_figures.Goals as goal

pub returns : goal.returns
returns c = (refl, laws.marked_figures)
