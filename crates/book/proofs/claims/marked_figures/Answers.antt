-- The theorem, cited.
use mathlib.Core.Path.{refl}
use Rattle.book.proofs.MarkedFigures as laws
use Rattle.book.proofs.claims.marked_figures.Goals as goal

pub returns : goal.returns
returns c = (refl, laws.marked_figures)
