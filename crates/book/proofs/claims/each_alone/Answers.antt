-- The theorem, cited.
use mathlib.Core.Path.{refl}
use Rattle.book.proofs.FilingOrder as laws
use Rattle.book.proofs.claims.each_alone.Goals as goal

pub returns : goal.returns
returns c = (refl, laws.each_alone)
