-- The theorem, cited.
use mathlib.Core.Path.{refl}
use Rattle.book.proofs.OwnStandards as laws
use Rattle.book.proofs.claims.as_before.Goals as goal

pub returns : goal.returns
returns c = (refl, laws.as_before)
