use mathlib.Core.Path.{refl}
use Rattle.shown.proofs.MovingLaws as laws
use Rattle.shown.proofs.claims.moves_on.Goals as goal

-- The theorem, cited.

pub returns : goal.returns
returns c = (refl, laws.moves_on)
