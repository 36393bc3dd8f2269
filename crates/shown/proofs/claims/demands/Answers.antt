use mathlib.Core.Path.{refl}
use Rattle.shown.proofs.ShownLaws as laws
use Rattle.shown.proofs.claims.demands.Goals as goal

-- The theorem, cited.

pub returns : goal.returns
returns c = (refl, laws.demands)
