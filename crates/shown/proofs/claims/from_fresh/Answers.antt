use mathlib.Core.Path.{refl}
use Rattle.shown.proofs.FreshLaws as laws
use Rattle.shown.proofs.claims.from_fresh.Goals as goal

-- The theorem, cited.

pub returns : goal.returns
returns c = (refl, laws.from_fresh)
