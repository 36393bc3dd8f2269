-- The theorem, cited.
use mathlib.Core.Path.{refl}
use Rattle.figuring.specs.Units.{engine_unit}
use Rattle.figuring.proofs.NettingLaws as laws
use Rattle.figuring.proofs.claims.rounds_to_nearest.Goals as goal

pub returns : goal.returns
returns c = (refl, laws.rounds_to_nearest engine_unit laws.engines_half)
