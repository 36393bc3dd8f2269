use mathlib.Core.Path.{refl}
use Rattle.text.proofs.DeskLaws as laws
use Rattle.text.proofs.claims.desks_by_what_they_hold.Goals as goal

-- The theorem, cited.

pub returns : goal.returns
returns c = (refl, laws.by_what_is_held)
