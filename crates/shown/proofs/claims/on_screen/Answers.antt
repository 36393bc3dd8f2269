use mathlib.Core.Path.{refl}
use Rattle.shown.proofs.ShownLaws as laws
use Rattle.shown.proofs.claims.on_screen.Goals as goal

-- The theorem, cited.

pub returns : goal.returns
returns c = (refl, laws.on_screen)
