-- The theorem, cited.
use mathlib.Core.Path.{refl}
use Rattle.figuring.proofs.FineLaws as laws
use Rattle.figuring.proofs.claims.same_mg.Goals as goal

pub returns : goal.returns
returns c = (refl, laws.card_figures, laws.old_figures, laws.same_mg)
