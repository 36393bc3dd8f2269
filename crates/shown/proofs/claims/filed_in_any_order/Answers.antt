use mathlib.Core.Path.{refl}
use Rattle.shown.proofs.ShownLaws as laws
use Rattle.shown.proofs.claims.filed_in_any_order.Goals as goal

-- The theorem, cited.

pub returns : goal.returns
returns c = (refl, laws.filed_in_any_order)
