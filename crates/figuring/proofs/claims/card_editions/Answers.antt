-- The theorem, cited.
use mathlib.Core.Path.{refl}
use Rattle.figuring.proofs.EditionLaws as laws
use Rattle.figuring.proofs.claims.card_editions.Goals as goal

pub returns : goal.returns
returns c = (refl, laws.card_editions)
