-- The theorem, cited.
use mathlib.Core.Path.{refl}
use Rattle.figuring.proofs.TableLaws as laws
use Rattle.figuring.proofs.claims.card_tables.Goals as goal

pub returns : goal.returns
returns c = (refl, laws.card_tables)
