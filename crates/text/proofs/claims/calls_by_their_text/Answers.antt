use mathlib.Core.Path.{refl}
use Rattle.text.proofs.FormLaws as laws
use Rattle.text.proofs.claims.calls_by_their_text.Goals as goal

-- The theorem, cited.

pub returns : goal.returns
returns c = (refl, laws.reads)
