use mathlib.Core.Path.{refl}
use Rattle.text.proofs.FormLaws as laws
use Rattle.text.proofs.claims.answers_by_the_text.Goals as goal

-- The theorem, cited.

pub returns : goal.returns
returns c = (refl, laws.by_text)
