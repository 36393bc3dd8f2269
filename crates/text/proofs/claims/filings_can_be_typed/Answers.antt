use mathlib.Core.Path.{refl}
use Rattle.text.proofs.TypedLaws as laws
use Rattle.text.proofs.claims.filings_can_be_typed.Goals as goal

-- The theorem, cited.

pub returns : goal.returns
returns c = (refl, laws.which_have_lines, laws.can_be_typed)
