use mathlib.Core.Path.{refl}
use Rattle.text.proofs.OneFormLaws as laws
use Rattle.text.proofs.claims.entries_by_one_form.Goals as goal

-- The theorem, cited.

pub returns : goal.returns
returns c = (refl, laws.one_form)
