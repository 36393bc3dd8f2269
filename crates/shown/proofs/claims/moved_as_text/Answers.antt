use mathlib.Core.Path.{refl}
use Rattle.shown.proofs.WrittenLaws as laws
use Rattle.shown.proofs.claims.moved_as_text.Goals as goal

-- The theorem, cited.

pub returns : goal.returns
returns c = (refl, laws.moved_as_text)
