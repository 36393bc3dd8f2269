use mathlib.Core.Path.{refl}
use Rattle.text.proofs.SessionLaws as laws
use Rattle.text.proofs.claims.any_chunks.Goals as goal

-- The theorem, cited.

pub returns : goal.returns
returns c = (refl, laws.any_chunks)
