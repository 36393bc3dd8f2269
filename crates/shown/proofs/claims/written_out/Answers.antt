use mathlib.Core.Path.{refl}
use Rattle.shown.proofs.WrittenLaws as laws
use Rattle.shown.proofs.claims.written_out.Goals as goal

-- The theorems, cited.

pub returns : goal.returns
returns c = (refl, laws.written_out, laws.fresh_written)
