use mathlib.Core.Path.{refl}
use Rattle.text.proofs.SessionLaws as laws
use Rattle.text.proofs.claims.lines_by_line_feeds.Goals as goal

-- The theorem, cited.

pub returns : goal.returns
returns c = (refl, laws.lines)
