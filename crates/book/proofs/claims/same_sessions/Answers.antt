-- The theorem, cited.
use mathlib.Core.Path.{refl}
use Rattle.book.proofs.Restated as laws
use Rattle.book.proofs.claims.same_sessions.Goals as goal

pub returns : goal.returns
returns c = (refl, laws.sound_parts, laws.same_sessions)
