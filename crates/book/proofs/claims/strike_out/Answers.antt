-- The theorem, cited.
use mathlib.Core.Path.{refl}
use Rattle.book.proofs.StrikeOut as laws
use Rattle.book.proofs.claims.strike_out.Goals as goal

pub returns : goal.returns
returns c = (refl, laws.strike_out)
