-- The theorem, cited.
use mathlib.Core.Path.{refl}
use Rattle.book.proofs.Staying as laws
use Rattle.book.proofs.claims.stays.Goals as goal

pub returns : goal.returns
returns c = (refl, laws.stays)
