-- The theorem, cited.
use mathlib.Core.Path.{refl}
use Rattle.book.proofs.NeverUnsound as laws
use Rattle.book.proofs.claims.never_unsound.Goals as goal

pub returns : goal.returns
returns c = (refl, laws.never_unsound)
