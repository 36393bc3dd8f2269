-- The theorem, cited.
use mathlib.Core.Path.{refl}
use Rattle.book.proofs.FilingOrder as laws
use Rattle.book.proofs.claims.says_no_less.Goals as goal

pub returns : goal.returns
returns c = (refl, laws.says_no_less)
