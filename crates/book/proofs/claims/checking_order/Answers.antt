-- The theorem, cited.
use mathlib.Core.Path.{refl}
use Rattle.book.proofs.CallLaws as laws
use Rattle.book.proofs.claims.checking_order.Goals as goal

pub returns : goal.returns
returns c = (refl, laws.checking_order)
