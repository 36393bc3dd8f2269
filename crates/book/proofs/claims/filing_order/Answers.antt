-- The theorem, cited.
use mathlib.Core.Path.{refl}
use Rattle.book.proofs.FilingOrder as laws
use Rattle.book.proofs.claims.filing_order.Goals as goal

pub returns : goal.returns
returns c = (refl, laws.filing_order)
