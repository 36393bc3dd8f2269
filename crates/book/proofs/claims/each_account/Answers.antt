-- The theorem, cited.
use mathlib.Core.Path.{refl}
use Rattle.book.proofs.EachAccount as laws
use Rattle.book.proofs.claims.each_account.Goals as goal

pub returns : goal.returns
returns c = (refl, laws.each_account)
