-- The theorem, cited.
use mathlib.Core.Path.{refl}
use Rattle.book.proofs.Reconciliation as laws
use Rattle.book.proofs.claims.reconciles.Goals as goal

pub returns : goal.returns
returns c = (refl, laws.demand3)
