-- The theorem, cited.
use mathlib.Core.Path.{refl}
use Rattle.book.proofs.OldestFirst as laws
use Rattle.book.proofs.claims.none_better.Goals as goal

pub returns : goal.returns
returns c = (refl, laws.none_better)
