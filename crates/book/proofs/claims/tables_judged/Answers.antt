-- The theorems, cited.
use mathlib.Core.Path.{refl}
use Rattle.book.proofs.OwnStandards as laws
use Rattle.book.proofs.claims.tables_judged.Goals as goal

pub returns : goal.returns
returns c = (refl, laws.twenty, laws.reads_none, laws.within_bound)
