-- The theorem, cited.
use mathlib.Core.Path.{refl}
use Rattle.book.proofs.RefusalLaws as laws
use Rattle.book.proofs.claims.answers_or_refuses.Goals as goal

pub returns : goal.returns
returns c = (refl, laws.demand1)
