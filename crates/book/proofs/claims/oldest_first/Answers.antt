-- The theorems, cited.
use mathlib.Core.Path.{refl}
use Rattle.book.proofs.OldestFirst as laws
use Rattle.book.proofs.claims.oldest_first.Goals as goal

pub returns : goal.returns
returns c = (refl, laws.accepted_exactly, laws.oldest_first)
