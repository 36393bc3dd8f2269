-- The theorems, cited.
use mathlib.Core.Path.{refl}
use Rattle.book.proofs.SmallMakers.{under_any_pair, counts_as_large, two_entries}
use Rattle.book.proofs.claims.small_makers.Goals as goal

pub returns : goal.returns
returns c = (refl, under_any_pair, counts_as_large, two_entries)
