-- The theorems, cited.
use mathlib.Core.Path.{refl}
use Rattle.book.proofs.CoverCounts as laws
use Rattle.book.proofs.claims.counts_as_made.Goals as goal

pub returns : goal.returns
returns c = (refl, laws.counts_as_made, laws.as_in_book, laws.own_year)
