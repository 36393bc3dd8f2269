-- The theorems, cited.
use mathlib.Core.Path.{refl}
use Rattle.book.proofs.Amendments.{last_counts}
use Rattle.book.proofs.LastFigures.{counts_last}
use Rattle.book.proofs.claims.last_counts.Goals as goal

pub returns : goal.returns
returns c = (refl, last_counts, counts_last)
