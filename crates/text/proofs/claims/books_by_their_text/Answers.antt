use mathlib.Core.Path.{refl}
use Rattle.text.proofs.RoundTripLaws as laws
use Rattle.text.proofs.claims.books_by_their_text.Goals as goal

-- The theorems, cited.

pub returns : goal.returns
returns c = (refl, laws.round_trip, laws.exact)
