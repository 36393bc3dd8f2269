use mathlib.Core.Path.{refl}
use Rattle.text.proofs.RankLaws as ranks
use Rattle.text.proofs.EachEntryLaws as laws
use Rattle.text.proofs.claims.lines_in_order.Goals as goal

-- The theorems, cited.

pub returns : goal.returns
returns c = (refl, laws.each_entry, ranks.rank_orders)
