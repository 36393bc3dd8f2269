use lib.ListN.{length}
use Rattle.text.proofs.ServeLaws.{Midway}
use Rattle.text.proofs.desk.Desk.take_chunk.Given as goal

abbrev pub invariant-loop-line : goal.invariant-loop-line
invariant-loop-line l = Midway l.table l.initial.self l.chunk l.initial.page l.self l.page l.left

abbrev pub decreases-loop-line : goal.decreases-loop-line
decreases-loop-line l = length l.left
