use Rattle.text.proofs.HeldLaws.{line_ends, chunk_ends}
use Rattle.text.proofs.held.Held.next_line.Goals as goal

pub returns-in_default : goal.returns-in_default
returns-in_default c = rw c.hold.ensures (chunk_ends c.in_default.ensures)

pub returns : goal.returns
returns c = rw c.end_line.ensures.1 (line_ends c.in-Some.ensures (rw c.hold-2.ensures at c.end_line.ensures.0))
