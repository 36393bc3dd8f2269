use Rattle.text.proofs.LoadLaws.{Loaded}
use Rattle.text.proofs.tables.read_table.Given as goal

abbrev pub invariant-loop-i : goal.invariant-loop-i
invariant-loop-i l = Loaded l.text l.slot-items l.before l.rest l.i
