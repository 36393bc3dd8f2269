use Rattle.text.proofs.PatternLaws.{Half}
use Rattle.text.proofs.patterns.fitted.Given as goal

abbrev pub invariant-loop-slot : goal.invariant-loop-slot
invariant-loop-slot g l = Half g.row.N l.most l.pattern l.text l.slot-items l.slot-index l.form l.rest
