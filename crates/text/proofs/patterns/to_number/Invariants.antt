use Rattle.std.proofs.Common.{length}
use Rattle.text.proofs.PatternLaws.{Onward}
use Rattle.text.proofs.patterns.to_number.Given as goal

abbrev pub invariant-loop-p : goal.invariant-loop-p
invariant-loop-p l = Onward l.form l.text l.left l.rest

abbrev pub decreases-loop-p : goal.decreases-loop-p
decreases-loop-p l = length l.left
