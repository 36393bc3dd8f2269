use Rattle.std.proofs.Common.{sym, ◌∙◌}
use Rattle.text.proofs.PatternLaws.{a_number}
use Rattle.text.proofs.patterns.fitted.Goals as goal

pub loop-slot-preserved : goal.loop-slot-preserved
loop-slot-preserved g c =
    a_number c.loop-slot.invariant c.loop-slot-test.true c.in_ok-after.after c.in_ok-after.here c.in_ok-after.ensures
    c.in_ok-v.v c.in_ok-v.d (sym c.number.ensures ∙ c.in_ok-v.was)
