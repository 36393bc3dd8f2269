use native.Mathlib.Omega.{arith}
use Rattle.text.proofs.HeldLaws.{held_more}
use Rattle.text.proofs.held.Held.hold.Goals as goal

pub returns : goal.returns
returns c =
    held_more c.args.self.now (omega arith) c.args.more.now _ c.min-start.result c.min-n.result c.min-start.ensures c.min-n.ensures
    c.copy_from_slice.ensures.after
