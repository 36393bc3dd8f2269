use native.Mathlib.Omega.{arith}
use borrow.Author.Rules.{rules}
use borrow.Author.Tests.{le-leb}
use Rattle.text.specs.Desk.{at_desk}
use Rattle.text.proofs.DeskLaws.{replied, said_length}
use Rattle.text.proofs.desk.Desk.take_in.Goals as goal

pub returns : goal.returns
returns c =
    replied (le-leb _ _ c.if-out-chunk.false) c.take_chunk.ensures c.new-page.ensures.at_start
    c.new-page.ensures.untouched (search rules)
    (omega (arith, c.if-out-chunk.false, said_length c.args.table (at_desk c.args.self.now) c.args.chunk.now))
