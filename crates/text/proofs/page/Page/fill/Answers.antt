use Rattle.text.proofs.FillLaws.{one_left, number_room, put_number, byte_room, put_byte, all}
use Rattle.text.proofs.page.Page.fill.Goals.{then-p-ne35, else-p-ne35+in-Some, else-p-ne35+in_default}
use Rattle.text.proofs.page.Page.fill.Goals as goal

pub put_byte-requires : goal.put_byte-requires
put_byte-requires c = byte_room c.loop-p.invariant c.loop-p-test.true c.if-p-ne35.true c.requires.room

pub put_number-requires : goal.put_number-requires
put_number-requires c =
    number_room c.loop-p.invariant c.loop-p-test.true c.if-p-ne35.false c.in-Some.ensures.steps c.requires.room

pub loop-p-preserved : goal.loop-p-preserved
loop-p-preserved c = elim c.if-p-ne35.branch [
  | then-p-ne35 w ↦ rw (w.self-is, w.left-is) (put_byte c.loop-p.invariant c.loop-p-test.true w.if-p-ne35.true w.put_byte.ensures)
  | else-p-ne35+in-Some w ↦
      rw (w.self-is, w.left-is)
      (put_number c.loop-p.invariant c.loop-p-test.true w.if-p-ne35.false w.in-Some.ensures.steps w.put_number.ensures)
  | else-p-ne35+in_default w ↦ absurd (one_left c.loop-p.invariant c.loop-p-test.true w.if-p-ne35.false w.in_default.ensures.steps.0)
]

pub returns : goal.returns
returns c = all c.loop-p.invariant c.loop-p-test.false
