use native.Mathlib.Omega.{arith}
use mathlib.Core.Path.{◌≡◌, ap, ◌∙◌}
use lib.ListN.{length}
use Rattle.text.specs.Answers.{text_of}
use Rattle.text.specs.Placing.{HasRoom}
use Rattle.text.proofs.StoreLaws.{front, written_room}
use Rattle.text.proofs.AnswerLaws.{text_length}
use Rattle.text.proofs.answering.put_answer.Goals as goal
use Rattle.text.proofs.answering.put_answer.Goals.{After-new-page}

-- The text is put together on a page of its own.

room : (c : After-new-page) → HasRoom (length (text_of c.args.answer)) c.new-page.result
room c = omega (arith, text_length c.args.answer, c.new-page.ensures.at_start, ap length c.new-page.ensures.untouched)

pub written-requires : goal.written-requires
written-requires c =
    written_room c.write_answer.ensures c.new-page.ensures.at_start (room (goal.at.written-requires c).After-new-page)

pub returns : goal.returns
returns c =
    let e : c.written.result.now ≡ text_of c.args.answer =
    c.written.ensures
    ∙ front c.write_answer.ensures c.new-page.ensures.at_start (room (goal.at.returns c).After-new-page) in
    rw e at c.put_bytes.ensures
