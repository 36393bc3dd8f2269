use Rattle.std.proofs.Common.{◌≡◌, arith}
use Rattle.credit_book.specs.Turns.{most_turns}
use Rattle.credit_book.proofs.FileLaws.{next, whole, failed, used_up}
use Rattle.credit_book.proofs.files.read_text.Goals as goal

pub returns-in-Ended : goal.returns-in-Ended
returns-in-Ended c =
    whole (next c.loop-turns.invariant c.add_some-read.auto.text c.add_some-read.ensures c.unwrap_or-len.ensures (cc))

pub returns-in-Failed : goal.returns-in-Failed
returns-in-Failed c =
    failed (next c.loop-turns.invariant c.add_some-read.auto.text c.add_some-read.ensures c.unwrap_or-len.ensures (cc))

pub returns : goal.returns
returns c =
    let e : c.loop-turns.turns ≡ most_turns = omega (arith, c.loop-turns-test.false, c.loop-turns.auto.turns-end) in
    used_up (rw e at c.loop-turns.invariant)
