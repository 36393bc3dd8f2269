use Rattle.credit_book.proofs.TurnLaws.{next, read_to}
use mathlib.Core.Path.{sym, ◌∙◌}
use Rattle.credit_book.proofs.console.Console.read_all.Goals as goal

pub returns-in_default-clause-read : goal.returns-in_default-clause-read
returns-in_default-clause-read c =
    read_to c.loop-turns.invariant c.read_some-turn.ensures c.progress_after-progress.ensures c.in_default.not-More
    c.input.ensures

pub loop-turns-preserved : goal.loop-turns-preserved
loop-turns-preserved c =
    next c.loop-turns.invariant c.read_some-turn.ensures (sym c.in-More.is ∙ c.progress_after-progress.ensures)
