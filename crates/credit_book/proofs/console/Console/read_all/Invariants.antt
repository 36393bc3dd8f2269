-- What has been read so far leaves more to read (TurnLaws).
use Rattle.credit_book.specs.declared.progress.Progress.{Progress}
use Rattle.credit_book.proofs.TurnLaws.{SoFar}
use Rattle.credit_book.proofs.console.Console.read_all.Given as goal

abbrev pub invariant-loop-turns : goal.invariant-loop-turns
invariant-loop-turns l = SoFar l.fn.self.table l.fn.self.desk.book l.self l.turns Progress.More
