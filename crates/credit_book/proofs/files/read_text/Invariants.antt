-- What has been read so far leaves more to read (FileLaws).
use Rattle.credit_book.specs.declared.progress.Progress.{Progress}
use Rattle.credit_book.proofs.FileLaws.{SoFar}
use Rattle.credit_book.proofs.files.read_text.Given as goal

abbrev pub invariant-loop-turns : goal.invariant-loop-turns
invariant-loop-turns l = SoFar l.initial.text l.text l.len l.turns Progress.More
