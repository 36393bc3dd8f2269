use Rattle.text.proofs.DigitLaws.{Worth}
use Rattle.text.proofs.numbers.value.Given as goal

abbrev pub invariant-loop-digit : goal.invariant-loop-digit
invariant-loop-digit l = Worth l.digits l.worth l.digit-index
