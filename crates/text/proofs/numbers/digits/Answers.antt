use Rattle.std.proofs.Common.{rules, tests}
use Rattle.std.specs.Char.{is_ascii_digit}
use Rattle.std.proofs.lemmas.Iterator.{YieldsList-from_slice}
use Rattle.std.proofs.lemmas.Iterator.Consumers.{count_from_yields_List}
use Rattle.std.proofs.lemmas.Iterator.Search.{YieldsList-from_take_while}
use Rattle.text.proofs.DigitLaws.{lead_while}
use Rattle.text.proofs.numbers.digits.Goals as goal

pub returns : goal.returns
returns c =
    rw (lead_while c.args.s.now)
    (count_from_yields_List _ _ c.count.ensures.ran
    (YieldsList-from_take_while _ is_ascii_digit (YieldsList-from_slice c.args.s.now cc) c.take_while.ensures.closure
    c.take_while.ensures.done (λ x b q k. search (rules, tests))))
