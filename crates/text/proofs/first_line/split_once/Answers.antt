use Rattle.std.proofs.Common.{rules, tests, eqb}
use Rattle.std.proofs.lemmas.Iterator.{YieldsList-from_slice}
use Rattle.std.proofs.lemmas.Iterator.Search.{position_from_yields_List}
use Rattle.text.proofs.SplitLaws.{lacking, parted}
use Rattle.text.proofs.first_line.split_once.Goals as goal

pub returns-in_err-n : goal.returns-in_err-n
returns-in_err-n c =
    rw c.from_residual.ensures
    (lacking c.args.byte c.args.text.now
    (position_from_yields_List (λ b. eqb b c.args.byte) _ _ c.position.result c.position.ensures.ran
    (YieldsList-from_slice c.args.text.now cc) (λ x b q k. search (rules, tests)))
    c.in_err-n.was)

pub returns : goal.returns
returns c =
    parted c.args.byte c.args.text.now
    (position_from_yields_List (λ b. eqb b c.args.byte) _ _ c.position.result c.position.ensures.ran
    (YieldsList-from_slice c.args.text.now cc) (λ x b q k. search (rules, tests)))
    c.in_ok-n.was
