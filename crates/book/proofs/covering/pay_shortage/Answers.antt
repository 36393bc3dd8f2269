use mathlib.Core.Path.{sym, ◌∙◌}
use native.Mathlib.Omega.{arith}
use Rattle.book.proofs.PayLaws.{no_vintage, next_vintage, vintage_fits, not_open_paid}
use Rattle.book.proofs.covering.pay_shortage.Goals as goal

pub loop-vintage-init : goal.loop-vintage-init
loop-vintage-init c = no_vintage c.requires

pub overflow_add-moved : goal.overflow_add-moved
overflow_add-moved c =
    let f = vintage_fits c.loop-vintage.invariant c.loop-vintage.auto.vintage c.loop-vintage-test.true
    c.pay_turn-moved.ensures in
    omega arith

pub loop-vintage-preserved : goal.loop-vintage-preserved
loop-vintage-preserved c =
    next_vintage c.loop-vintage.invariant c.loop-vintage.auto.vintage c.loop-vintage-test.true
    c.pay_turn-moved.ensures

pub returns-else-is_open : goal.returns-else-is_open
returns-else-is_open c = not_open_paid _ (sym c.is_open.ensures ∙ c.if-is_open.false)
