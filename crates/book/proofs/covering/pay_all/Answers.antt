use native.Mathlib.Omega.{arith}
use Rattle.book.specs.Paying.{Paid, turns_of}
use Rattle.book.proofs.PayLaws.{named, no_year, year_payable, next_year, year_fits}
use Rattle.book.proofs.covering.pay_all.Goals as goal
use Rattle.book.proofs.covering.pay_all.Goals.{After-pay_shortage-moved}

-- the shortage's place is of the cover's cell and of this year
paid :
    (c : After-pay_shortage-moved)
    → Paid c.loop-year.book c.args.c (turns_of c.loop-year.year) c.pay_shortage-moved.new.book c.pay_shortage-moved.result
paid c =
    let n = named c.at.result c.args.c c.loop-year.year c.at.ensures in
    rw (n.0, n.1) at c.pay_shortage-moved.ensures

pub loop-year-init : goal.loop-year-init
loop-year-init c = no_year c.requires

pub pay_shortage-moved-requires : goal.pay_shortage-moved-requires
pay_shortage-moved-requires c =
    let n = named c.at.result c.args.c c.loop-year.year c.at.ensures in
    rw (n.0, n.1) (year_payable c.loop-year.invariant c.loop-year.auto.year c.loop-year-test.true)

pub overflow_add-moved : goal.overflow_add-moved
overflow_add-moved c =
    let f = year_fits c.loop-year.invariant c.loop-year.auto.year c.loop-year-test.true
    (paid (goal.at.overflow_add-moved c).After-pay_shortage-moved) in
    omega arith

pub loop-year-preserved : goal.loop-year-preserved
loop-year-preserved c =
    next_year c.loop-year.invariant c.loop-year.auto.year c.loop-year-test.true
    (paid (goal.at.loop-year-preserved c).After-pay_shortage-moved)
