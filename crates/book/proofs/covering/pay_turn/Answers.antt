use mathlib.Core.Path.{◌≡◌, ap}
use Rattle.book.specs.Ledger.{key}
use Rattle.book.specs.Coverage.{turn, amount}
use Rattle.book.specs.Covering.{in_book}
use Rattle.book.specs.Places.{key_of, cell_of}
use Rattle.book.specs.declared.kinds.Cover.{Cover}
use Rattle.book.proofs.CoverTurns.{from_lot, from_shortage}
use Rattle.book.proofs.PayLaws.{turn_paid}
use Rattle.book.proofs.covering.pay_turn.Goals as goal
use Rattle.book.proofs.covering.pay_turn.Goals.{After-turn_amount-mg}

-- the lot is one of the shortage's cell
lot_is :
    (c : After-turn_amount-mg) → key_of c.args.lot ≡ key c.args.shortage.cell.maker c.args.shortage.cell.set c.args.lot.year
lot_is c = ap (λ (d : Cover). key d.maker d.set c.args.lot.year) c.requires

-- what is paid is the turn's amount by the rule
amount_is :
    (c : After-turn_amount-mg)
    → c.turn_amount-mg.result
    ≡ amount (in_book c.args.book.now (cell_of c.args.shortage)) (turn c.args.shortage.year c.args.lot.year)
amount_is c = rw (c.figure_at-has.ensures, lot_is c, c.figure_at-lacks.ensures) at c.turn_amount-mg.ensures

pub lower_figure-requires : goal.lower_figure-requires
lower_figure-requires c =
    let w = (goal.at.lower_figure-requires c).After-turn_amount-mg in
    rw (lot_is w) (from_lot _ _ _ _ _ _ _ (amount_is w))

pub lower_figure-requires-2 : goal.lower_figure-requires-2
lower_figure-requires-2 c =
    from_shortage _ _ _ _ _ _ _ (amount_is (goal.at.lower_figure-requires-2 c).After-turn_amount-mg)

pub returns : goal.returns
returns c =
    let w = (goal.at.returns c).After-turn_amount-mg in
    let p =
    turn_paid _ _ _ _ _ _ (amount_is w) (rw (lot_is w) at c.lower_figure.ensures.figures) c.lower_figure-2.ensures.figures in
    record { book = rw (p.0, p.1); sum = p.2 }
