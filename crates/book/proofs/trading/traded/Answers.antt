use Rattle.book.specs.Postings.{trade_done}
use Rattle.book.specs.Rules.{done}
use Rattle.book.specs.declared.kinds.Call.{Call}
use Rattle.book.proofs.TableLaws.{done_so}
use Rattle.book.proofs.MoveFacts.{Tradable, trade_facts}
use Rattle.book.proofs.trading.traded.Goals as goal
use Rattle.book.proofs.trading.traded.Goals.{In_ok-trade_verdict}

facts : (c : In_ok-trade_verdict) → Tradable c.args.book.now c.args.t
facts c = trade_facts _ _ c.trade_verdict.ensures c.in_ok-trade_verdict.was

pub at-seller-requires : goal.at-seller-requires
at-seller-requires c = (facts (goal.at.at-seller-requires c).In_ok-trade_verdict).seller.lot

pub at-buyer-requires : goal.at-buyer-requires
at-buyer-requires c = (facts (goal.at.at-buyer-requires c).In_ok-trade_verdict).buyer

pub returns : goal.returns
unfolding done trade_done
returns c t =
    let paid = c.lower_figure-left.ensures in
    rw (c.raise_figure.ensures, paid.figures, paid.left, c.at-seller.ensures, c.at-buyer.ensures)
    (done_so t _ (Call.Trade _) (c.trade_verdict.ensures t) c.in_ok-trade_verdict.was)
