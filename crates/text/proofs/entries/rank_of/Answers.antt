use native.Mathlib.Omega.{arith}
use mathlib.Core.Path.{ap, subst}
use Rattle.book.specs.Ledger.{In, place}
use Rattle.book.proofs.PlaceLaws.{of_the_book}
use Rattle.text.proofs.EntryFacts.{family_ranks, lot_ranks, shortage_ranks}
use Rattle.text.proofs.entries.rank_of.Goals as goal

pub returns-in_ok-of-in-Family-clause-rank : goal.returns-in_ok-of-in-Family-clause-rank
returns-in_ok-of-in-Family-clause-rank c =
    let k = c.in_ok-of-in-Family.ensures in
    let f = c.in_ok-of-in-Family.field-0 in
    family_ranks c.in-Family.is
    (record { maker = rw k.0 at f.cell.maker_in; set = rw k.1 at f.cell.set_in; number = rw k.2 at f.number_in })
    (rw (k.0, k.1, k.2) at c.index.ensures.at)

pub returns-in_ok-of-in-Lot-clause-rank : goal.returns-in_ok-of-in-Lot-clause-rank
returns-in_ok-of-in-Lot-clause-rank c =
    let k = c.in_ok-of-in-Lot.ensures in
    lot_ranks (subst In k (of_the_book c.in_ok-of-in-Lot.field-0)) c.in-Lot.is
    (omega (arith, c.index-in-Lot.ensures.at, ap place k))

pub returns-in_ok-of-in-Shortage-clause-rank : goal.returns-in_ok-of-in-Shortage-clause-rank
returns-in_ok-of-in-Shortage-clause-rank c =
    let k = c.in_ok-of-in-Shortage.ensures in
    shortage_ranks (subst In k (of_the_book c.in_ok-of-in-Shortage.field-0)) c.in-Shortage.is
    (omega (arith, c.index-in-Shortage.ensures.at, ap place k))
