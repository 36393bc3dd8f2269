use native.Mathlib.Omega.{arith}
use Rattle.book.specs.Sizes.{years}
use Rattle.text.specs.Listing.{cell_text}
use Rattle.text.specs.Placing.{Adds}
use Rattle.text.specs.Gather.{gather}
use Rattle.text.specs.Listing.{lot_line}
use Rattle.text.proofs.StoreLaws.{adds_then, after_adds}
use Rattle.text.proofs.ListingLaws.{none_yet, room_left, one_more_year, all_gathered, lots_length}
use Rattle.text.proofs.ListingLaws.{lot_length, lot_adds, shortage_length, shortage_adds}
use Rattle.text.proofs.listing.put_cell.Goals as goal
use Rattle.text.proofs.listing.put_cell.Goals.{After-loop-year}

-- The invariants: the lines of the years before this one stand on the page, first the lots', and then the shortages'.

lots :
    (c : After-loop-year) → Adds
    (gather years (lot_line c.args.book.now.open_year c.args.book.now.lots c.args.cell.maker c.args.cell.set)) c.args.page.now c.loop-year.page
lots c = all_gathered c.loop-year.invariant years (omega (arith, c.loop-year.auto.year-end (omega arith))) (omega (arith, c.loop-year-test.false))

pub loop-year-init : goal.loop-year-init
loop-year-init c = none_yet

pub put_lot-requires : goal.put_lot-requires
put_lot-requires c =
    room_left c.loop-year.invariant years (omega (arith, c.loop-year-test.true)) (omega (arith, c.requires))

pub loop-year-preserved : goal.loop-year-preserved
loop-year-preserved c =
    let y = c.loop-year.year in
    let from = c.loop-year.auto.year in
    one_more_year y from c.loop-year.invariant
    (lot_length _ _ _ _ _ c.args.cell.maker_in c.args.cell.set_in (omega (arith, c.loop-year-test.true)))
    (lot_adds _ _ _ _ y from c.lot_entry-entry.ensures c.put_lot.ensures)

pub loop-year-2-init : goal.loop-year-2-init
loop-year-2-init c = none_yet

pub put_shortage-requires : goal.put_shortage-requires
put_shortage-requires c =
    let l = lots (goal.at.put_shortage-requires c).After-loop-year in
    room_left c.loop-year-2.invariant years (omega (arith, c.loop-year-2-test.true))
    (omega (
      arith,
      c.requires,
      after_adds l,
      lots_length c.args.book.now _ c.args.cell.maker_in _ c.args.cell.set_in,
    ))

pub loop-year-2-preserved : goal.loop-year-2-preserved
loop-year-2-preserved c =
    let y = c.loop-year-2.year in
    let from = c.loop-year-2.auto.year in
    one_more_year y from c.loop-year-2.invariant
    (shortage_length _ _ _ _ _ c.args.cell.maker_in c.args.cell.set_in (omega (arith, c.loop-year-2-test.true)))
    (shortage_adds _ _ _ _ y from c.shortage_entry-entry.ensures c.put_shortage.ensures)

pub returns : goal.returns
unfolding cell_text
returns c =
    adds_then (lots (goal.at.returns c).After-loop-year)
    (all_gathered c.loop-year-2.invariant years (omega (arith, c.loop-year-2.auto.year-end (omega arith))) (omega (arith, c.loop-year-2-test.false)))
