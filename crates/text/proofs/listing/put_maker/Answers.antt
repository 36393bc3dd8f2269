use Rattle.book.specs.Sizes.{sets}
use Rattle.text.specs.Listing.{maker_text}
use Rattle.text.proofs.ListingLaws.{none_yet, room_left, one_more, all_gathered, cell_length}
use Rattle.text.proofs.listing.put_maker.Goals as goal

-- The invariant: the texts before this one stand on the page.

pub loop-set-init : goal.loop-set-init
loop-set-init c = none_yet

pub put_cell-requires : goal.put_cell-requires
put_cell-requires c = room_left c.loop-set.invariant sets c.loop-set-test.true c.requires.room

pub loop-set-preserved : goal.loop-set-preserved
loop-set-preserved c = one_more c.loop-set.invariant (cell_length c.args.book.now c.args.maker c.requires.of_the_book _ c.loop-set-test.true) c.put_cell.ensures

pub returns : goal.returns
unfolding maker_text
returns c = all_gathered c.loop-set.invariant sets c.loop-set.auto.set-end c.loop-set-test.false
