use Rattle.book.specs.Sizes.{makers}
use Rattle.text.specs.Listing.{listing}
use Rattle.text.proofs.ListingLaws.{none_yet, room_left, one_more, all_gathered, maker_length}
use Rattle.text.proofs.listing.list_cells.Goals as goal

-- The invariant: the texts before this one stand on the page.

pub loop-maker-init : goal.loop-maker-init
loop-maker-init c = none_yet

pub put_maker-requires-clause-room : goal.put_maker-requires-clause-room
put_maker-requires-clause-room c = room_left c.loop-maker.invariant makers c.loop-maker-test.true c.requires

pub loop-maker-preserved : goal.loop-maker-preserved
loop-maker-preserved c = one_more c.loop-maker.invariant (maker_length c.args.book.now _ c.loop-maker-test.true) c.put_maker.ensures

pub returns : goal.returns
unfolding listing
returns c = all_gathered c.loop-maker.invariant makers c.loop-maker.auto.maker-end c.loop-maker-test.false
