use Prim.Native.Nat.{◌+◌, ◌*◌}
use Rattle.book.specs.Sizes.{years}
use Rattle.text.specs.Listing.{cell_text, entry_room}
use Rattle.text.proofs.ListingLaws.{Gathered}
use Rattle.text.proofs.listing.put_maker.Given as goal

abbrev pub invariant-loop-set : goal.invariant-loop-set
invariant-loop-set l = Gathered (cell_text l.book l.maker) (years * entry_room + years * entry_room) l.initial.page l.page l.set
