use Prim.Native.Nat.{◌+◌, ◌*◌}
use Rattle.book.specs.Sizes.{sets, years}
use Rattle.text.specs.Listing.{maker_text, entry_room}
use Rattle.text.proofs.ListingLaws.{Gathered}
use Rattle.text.proofs.listing.list_cells.Given as goal

abbrev pub invariant-loop-maker : goal.invariant-loop-maker
invariant-loop-maker l = Gathered (maker_text l.book) (sets * (years * entry_room + years * entry_room)) l.initial.page l.page l.maker
