use Rattle.text.specs.Listing.{entry_room}
use Rattle.text.specs.Writing.{family_line}
use Rattle.text.proofs.ListingLaws.{Gathered}
use Rattle.text.proofs.writing.put_families.Given as goal

abbrev pub invariant-loop-index : goal.invariant-loop-index
invariant-loop-index l = Gathered (family_line l.book.marks l.book.parts) entry_room l.initial.page l.page l.index
