use Rattle.text.specs.Listing.{entry_room}
use Rattle.text.specs.Writing.{mg_line}
use Rattle.text.proofs.ListingLaws.{Gathered}
use Rattle.text.proofs.writing.put_mgs.Given as goal

abbrev pub invariant-loop-index : goal.invariant-loop-index
invariant-loop-index l = Gathered (mg_line l.pattern l.figures) entry_room l.initial.page l.page l.index
