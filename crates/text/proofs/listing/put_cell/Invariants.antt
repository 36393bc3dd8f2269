use Prim.Native.Nat.{◌-◌}
use Rattle.figuring.specs.Years.{first_year}
use Rattle.text.specs.Listing.{lot_line, shortage_line, entry_room}
use Rattle.text.proofs.ListingLaws.{Gathered}
use Rattle.text.proofs.listing.put_cell.Given as goal

abbrev pub invariant-loop-year : goal.invariant-loop-year
invariant-loop-year l = Gathered (lot_line l.book.open_year l.book.lots l.cell.maker l.cell.set) entry_room l.initial.page l.page (l.year - first_year)

abbrev pub invariant-loop-year-2 : goal.invariant-loop-year-2
invariant-loop-year-2 l =
    Gathered (shortage_line l.book.open_year l.book.shortages l.cell.maker l.cell.set) entry_room l.initial.page l.page (l.year - first_year)
