use Rattle.std.proofs.Common.{◌≡◌}
use Rattle.book.specs.Sizes.{families}
use Rattle.book.proofs.CloseFacts.{Netted}
use Rattle.book.proofs.closing.net_cells.Given as goal

-- the book's parts are lent while the loop runs, so its fields stand apart
abbrev pub invariant-loop-cell : goal.invariant-loop-cell
invariant-loop-cell l =
    Netted l.fn.book l.i l.book.1.1.1.1.0 l.book.1.1.1.1.1.0 l.cell-iterator.iter.rest.now l.short l.cell-iterator.count
    × (l.cell-iterator.iter.size ≡ families)
