use Prim.Native.Nat.{◌-◌}
use Rattle.figuring.specs.Years.{first_year}
use Rattle.book.specs.Places.{cell_of}
use Rattle.book.proofs.PayLaws.{AtVintage}
use Rattle.book.proofs.covering.pay_shortage.Given as goal

abbrev pub invariant-loop-vintage : goal.invariant-loop-vintage
invariant-loop-vintage l = AtVintage l.initial.book (cell_of l.shortage) l.shortage.year (l.vintage - first_year) l.book l.moved
