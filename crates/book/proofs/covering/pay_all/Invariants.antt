use Prim.Native.Nat.{◌-◌}
use Rattle.figuring.specs.Years.{first_year}
use Rattle.book.proofs.PayLaws.{AtYear}
use Rattle.book.proofs.covering.pay_all.Given as goal

abbrev pub invariant-loop-year : goal.invariant-loop-year
invariant-loop-year l = AtYear l.initial.book l.c (l.year - first_year) l.book l.moved
