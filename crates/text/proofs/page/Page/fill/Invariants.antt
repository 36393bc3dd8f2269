use Rattle.std.specs.Slice.Iter.{iter_rest}
use Rattle.text.proofs.FillLaws.{Filling}
use Rattle.text.proofs.page.Page.fill.Given as goal

abbrev pub invariant-loop-p : goal.invariant-loop-p
invariant-loop-p l = Filling l.pattern l.n l.initial.self l.self (iter_rest l.left) l.p-index
