use Prim.Native.Nat.{◌+◌, ◌-◌, ◌*◌}
use borrow.Author.Rules.{rules}
use mathlib.Core.Path.{◌≡◌, ◌∙◌}
use native.Mathlib.Omega.{arith}
use Rattle.book.specs.Sizes.{years}
use Rattle.book.proofs.PlaceLaws.{any_year}
use Rattle.book.proofs.ledger.has_shortage.Goals as goal

pub returns : goal.returns
returns c =
    let at = c.args.cell in
    let n : c.index-first.result * years + years - c.index-first.result * years ≡ years = omega arith in
    rw (n, c.index-first.ensures.at) at c.any_above_0.ensures ∙ any_year _ at.maker at.set (search rules) at.maker_in at.set_in
