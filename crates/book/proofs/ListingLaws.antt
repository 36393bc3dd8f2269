-- The test of a maker, a set and a year, as facts.
use Prim.Native.Nat.{ℕ}
use mathlib.Core.Bool.{true}
use mathlib.Core.Path.{◌≡◌}
use borrow.Author.Tests.{ltb-true, leb-true}
use Rattle.figuring.proofs.BoolLaws.{both}
use Rattle.book.specs.Ledger.{key, In}
use Rattle.book.specs.Listing.{is_cell_year}

pub cell_year : (m s y : ℕ) → is_cell_year m s y ≡ true → In (key m s y)
unfolding is_cell_year
cell_year m s y e =
    let p = both _ _ e in
    let q = both _ _ p.1 in
    let r = both _ _ q.1 in
    record {
      maker = ltb-true _ _ p.0;
      set = ltb-true _ _ q.0;
      from = leb-true _ _ r.0;
      upto = leb-true _ _ r.1;
    }
