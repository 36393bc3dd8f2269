use mathlib.Core.Path.{◌≡◌}
use mir.Syntax.{w64}
use mir.Val.{to_z, of_z}
use mir.Facts.{to_z-of_z}
use borrow.Author.Rules.{rules}
use Rattle.text.proofs.EntryFacts.{family_facts, lot_test, shortage_test}
use Rattle.book.proofs.ListingLaws.{cell_year}
use Rattle.text.proofs.ReadingLaws.{family_stored, lot_stored, shortage_stored}
use Rattle.text.proofs.entries.store_entry.Goals as goal

-- An entry of the book names a family or a place of it, and is stored there.

pub invariant_of-cell : goal.invariant_of-cell
invariant_of-cell c =
    let f = family_facts c.requires c.in-Family.is in
    record { maker_in = f.maker; set_in = f.set }

pub invariant_of-family : goal.invariant_of-family
invariant_of-family c = record { number_in = (family_facts c.requires c.in-Family.is).number }

pub invariant_of-cell-in-Lot : goal.invariant_of-cell-in-Lot
invariant_of-cell-in-Lot c =
    let i = cell_year _ _ _ (lot_test c.requires c.in-Lot.is) in
    record { maker_in = i.maker; set_in = i.set }

pub invariant_of-place : goal.invariant_of-place
invariant_of-place c =
    let i = cell_year _ _ _ (lot_test c.requires c.in-Lot.is) in
    record { from = i.from; upto = i.upto }

pub invariant_of-cell-in-Shortage : goal.invariant_of-cell-in-Shortage
invariant_of-cell-in-Shortage c =
    let i = cell_year _ _ _ (shortage_test c.requires c.in-Shortage.is) in
    record { maker_in = i.maker; set_in = i.set }

pub invariant_of-place-in-Shortage : goal.invariant_of-place-in-Shortage
invariant_of-place-in-Shortage c =
    let i = cell_year _ _ _ (shortage_test c.requires c.in-Shortage.is) in
    record { from = i.from; upto = i.upto }

pub returns-in-Family : goal.returns-in-Family
returns-in-Family c =
    let kept : to_z w64 (of_z w64 c.in-Family.part) ≡ c.in-Family.part = to_z-of_z {w = w64} (search rules) in
    family_stored c.args.book.now c.in-Family.is (rw kept at c.store.ensures)

pub returns-in-Lot : goal.returns-in-Lot
returns-in-Lot c = lot_stored c.args.book.now c.index.ensures.at c.in-Lot.is

pub returns-in-Shortage : goal.returns-in-Shortage
returns-in-Shortage c = shortage_stored c.args.book.now c.index-in-Shortage.ensures.at c.in-Shortage.is
