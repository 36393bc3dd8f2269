-- What an accepted filing or amendment says.
use mathlib.Core.Bool.{Bool, true, false, false≢true, not, ◌||◌}
use mathlib.Core.Path.{◌≡◌, ap, refl}
use Prim.Native.Nat.{ℕ, ◌≤◌, ◌<◌}
use borrow.Author.Tests.{leb-false, eqb-true, not-false}
use lib.Dec.{eqb, ltb, leb}
use lib.ListN.{get_or}
use Rattle.figuring.specs.Years.{last_year}
use Rattle.figuring.specs.Standards.{is_absent}
use Rattle.figuring.specs.Tables.{Table}
use Rattle.figuring.specs.Editions.{no_edition}
use Rattle.figuring.specs.Parts.{within_limits, part_of, family_part}
use Rattle.figuring.specs.declared.units.Part.{Part}
use Rattle.figuring.proofs.PartLaws.{figured}
use Rattle.book.specs.Sizes.{makers, sets, families}
use Rattle.book.specs.Limits.{limits_of, amends}
use Rattle.book.specs.Ledger.{marked}
use Rattle.book.specs.Soundness.{sound}
use Rattle.book.specs.Refusals.{first_refusal}
use Rattle.book.specs.Rules.{filed_row, file_rows, own_rows, posted}
use Rattle.book.specs.Postings.{ordinary_for, filing_cell}
use Rattle.book.specs.Demand3.{is_accepted}
use Rattle.book.specs.declared.ledger.Book.{Book}
use Rattle.book.specs.declared.kinds.Call.{Call}
use Rattle.book.specs.declared.kinds.Filing.{Filing}
use Rattle.std.specs.Prelude.{Option, Some, Ok}
use Rattle.book.proofs.TableLaws.{cleared, by_verdict}
use Rattle.book.proofs.CloseFacts.{still_open}

pub record Fileable (t : Table) (b : Book) (f : Filing) : Type 0 where
  pub sound : sound b ≡ true
  pub maker : f.maker < makers
  pub set : f.set < sets
  pub year : f.year ≡ b.open_year
  pub upto : b.open_year ≤ last_year
  pub standard : is_absent (ordinary_for t f) ≡ false
  pub edition : no_edition f.edition f.set f.year ≡ false
  pub family : f.family < families
  pub limits : within_limits f.fcl f.cf f.volume f.life ≡ true
  -- 9 and 18: a filing is of a family that is not filed, an amendment of one that is
  pub mark : marked (get_or b.marks (filing_cell f) 0) f.family ≡ amends f.purpose

as_amends : (amending is_filed : Bool) → (filed_row amending is_filed).test ≡ false → is_filed ≡ amending
as_amends true is_filed e = not-false is_filed e
as_amends false is_filed e = e

-- of a row whose test is one of two
or_left : (a b : Bool) → (a || b) ≡ false → a ≡ false
or_left true b e = e
or_left false b e = refl

pub fileable :
    (t : Table) (b : Book) (f : Filing) → sound b ≡ true
    → first_refusal (file_rows (ordinary_for t f) b.open_year b.marks f) ≡ Ok tt
    → Fileable t b f
unfolding file_rows
fileable t b f s e =
    let p = cleared (file_rows (ordinary_for t f) b.open_year b.marks f) e in
    record {
      sound = s;
      maker = leb-false makers f.maker (search);
      set = leb-false sets f.set (search);
      year = eqb-true f.year b.open_year (not-false (eqb f.year b.open_year) (search));
      upto = still_open b s (search);
      standard = search;
      edition = search;
      family =
          leb-false families f.family
          (or_left (leb families f.family) (ltb (limits_of f.purpose).number f.family) (search));
      limits =
          not-false (within_limits f.fcl f.cf f.volume f.life)
          (or_left (not (within_limits f.fcl f.cf f.volume f.life)) (ltb (limits_of f.purpose).volume f.volume) (search));
      mark = as_amends (amends f.purpose) _ (search);
    }

pub accepted_filing :
    (t : Table) (b : Book) (f : Filing) → is_accepted (posted t b (Call.File f)).answer ≡ true → Fileable t b f
unfolding own_rows is_accepted
accepted_filing t b f =
    by_verdict t b (Call.File f) (λ p. is_accepted p.answer ≡ true → Fileable t b f) (λ r a. absurd (false≢true a))
    (λ s e a. fileable t b f s e)

-- what family_part gives a filing that is within its limits
module _ (s fcl cf volume life : ℕ) (h : within_limits fcl cf volume life ≡ true) where
  pub part_is :
      {r : Option Part} {p : Part}
      → r ≡ family_part s fcl cf volume life → r ≡ Some p → p.0 ≡ part_of s fcl cf volume life
  part_is {r} {p} e d =
      let g = figured s fcl cf volume life h in
      let q : p ≡ record { 0 = part_of s fcl cf volume life } = cc in
      ap (λ (x : Part). x.0) q
