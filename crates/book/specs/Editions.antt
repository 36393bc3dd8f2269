-- Card 5, "Alternative standards, two editions", in the book: "Balances account for families under the standard they
-- named", and 17 is "checked after 6". The proofs are in proofs/NamedStandard.antt.
use Rattle.std.specs.Prelude.{ℕ, ◌<◌, true, false, ◌≡◌, Some}
use Rattle.figuring.specs.Standards.{is_absent}
use Rattle.figuring.specs.Tables.{Table, accepted_table}
use Rattle.figuring.specs.Editions.{standard_under, no_edition}
use Rattle.figuring.specs.Parts.{part_of}
use Rattle.book.specs.Filings.{with_edition}
use Rattle.book.specs.Sizes.{makers, sets, all_closed}
use Rattle.book.specs.Soundness.{sound}
use Rattle.book.specs.Refusals.{refusal_in, result_in}
use Rattle.book.specs.Postings.{ordinary_for, part_for}
use Rattle.book.specs.Rules.{posted}
use Rattle.book.specs.Demand3.{is_accepted}
use Rattle.book.specs.declared.ledger.Book.{Book}
use Rattle.book.specs.declared.kinds.Call.{Call}
use Rattle.book.specs.declared.kinds.Filing.{Filing}

-- The edition that a filing names has a standard for its set, use and year; the filing's part, which a posting stores and
-- the accounts count, is figured from that standard; and it is what the filing is answered.
pub record ByNamed (t : Table) (b : Book) (f : Filing) : Type 0 where
  pub standard : ℕ
  pub named : standard_under (ordinary_for t f) f.edition f.set f.vehicle_use f.year ≡ Some standard
  pub part : part_for t f ≡ part_of standard f.fcl f.cf f.volume f.life
  pub answered : result_in (posted t b (Call.File f)).answer 0 ≡ part_for t f

-- every filing that is accepted, with whatever table and by whatever book
abbrev pub UnderNamed : Table → Book → Filing → Type 0
UnderNamed t b f = is_accepted (posted t b (Call.File f)).answer ≡ true → ByNamed t b f

-- a filing that no entry before 6 refuses
pub record Reaches6 (t : Table) (b : Book) (f : Filing) : Type 0 where
  pub sound : sound b ≡ true
  pub fit : accepted_table t ≡ true
  pub maker : f.maker < makers
  pub set : f.set < sets
  pub year : f.year ≡ b.open_year
  pub not_all_closed : b.open_year < all_closed

-- Whatever the edition, 6 goes by the ordinary standard, that of the table. Where there is one, and the edition is none of its set and year,
-- 17 answers, whatever the family's number and figures, filed already or not.
pub record SixThenSeventeen (t : Table) (b : Book) (f : Filing) : Type 0 where
  pub six : is_absent (ordinary_for t f) ≡ true → refusal_in (posted t b (Call.File f)).answer ≡ 6
  pub seventeen :
      is_absent (ordinary_for t f) ≡ false
      → no_edition f.edition f.set f.year ≡ true → refusal_in (posted t b (Call.File f)).answer ≡ 17

-- An edition that 17 lets pass changes nothing but the part: a filing gets the refusal, or none, and the count that it
-- gets with edition 0.
pub record PartAlone (t : Table) (b : Book) (f : Filing) : Type 0 where
  pub refusal :
      refusal_in (posted t b (Call.File f)).answer ≡ refusal_in (posted t b (Call.File (with_edition 0 f))).answer
  pub count :
      result_in (posted t b (Call.File f)).answer 1 ≡ result_in (posted t b (Call.File (with_edition 0 f))).answer 1

abbrev pub ElseTheSame : Table → Book → Filing → Type 0
ElseTheSame t b f = no_edition f.edition f.set f.year ≡ false → PartAlone t b f
