-- Card 6, "Amended level": an amendment is a filing whose purpose is to amend. Rules, Postings and Accounts have it; here the
-- card's words stand by themselves, for any book. The proofs are in proofs/Amendments.antt and proofs/LastFigures.antt.
use Rattle.std.specs.Prelude.{ℕ, ◌+◌, ◌*◌, true, cond, List, ◌∷◌, ◌++◌, ◌≡◌, eqb, get_or, set as store, Ok}
use Rattle.figuring.specs.Tables.{Table}
use Rattle.book.specs.Filings.{with_purpose}
use Rattle.book.specs.Limits.{large_entry, in_large_entry}
use Rattle.book.specs.Sizes.{families}
use Rattle.book.specs.Ledger.{Key, filed_in}
use Rattle.book.specs.Refusals.{refusal_in}
use Rattle.book.specs.Postings.{part_for, filing_cell, filing_key, with_families}
use Rattle.book.specs.Rules.{posted}
use Rattle.book.specs.Accounts.{Opening, Entry, as_accepted, accounts_from}
use Rattle.book.specs.Demand3.{is_accepted}
use Rattle.book.specs.Companions.{Sized}
use Rattle.book.specs.Orders.{Among}
use Rattle.book.specs.FilingOrder.{family_of}
use Rattle.book.specs.declared.ledger.Book.{Book}
use Rattle.book.specs.declared.kinds.Call.{Call}
use Rattle.book.specs.declared.kinds.Filing.{Filing}
use Rattle.book.specs.declared.kinds.Purpose.{Purpose}
use Rattle.book.specs.declared.answers.Answer.{Answer}
use Rattle.book.specs.declared.answers.Posted.{Posted}

-- the same fields, put to a book as a filing of the large entry and as an amendment
abbrev pub filed : Table → Book → Filing → Posted
filed t b f = posted t b (Call.File (with_purpose large_entry f))

abbrev pub amended : Table → Book → Filing → Posted
amended t b f = posted t b (Call.File (with_purpose Purpose.Amend f))

-- ---- what an accepted amendment does

-- "replaces the part of a family already filed in the open year; it returns the new part and the unchanged count". All
-- else in the book, the marks among it, is as it was.
abbrev pub replaced : Table → Book → Filing → Posted
replaced t b f =
    record {
      answer = Ok (Answer.Filed (record { 0 = part_for t f }) (filed_in (get_or b.marks (filing_cell f) 0)));
      book = with_families b b.marks (store b.parts (filing_cell f * families + f.family) (part_for t f));
    }

abbrev pub Amended : Table → Book → Filing → Type 0
Amended t b f = is_accepted (amended t b f).answer ≡ true → amended t b f ≡ replaced t b f

-- ---- which are accepted

-- "18, the family number isn't filed in this cell this year; stands in place of 9": what a filing of these fields is
-- answered says what an amendment of them is. One that would be taken names a family that is not filed, so 18; one that
-- would get 9 is taken; any other refusal is the same.
abbrev pub in_place_of9 : ℕ → ℕ
in_place_of9 n = cond (eqb n 0) 18 (cond (eqb n 9) 0 n)

abbrev pub StandsInPlaceOf9 : Table → Book → Filing → Type 0
StandsInPlaceOf9 t b f = refusal_in (amended t b f).answer ≡ in_place_of9 (refusal_in (filed t b f).answer)

-- ---- "a family counts with its last accepted figures of that year"

-- In the book: after an accepted filing or amendment f, an amendment g of the same family is answered as it would be in
-- f's place, and leaves the book that it would leave there, whatever tables t and u they are handed. So of a filing and
-- any number of amendments the last counts, as if it alone had been filed. In f's place it is filed in the large entry,
-- whatever pair f was under (card 10): an amendment is held to the large limits (docs/DECISIONS.md).
abbrev pub after_it : Table → Table → Book → Filing → Filing → Posted
after_it t u b f g = amended u (posted t b (Call.File f)).book g

abbrev pub in_its_place : Table → Book → Filing → Filing → Posted
in_its_place u b f g = posted u b (Call.File (with_purpose (in_large_entry f.purpose) g))

pub record AsInItsPlace (t u : Table) (b : Book) (f g : Filing) : Type 0 where
  pub answer : (after_it t u b f g).answer ≡ (in_its_place u b f g).answer
  pub book : is_accepted (in_its_place u b f g).answer ≡ true → (after_it t u b f g).book ≡ (in_its_place u b f g).book

abbrev pub LastCounts : Table → Table → Book → Filing → Filing → Type 0
LastCounts t u b f g =
    Sized b → is_accepted (posted t b (Call.File f)).answer ≡ true → family_of f ≡ family_of g → AsInItsPlace t u b f g

-- In the accounts: the part of a family of a year is that of the last accepted filing or amendment of it, and the
-- opening one where there is none. So an amendment replaces an opening part too.
-- no entry of a history is an accepted filing or amendment of the family
abbrev pub NoneOf : List Entry → Key → ℕ → Type 0
NoneOf es k family =
    (t : Table) (f : Filing) → Among (as_accepted t (Call.File f)) es → filing_key f ≡ k → f.family ≡ family → ⊥

pub record CountsLast (o : Opening) (es : List Entry) (k : Key) (family : ℕ) : Type 0 where
  pub last :
      (before after : List Entry) (t : Table) (f : Filing)
      → es ≡ before ++ as_accepted t (Call.File f) ∷ after → filing_key f ≡ k → f.family ≡ family → NoneOf after k family
      → (accounts_from o es).last k family ≡ part_for t f
  pub none : NoneOf es k family → (accounts_from o es).last k family ≡ o.part k family
