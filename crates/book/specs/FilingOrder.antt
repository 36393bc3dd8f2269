-- Card 1, "Filing order": the same filings, put to the same book in another order. `FilingOrder` is the card's
-- sentence, `EachAlone` the reason for it; the proofs are in proofs/FilingOrder.antt.
-- A filing here may be an amendment (card 6), and under any pair of limits (card 10), so that the sentence holds of a list
-- that mixes them: no two of them are of one family. Each is handed a table of its own, accepted or not (card 7).
-- The card's book is sound and its filings are of one model year. Neither is asked here: a book that is not sound
-- refuses every filing by 2, and a filing of another year than the open one is refused wherever it stands. What is
-- asked is `Sized`: every book of the program is.
use Rattle.std.specs.Prelude.{ℕ, ◌<◌, Bool, true, List, [], ◌∷◌, map, ◌≡◌, get_or, ℤ, Ok, Err}
use Rattle.book.specs.Sizes.{makers, sets, families}
use Rattle.book.specs.Ledger.{cell, marked, part_at}
use Rattle.book.specs.Refusals.{Answered, result_in}
use Rattle.book.specs.Postings.{part_for, with_families}
use Rattle.figuring.specs.Tables.{Table}
use Rattle.book.specs.Rules.{Request, handed, posted}
use Rattle.book.specs.Demand3.{is_accepted, book_after}
use Rattle.book.specs.Companions.{Sized}
use Rattle.book.specs.Orders.{Among, without, Reordered, EveryOrder}
use Rattle.book.specs.declared.ledger.Book.{Book}
use Rattle.book.specs.declared.kinds.Call.{Call}
use Rattle.book.specs.declared.kinds.Filing.{Filing}
use Rattle.book.specs.declared.answers.Posted.{Posted}
use Rattle.book.specs.declared.answers.Answer.TheVariants.{Filed, Closed, Left, Covered}

-- what a filing names: "maker, set and number"
pub record Family : Type 0 where
  pub maker : ℕ
  pub set : ℕ
  pub number : ℕ

abbrev pub family_of : Filing → Family
family_of f = record { maker = f.maker; set = f.set; number = f.family }

-- a filing, and the table that it is handed
pub record Lodged : Type 0 where
  pub table : Table
  pub filing : Filing

abbrev pub named_by : Lodged → Family
named_by f = family_of f.filing

-- "no two naming the same maker, set and number": no filing of the list names what another of the list names
abbrev pub NoTwoAlike : List Lodged → Type 0
NoTwoAlike fs = (f g : Lodged) (p : Among f fs) → Among g (without p) → named_by f ≡ named_by g → ⊥

-- ---- a list of filings, put to a book one after the other

abbrev pub filings : List Lodged → List Request
filings = map (λ f. handed f.table (Call.File f.filing))

abbrev pub after_filings : Book → List Lodged → Book
after_filings b fs = book_after b (filings fs)

-- what a filing gives
abbrev pub lodged : Book → Lodged → Posted
lodged b f = posted f.table b (Call.File f.filing)

-- "the same part or the same refusal": the whole answer but for the count, which is put at 0. "Only the count of filed
-- families may differ."
abbrev pub count_aside : Answered → Answered
count_aside (Err r) = Err r
count_aside (Ok (Filed p n)) = Ok (Filed p 0)
count_aside (Ok (Closed n)) = Ok (Closed n)
count_aside (Ok (Left m)) = Ok (Left m)
count_aside (Ok (Covered m)) = Ok (Covered m)

-- what a filing gets where others went before it
abbrev pub gets_after : Book → List Lodged → Lodged → Answered
gets_after b before f = count_aside (lodged (after_filings b before) f).answer

-- ---- the card's sentence

pub record SameInBoth (b : Book) (fs gs : List Lodged) : Type 0 where
  -- "They give equal books"
  pub books : after_filings b fs ≡ after_filings b gs
  -- "and each filing gets the same part or the same refusal", wherever it stands in the one and in the other
  pub answers : (f : Lodged) (p : Among f fs) (q : Among f gs) → gets_after b p.before f ≡ gets_after b q.before f

abbrev pub FilingOrder : Book → List Lodged → List Lodged → Type 0
FilingOrder b fs gs = Sized b → Reordered fs gs → NoTwoAlike fs → SameInBoth b fs gs

-- These words say no less than the card's: no order is left out; any filing may be put before a list of no two alike,
-- if it names what none of the list names; and an answer is given by what `count_aside` leaves and its second result, a
-- filing's count.
pub record SaysNoLess : Type 0 where
  pub orders : EveryOrder Lodged
  pub none : NoTwoAlike []
  pub more :
      (f : Lodged) (fs : List Lodged) → ((g : Lodged) → Among g fs → named_by f ≡ named_by g → ⊥) → NoTwoAlike fs
      → NoTwoAlike (f ∷ fs)
  pub aside : (a c : Answered) → count_aside a ≡ count_aside c → result_in a 1 ≡ result_in c 1 → a ≡ c

-- ---- the reason

-- what a book keeps of a family: its mark and its part
abbrev pub is_filed : Book → Family → Bool
is_filed b k = marked (get_or b.marks (cell k.maker k.set) 0) k.number

abbrev pub part_in : Book → Family → ℤ
part_in b k = part_at b.parts (cell k.maker k.set) k.number

-- a filing's family is filed, with its part
abbrev pub Holds : Book → Lodged → Type 0
Holds b f = (is_filed b (named_by f) ≡ true) × (part_in b (named_by f) ≡ part_for f.table f.filing)

-- Two books keep the same of a family. A mark is a number here, so its digit is compared whatever the family's
-- number; a part stands only under a number of the book.
abbrev pub SameOf : Book → Book → Family → Type 0
SameOf x y k = (is_filed x k ≡ is_filed y k) × (k.number < families → part_in x k ≡ part_in y k)

-- a filing of the list that is accepted where it is put to the book alone
pub record Taken (b : Book) (fs : List Lodged) (f : Lodged) : Type 0 where
  pub among : Among f fs
  pub accepted : is_accepted (lodged b f).answer ≡ true

-- what filings make of a book b, said of them all and not of their order
pub record MadeBy (b : Book) (fs : List Lodged) (after : Book) : Type 0 where
  -- those that are taken are filed
  pub filed : (f : Lodged) → Taken b fs f → Holds after f
  -- a family that none of them names is as it was
  pub others :
      (k : Family) → k.maker < makers → k.set < sets → ((f : Lodged) → Taken b fs f → named_by f ≡ k → ⊥)
      → SameOf after b k
  -- and so is all else in the book
  pub else : after ≡ with_families b after.marks after.parts

pub record Alone (b : Book) (fs : List Lodged) : Type 0 where
  -- each filing gets the part or the refusal that it gets where it is put to the first book alone
  pub answers : (f : Lodged) (p : Among f fs) → gets_after b p.before f ≡ gets_after b [] f
  -- the book after the list is the one book that these filings make of the first, whatever their order
  pub book : MadeBy b fs (after_filings b fs)
  pub only : (after : Book) → Sized after → MadeBy b fs after → after ≡ after_filings b fs

abbrev pub EachAlone : Book → List Lodged → Type 0
EachAlone b fs = Sized b → NoTwoAlike fs → Alone b fs
