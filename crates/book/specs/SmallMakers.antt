-- Card 10, "Small makers' entry", for any table and any book. Rules has the rows of 7 and 8 by a filing's pair of limits; here
-- the card's words stand by themselves, beside what the large entry gives for the same fields. The proofs are in
-- proofs/SmallMakers.antt.
use Rattle.std.specs.Prelude.{ℕ, ◌<◌, ◌≤◌, true, cond, min, List, [], ◌∷◌, ◌≡◌, eqb}
use Rattle.figuring.specs.Tables.{Table}
use Rattle.figuring.specs.Parts.{within_limits}
use Rattle.book.specs.Limits.{small_limits}
use Rattle.book.specs.Filings.{with_purpose}
use Rattle.book.specs.Refusals.{refusal_in}
use Rattle.book.specs.Rules.{posted, filing_order}
use Rattle.book.specs.Amendments.{filed}
use Rattle.book.specs.declared.ledger.Book.{Book}
use Rattle.book.specs.declared.kinds.Call.{Call}
use Rattle.book.specs.declared.kinds.Filing.{Filing}
use Rattle.book.specs.declared.kinds.Limits.{Limits}
use Rattle.book.specs.declared.kinds.Purpose.{Purpose}
use Rattle.book.specs.declared.answers.Posted.{Posted}

-- the same fields, put to a book as a filing under a pair of limits; `filed` is in the large entry
abbrev pub filed_under : Limits → Table → Book → Filing → Posted
filed_under l t b f = posted t b (Call.File (with_purpose (Purpose.File l) f))

-- of two refusals the one that comes first in an order; where the first is 0, which is none, the other
abbrev pub first_in : List ℕ → ℕ → ℕ → ℕ
first_in [] m n = n
first_in (x ∷ xs) m n = cond (eqb x m) m (cond (eqb x n) n (first_in xs m n))

abbrev pub first_of : ℕ → ℕ → ℕ
first_of = first_in filing_order

-- ---- what a filing gets under a largest number n and a largest volume v, beside what the large entry gives. (A refusal
-- leaves the book as it was: `Demand1`.)

pub record HeldTo (n v : ℕ) (f : Filing) (large entered : Posted) : Type 0 where
  -- within both: what the large entry gives, answer and book
  pub within : f.family ≤ n → f.volume ≤ v → entered ≡ large
  -- "over its limits gets 7 or 8 as before", in their places: a refusal that comes earlier stands
  pub number : n < f.family → refusal_in entered.answer ≡ first_of (refusal_in large.answer) 7
  pub volume : f.family ≤ n → v < f.volume → refusal_in entered.answer ≡ first_of (refusal_in large.answer) 8

-- "The filing result is shown for any pair of limits up to the large ones": for any pair at all
abbrev pub UnderAnyPair : Table → Book → Filing → Limits → Type 0
UnderAnyPair t b f l = HeldTo l.number l.volume f (filed t b f) (filed_under l t b f)

-- since of a pair above the large ones each figure counts as the large one
abbrev pub at_most_large : Limits → Limits
at_most_large l = record { number = min l.number 63; volume = min l.volume 100000 }

abbrev pub CountsAsLarge : Table → Book → Filing → Limits → Type 0
CountsAsLarge t b f l = filed_under l t b f ≡ filed_under (at_most_large l) t b f

-- ---- the two entries, with the card's figures

pub record TwoEntries (t : Table) (b : Book) (f : Filing) : Type 0 where
  -- "family numbers 0 to 15, volume at most 5,000"
  pub small : HeldTo 15 5000 f (filed t b f) (filed_under small_limits t b f)
  -- "The large entry keeps 63 and 100,000": above them 7 or 8, and within document 01's limits neither
  pub large : HeldTo 63 100000 f (filed t b f) (filed t b f)
  pub no_seven : f.family ≤ 63 → refusal_in (filed t b f).answer ≡ 7 → ⊥
  pub no_eight : within_limits f.fcl f.cf f.volume f.life ≡ true → refusal_in (filed t b f).answer ≡ 8 → ⊥
