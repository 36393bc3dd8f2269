-- Card 4 for whole books and sessions: "The Mg of every old figure are the same once its CF is multiplied by 10". The
-- rules with document 01's figures of CF and parts, as they were before the card, stand beside those of now, and a
-- session under the one beside the same calls, restated, under the other. `SameSessions` is the statement; the proofs are
-- in proofs/Restated.antt.
use Rattle.std.specs.Prelude.{ℕ, Bool, true, ◌&&◌, List, [], ◌∷◌, ◌++◌, map, ◌≡◌, leb, ℤ, pos, nat_abs, get_or, Ok, Err}
use Rattle.figuring.specs.Tables.{Table}
use Rattle.figuring.specs.FiveDecimals.{old_cf, old_unit, old_part_most, restated_cf, restated_part}
use Rattle.book.specs.Filings.{with_cf}
use Rattle.book.specs.Sizes.{all_parts}
use Rattle.figuring.specs.Below.{all_below}
use Rattle.book.specs.Ledger.{marked}
use Rattle.book.specs.Soundness.{sound, part_sound}
use Rattle.book.specs.Refusals.{Answered, first_refusal}
use Rattle.book.specs.Postings.{fresh_book, with_families, closed_in}
use Rattle.book.specs.Rules.{Request, head_rows, table_rows, own_rows, done, outcome, posted}
use Rattle.book.specs.declared.ledger.Book.{Book}
use Rattle.book.specs.declared.kinds.Call.{Call}
use Rattle.book.specs.declared.answers.Answer.TheVariants.{Filed, Closed, Left, Covered}
use Rattle.book.specs.declared.answers.Posted.{Posted}

-- the card's bound, of every part of a family that is filed: "A sound part lies within ±3.84 × 10^16"
pub record SoundParts : Type 0 where
  pub filed :
      (mark family : ℕ) (z : ℤ)
      → marked mark family ≡ true → part_sound mark family z ≡ leb (nat_abs z) 38400000000000000

-- a call in which a filing's CF is what g makes of it
abbrev pub on_cf : (ℕ → ℕ) → Call → Call
on_cf g (Call.File f) = Call.File (with_cf (g f.cf) f)
on_cf g (Call.Close y) = Call.Close y
on_cf g (Call.Trade t) = Call.Trade t
on_cf g (Call.Apply p) = Call.Apply p
on_cf g (Call.Retire p) = Call.Retire p
on_cf g (Call.Cover c) = Call.Cover c

-- ---- the rules with document 01's figures: those of now, but for the bound of a part, the limit of CF and the unit of
-- a close. A cover and the pair of limits, which came after the card (cards 9 and 10), are as they are now

-- "every part within ±3.84 × 10^15", which is less than now
abbrev pub old_sound : Book → Bool
old_sound b = sound b && all_below all_parts (λ i. leb (nat_abs (get_or b.parts i (pos 0))) old_part_most)

-- "CF (.., 1-100,000)"
abbrev pub old_limits : Call → Call
old_limits = on_cf old_cf

-- a close rounded parts "in units of 10^-7 Mg"
abbrev pub old_done : Table → Book → Call → Posted
old_done t b (Call.File f) = done t b (Call.File f)
old_done t b (Call.Close y) = closed_in old_unit b
old_done t b (Call.Trade x) = done t b (Call.Trade x)
old_done t b (Call.Apply p) = done t b (Call.Apply p)
old_done t b (Call.Retire p) = done t b (Call.Retire p)
old_done t b (Call.Cover c) = done t b (Call.Cover c)

unfoldable pub old_posted : Table → Book → Call → Posted
old_posted t b c =
    outcome (first_refusal (head_rows (old_sound b) (table_rows t c) ++ own_rows t b (old_limits c))) b (old_done t b c)

-- ---- restated: "CF .. multiplied by 10", and with it every part. Mg and all else are as they were

abbrev pub restated_call : Call → Call
restated_call = on_cf restated_cf

abbrev pub restated_book : Book → Book
restated_book b = with_families b b.marks (map restated_part b.parts)

abbrev pub restated_answer : Answered → Answered
restated_answer (Err r) = Err r
restated_answer (Ok (Filed p n)) = Ok (Filed (record { 0 = restated_part p.0 }) n)
restated_answer (Ok (Closed n)) = Ok (Closed n)
restated_answer (Ok (Left m)) = Ok (Left m)
restated_answer (Ok (Covered m)) = Ok (Covered m)

-- ---- the promise

-- Two sessions of the same calls, each call handed the same table in both and put to the book that the one before left:
-- the old one, and the restated one.
-- At every point their books are the same, open year, marks, lots and shortages, and so is every answer, its refusal and
-- its Mg; only parts are ten times as large.
abbrev pub SideBySide : Book → Book → List Request → Type 0
SideBySide old new [] = new ≡ restated_book old
SideBySide old new (r ∷ rs) =
    (new ≡ restated_book old)
    × ((posted r.table new (restated_call r.call)).answer ≡ restated_answer (old_posted r.table old r.call).answer)
    × SideBySide (old_posted r.table old r.call).book (posted r.table new (restated_call r.call)).book rs

pub record SameSessions : Type 0 where
  pub fresh : (rs : List Request) → SideBySide fresh_book fresh_book rs
  -- from any book, sound or not, that is restated as its calls are
  pub any : (b : Book) (rs : List Request) → SideBySide b (restated_book b) rs
