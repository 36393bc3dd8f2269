-- The program in all: what comes before a run, the run, and the book written out at its end.
use Rattle.std.specs.Prelude.{ℕ, List, Option, None, Some, Ok, Err}
use Rattle.book.specs.declared.answers.Refusal.{Refusal}
use Rattle.text.specs.Answers.{text_of}
use Rattle.text.specs.Placing.{Stands}
use Rattle.credit_book.specs.declared.Outcome.{Outcome}
use Rattle.credit_book.specs.declared.console.Wrote.{Wrote}
use Rattle.credit_book.specs.Turns.{RanBy}
use Rattle.credit_book.specs.Start.{PreparedBy, refusal_of, table_or_built_in}
use Rattle.credit_book.specs.Saving.{SavedBy}

-- `(no N)` alone where a text is refused, else nothing
abbrev pub AnsweredBy : Option Refusal → List ℕ → Option Wrote → List ℕ → Type 0
AnsweredBy (Some n) out (Some w) out' = Stands (text_of (Err n)) 0 out w.handed out'
AnsweredBy (Some n) out None out' = ⊥
AnsweredBy None out (Some w) out' = ⊥
AnsweredBy None out None out' = Unit {0}

-- out is the buffer that what is written comes from
abbrev pub ProgramBy : List ℕ → Outcome → List ℕ → Type 0
-- a run with one table of standards, begun on a book; then the book after it is written out
ProgramBy out (Outcome.Ran start ran saved) out' =
    PreparedBy (Some start.asked) (Ok start)
    × (RanBy (table_or_built_in start.table) start.book ran × SavedBy start.asked.write ran.closed saved)
-- no run: no read of standard input, and no book written out
ProgramBy out (Outcome.Halted asked halt answer) out' =
    PreparedBy asked (Err halt) × AnsweredBy (refusal_of halt) out answer out'
