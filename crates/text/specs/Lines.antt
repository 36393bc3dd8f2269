-- The input's lines, each answered in order with one table and with the book that the one before left.
use Rattle.std.specs.Prelude.{ℕ, cond, ◌≡◌, List, [], ◌∷◌, ◌++◌, eqb}
use Rattle.figuring.specs.Tables.{Table}
use Rattle.book.specs.declared.ledger.Book.{Book}
use Rattle.text.specs.Answers.{answer_to, text_of}
use Rattle.text.specs.Desk.{line_feed}

-- "The last line may lack its line feed. The empty end after a last line feed is no line."
abbrev pub last_line : List ℕ → List (List ℕ)
last_line [] = []
last_line (b ∷ l) = (b ∷ l) ∷ []

-- the lines of a text, of which the first has begun with l
unfoldable pub lines_from : List ℕ → List ℕ → List (List ℕ)
lines_from l [] = last_line l
lines_from l (b ∷ s) = cond (eqb b line_feed) (l ∷ lines_from [] s) (lines_from (l ++ (b ∷ [])) s)

abbrev pub lines_of : List ℕ → List (List ℕ)
lines_of s = lines_from [] s

-- bytes without this one among them
abbrev pub Lacks : ℕ → List ℕ → Type 0
Lacks b [] = Unit {0}
Lacks b (c ∷ s) = (c ≡ b → ⊥) × Lacks b s

-- bytes with no line feed among them
abbrev pub OneLine : List ℕ → Type 0
OneLine s = Lacks line_feed s

-- what a line is: any bytes up to a line feed, or up to the end of the input if there are any
pub record Lines : Type 0 where
  pub ended : (l s : List ℕ) → OneLine l → lines_of (l ++ line_feed ∷ s) ≡ l ∷ lines_of s
  pub last : (l : List ℕ) → OneLine l → lines_of l ≡ last_line l

-- what some lines are answered
unfoldable pub answers_to : Table → Book → List (List ℕ) → List ℕ
answers_to t b [] = []
answers_to t b (l ∷ ls) = text_of (answer_to t b l).answer ++ answers_to t (answer_to t b l).book ls

-- the book after them
unfoldable pub book_after_lines : Table → Book → List (List ℕ) → Book
book_after_lines t b [] = b
book_after_lines t b (l ∷ ls) = book_after_lines t (answer_to t b l).book ls
