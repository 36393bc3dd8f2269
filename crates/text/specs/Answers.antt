-- Document 01: "answers each line with `(ok ..)` with the results in the order above or `(no N)`".
use Rattle.std.specs.Prelude.{ℕ, zero, suc, ◌≡◌, List, [], ◌∷◌, ◌++◌, ℤ, pos, negsuc, Option, Some, None}
use Rattle.book.specs.declared.ledger.Book.{Book}
use Rattle.book.specs.declared.kinds.Call.{Call}
use Rattle.book.specs.declared.answers.Posted.{Posted}
use Rattle.book.specs.declared.answers.Refusal.{Refusal}
use Rattle.book.specs.Refusals.{Answered, refusal_in, values_in}
use Rattle.figuring.specs.Tables.{Table}
use Rattle.book.specs.Rules.{posted, refused_with}
use Rattle.text.specs.Ascii.{ascii}
use Rattle.text.specs.Numeral.{numeral}
use Rattle.text.specs.Line.{line_of}
use Rattle.text.specs.Rendered.{IsText, NoText}

-- no answer's line is longer
abbrev pub answer_room : ℕ
answer_room = 64

-- a signed number, a negative one with its minus
abbrev pub signed : ℤ → List ℕ
signed (pos n) = numeral n
signed (negsuc n) = ascii "-" ++ numeral (suc n)

-- each value after a space, and then the end
abbrev pub spaced : List ℤ → List ℕ → List ℕ
spaced [] end = end
spaced (v ∷ vs) end = ascii " " ++ (signed v ++ spaced vs end)

-- a line by a refusal's number, 0 where there is none, and by values in the paper's order
abbrev pub said_for : ℕ → List ℤ → List ℕ
said_for zero vs = ascii "(ok" ++ spaced vs (ascii ")\n")
said_for (suc n) vs = ascii "(no " ++ (numeral (suc n) ++ ascii ")\n")

-- an answer's line: the book layer says which number and which values a case has
unfoldable pub text_of : Answered → List ℕ
text_of a = said_for (refusal_in a) (values_in a)

-- what a line gives that is read so, with a table of standards: the book layer's outcome; or refusal 1, "the line isn't
-- one of the forms", and the book unchanged
abbrev pub posted_line : Table → Book → Option Call → Posted
posted_line t b None = refused_with b Refusal.NotAForm
posted_line t b (Some c) = posted t b c

-- a line answered with a table and a book: its answer, and the book after it, for any bytes, any table and any book
unfoldable pub answer_to : Table → Book → List ℕ → Posted
answer_to t b s = posted_line t b (line_of s)

-- by the rendering of calls alone
pub record ByText : Type 0 where
  pub form : (t : Table) (b : Book) (s : List ℕ) (c : Call) → IsText s c → answer_to t b s ≡ posted t b c
  pub no_form : (t : Table) (b : Book) (s : List ℕ) → NoText s → answer_to t b s ≡ refused_with b Refusal.NotAForm
