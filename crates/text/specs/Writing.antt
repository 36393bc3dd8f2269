-- Card 8: "Writing returns the length and leaves the bytes after it", for any book and any buffer.
use Rattle.std.specs.Prelude.{ℕ, ◌+◌, ◌/◌, ◌%◌, Bool, cond, List, [], ◌∷◌, ◌++◌, ltb, ℤ, length, get_or, Result, Ok, Err}
use Rattle.std.proofs.lemmas.List.Edits.{sets as overwritten}
use Rattle.figuring.specs.Years.{first_year}
use Rattle.book.specs.Sizes.{sets, years}
use Rattle.book.specs.Ledger.{marked}
use Rattle.book.specs.Soundness.{sound}
use Rattle.book.specs.Refusals.{Verdict, Row, ◌⇒◌, first_refusal}
use Rattle.book.specs.Rules.{head_rows}
use Rattle.book.specs.declared.ledger.Book.{Book}
use Rattle.book.specs.declared.answers.Refusal.{Refusal}
use Rattle.book.specs.declared.answers.Refusal.TheVariants.{ShortBuffer}
use Rattle.text.specs.Pattern.{filled}
use Rattle.text.specs.declared.entries.Entry.{Entry}
use Rattle.text.specs.Entries.{entry_if, family_at}
use Rattle.text.specs.BookText.{entry_lines, book_text}

-- the refusals, over whether the book is sound, the text's length and the buffer's: "21, the lent buffer is shorter than
-- the text .. An unsound book gets 2, when written before 21"
unfoldable pub writing_rows : Bool → ℕ → ℕ → List Row
writing_rows is_sound text room = head_rows is_sound [] ++ (ltb room text ⇒ ShortBuffer) ∷ []

-- what a book and a buffer come to
unfoldable pub writing : Book → List ℕ → Verdict
writing b out = first_refusal (writing_rows (sound b) (length (book_text b)) (length out))

-- "Writing returns the length"
abbrev pub wrote_by : Verdict → List ℕ → Result ℕ Refusal
wrote_by (Ok u) text = Ok (length text)
wrote_by (Err r) text = Err r

-- the buffer then: the text at its start, and "the bytes after it" as they were; "Every refusal leaves the lent buffer as
-- it was"
abbrev pub buffer_by : Verdict → List ℕ → List ℕ → List ℕ
buffer_by (Ok u) text out = overwritten out 0 text
buffer_by (Err r) text out = out

abbrev pub wrote_of : Book → List ℕ → Result ℕ Refusal
wrote_of b out = wrote_by (writing b out) (book_text b)

abbrev pub buffer_after : Book → List ℕ → List ℕ
buffer_after b out = buffer_by (writing b out) (book_text b) out

-- ---- private to the writer: what is put for a place
unfoldable pub family_line : List ℕ → List ℤ → ℕ → List ℕ
family_line marks parts i = entry_lines (family_at marks parts i)

-- of a maker, a set and a family's number
abbrev pub family_if : ℕ → ℕ → ℕ → ℕ → ℤ → List Entry
family_if mark m s n part = entry_if (marked mark n) (Entry.Family m s n part)

-- of the lots or the shortages, by the pattern of their lines, line feed and all
unfoldable pub mg_line : List ℕ → List ℕ → ℕ → List ℕ
mg_line p figures i =
    let c = i / years in
    let mg = get_or figures i 0 in
    cond (ltb 0 mg) (filled p (c / sets ∷ c % sets ∷ (first_year + i % years) ∷ mg ∷ [])) []
