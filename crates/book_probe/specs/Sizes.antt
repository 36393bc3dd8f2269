-- How long a record and its answer are, and the buffer for the bytes after it, in bytes.
use Rattle.std.specs.Prelude.{ℕ, ◌+◌, ◌*◌}
use Rattle.figuring.specs.Grid.{grid_years, grid_columns}
use Rattle.book.specs.Sizes.{cells, all_parts, places}
use Rattle.text.specs.BookText.{book_room}

-- the open year, the marks, the parts, the lots and the shortages
abbrev pub book_bytes : ℕ
book_bytes = 8 * (1 + cells + all_parts + 2 * places)

-- a book, a call's kind and its twelve arguments, and the table that it is handed
abbrev pub record_bytes : ℕ
record_bytes = book_bytes + 8 * 13 + 8 * (grid_years * grid_columns)

-- soundness, the refusal and two values, and the book
abbrev pub answer_bytes : ℕ
answer_bytes = 8 * 4 + book_bytes

-- one byte more than any book's text has
abbrev pub text_bytes : ℕ
text_bytes = book_room + 1
