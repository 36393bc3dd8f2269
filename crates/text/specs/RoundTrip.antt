-- Card 8: "A sound book written and read is the same book, and an accepted text written again has the same bytes."
use Rattle.std.specs.Prelude.{ℕ, suc, ◌^◌, ◌<◌, ◌≤◌, true, false, cond, ◌⊎◌, List, ◌≡◌, length, get_or, take, pos, nat_abs}
use Rattle.book.specs.Sizes.{cells, all_parts}
use Rattle.book.specs.Soundness.{sound}
use Rattle.book.specs.Companions.{Sized}
use Rattle.book.specs.declared.ledger.Book.{Book}
use Rattle.book.specs.declared.answers.Refusal.{Refusal}
use Rattle.book.specs.declared.answers.Refusal.TheVariants.{UnsoundBook, NotABook}
use Rattle.text.specs.Loads.{accepted, refused}
use Rattle.text.specs.Entries.{filed_at}
use Rattle.text.specs.BookText.{book_text, book_room}
use Rattle.text.specs.BookReading.{book_digits, read_book}

-- every mark has 64 bits. Every book of the program has such marks by its type
abbrev pub Marks64 : Book → Type 0
Marks64 b = (c : ℕ) → c < cells → get_or b.marks c 0 < 2 ^ 64

-- every part is "zero where unmarked"
abbrev pub ZeroUnmarked : Book → Type 0
ZeroUnmarked b = (i : ℕ) → i < all_parts → filed_at b.marks i ≡ false → get_or b.parts i (pos 0) ≡ pos 0

-- a book that a text can say: with no part but of a filed family, and every figure of at most 18 digits
pub record Writable (b : Book) : Type 0 where
  pub sized : Sized b
  pub bits : Marks64 b
  pub unmarked : ZeroUnmarked b
  pub year : b.open_year < 10 ^ book_digits
  pub parts : (i : ℕ) → nat_abs (get_or b.parts i (pos 0)) < 10 ^ book_digits
  pub lots : (i : ℕ) → get_or b.lots i 0 < 10 ^ book_digits
  pub shortages : (i : ℕ) → get_or b.shortages i 0 < 10 ^ book_digits

-- what a book read in is: a list of calls may begin on it
pub record ReadSound (b : Book) : Type 0 where
  pub sized : Sized b
  pub bits : Marks64 b
  pub is_sound : sound b ≡ true

pub record RoundTrip : Type 0 where
  pub same_book : (b : Book) → Sized b → Marks64 b → sound b ≡ true → read_book (book_text b) ≡ accepted b
  pub same_bytes : (t : List ℕ) (b : Book) → read_book t ≡ accepted b → book_text b ≡ t
  pub read_sound : (t : List ℕ) (b : Book) → read_book t ≡ accepted b → ReadSound b

-- 22 is for exactly those texts that are no book's: a book's text is read as it, and then judged by its soundness
pub record Exact : Type 0 where
  pub each : (b : Book) → Writable b → read_book (book_text b) ≡ cond (sound b) (accepted b) (refused UnsoundBook)
  pub else_22 : (t : List ℕ) → ((b : Book) → Writable b → book_text b ≡ t → ⊥) → read_book t ≡ refused NotABook
  -- no text is refused but by 22 or 2
  pub refusals : (t : List ℕ) (r : Refusal) → read_book t ≡ refused r → (r ≡ NotABook) ⊎ (r ≡ UnsoundBook)

-- how much room a text needs, written or read
pub record Room : Type 0 where
  -- any book, sound or not
  pub longest : (b : Book) → length (book_text b) ≤ book_room
  -- so the length of a longer text alone decides
  pub longer : (t : List ℕ) → book_room < length t → read_book t ≡ refused NotABook
  -- and whatever a text's length, its first bytes do: those past them cannot change what it is read as
  pub first_bytes : (t : List ℕ) → read_book (take (suc book_room) t) ≡ read_book t
