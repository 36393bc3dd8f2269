-- A file that is read into a lent buffer: what the functions that read it hold to. They say it of values, as in Turns: what
-- each read answered, and what stood in the buffer.
use Rattle.std.specs.Prelude.{ℕ, ◌-◌, ◌≤◌, true, cond, ◌≡◌, ◌⊎◌, List, [], ◌∷◌, ◌++◌, ltb, length, take, Result, Ok, Err}
use Rattle.text.specs.Loads.{Read, accepted, refused}
use Rattle.text.specs.Program.{joined}
use Rattle.credit_book.specs.declared.files.TextRead.{TextRead}
use Rattle.credit_book.specs.declared.files.Unusable.{Unusable}
use Rattle.credit_book.specs.declared.progress.Lapse.{Lapse}
use Rattle.credit_book.specs.declared.progress.Progress.{Progress}
use Rattle.credit_book.specs.Turns.{count, most_turns, progress}

-- one read into a buffer from at on: what stood before that place stands there still, and there is room for as many bytes
-- as the read gave
pub record AddedBy (at : ℕ) (text : List ℕ) (read : Result ℕ Lapse) (text' : List ℕ) : Type 0 where
  pub before : take at text' ≡ take at text
  pub within : count read ≤ length text - at

-- with len bytes in a buffer of `room` bytes: a full one is an end too
abbrev pub unless_full : ℕ → ℕ → Progress → Progress
unless_full room len Progress.More = cond (ltb len room) Progress.More Progress.Ended
unless_full room len Progress.Ended = Progress.Ended
unless_full room len Progress.Failed = Progress.Failed

-- the pieces that were read, and how far the reading has come: each piece is as many bytes as its read gave, within the
-- room that was left, and each read but the last left more to read. So the last is one that answered 0, that filled the
-- buffer, or that failed
pub data Pieces (room : ℕ) : List (List ℕ) → Progress → Type 0 where
  begun : Pieces room [] Progress.More
  piece :
      {pieces : List (List ℕ)} (bytes : List ℕ) (read : Result ℕ Lapse)
      → Pieces room pieces Progress.More
      → length bytes ≡ count read
      → count read ≤ room - length (joined pieces)
      → Pieces room (pieces ++ (bytes ∷ []))
      (unless_full room (length (joined (pieces ++ (bytes ∷ [])))) (progress read true))

-- a file that was read to its end, or until the buffer was full: its first len bytes are the pieces, one after the other
pub record ReadWhole (r : TextRead) (text : List ℕ) : Type 0 where
  pub pieces : List (List ℕ)
  pub reading : Pieces (length text) pieces Progress.Ended
  pub len_is : r.len ≡ length (joined pieces)
  pub bytes_are : take r.len text ≡ joined pieces
  pub counts : r.turns ≡ length pieces

-- a file was not read to its end: a read failed, or the turns were used up
pub record Broken (room : ℕ) : Type 0 where
  pub pieces : List (List ℕ)
  pub reading : Pieces room pieces Progress.Failed ⊎ (Pieces room pieces Progress.More × (length pieces ≡ most_turns))

-- and of such a one the buffer's first bytes are the pieces still
pub record Torn (r : TextRead) (text : List ℕ) : Type 0 where
  pub broken : Broken (length text)
  pub len_is : r.len ≡ length (joined broken.pieces)
  pub bytes_are : take r.len text ≡ joined broken.pieces
  pub counts : r.turns ≡ length broken.pieces

-- the reading of a file
abbrev pub TextReadBy : Result TextRead TextRead → List ℕ → Type 0
TextReadBy (Ok r) text = ReadWhole r text
TextReadBy (Err r) text = Torn r text

-- a file was read to its end, or until `room` bytes were read, nothing failed, and by f its text comes to v
pub record ComesTo {A : Type 0} (room : ℕ) (f : List ℕ → A) (v : A) : Type 0 where
  pub pieces : List (List ℕ)
  pub reading : Pieces room pieces Progress.Ended
  pub verdict : f (joined pieces) ≡ v
  -- what lies past the buffer cannot change it: v is what any text comes to that has these first bytes, whatever its size
  pub any_text : (s : List ℕ) → take room s ≡ joined pieces → f s ≡ v

-- what became of a file that was opened, of which `room` bytes are read, and f reads a text
abbrev pub FileGives : {A : Type 0} → ℕ → (List ℕ → Read A) → Result A Unusable → Type 0
FileGives room f (Ok a) = ComesTo room f (accepted a)
FileGives room f (Err (Unusable.Refused n)) = ComesTo room f (refused n)
FileGives room f (Err Unusable.Unreadable) = Broken room
