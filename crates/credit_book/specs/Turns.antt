-- What the program's functions hold to. No contract can say what a call of the system read or wrote; these say it of
-- values: what a read answered, how many bytes standard output was handed, and what stood in the buffer they came from.
-- t is the table of standards, one for the whole run, b the book that it begins with, x a terminal, and p and q are the
-- console before and after.
use Rattle.std.specs.Prelude.{ℕ, zero, suc, ◌≤◌, Bool, true, false, ◌≡◌, ◌≢◌, List, [], ◌∷◌, ◌++◌, length, take, None, Result, Ok, Err, IsSomeAnd}
use Rattle.std.specs.Result.{result_unwrap_or}
use Rattle.std.specs.IoError.{error_kind}
use Rattle.std.specs.declared.io.Error.{Error}
use Rattle.std.specs.declared.io.ErrorKind.{ErrorKind}
use Rattle.figuring.specs.Tables.{Table}
use Rattle.book.specs.declared.ledger.Book.{Book}
use Rattle.text.specs.Desk.{Terminal, at_desk, takes_all, ends}
use Rattle.text.specs.Listing.{listing}
use Rattle.text.specs.Placing.{Stands}
use Rattle.text.specs.Program.{opened, written, joined, terminal}
use Rattle.credit_book.specs.declared.progress.Lapse.{Lapse}
use Rattle.credit_book.specs.declared.progress.Progress.{Progress}
use Rattle.credit_book.specs.declared.console.Console.{Console}
use Rattle.credit_book.specs.declared.console.Wrote.{Wrote}
use Rattle.credit_book.specs.declared.console.Turn.{Turn}
use Rattle.credit_book.specs.declared.console.Input.{Input}
use Rattle.credit_book.specs.declared.console.Closed.{Closed}
use Rattle.credit_book.specs.declared.console.Ran.{Ran}

-- the most bytes of a read, and room for the answers to them
abbrev pub chunk_room : ℕ
chunk_room = 4096

abbrev pub out_room : ℕ
out_room = 262144

-- the turns that a reading may take
abbrev pub most_turns : ℕ
most_turns = 18446744073709551615

-- a console after what the terminal x said was written: it stands at the buffer's start, and all of it was handed over
pub record Delivered (x : Terminal) (p : Console) (wrote : Wrote) (q : Console) : Type 0 where
  pub desk_is : at_desk q.desk ≡ written x
  pub table_is : q.table ≡ p.table
  pub stands : Stands x.said 0 p.out.now wrote.handed q.out.now

-- why a read gave no bytes, by its error's kind: an interrupted one is no failure
abbrev pub LapseBy : Error → Lapse → Type 0
LapseBy why Lapse.Interrupted = error_kind why ≡ ErrorKind.Interrupted
LapseBy why Lapse.Failed = error_kind why ≢ ErrorKind.Interrupted

-- how many bytes a read gave: none where it failed
abbrev pub count : Result ℕ Lapse → ℕ
count read = result_unwrap_or read 0

-- how far a reading has come after a read, and a write that was fine or not: only a read that answers 0 is the end of the
-- input, and an interrupted read is no failure
abbrev pub progress : Result ℕ Lapse → Bool → Progress
progress read false = Progress.Failed
progress (Ok zero) true = Progress.Ended
progress (Ok (suc n)) true = Progress.More
progress (Err Lapse.Interrupted) true = Progress.More
progress (Err Lapse.Failed) true = Progress.Failed

-- a turn: there is a buffer, in the code the one that the read was lent, whose first bytes the desk took, as many as the
-- read gave; all that it said is written
pub record Turned (p : Console) (r : Turn) (q : Console) : Type 0 where
  pub buffer : List ℕ
  pub long : length buffer ≡ chunk_room
  pub within : count r.read ≤ chunk_room
  pub delivered : Delivered (takes_all p.table (at_desk p.desk) (take (count r.read) buffer)) p r.wrote q

-- the chunks that were read, the terminal that took them, and how far the reading has come: in each turn all that the
-- terminal said was handed over, and each turn but the last left more to read
pub data Reading (t : Table) (b : Book) : List (List ℕ) → Terminal → Progress → Type 0 where
  begun : Reading t b [] (opened b) Progress.More
  turn :
      {chunks : List (List ℕ)} {x : Terminal} (chunk : List ℕ) (read : Result ℕ Lapse) (wrote : Wrote)
      → Reading t b chunks x Progress.More
      → length chunk ≡ count read
      → count read ≤ chunk_room
      → wrote.handed ≡ length (takes_all t x chunk).said
      → Reading t b (chunks ++ (chunk ∷ [])) (written (takes_all t x chunk)) (progress read wrote.fine)

-- the input is read to its end, to a failure, or until the turns are used up
pub record ReadBy (t : Table) (b : Book) (r : Input) : Type 0 where
  pub chunks : List (List ℕ)
  pub reading : Reading t b chunks (at_desk r.desk) r.progress
  pub counts : r.turns ≡ length chunks
  pub used_up : r.progress ≡ Progress.More → r.turns ≡ most_turns

-- the end of the input: all of the last line's answer, then, if that was fine, all of the listing of the book after it
pub record ClosedBy (t : Table) (x : Terminal) (r : Closed) : Type 0 where
  pub handed_is : r.last.handed ≡ length (ends t x).said
  pub listed_is :
      r.last.fine ≡ true → IsSomeAnd r.listed (λ (w : Wrote). w.handed ≡ length (listing (ends t x).book))
  pub unlisted : r.last.fine ≡ false → r.listed ≡ None
  -- the book after the last line
  pub book_is : r.book ≡ (ends t x).book

-- what the terminal x says to the chunks, turn by turn
unfoldable pub said_to : Table → Terminal → List (List ℕ) → List ℕ
said_to t x [] = []
said_to t x (c ∷ cs) = (takes_all t x c).said ++ said_to t (written (takes_all t x c)) cs

-- a run: the input, and what is written at its end, if it came to it and nothing failed
pub record RanBy (t : Table) (b : Book) (r : Ran) : Type 0 where
  pub read : ReadBy t b r.input
  pub closes : r.input.progress ≡ Progress.Ended → IsSomeAnd r.closed (ClosedBy t (at_desk r.input.desk))
  pub unclosed : r.input.progress ≢ Progress.Ended → r.closed ≡ None
  -- what the turns, the last line and the listing say is together the terminal's answer to the bytes that were read
  pub whole :
      said_to t (opened b) read.chunks
      ++ ((ends t (at_desk r.input.desk)).said ++ listing (ends t (at_desk r.input.desk)).book)
      ≡ terminal t b (joined read.chunks)
