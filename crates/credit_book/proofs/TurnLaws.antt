-- Laws of the program's turns.
use Rattle.std.proofs.Common.{◌≡◌, ℕ, ◌+◌, ◌∷◌, [], ◌++◌, List, length, length-append, length-take-le, take, refl, ◌∙◌, zero-add, arith}
use Rattle.figuring.specs.Tables.{Table}
use Rattle.book.specs.declared.ledger.Book.{Book}
use Rattle.text.specs.Desk.{at_desk, open_desk, takes_all}
use Rattle.credit_book.specs.declared.progress.Progress.{Progress}
use Rattle.credit_book.specs.declared.console.Console.{Console}
use Rattle.credit_book.specs.declared.console.Input.{Input}
use Rattle.credit_book.specs.declared.console.Turn.{Turn}
use Rattle.credit_book.specs.Turns.{Turned, Reading, ReadBy, count, most_turns, progress}

-- what has been read so far, and how far that has come: the loop's invariant is this at `More`
pub record SoFar (t : Table) (b : Book) (c : Console) (turns : ℕ) (p : Progress) : Type 0 where
  pub table_is : c.table ≡ t
  pub chunks : List (List ℕ)
  pub reading : Reading t b chunks (at_desk c.desk) p
  pub counts : turns ≡ length chunks

pub none_yet : {c : Console} → c.desk ≡ open_desk c.desk.book → SoFar c.table c.desk.book c 0 Progress.More
none_yet e = record { table_is = refl; chunks = []; reading = rw e Reading.begun; counts = refl }

-- one turn more
pub next :
    {t : Table} {b : Book} {c c' : Console} {turns : ℕ} {p : Progress} {r : Turn}
    → SoFar t b c turns Progress.More → Turned c r c' → p ≡ progress r.read r.wrote.fine
    → SoFar t b c' (turns + 1) p
next {t} {b} {c} {r = r} g s e =
    let chunk = take (count r.read) s.buffer in
    let handed : r.wrote.handed ≡ length (takes_all t (at_desk c.desk) chunk).said =
    rw (← g.table_is) (s.delivered.stands.end_is ∙ zero-add _) in
    record {
      table_is = s.delivered.table_is ∙ g.table_is;
      chunks = g.chunks ++ (chunk ∷ []);
      reading =
          rw (e, s.delivered.desk_is, g.table_is)
          (Reading.turn chunk r.read r.wrote g.reading
          (length-take-le (count r.read) s.buffer (omega (arith, s.long, s.within))) s.within handed);
      counts = rw (length-append g.chunks (chunk ∷ [])) (omega (arith, g.counts));
    }

pub read_by :
    {t : Table} {b : Book} {c : Console} {turns : ℕ} {p : Progress} {r : Input}
    → SoFar t b c turns p → (p ≡ Progress.More → turns ≡ most_turns)
    → r ≡ record { desk = c.desk; turns = turns; progress = p } → ReadBy t b r
read_by g u e = rw e (record { chunks = g.chunks; reading = g.reading; counts = g.counts; used_up = u })

-- a turn after which no more is read
pub read_to :
    {t : Table} {b : Book} {c c' : Console} {turns : ℕ} {p : Progress} {r : Turn} {i : Input}
    → SoFar t b c turns Progress.More → Turned c r c' → p ≡ progress r.read r.wrote.fine
    → (p ≡ Progress.More → ⊥) → i ≡ record { desk = c'.desk; turns = turns + 1; progress = p } → ReadBy t b i
read_to g s e n i = read_by (next g s e) (λ m. absurd (n m)) i
