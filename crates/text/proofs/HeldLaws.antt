-- Laws of what is held of a line: a run of its bytes held at once, and a chunk's first line feed.
use Rattle.std.specs.Prelude.{Option, Some, None, fold, min}
use Rattle.std.specs.Borrow.{Bor}
use Rattle.std.proofs.Math.Nat.{min_comm, min-le_left, min-le_right}
use Rattle.std.proofs.lemmas.List.{take_min}
use Rattle.std.proofs.lemmas.Slice.{take-put_mid}
use Prim.Native.Nat.{ℕ, zero, suc, ◌+◌, ◌-◌, ◌≤◌}
use native.Mathlib.Omega.{arith}
use mathlib.Core.Path.{◌≡◌, refl, sym, ap, ◌∙◌}
use mathlib.Core.List.{List, [], ◌∷◌, ◌++◌, append_assoc, append-nil}
use lib.ListN.{length, take, length-append}
use lib.Seq.{length-take-le}
use borrow.Rule.Slice.PartMut.{put_mid}
use borrow.Author.Tests.{lt-ltb, le-ltb, ne_eqb}
use Rattle.figuring.specs.Tables.{Table}
use Rattle.book.specs.declared.ledger.Book.{Book}
use Rattle.book.specs.declared.kinds.Call.{Call}
use Rattle.text.specs.declared.held.Held.{Held}
use Rattle.text.specs.Held.{held_in}
use Rattle.text.specs.Line.{line_of}
use Rattle.text.specs.Answers.{answer_to}
use Rattle.text.specs.Desk.{Terminal, takes_all, held_with, most_held, line_feed}
use Rattle.text.specs.Lines.{Lacks, OneLine}
use Rattle.text.specs.Serving.{NextLine}
use Rattle.text.specs.FirstLine.{Parted}
use Rattle.text.proofs.SessionLaws.{takes_append}

-- a terminal in the midst of a chunk
abbrev pub midst : Book → List ℕ → List ℕ → Terminal
midst b held said = record { book = b; held = held; said = said }

-- ---- a line's bytes, held at once
-- of a run of bytes as many are held as there is room for
held_run :
    (held more : List ℕ) (k : ℕ) → k ≡ min (most_held - length held) (length more)
    → fold held_with held more ≡ held ++ take k more
held_run held [] zero e = sym (append-nil held)
held_run held [] (suc k) e = absurd (omega arith)
held_run held (b ∷ s) zero e = rw (le-ltb (length held) most_held (omega arith)) (held_run held s zero (omega arith))
held_run held (b ∷ s) (suc k) e =
    rw (lt-ltb (length held) most_held (omega arith))
    (held_run (held ++ (b ∷ [])) s k (rw length-append (omega arith)) ∙ append_assoc held (b ∷ []) (take k s))

-- of a line's first bytes as many as there is room for
pub first_held : (line : List ℕ) → fold held_with [] line ≡ take most_held line
first_held line = held_run [] line (min most_held (length line)) refl ∙ take_min most_held line

-- however long it is said to be, no more bytes are held than there are
pub within : (h : Held) → length h.bytes ≡ most_held → take (min h.len most_held) h.bytes ≡ held_in h
within h l = rw (← l) (take_min h.len h.bytes)

-- bytes copied behind those that are held, as many as there is room for
module _ (h : Held) (long : length h.bytes ≡ most_held) (more part : List ℕ) (start n : ℕ)
    (start_is : start ≡ min h.len most_held) (n_is : n ≡ min (length more) (most_held - start)) (part_is : part ≡ take n more) where
  part_long : length part ≡ n
  part_long = rw part_is (length-take-le n more (omega (arith, n_is, min-le_left (length more) (most_held - start))))

  inside : start ≤ length h.bytes
  inside = omega (arith, long, start_is, min-le_right h.len most_held)

  before : take start h.bytes ≡ held_in h
  before = rw start_is (within h long)

  before_long : length (held_in h) ≡ start
  before_long = ap length (sym before) ∙ length-take-le start h.bytes inside

  pub held_more : take (start + n) (put_mid start (start + n - start) h.bytes part) ≡ fold held_with (held_in h) more
  held_more =
      take-put_mid start (start + n - start) h.bytes part (start + n) (omega (arith, part_long)) inside
      ∙ rw (before, part_is)
      (sym (held_run (held_in h) more n (n_is ∙ min_comm (length more) (most_held - start) ∙ rw before_long refl)))

-- so a terminal takes a run with no line feed in it
run_taken :
    (t : Table) (b : Book) (said held l : List ℕ) → OneLine l
    → takes_all t (midst b held said) l ≡ midst b (fold held_with held l) said
unfolding takes_all
run_taken t b said held [] h = refl
run_taken t b said held (c ∷ l) h = rw (ne_eqb c line_feed h.0) (run_taken t b said (held_with held c) l h.1)

-- ---- a chunk at its first line feed
module _ {held chunk : List ℕ} where
  pub line_ends :
      {line : Option Call} {before : List ℕ} {rest : Bor (List ℕ)} → Parted line_feed chunk before rest.now
      → line ≡ line_of (fold held_with held before) → NextLine held chunk (Some (line, rest)) []
  unfolding takes_all answer_to
  line_ends {line} {before} {rest} p is =
      record {
        goes =
            λ t b said. ap (takes_all t (midst b held said)) p.parts
            ∙ (takes_append t (midst b held said) before (line_feed ∷ rest.now)
            ∙ rw (run_taken t b said held before p.lacks, is));
        shorter = rw (p.parts, length-append) (omega arith);
      }

  pub chunk_ends : Lacks line_feed chunk → NextLine held chunk None (fold held_with held chunk)
  chunk_ends h = record { goes = λ t b said. run_taken t b said held chunk h; shorter = tt }
