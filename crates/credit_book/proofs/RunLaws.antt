-- A run says the terminal's answer to its input, whatever the chunks that it was read in.
use Prim.Native.Nat.{ℕ}
use mathlib.Core.Path.{◌≡◌, refl, sym, ap, ◌∙◌}
use mathlib.Core.List.{List, [], ◌∷◌, ◌++◌, append_assoc}
use Rattle.figuring.specs.Tables.{Table}
use Rattle.book.specs.declared.ledger.Book.{Book}
use Rattle.std.specs.Prelude.{None, Some}
use Rattle.text.specs.Desk.{Terminal, at_desk, takes_all, ends}
use Rattle.text.specs.Listing.{listing}
use Rattle.text.specs.Program.{opened, written, joined, terminal, in_chunks}
use Rattle.text.proofs.SessionLaws.{any_chunks}
use Rattle.credit_book.specs.declared.progress.Progress.{Progress}
use Rattle.credit_book.specs.declared.console.Input.{Input}
use Rattle.credit_book.specs.declared.console.Closed.{Closed}
use Rattle.credit_book.specs.Turns.{ClosedBy, RanBy, ReadBy, Reading, said_to}

-- the terminal that took the chunks, each said and handed over
after : Table → Terminal → List (List ℕ) → Terminal
after t x [] = x
after t x (c ∷ cs) = after t (written (takes_all t x c)) cs

module _ (t : Table) where
  after_more :
      (x : Terminal) (cs : List (List ℕ)) (c : List ℕ)
      → after t x (cs ++ (c ∷ [])) ≡ written (takes_all t (after t x cs) c)
  unfolding after
  after_more x [] c = refl
  after_more x (d ∷ cs) c = after_more (written (takes_all t x d)) cs c

  taken :
      (b : Book) (chunks : List (List ℕ)) (x : Terminal) (p : Progress) → Reading t b chunks x p
      → x ≡ after t (opened b) chunks
  unfolding after
  taken b _ _ _ Reading.begun = refl
  taken b _ _ _ (Reading.turn {chunks} {x} chunk read wrote g e w h) =
      rw (after_more (opened b) chunks chunk, taken b chunks x _ g)

  in_turns :
      (x : Terminal) (cs : List (List ℕ)) → in_chunks t x cs ≡ said_to t x cs
      ++ ((ends t (after t x cs)).said ++ listing (ends t (after t x cs)).book)
  unfolding in_chunks said_to after
  in_turns x [] = refl
  in_turns x (c ∷ cs) =
      ap (λ (l : List ℕ). (takes_all t x c).said ++ l) (in_turns (written (takes_all t x c)) cs)
      ∙ sym (append_assoc (takes_all t x c).said (said_to t (written (takes_all t x c)) cs) _)

  whole_run :
      (b : Book) (chunks : List (List ℕ)) (x : Terminal) (p : Progress) → Reading t b chunks x p
      → said_to t (opened b) chunks ++ ((ends t x).said ++ listing (ends t x).book) ≡ terminal t b (joined chunks)
  whole_run b chunks x p g =
      rw (taken b chunks x p g) (sym (in_turns (opened b) chunks) ∙ any_chunks t b chunks)

  pub ran_to_end :
      (b : Book) (r : Input) (c : Closed)
      → ReadBy t b r → r.progress ≡ Progress.Ended → ClosedBy t (at_desk r.desk) c
      → RanBy t b (record { input = r; closed = Some c })
  ran_to_end b r c g e h =
      record { read = g; closes = λ _. h; unclosed = λ n. absurd (n e); whole = whole_run b _ _ _ g.reading }

  pub ran_short :
      (b : Book) (r : Input) → ReadBy t b r → (r.progress ≡ Progress.Ended → ⊥)
      → RanBy t b (record { input = r; closed = None })
  ran_short b r g n =
      record { read = g; closes = λ e. absurd (n e); unclosed = λ _. refl; whole = whole_run b _ _ _ g.reading }
