-- Laws of a whole session on one page: the three texts in a row, and the room that each finds.
use Prim.Native.Nat.{ℕ, ◌≤◌}
use native.Mathlib.Omega.{arith}
use mathlib.Core.Path.{◌≡◌, ap, subst, ◌∙◌}
use mathlib.Core.List.{List, [], ◌∷◌, ◌++◌, append-nil}
use lib.ListN.{length, length-append}
use Rattle.figuring.specs.Tables.{Table}
use Rattle.book.specs.declared.ledger.Book.{Book}
use Rattle.text.specs.declared.desk.Desk.{Desk}
use Rattle.text.specs.declared.page.Page.{Page}
use Rattle.text.specs.Placing.{HasRoom, Adds}
use Rattle.text.specs.Answers.{answer_room}
use Rattle.text.specs.Desk.{Terminal, ServedBy, takes_all, ends, at_desk, open_desk}
use Rattle.text.specs.Listing.{listing, listing_room}
use Rattle.text.specs.Program.{terminal, opened, written, in_chunks, joined, session_room}
use Rattle.text.proofs.DeskLaws.{said_length, ends_length}
use Rattle.text.proofs.ListingLaws.{listing_length}
use Rattle.text.proofs.SessionLaws.{any_chunks}
use Rattle.text.proofs.StoreLaws.{adds_then, adds_text, after_adds}

-- ---- the input in one chunk
module _ (t : Table) (b : Book) (input : List ℕ) where
  -- the terminal that has taken it
  abbrev taken : Terminal
  taken = takes_all t (opened b) input

  one_chunk :
      taken.said ++ ((ends t (written taken)).said ++ listing (ends t (written taken)).book) ≡ terminal t b input
  unfolding in_chunks joined
  one_chunk = any_chunks t b (input ∷ []) ∙ ap (terminal t b) (append-nil input)

  module _ {d d₁ : Desk} {p p₁ : Page} (room : HasRoom (session_room (length input)) p) (begun : d ≡ open_desk b)
      (served : ServedBy (takes_all t (at_desk d) input) d₁ p p₁)
    where
      answers : ServedBy taken d₁ p p₁
      answers = rw begun at served

      pub last_room : HasRoom answer_room p₁
      last_room = omega (arith, after_adds answers.adds, said_length t (opened b) input)

      left : at_desk d₁ ≡ written taken
      left = rw (answers.book_is, answers.held_is)

      module _ {d₂ : Desk} {p₂ : Page} (ended : ServedBy (ends t (at_desk d₁)) d₂ p₁ p₂) where
        pub cells_room : HasRoom listing_room p₂
        cells_room =
            omega (
              arith,
              after_adds answers.adds,
              said_length t (opened b) input,
              after_adds ended.adds,
              ends_length t (at_desk d₁),
            )

        pub whole : {p₃ : Page} → Adds (listing d₂.book) p₂ p₃ → Adds (terminal t b input) p p₃
        whole h =
            let e : ServedBy (ends t (written taken)) d₂ p₁ p₂ =
            subst (λ (x : Terminal). ServedBy (ends t x) d₂ p₁ p₂) left ended in
            adds_text one_chunk
            (adds_then answers.adds (adds_then e.adds (adds_text (ap listing e.book_is) h)))

  -- what is put in all fits
  pub terminal_length : length (terminal t b input) ≤ session_room (length input)
  terminal_length =
      rw (← one_chunk)
      (simp length-append
      (omega (
        arith,
        said_length t (opened b) input,
        ends_length t (written taken),
        listing_length (ends t (written taken)).book,
      )))
