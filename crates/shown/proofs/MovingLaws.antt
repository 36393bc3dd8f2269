-- A new terminal that begins with the book that another left after some whole lines, and takes the rest.
use Prim.Native.Nat.{ℕ}
use mathlib.Core.Bool.{Bool, true, false, cond}
use mathlib.Core.List.{List, [], ◌∷◌, ◌++◌, append_assoc}
use mathlib.Core.Path.{◌≡◌, refl, sym, ◌∙◌, ap, ap₂}
use lib.Dec.{eqb}
use Rattle.figuring.specs.Tables.{Table}
use Rattle.book.specs.Refusals.{Answered}
use Rattle.book.specs.Rules.{Request, handed, posted, posted_to}
use Rattle.book.specs.Demand3 as D
use Rattle.book.specs.Demand3.{is_accepted}
use Rattle.book.specs.Companions.{keep_if, accepted_only}
use Rattle.book.specs.declared.ledger.Book.{Book}
use Rattle.book.specs.declared.kinds.Call.{Call}
use Rattle.std.specs.Prelude.{Option, Some, None}
use Rattle.std.specs.List.{cons_option}
use Rattle.std.proofs.lemmas.List.{map-append}
use Rattle.std.proofs.lemmas.List.Elements.{filter_map-append}
use Rattle.text.specs.Line.{line_of}
use Rattle.text.specs.Answers.{text_of, answer_to, posted_line}
use Rattle.text.specs.Desk.{line_feed}
use Rattle.text.specs.Lines.{lines_from, lines_of, book_after_lines}
use Rattle.text.specs.Listing.{listing}
use Rattle.text.specs.Program.{terminal}
use Rattle.shown.specs.Calls.{calls_of, requests, answers_of, dealt, in_turn, texts}
use Rattle.shown.specs.Calls.{calls, answers, postings, final_book}
use Rattle.shown.specs.Moving.{MovesOn}
use Rattle.shown.proofs.ShownLaws.{by_calls, demands, on_screen}

-- ---- lines
-- the first line has begun with l
whole_from :
    (l p q : List ℕ) → lines_from l (p ++ line_feed ∷ q) ≡ lines_from l (p ++ line_feed ∷ []) ++ lines_from [] q
unfolding lines_from
whole_from l [] q = refl
whole_from l (c ∷ p) q = go (eqb c line_feed) (whole_from [] p q) (whole_from (l ++ (c ∷ [])) p q)
  where
    go :
        (e : Bool) → lines_from [] (p ++ line_feed ∷ q) ≡ lines_from [] (p ++ line_feed ∷ []) ++ lines_from [] q
        → lines_from (l ++ (c ∷ [])) (p ++ line_feed ∷ q) ≡ lines_from (l ++ (c ∷ [])) (p ++ line_feed ∷ []) ++ lines_from [] q
        → cond e (l ∷ lines_from [] (p ++ line_feed ∷ q)) (lines_from (l ++ (c ∷ [])) (p ++ line_feed ∷ q))
        ≡ cond e (l ∷ lines_from [] (p ++ line_feed ∷ [])) (lines_from (l ++ (c ∷ [])) (p ++ line_feed ∷ [])) ++ lines_from [] q
    go true u v = ap (λ (ls : List (List ℕ)). l ∷ ls) u
    go false u v = v

-- a text that ends in a line feed, and what stands behind it
whole_lines :
    (p q : List ℕ) → lines_of ((p ++ line_feed ∷ []) ++ q) ≡ lines_of (p ++ line_feed ∷ []) ++ lines_of q
whole_lines p q = ap lines_of (append_assoc p (line_feed ∷ []) q) ∙ whole_from [] p q

lines_book :
    (t : Table) (b : Book) (ls ms : List (List ℕ))
    → book_after_lines t b (ls ++ ms) ≡ book_after_lines t (book_after_lines t b ls) ms
unfolding book_after_lines
lines_book t b [] ms = refl
lines_book t b (l ∷ ls) ms = lines_book t (answer_to t b l).book ls ms

-- ---- answers
lines_answers :
    (t : Table) (b : Book) (ls ms : List (List ℕ))
    → in_turn (ls ++ ms) (answers_of b (requests t (calls_of (ls ++ ms))))
    ≡ in_turn ls (answers_of b (requests t (calls_of ls)))
    ++ in_turn ms (answers_of (book_after_lines t b ls) (requests t (calls_of ms)))
unfolding book_after_lines answer_to answers_of in_turn
lines_answers t b [] ms = refl
lines_answers t b (l ∷ ls) ms = go (line_of l) (λ c. lines_answers t c ls ms)
  where
    go :
        (r : Option Call)
        → ((c : Book) → in_turn (ls ++ ms) (answers_of c (requests t (calls_of (ls ++ ms)))) ≡ in_turn ls (answers_of c (requests t (calls_of ls))) ++ in_turn ms (answers_of (book_after_lines t c ls) (requests t (calls_of ms))))
        → dealt r (answers_of b (requests t (cons_option r (calls_of (ls ++ ms))))) (in_turn (ls ++ ms))
        ≡ dealt r (answers_of b (requests t (cons_option r (calls_of ls)))) (in_turn ls)
        ++ in_turn ms (answers_of (book_after_lines t (posted_line t b r).book ls) (requests t (calls_of ms)))
    go None ih = rw (ih b)
    go (Some c) ih = rw (ih (posted t b c).book)

texts_append : (xs ys : List Answered) → texts (xs ++ ys) ≡ texts xs ++ texts ys
unfolding texts
texts_append [] ys = refl
texts_append (a ∷ xs) ys =
    ap (λ (l : List ℕ). text_of a ++ l) (texts_append xs ys) ∙ sym (append_assoc (text_of a) (texts xs) (texts ys))

-- ---- postings
lines_calls :
    (t : Table) (ls ms : List (List ℕ))
    → requests t (calls_of (ls ++ ms)) ≡ requests t (calls_of ls) ++ requests t (calls_of ms)
lines_calls t ls ms =
    ap (requests t) (filter_map-append line_of ls ms) ∙ map-append (handed t) (calls_of ls) (calls_of ms)

accepted_append :
    (b : Book) (xs ys : List Request)
    → accepted_only b (xs ++ ys) ≡ accepted_only b xs ++ accepted_only (D.book_after b xs) ys
unfolding accepted_only D.book_after
accepted_append b [] ys = refl
accepted_append b (x ∷ xs) ys = go (is_accepted (posted_to b x).answer) (accepted_append (posted_to b x).book xs ys)
  where
    next : Book
    next = (posted_to b x).book

    go :
        (e : Bool)
        → accepted_only next (xs ++ ys) ≡ accepted_only next xs ++ accepted_only (D.book_after next xs) ys
        → keep_if e x (accepted_only next (xs ++ ys)) ≡ keep_if e x (accepted_only next xs) ++ accepted_only (D.book_after next xs) ys
    go true ih = ap (λ (rs : List Request). x ∷ rs) ih
    go false ih = ih

-- ---- the two terminals
module _ (t : Table) (b : Book) (p q : List ℕ) where
  abbrev first : List ℕ
  first = p ++ line_feed ∷ []

  abbrev moved : Book
  moved = final_book t b first

  moved_answers : answers t b (first ++ q) ≡ answers t b first ++ answers t moved q
  moved_answers =
      ap (λ (ls : List (List ℕ)). in_turn ls (answers_of b (requests t (calls_of ls)))) (whole_lines p q)
      ∙ lines_answers t b (lines_of first) (lines_of q)

  moved_postings : postings t b (first ++ q) ≡ postings t b first ++ postings t moved q
  moved_postings =
      ap (λ (ls : List (List ℕ)). accepted_only b (requests t (calls_of ls))) (whole_lines p q)
      ∙ ap (accepted_only b) (lines_calls t (lines_of first) (lines_of q))
      ∙ accepted_append b (calls t first) (calls t q)
      ∙ ap (λ (c : Book). postings t b first ++ accepted_only c (calls t q)) (sym (by_calls t b first).book)

  moved_book : final_book t b (first ++ q) ≡ final_book t moved q
  moved_book = ap (book_after_lines t b) (whole_lines p q) ∙ lines_book t b (lines_of first) (lines_of q)

  moved_shows : terminal t b (first ++ q) ≡ texts (answers t b first) ++ terminal t moved q
  unfolding terminal
  moved_shows =
      ap₂ ◌++◌ ((by_calls t b (first ++ q)).answered ∙ ap texts moved_answers ∙ texts_append (answers t b first) (answers t moved q)) (ap listing moved_book)
      ∙ append_assoc (texts (answers t b first)) (texts (answers t moved q)) (listing (final_book t moved q))
      ∙ ap (λ (l : List ℕ). texts (answers t b first) ++ (l ++ listing (final_book t moved q))) (sym (by_calls t moved q).answered)

  pub moves_on : MovesOn t b first q
  moves_on =
      record {
        answered = moved_answers;
        posted = moved_postings;
        book = moved_book;
        shows = moved_shows;
        counts = λ z s.
            let d = demands t b first z s in
            sym (on_screen t moved q d.stays_sized d.stays_sound).listed ∙ ap listing (sym moved_book)
            ∙ (on_screen t b (first ++ q) z s).listed;
      }
