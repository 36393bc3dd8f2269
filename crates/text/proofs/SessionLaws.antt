-- A terminal that takes an input byte by byte, in whatever chunks, answers the input's lines.
use Prim.Native.Nat.{ℕ, ◌≤◌}
use native.Mathlib.Omega.{arith}
use native.Mathlib.Decide.{dec_le}
use mathlib.Core.Bool.{Bool, true, false, cond}
use mathlib.Core.Path.{◌≡◌, refl, sym, ap, ◌∙◌}
use mathlib.Core.List.{List, [], ◌∷◌, ◌++◌, append-nil, append_assoc}
use lib.Dec.{eqb, ltb}
use lib.ListN.{length, take, length-append}
use lib.Seq.{take_all, take-append-le, length-take-le}
use borrow.Author.Tests.{lt-ltb, ne_eqb}
use Rattle.figuring.specs.Tables.{Table}
use Rattle.book.specs.declared.ledger.Book.{Book}
use Rattle.text.specs.Line.{line_at, line_of, longest_line}
use Rattle.text.specs.Answers.{answer_to, text_of}
use Rattle.text.specs.Desk.{Terminal, takes, takes_all, ends, answering, holding, terminal_if, most_held, line_feed}
use Rattle.text.specs.Lines.{lines_from, last_line, OneLine, Lines, answers_to, book_after_lines}
use Rattle.text.specs.Listing.{listing}
use Rattle.text.specs.Program.{terminal, opened, written, in_chunks, joined, AnyChunks}

pub takes_append :
    (t : Table) (x : Terminal) (a b : List ℕ) → takes_all t x (a ++ b) ≡ takes_all t (takes_all t x a) b
unfolding takes_all
takes_append t x [] b = refl
takes_append t x (c ∷ a) b = takes_append t (takes t x c) a b

-- ---- what is held of a line gets the line's answer
abbrev cut : List ℕ → List ℕ
cut l = take most_held l

cut_line : (l : List ℕ) → line_of (cut l) ≡ line_of l
unfolding line_of line_at
cut_line l = go (dec_le (length l) most_held)
  where
    go : Dec (length l ≤ most_held) → line_of (cut l) ≡ line_of l
    go (yes h) = ap line_of (take_all most_held l h)
    go (no h) =
        let m : length (cut l) ≡ most_held = length-take-le most_held l (omega arith) in
        rw (lt-ltb longest_line (length l) (omega arith), lt-ltb longest_line (length (cut l)) (omega arith))

cut_answer : (t : Table) (b : Book) (l : List ℕ) → answer_to t b (cut l) ≡ answer_to t b l
unfolding answer_to
cut_answer t b l = rw (cut_line l)

cut_more : (l : List ℕ) (b : ℕ) → cond (ltb (length (cut l)) most_held) (cut l ++ (b ∷ [])) (cut l) ≡ cut (l ++ (b ∷ []))
cut_more l b = go (dec_le (length l) longest_line)
  where
    go :
        Dec (length l ≤ longest_line) → cond (ltb (length (cut l)) most_held) (cut l ++ (b ∷ [])) (cut l)
        ≡ cut (l ++ (b ∷ []))
    go (yes h) =
        let a : length (l ++ (b ∷ [])) ≤ most_held = rw length-append (omega arith) in
        let c : cut l ≡ l = take_all most_held l (omega arith) in
        rw (c, lt-ltb (length l) most_held (omega arith), take_all most_held (l ++ (b ∷ [])) a)
    go (no h) =
        let m : length (cut l) ≡ most_held = length-take-le most_held l (omega arith) in
        rw (m, take-append-le most_held l (b ∷ []) (omega arith))

-- ---- a whole input
-- a terminal that had said `said` has answered some lines, with the table t and from the book b
pub record Came (x : Terminal) (t : Table) (b : Book) (said : List ℕ) (ls : List (List ℕ)) : Type 0 where
  pub book_is : x.book ≡ book_after_lines t b ls
  pub said_is : x.said ≡ said ++ answers_to t b ls

comes :
    (t : Table) (b : Book) (said l s : List ℕ)
    → Came (ends t (takes_all t (record { book = b; held = cut l; said = said }) s)) t b said (lines_from l s)
unfolding takes_all lines_from answers_to book_after_lines
comes t b said [] [] = record { book_is = refl; said_is = sym (append-nil said) }
comes t b said (c ∷ l) [] =
    rw (lt-ltb 0 (length (cut (c ∷ l))) (omega arith), cut_answer t b (c ∷ l)) (record {
      book_is = refl;
      said_is = rw (append-nil (text_of (answer_to t b (c ∷ l)).answer));
    })
comes t b said l (c ∷ s) =
    go (eqb c line_feed) (comes t (answer_to t b l).book (said ++ text_of (answer_to t b l).answer) [] s)
    (comes t b said (l ++ (c ∷ [])) s)
  where
    x : Terminal
    x = record { book = b; held = cut l; said = said }

    go :
        (e : Bool)
        → Came
        (ends t
        (takes_all t
        (record { book = (answer_to t b l).book; held = []; said = said ++ text_of (answer_to t b l).answer }) s))
        t (answer_to t b l).book (said ++ text_of (answer_to t b l).answer) (lines_from [] s)
        → Came (ends t (takes_all t (record { book = b; held = cut (l ++ (c ∷ [])); said = said }) s)) t b said
        (lines_from (l ++ (c ∷ [])) s)
        → Came (ends t (takes_all t (cond e (answering t x) (holding x c)) s)) t b said
        (cond e (l ∷ lines_from [] s) (lines_from (l ++ (c ∷ [])) s))
    go true p q =
        rw (cut_answer t b l)
        (record { book_is = p.book_is; said_is = p.said_is ∙ append_assoc said (text_of (answer_to t b l).answer) _ })
    go false p q = rw (cut_more l c) q

-- ---- what a line is
ended_from : (k l s : List ℕ) → OneLine l → lines_from k (l ++ line_feed ∷ s) ≡ (k ++ l) ∷ lines_from [] s
unfolding lines_from
ended_from k [] s h = rw (append-nil k)
ended_from k (x ∷ l) s h =
    rw (ne_eqb x line_feed h.0) (ended_from (k ++ (x ∷ [])) l s h.1
    ∙ ap (λ (m : List ℕ). m ∷ lines_from [] s) (append_assoc k (x ∷ []) l))

last_from : (k l : List ℕ) → OneLine l → lines_from k l ≡ last_line (k ++ l)
unfolding lines_from
last_from k [] h = rw (append-nil k)
last_from k (x ∷ l) h =
    rw (ne_eqb x line_feed h.0) (last_from (k ++ (x ∷ [])) l h.1 ∙ ap last_line (append_assoc k (x ∷ []) l))

pub lines : Lines
lines = record { ended = λ l s h. ended_from [] l s h; last = λ l h. last_from [] l h }

-- ---- the chunks
-- a terminal that had said something before
abbrev saying : List ℕ → Terminal → Terminal
saying a x = record { book = x.book; held = x.held; said = a ++ x.said }

module _ (t : Table) where
  saying_takes : (a : List ℕ) (x : Terminal) (c : ℕ) → takes t (saying a x) c ≡ saying a (takes t x c)
  saying_takes a x c = go (eqb c line_feed)
    where
      go :
          (e : Bool) → cond e (answering t (saying a x)) (holding (saying a x) c)
          ≡ saying a (cond e (answering t x) (holding x c))
      go true = rw (append_assoc a x.said (text_of (answer_to t x.book x.held).answer))
      go false = refl

  saying_all : (a : List ℕ) (x : Terminal) (s : List ℕ) → takes_all t (saying a x) s ≡ saying a (takes_all t x s)
  unfolding takes_all
  saying_all a x [] = refl
  saying_all a x (c ∷ s) = ap (λ (y : Terminal). takes_all t y s) (saying_takes a x c) ∙ saying_all a (takes t x c) s

  saying_ends : (a : List ℕ) (x : Terminal) → ends t (saying a x) ≡ saying a (ends t x)
  saying_ends a x = go (ltb 0 (length x.held))
    where
      go :
          (e : Bool) → terminal_if e (answering t (saying a x)) (saying a x)
          ≡ saying a (terminal_if e (answering t x) x)
      go true = rw (append_assoc a x.said (text_of (answer_to t x.book x.held).answer))
      go false = refl

  -- what is said, and then listed, at the end
  abbrev closing : Terminal → List ℕ
  closing x = (ends t x).said ++ listing (ends t x).book

  closing_said :
      (x : Terminal) (s : List ℕ) → closing (takes_all t x s) ≡ x.said ++ closing (takes_all t (written x) s)
  closing_said x s =
      let e : takes_all t x s ≡ saying x.said (takes_all t (written x) s) =
      ap (λ (l : List ℕ). takes_all t (record { book = x.book; held = x.held; said = l }) s)
      (sym (append-nil x.said)) ∙ saying_all x.said (written x) s in
      rw (e, saying_ends x.said (takes_all t (written x) s))
      (append_assoc x.said (ends t (takes_all t (written x) s)).said
      (listing (ends t (takes_all t (written x) s)).book))

  chunked : (x : Terminal) (cs : List (List ℕ)) → in_chunks t x cs ≡ closing (takes_all t x (joined cs))
  unfolding in_chunks joined takes_all
  chunked x [] = refl
  chunked x (c ∷ cs) =
      ap (λ (l : List ℕ). (takes_all t x c).said ++ l) (chunked (written (takes_all t x c)) cs)
      ∙ sym (closing_said (takes_all t x c) (joined cs))
      ∙ ap closing (sym (takes_append t x c (joined cs)))

pub any_chunks : AnyChunks
unfolding terminal
any_chunks t b cs =
    let w = comes t b [] [] (joined cs) in
    chunked t (opened b) cs ∙ rw (w.book_is, w.said_is)
