-- The journal's lines are the texts of the accepted calls.
use Prim.Native.Nat.{ℕ, zero, suc}
use native.Mathlib.Omega.{arith}
use mathlib.Core.Bool.{Bool, true, false, cond}
use mathlib.Core.List.{List, [], ◌∷◌, ◌++◌, map, append_assoc}
use mathlib.Core.Path.{◌≡◌, refl, sym, ◌∙◌, ap, ap₂, subst}
use borrow.Author.Tests.{eqb-false}
use lib.Dec.{eqb}
use lib.ListN.{take}
use Rattle.figuring.specs.Tables.{Table}
use Rattle.book.specs.Rules.{Request, handed, posted_to}
use Rattle.book.specs.Demand3.{is_accepted}
use Rattle.book.specs.Companions.{keep_if, accepted_only}
use Rattle.book.specs.declared.ledger.Book.{Book}
use Rattle.book.specs.declared.kinds.Call.{Call}
use Rattle.book.proofs.RefusalLaws.{demand1}
use Rattle.std.specs.Prelude.{Option, Some, None}
use Rattle.std.specs.List.{cons_option}
use Rattle.text.specs.Line.{line_of}
use Rattle.text.specs.Desk.{line_feed}
use Rattle.text.specs.Lines.{lines_from, lines_of, OneLine}
use Rattle.text.specs.Rendered.{rendered}
use Rattle.text.proofs.FormLaws.{reads}
use Rattle.text.proofs.SessionLaws.{lines}
use Rattle.shown.specs.Calls.{calls_of, requests, answers_of, in_turn}
use Rattle.shown.specs.Journal.{journal_of}
use Rattle.shown.specs.Shown.{Every, Accepts}

-- ---- no line has a line feed in it
one_more : (l : List ℕ) (x : ℕ) → OneLine l → (x ≡ line_feed → ⊥) → OneLine (l ++ (x ∷ []))
one_more [] x h n = (n, tt)
one_more (y ∷ l) x h n = (h.0, one_more l x h.1 n)

one_lines : (l s : List ℕ) → OneLine l → Every OneLine (lines_from l s)
unfolding lines_from
one_lines [] [] h = tt
one_lines (x ∷ l) [] h = (h, tt)
one_lines l (x ∷ s) h =
    go (eqb x line_feed) refl (one_lines [] s tt) (λ n. one_lines (l ++ (x ∷ [])) s (one_more l x h n))
  where
    go :
        (e : Bool) → eqb x line_feed ≡ e → Every OneLine (lines_from [] s)
        → ((x ≡ line_feed → ⊥) → Every OneLine (lines_from (l ++ (x ∷ [])) s))
        → Every OneLine (cond e (l ∷ lines_from [] s) (lines_from (l ++ (x ∷ [])) s))
    go true e p q = (h, p)
    go false e p q = q (eqb-false x line_feed e)

-- ---- calls that were read from lines, with the table t: each is read again from its own text
pub record Line·of (t : Table) (r : Request) : Type 0 where
  pub reads_as : line_of (rendered r.call) ≡ Some r.call
  pub one : OneLine (rendered r.call)
  pub hands : handed t r.call ≡ r

abbrev pub Written : Table → List Request → Type 0
Written t rs = Every (Line·of t) rs

written_lines : (t : Table) (ls : List (List ℕ)) → Every OneLine ls → Written t (requests t (calls_of ls))
written_lines t [] h = tt
written_lines t (l ∷ ls) h = go (line_of l) refl (written_lines t ls h.1)
  where
    go :
        (r : Option Call) → line_of l ≡ r → Written t (requests t (calls_of ls)) → Written t (requests t (cons_option r (calls_of ls)))
    go None e w = w
    go (Some c) e w =
        let d : l ≡ rendered c = (reads.only l c e).text in
        (record { reads_as = ap line_of (sym d) ∙ e; one = subst OneLine d h.0; hands = refl }, w)

pub written_calls : (t : Table) (input : List ℕ) → Written t (requests t (calls_of (lines_of input)))
written_calls t input = written_lines t (lines_of input) (one_lines [] input tt)

pub written_kept : (t : Table) (b : Book) (rs : List Request) → Written t rs → Written t (accepted_only b rs)
unfolding accepted_only
written_kept t b [] w = tt
written_kept t b (r ∷ rs) w = go (is_accepted (posted_to b r).answer) (written_kept t (posted_to b r).book rs w.1)
  where
    go :
        (e : Bool) → Written t (accepted_only (posted_to b r).book rs)
        → Written t (keep_if e r (accepted_only (posted_to b r).book rs))
    go true v = (w.0, v)
    go false v = v

-- ---- the journal read back
abbrev line_for : Request → List ℕ
line_for r = rendered r.call

journal_lines : (t : Table) (rs : List Request) → Written t rs → lines_of (journal_of rs) ≡ map line_for rs
unfolding journal_of lines_from
journal_lines t [] w = refl
journal_lines t (r ∷ rs) w =
    lines.ended (line_for r) (journal_of rs) w.0.one
    ∙ ap (λ (ls : List (List ℕ)). line_for r ∷ ls) (journal_lines t rs w.1)

texts_read : (t : Table) (rs : List Request) → Written t rs → requests t (calls_of (map line_for rs)) ≡ rs
texts_read t [] w = refl
texts_read t (r ∷ rs) w = rw w.0.reads_as (ap₂ ◌∷◌ w.0.hands (texts_read t rs w.1))

pub journal_read : (t : Table) (rs : List Request) → Written t rs → requests t (calls_of (lines_of (journal_of rs))) ≡ rs
journal_read t rs w = ap (λ (ls : List (List ℕ)). requests t (calls_of ls)) (journal_lines t rs w) ∙ texts_read t rs w

-- ---- the accepted calls put to the book again are accepted again
pub accepted_again : (b : Book) (rs : List Request) → accepted_only b (accepted_only b rs) ≡ accepted_only b rs
unfolding accepted_only
accepted_again b [] = refl
accepted_again b (r ∷ rs) = go (is_accepted (posted_to b r).answer) refl (accepted_again (posted_to b r).book rs)
  where
    go :
        (t : Bool) → is_accepted (posted_to b r).answer ≡ t
        → accepted_only (posted_to b r).book (accepted_only (posted_to b r).book rs) ≡ accepted_only (posted_to b r).book rs
        → accepted_only b (keep_if t r (accepted_only (posted_to b r).book rs))
        ≡ keep_if t r (accepted_only (posted_to b r).book rs)
    go true e ih = rw e (ap (λ (qs : List Request). r ∷ qs) ih)
    go false e ih =
        subst (λ (d : Book). accepted_only d (accepted_only (posted_to b r).book rs) ≡ accepted_only (posted_to b r).book rs)
        ((demand1 r.table b r.call).unchanged e) ih

pub answers_accepted : (b : Book) (rs : List Request) → Every Accepts (answers_of b (accepted_only b rs))
unfolding accepted_only answers_of
answers_accepted b [] = tt
answers_accepted b (r ∷ rs) = go (is_accepted (posted_to b r).answer) refl (answers_accepted (posted_to b r).book rs)
  where
    go :
        (t : Bool) → is_accepted (posted_to b r).answer
        ≡ t → Every Accepts (answers_of (posted_to b r).book (accepted_only (posted_to b r).book rs))
        → Every Accepts (answers_of b (keep_if t r (accepted_only (posted_to b r).book rs)))
    go true e ih = (e, ih)
    go false e ih =
        subst (λ (d : Book). Every Accepts (answers_of d (accepted_only (posted_to b r).book rs)))
        ((demand1 r.table b r.call).unchanged e) ih

-- where every line is a form, its answers are the calls'
dealt_all :
    (t : Table) (b : Book) (rs : List Request) → Written t rs → in_turn (map line_for rs) (answers_of b rs) ≡ answers_of b rs
unfolding in_turn answers_of
dealt_all t b [] w = refl
dealt_all t b (r ∷ rs) w =
    rw w.0.reads_as (ap (λ xs. (posted_to b r).answer ∷ xs) (dealt_all t (posted_to b r).book rs w.1))

pub first_accepted :
    (b : Book) (rs : List Request) (n : ℕ) → Every Accepts (answers_of b rs) → Every Accepts (answers_of b (take n rs))
unfolding answers_of
first_accepted b rs zero h = tt
first_accepted b [] (suc n) h = tt
first_accepted b (r ∷ rs) (suc n) h = (h.0, first_accepted (posted_to b r).book rs n h.1)

-- a journal of calls that a book accepts, each, is accepted line by line
pub lines_accepted :
    (t : Table) (b : Book) (rs : List Request) → Written t rs → Every Accepts (answers_of b rs)
    → Every Accepts (in_turn (lines_of (journal_of rs)) (answers_of b (requests t (calls_of (lines_of (journal_of rs))))))
lines_accepted t b rs w h = rw (journal_lines t rs w, texts_read t rs w, dealt_all t b rs w) h

-- ---- a journal cut after a line feed
-- the line feed of a text that begins with a line stands at that line's end or after it
first_feed :
    (l r p q : List ℕ) → OneLine l → l ++ line_feed ∷ r ≡ p ++ line_feed ∷ q
    → {X : Type 0} → (p ≡ l → X) → ((p' : List ℕ) → p ≡ l ++ line_feed ∷ p' → r ≡ p' ++ line_feed ∷ q → X) → X
first_feed [] r [] q h e f g = f refl
first_feed [] r (y ∷ p) q h e f g =
    let a : line_feed ≡ y = cc in
    let d : r ≡ p ++ line_feed ∷ q = cc in
    g p (ap (λ (z : ℕ). z ∷ p) (sym a)) d
first_feed (x ∷ l) r [] q h e f g = let a : x ≡ line_feed = cc in absurd (h.0 a)
first_feed (x ∷ l) r (y ∷ p) q h e f g =
    let a : x ≡ y = cc in
    let d : l ++ line_feed ∷ r ≡ p ++ line_feed ∷ q = cc in
    first_feed l r p q h.1 d (λ u. f (ap₂ ◌∷◌ (sym a) u)) (λ p' u v. g p' (ap₂ ◌∷◌ (sym a) u) v)

pub cut_journal :
    (t : Table) (rs : List Request) → Written t rs → (p q : List ℕ) → journal_of rs ≡ p ++ line_feed ∷ q
    → (n : ℕ) × (p ++ line_feed ∷ [] ≡ journal_of (take n rs))
unfolding journal_of
cut_journal t [] w [] q e = absurd (let z : ◌≡◌ {A = ℕ} 0 1 = cc in omega arith)
cut_journal t [] w (x ∷ p) q e = absurd (let z : ◌≡◌ {A = ℕ} 0 1 = cc in omega arith)
cut_journal t (r ∷ rs) w p q e =
    first_feed (line_for r) (journal_of rs) p q w.0.one e
    (λ u. (1, ap (λ (l : List ℕ). l ++ line_feed ∷ []) u))
    (λ p' u v.
    let h = cut_journal t rs w.1 p' q v in (
      suc h.0,
      ap (λ (l : List ℕ). l ++ line_feed ∷ []) u ∙ append_assoc (line_for r) (line_feed ∷ p') (line_feed ∷ [])
          ∙ ap (λ (l : List ℕ). line_for r ++ line_feed ∷ l) h.1,
    ))

pub written_take : (t : Table) (n : ℕ) (rs : List Request) → Written t rs → Written t (take n rs)
written_take t zero rs w = tt
written_take t (suc n) [] w = tt
written_take t (suc n) (r ∷ rs) w = (w.0, written_take t n rs w.1)
