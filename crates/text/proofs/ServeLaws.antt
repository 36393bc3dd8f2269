-- Laws of a chunk served line by line: `Midway` is the invariant of `take_chunk`.
use Rattle.std.specs.Prelude.{Option, Some}
use Rattle.std.specs.Borrow.{Bor}
use Prim.Native.Nat.{ℕ, ◌*◌}
use native.Mathlib.Omega.{arith}
use mathlib.Core.Bool.{true, false, true≢false}
use lib.Dec.{ltb, eqb}
use mathlib.Core.Path.{◌≡◌, sym, ◌∙◌}
use mathlib.Core.List.{List, [], ◌++◌}
use lib.ListN.{length}
use borrow.Author.Tests.{lt-ltb}
use Rattle.figuring.specs.Tables.{Table}
use Rattle.text.specs.declared.desk.Desk.{Desk}
use Rattle.text.specs.declared.page.Page.{Page}
use Rattle.book.specs.declared.kinds.Call.{Call}
use Rattle.text.specs.Placing.{HasRoom, Adds}
use Rattle.text.specs.Line.{line_of}
use Rattle.text.specs.Answers.{answer_room, answer_to, posted_line, text_of}
use Rattle.text.specs.Desk.{at_desk, held_in, takes_all, ends, ServedBy}
use Rattle.text.specs.Serving.{NextLine}
use Rattle.text.proofs.AnswerLaws.{text_length}
use Rattle.text.proofs.HeldLaws.{midst}
use Rattle.text.proofs.StoreLaws.{adds_then, after_adds}

-- ---- a chunk served line by line
-- with the table t, and begun at desk d₀ and page p₀, the loop has come to this desk, this page and what is left
pub record Midway (t : Table) (d₀ : Desk) (chunk : List ℕ) (p₀ : Page) (d : Desk) (p : Page) (left : List ℕ) : Type 0 where
  pub room : HasRoom (answer_room * length left) p
  pub said : List ℕ
  pub adds : Adds said p₀ p
  pub goes : takes_all t (at_desk d₀) chunk ≡ takes_all t (midst d.book (held_in d.held) said) left

module _ {t : Table} {d₀ : Desk} {chunk : List ℕ} {p₀ : Page} {d : Desk} {p : Page} {left : List ℕ}
    (m : Midway t d₀ chunk p₀ d p left) where
  module _ {line : Option Call} {rest : Bor (List ℕ)} {held : List ℕ} (n : NextLine (held_in d.held) left (Some (line, rest)) held) where
    pub next :
        {d' : Desk} {p' : Page} → d'.book ≡ (posted_line t d.book line).book → held_in d'.held ≡ held
        → Adds (text_of (posted_line t d.book line).answer) p p' → Midway t d₀ chunk p₀ d' p' rest.now
    next left-book left-held put =
        record {
          room =
              omega (arith, m.room, n.shorter, after_adds put, text_length (posted_line t d.book line).answer);
          said = m.said ++ text_of (posted_line t d.book line).answer;
          adds = adds_then m.adds put;
          goes = m.goes ∙ (n.goes t d.book m.said ∙ rw (left-book, left-held));
        }

-- ---- the end of the input
module _ (t : Table) (d : Desk) where
  pub a_last :
      {d' : Desk} {p p' : Page} {line : Option Call} → false ≡ eqb (length (held_in d.held)) 0 → line ≡ line_of (held_in d.held)
      → d'.book ≡ (posted_line t d.book line).book → held_in d'.held ≡ []
      → Adds (text_of (posted_line t d.book line).answer) p p' → ServedBy (ends t (at_desk d)) d' p p'
  unfolding answer_to
  a_last z l b h put =
      let some : length (held_in d.held) ≡ 0 → ⊥ = λ e. true≢false (sym (rw e at z)) in
      let k : ltb 0 (length (held_in d.held)) ≡ true = lt-ltb 0 (length (held_in d.held)) (omega arith) in
      rw k (record { book_is = rw l at b; held_is = h; adds = rw l at put })
