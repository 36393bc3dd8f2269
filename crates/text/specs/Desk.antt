-- The terminal as it takes its input byte by byte. It has one table of standards for its whole run, so the table stands
-- beside it: t, and x is the terminal.
use Rattle.std.specs.Prelude.{ℕ, ◌≤◌, Bool, true, false, cond, ◌≡◌, List, [], ◌∷◌, ◌++◌, ltb, eqb, length, take, Option, MatchOption, is_some}
use Rattle.std.proofs.lemmas.List.Edits.{sets as overwritten}
use Rattle.figuring.specs.Tables.{Table}
use Rattle.book.specs.declared.ledger.Book.{Book}
pub use Rattle.text.specs.Held.{most_held, held_in, nothing_held}
use Rattle.text.specs.declared.desk.Desk.{Desk}
use Rattle.text.specs.declared.page.Page.{Page}
use Rattle.text.specs.Answers.{text_of, answer_to}
use Rattle.text.specs.Placing.{Adds}

-- a terminal: its book, the bytes of the line that has not ended yet, and what it has said
pub record Terminal : Type 0 where
  pub book : Book
  pub held : List ℕ
  pub said : List ℕ

-- the code of a line feed
abbrev pub line_feed : ℕ
line_feed = 10

-- a byte that goes on with a line
abbrev pub held_with : List ℕ → ℕ → List ℕ
held_with held b = cond (ltb (length held) most_held) (held ++ (b ∷ [])) held

abbrev pub holding : Terminal → ℕ → Terminal
holding x b = record { book = x.book; held = held_with x.held b; said = x.said }

-- the end of a line
abbrev pub answering : Table → Terminal → Terminal
answering t x =
    record {
      book = (answer_to t x.book x.held).book;
      held = [];
      said = x.said ++ text_of (answer_to t x.book x.held).answer;
    }

abbrev pub takes : Table → Terminal → ℕ → Terminal
takes t x b = cond (eqb b line_feed) (answering t x) (holding x b)

unfoldable pub takes_all : Table → Terminal → List ℕ → Terminal
takes_all t x [] = x
takes_all t x (b ∷ s) = takes_all t (takes t x b) s

abbrev pub terminal_if : Bool → Terminal → Terminal → Terminal
terminal_if true a b = a
terminal_if false a b = b

-- the end of the input: what is held is a last line that lacks its line feed; where nothing is held there is none
abbrev pub ends : Table → Terminal → Terminal
ends t x = terminal_if (ltb 0 (length x.held)) (answering t x) x

-- a desk as a terminal that has said nothing yet
abbrev pub at_desk : Desk → Terminal
at_desk d = record { book = d.book; held = held_in d.held; said = [] }

abbrev pub open_desk : Book → Desk
open_desk b = record { book = b; held = nothing_held }

-- a terminal in the midst of a line, of which as much is held as there is room for
abbrev pub in_line : Book → List ℕ → Terminal
in_line b line = record { book = b; held = take most_held line; said = [] }

-- the desk d' after a call is a terminal's, and the buffer starts with the n bytes that the terminal has said
pub record Serves (x : Terminal) (out : List ℕ) (n : ℕ) (d' : Desk) (out' : List ℕ) : Type 0 where
  pub book_is : d'.book ≡ x.book
  pub held_is : held_in d'.held ≡ x.held
  pub at_is : n ≡ length x.said
  pub out_is : out' ≡ overwritten out 0 x.said
  -- so what was said can be lent: `&out[..n]`
  pub at_in : n ≤ length out'
  pub at_counts : n ≡ length (take n out')

-- the contract of `take_in` and of `last`, d before the call and d' after it: with room for the answers, the terminal x;
-- without, no count, and the desk and the buffer as they were
pub record RepliedBy (room : Bool) (d : Desk) (x : Terminal) (out : List ℕ) (r : Option ℕ) (d' : Desk)
    (out' : List ℕ) : Type 0 where
  pub fits_is : is_some r ≡ room
  pub serves : MatchOption r ((d' ≡ d) × (out' ≡ out)) (λ n. Serves x out n d' out')

-- the same on a page with the room
pub record ServedBy (x : Terminal) (d' : Desk) (p p' : Page) : Type 0 where
  pub book_is : d'.book ≡ x.book
  pub held_is : held_in d'.held ≡ x.held
  pub adds : Adds x.said p p'

-- ---- desks are compared by what they hold
-- two calls gave the same: the count of what was said, if there was room, the buffer, and desks that hold the same
pub record SameReply (r : Option ℕ) (d₁ : Desk) (out₁ : List ℕ) (s : Option ℕ) (e₁ : Desk) (out₂ : List ℕ) : Type 0 where
  pub same_at : r ≡ s
  pub same_out : out₁ ≡ out₂
  pub same_held : at_desk d₁ ≡ at_desk e₁

-- two desks that hold the same, given the same table, the same chunk and the same buffer, or ended, give the same, and
-- hold the same again: what lies in the room past the bytes that are held shows nowhere. f is what the call makes of a
-- terminal: `takes_all`, or `ends`
abbrev pub ByWhatIsHeld : Type 0
ByWhatIsHeld =
    (room : Bool) (f : Terminal → Terminal) (d e : Desk) (out : List ℕ)
    (r : Option ℕ) (d₁ : Desk) (out₁ : List ℕ) (s : Option ℕ) (e₁ : Desk) (out₂ : List ℕ)
    → at_desk d ≡ at_desk e
    → RepliedBy room d (f (at_desk d)) out r d₁ out₁
    → RepliedBy room e (f (at_desk e)) out s e₁ out₂
    → SameReply r d₁ out₁ s e₁ out₂
