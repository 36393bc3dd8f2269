-- A text put into a lent buffer from a place on. Where the room is too short nothing is put, and the answer says so.
use Rattle.std.specs.Prelude.{ℕ, ◌+◌, ◌≤◌, Bool, cond, ◌≡◌, List, leb, length, ℤ, pos, negsuc, Option, Some, None}
use Rattle.std.proofs.lemmas.List.Edits.{sets as overwritten}
use Rattle.text.specs.declared.page.Page.{Page}

-- the text stands in the buffer from at on, the rest is as it was, and r is the place after the text
pub record Stands (text : List ℕ) (at : ℕ) (out : List ℕ) (r : ℕ) (out' : List ℕ) : Type 0 where
  pub end_is : r ≡ at + length text
  pub out_is : out' ≡ overwritten out at text

-- whether there is room for n bytes from at on
abbrev pub room_for : ℕ → ℕ → List ℕ → Bool
room_for n at out = leb (at + n) (length out)

-- the place after a text of n bytes, if there is room
abbrev pub place_after : Bool → ℕ → ℕ → Option ℕ
place_after room at n = cond room (Some (at + n)) None

-- with room, the text stands in the buffer from at on, the rest is as it was, and the answer is the place after the
-- text; without, there is no such place, and the buffer is as it was
pub record Puts (room : Bool) (text : List ℕ) (at : ℕ) (out : List ℕ) (r : Option ℕ) (out' : List ℕ) : Type 0 where
  pub place_is : r ≡ place_after room at (length text)
  pub out_is : out' ≡ cond room (overwritten out at text) out

-- ---- a page: a lent buffer, and the place up to which it is written
abbrev pub HasRoom : ℕ → Page → Type 0
HasRoom n p = p.at + n ≤ length p.out.now

-- page p, with a text put on it, is page q: of the same buffer, in which the text stands from p's place up to q's
pub record Adds (text : List ℕ) (p q : Page) : Type 0 where
  pub same_buffer : q.out.ghost_name ≡ p.out.ghost_name
  pub stands : Stands text p.at p.out.now q.at q.out.now

-- of two patterns, the first with a minus that the other lacks: the one for a number of this sign
abbrev pub by_sign : ℤ → List ℕ → List ℕ → List ℕ
by_sign (pos n) below other = other
by_sign (negsuc n) below other = below
