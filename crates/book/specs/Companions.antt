-- Companions of demand 3, as statements. src/claims.rt holds each to its proof.
use Rattle.std.specs.Prelude.{Bool, true, false, List, [], ◌∷◌, ◌≡◌, length}
use Rattle.book.specs.Sizes.{cells, places, all_parts}
use Rattle.book.specs.Soundness.{sound}
use Rattle.book.specs.Ledger.{Key, figure_at}
use Rattle.figuring.specs.Life.{expired, overdue}
use Rattle.book.specs.Refusals.{refusal_in}
use Rattle.figuring.specs.Tables.{Table}
use Rattle.book.specs.Rules.{Request, posted, posted_to}
use Rattle.book.specs.Demand3.{book_after, is_accepted}
use Rattle.book.specs.declared.ledger.Book.{Book}
use Rattle.book.specs.declared.kinds.Call.{Call}

-- The lists have the lengths of the struct's arrays. Every book of the program has them by its type.
pub record Sized (b : Book) : Type 0 where
  pub marks : length b.marks ≡ cells
  pub parts : length b.parts ≡ all_parts
  pub lots : length b.lots ≡ places
  pub shortages : length b.shortages ≡ places

-- A call, accepted or refused, leaves a sound book sound.
abbrev pub KeepsSound : Table → Book → Call → Type 0
KeepsSound t b c = Sized b → sound b ≡ true → Sized (posted t b c).book × (sound (posted t b c).book ≡ true)

-- No list begun on a sound book is ever answered by refusal 2, and its book stays sound.
pub record NeverUnsound (b : Book) (rs : List Request) : Type 0 where
  pub stays_sound : sound (book_after b rs) ≡ true
  pub never_refused : (t : Table) (c : Call) → refusal_in (posted t (book_after b rs) c).answer ≡ 2 → ⊥

abbrev pub keep_if : Bool → Request → List Request → List Request
keep_if true r rs = r ∷ rs
keep_if false r rs = rs

-- a list without its refused calls
unfoldable pub accepted_only : Book → List Request → List Request
accepted_only b [] = []
accepted_only b (r ∷ rs) = keep_if (is_accepted (posted_to b r).answer) r (accepted_only (posted_to b r).book rs)

-- The refused calls of a list may be struck out without changing the book.
abbrev pub StrikeOut : Book → List Request → Type 0
StrikeOut b rs = book_after b (accepted_only b rs) ≡ book_after b rs

-- A lot that is expired, whatever calls follow: "the figure stays and nothing moves it". An overdue shortage "stays
-- likewise".
pub record Stays (b : Book) (rs : List Request) (k : Key) : Type 0 where
  pub lot : expired b.open_year k.year ≡ true → figure_at (book_after b rs).lots k ≡ figure_at b.lots k
  pub still_expired : expired b.open_year k.year ≡ true → expired (book_after b rs).open_year k.year ≡ true
  pub shortage :
      overdue b.open_year k.year ≡ true → figure_at (book_after b rs).shortages k ≡ figure_at b.shortages k
  pub still_overdue : overdue b.open_year k.year ≡ true → overdue (book_after b rs).open_year k.year ≡ true
