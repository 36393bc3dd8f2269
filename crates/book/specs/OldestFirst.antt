-- Card 9, "Oldest credits first": what is claimed of a cover. The proofs are in proofs/OldestFirst.antt and
-- proofs/CoverCounts.antt.
use Rattle.std.specs.Prelude.{ℕ, ◌+◌, ◌≤◌, ◌<◌, min, Bool, true, List, [], ◌∷◌, map, ◌≡◌, ◌↔◌, leb, pos}
use Rattle.figuring.specs.Years.{first_year}
use Rattle.figuring.specs.Life.{live, open_short}
use Rattle.figuring.specs.Tables.{Table}
use Rattle.book.specs.Sizes.{makers, sets, years}
use Rattle.book.specs.Below.{only, sum_below}
use Rattle.book.specs.Ledger.{key, figure_at}
use Rattle.book.specs.Soundness.{sound}
use Rattle.book.specs.Refusals.{result_in}
use Rattle.book.specs.Rules.{Request, handed, posted}
use Rattle.book.specs.Accounts.{Opening, Accounts, Entry, as_accepted, move, feed_all, accounts_from, made_by}
use Rattle.book.specs.Demand3.{is_accepted, history, book_after, accounts_after}
use Rattle.book.specs.Companions.{Sized}
use Rattle.book.specs.Coverage.{Standing, Payment, after, turn, coverage}
use Rattle.book.specs.Covering.{application, applications_of, in_book}
use Rattle.book.specs.declared.ledger.Book.{Book}
use Rattle.book.specs.declared.kinds.Call.{Call}
use Rattle.book.specs.declared.kinds.Application.{Application}
use Rattle.book.specs.declared.kinds.Cover.{Cover}

-- ---- the rule, word for word: "pays the oldest open shortage from the oldest live lot until either kind is used up"

-- the first year with anything above 0
abbrev pub Oldest : (ℕ → ℕ) → ℕ → Type 0
Oldest f y = (0 < f y) × ((x : ℕ) → x < y → f x ≡ 0)

-- Each payment of a list is of the oldest lot and the oldest shortage as they then stand, as far as the smaller of the two
-- goes, and after the last no lot stands beside a shortage.
abbrev pub WordForWord : Standing → List Payment → Type 0
WordForWord h [] = (v y : ℕ) → min (h.lots v) (h.shorts y) ≡ 0
WordForWord h (p ∷ ps) =
    Oldest h.lots p.vintage
    × Oldest h.shorts p.year
    × (p.mg ≡ min (h.lots p.vintage) (h.shorts p.year))
    × WordForWord (after h (turn p.year p.vintage)) ps

-- ---- totals of a cell

-- its figures, added over the years that have a property
unfoldable pub sum_over : (ℕ → Bool) → List ℕ → Cover → ℕ
sum_over has l c = sum_below years (λ i. only (has (first_year + i)) (figure_at l (key c.maker c.set (first_year + i))))

abbrev pub live_lots : Book → Cover → ℕ
live_lots b c = sum_over (live b.open_year) b.lots c

abbrev pub open_shortages : Book → Cover → ℕ
open_shortages b c = sum_over (open_short b.open_year) b.shortages c

-- "what remains in lots of that vintage or younger", expired ones too
abbrev pub lots_from : ℕ → Book → Cover → ℕ
lots_from v b c = sum_over (leb v) b.lots c

-- ---- applications as calls, all handed one table: they read none (`ReadNoTable`)
abbrev pub as_calls : Table → List Application → List Request
as_calls t ps = map (λ p. handed t (Call.Apply p)) ps

abbrev pub as_entries : Table → List Application → List Entry
as_entries t ps = map (λ p. as_accepted t (Call.Apply p)) ps

-- the Mg of the accepted ones of a list of applications put to a book, each to the book that the one before left
unfoldable pub covered_by : Table → Book → List Application → ℕ
covered_by t b [] = 0
covered_by t b (p ∷ ps) =
    only (is_accepted (posted t b (Call.Apply p)).answer) p.mg + covered_by t (posted t b (Call.Apply p)).book ps

-- ---- when a cover is accepted: 2, 3 and 4 are all that it is asked, so neither the open year 2038 nor that there is nothing
-- to move stops it
abbrev pub AcceptedExactly : Table → Book → Cover → Type 0
AcceptedExactly t b c =
    (is_accepted (posted t b (Call.Cover c)).answer ≡ true) ↔ ((sound b ≡ true) × (c.maker < makers) × (c.set < sets))

-- ---- a cover that is accepted, with whatever table and by whatever book
pub record PaysOldest (t : Table) (b : Book) (c : Cover) : Type 0 where
  -- its payments are the card's sentence, and no other list is
  pub word_for_word : WordForWord (in_book b c) (coverage (in_book b c))
  pub only_one : (ps : List Payment) → WordForWord (in_book b c) ps → ps ≡ coverage (in_book b c)
  -- put to the book one by one as applications each is accepted, and they leave the book that the cover leaves
  pub all_accepted :
      history b (as_calls t (applications_of c (in_book b c))) ≡ as_entries t (applications_of c (in_book b c))
  pub same_book :
      book_after b (as_calls t (applications_of c (in_book b c))) ≡ (posted t b (Call.Cover c)).book
  -- "It returns the Mg moved, which is the smaller of the two totals, 0 included."
  pub answers :
      result_in (posted t b (Call.Cover c)).answer 0 ≡ pos (covered_by t b (applications_of c (in_book b c)))
  pub smaller : covered_by t b (applications_of c (in_book b c)) ≡ min (live_lots b c) (open_shortages b c)

abbrev pub OldestFirst : Table → Book → Cover → Type 0
OldestFirst t b c = Sized b → is_accepted (posted t b (Call.Cover c)).answer ≡ true → PaysOldest t b c

-- ---- no worse than any other way

-- "For every vintage, what remains in lots of that vintage or younger is at least what any other list of that maker's
-- applications in that set, begun on the same book, leaves, if it covers as many Mg." The others are any list, of any
-- length, accepted and refused ones among them; n are the Mg that the cover answers, 0 where it is refused, and the book
-- is any one, sound or not.
abbrev pub NoneBetter : Table → Book → Cover → Type 0
NoneBetter t b c =
    Sized b
    → (v n : ℕ) (others : List Payment)
    → result_in (posted t b (Call.Cover c)).answer 0 ≡ pos n
    → n ≤ covered_by t b (map (application c) others)
    → lots_from v (book_after b (as_calls t (map (application c) others))) c
    ≤ lots_from v (posted t b (Call.Cover c)).book c

-- ---- in the accounts

-- "It counts as the applications it made": an accepted cover leaves the accounts that these applications would, each
-- entered as accepted
abbrev pub CountsAsMade : Table → Accounts → Cover → Type 0
CountsAsMade t a c = move t a (Call.Cover c) ≡ feed_all a (as_entries t (made_by a c))

-- and they are the applications that it made in the book, after any list begun on any book
abbrev pub AsInBook : Table → Book → List Request → Cover → Type 0
AsInBook t b rs c =
    Sized b
    → is_accepted (posted t (book_after b rs) (Call.Cover c)).answer ≡ true
    → made_by (accounts_after b rs) c ≡ applications_of c (in_book (book_after b rs) c)

-- 1 for a close
abbrev pub one_if_close : Call → ℕ
one_if_close (Call.File f) = 0
one_if_close (Call.Close y) = 1
one_if_close (Call.Trade x) = 0
one_if_close (Call.Apply p) = 0
one_if_close (Call.Retire p) = 0
one_if_close (Call.Cover c) = 0

-- how many accepted closes a history has
unfoldable pub closes_in : List Entry → ℕ
closes_in [] = 0
closes_in (e ∷ es) = only e.accepted (one_if_close e.call) + closes_in es

-- the accounts' own open year: "2014 or the one read in, plus one for each accepted close"
abbrev pub OwnYear : Opening → List Entry → Type 0
OwnYear o es = (accounts_from o es).open_year ≡ o.year + closes_in es
