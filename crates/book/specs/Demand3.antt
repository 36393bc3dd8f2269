-- Demand 3: ONE theorem about lists of calls of any length, begun on any book, a fresh one or one read in. `Demand3` is
-- its statement; the proof is `demand3` of proofs/Reconciliation.antt. The history of a list pairs each call, with its
-- arguments, with whether it was accepted; the accounts see the history and the opening figures alone, so nothing of a
-- book reaches them once the list has begun.
-- Card 7: each call of a list is handed a table of its own, accepted or not, so that this holds "for all accepted tables
-- together", even of one that changes from call to call.
use Rattle.std.specs.Prelude.{◌+◌, ◌≤◌, Bool, true, false, cond, List, [], ◌∷◌, ◌++◌, ◌≡◌, eqb, pos, Ok, Err}
use Rattle.book.specs.Refusals.{Answered}
use Rattle.book.specs.Ledger.{Key, In, cell, figure_at, part_at}
use Rattle.book.specs.Postings.{covered_shortage}
use Rattle.figuring.specs.Tables.{Table}
use Rattle.book.specs.Rules.{Request, posted_to}
use Rattle.book.specs.Accounts.{Opening, Accounts, Entry, as_accepted, accounts_from, with_mg, add_applied, made_by}
use Rattle.book.specs.Accounts.{bought, sold, applied, retired, covered}
use Rattle.book.specs.declared.ledger.Book.{Book}
use Rattle.book.specs.declared.kinds.Call.{Call}
use Rattle.book.specs.declared.kinds.Application.{Application}
use Rattle.book.specs.declared.kinds.Cover.{Cover}

-- "Accepted means answered without" a refusal.
unfoldable pub is_accepted : Answered → Bool
is_accepted (Err r) = false
is_accepted (Ok a) = true

abbrev pub entry_of : Book → Request → Entry
entry_of b r = record { table = r.table; call = r.call; accepted = is_accepted (posted_to b r).answer }

-- the history of a list of calls begun on a book, each call put to the book that the one before left
unfoldable pub history : Book → List Request → List Entry
history b [] = []
history b (r ∷ rs) = entry_of b r ∷ history (posted_to b r).book rs

-- the book after the list
unfoldable pub book_after : Book → List Request → Book
book_after b [] = b
book_after b (r ∷ rs) = book_after (posted_to b r).book rs

-- Card 8: "A book read in carries no history: demand 3's list begins anew with it, and balances count from its lots,
-- shortages and filed parts as opening figures." Here alone accounts take something from a book: from the one that the
-- list begins with, before its first call. A book's parts are those of its open year, and a sound one has 0 where no
-- family is filed; of any other year there is none. Card 9: and its open year, from which the accounts count their own.
abbrev pub opening_of : Book → Opening
opening_of b =
    record {
      year = b.open_year;
      lot = figure_at b.lots;
      shortage = figure_at b.shortages;
      part = λ k f. cond (eqb k.year b.open_year) (part_at b.parts (cell k.maker k.set) f) (pos 0);
    }

-- the accounts of a list
abbrev pub accounts_after : Book → List Request → Accounts
accounts_after b rs = accounts_from (opening_of b) (history b rs)

-- a lot is opening lot + earned + bought - sold - applied - retired, and a shortage is opening shortage + shortfall -
-- covered: stated as sums, so that no difference below zero can hide
pub record Reconciled (b : Book) (a : Accounts) (k : Key) : Type 0 where
  pub lot :
      figure_at b.lots k + a.mg sold k + a.mg applied k + a.mg retired k
      ≡ a.opening.lot k + a.earned k + a.mg bought k
  pub shortage : figure_at b.shortages k + a.mg covered k ≡ a.opening.shortage k + a.shortfall k

-- "the shortage that these accounts give its maker, set and year just before it is at least its Mg; its year is at
-- most its vintage + 5, and its vintage at most its year + 3"
pub record Covers (a : Accounts) (p : Application) : Type 0 where
  pub enough :
      a.mg covered (covered_shortage p) + p.mg
      ≤ a.opening.shortage (covered_shortage p) + a.shortfall (covered_shortage p)
  pub not_too_late : p.year ≤ p.vintage + 5
  pub not_too_early : p.vintage ≤ p.year + 3

-- what is said of an application, of some that follow one another: each by the accounts that the one before left
abbrev pub InTurn : (Accounts → Application → Type 0) → Accounts → List Application → Type 0
InTurn P a [] = Unit {0}
InTurn P a (p ∷ ps) = P a p × InTurn P (with_mg a (add_applied p a.mg)) ps

-- of any list begun on any book: one that is not sound takes no call
pub record Demand3 (b : Book) (rs : List Request) : Type 0 where
  -- every lot and every shortage, of every maker, set and year 2014 to 2037
  pub reconciled : (k : Key) → In k → Reconciled (book_after b rs) (accounts_after b rs) k
  -- the open year, which the accounts count by themselves
  pub year : (accounts_after b rs).open_year ≡ (book_after b rs).open_year
  -- every accepted application of the list, wherever it stands in it
  pub covers :
      (before after : List Entry) (t : Table) (p : Application)
      → history b rs ≡ before ++ as_accepted t (Call.Apply p) ∷ after → Covers (accounts_from (opening_of b) before) p
  -- and every application that an accepted cover made, which the accounts figure
  pub made :
      (before after : List Entry) (t : Table) (c : Cover)
      → history b rs ≡ before ++ as_accepted t (Call.Cover c) ∷ after
      → let a = accounts_from (opening_of b) before in InTurn Covers a (made_by a c)
