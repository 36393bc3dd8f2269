-- Card 8: "A book read in carries no history: demand 3's list begins anew with it." `Demand3` and `NeverUnsound` are of
-- lists begun on any book. Here is what holds of their opening figures by themselves, and that on a fresh book, which has
-- none, demand 3 says what document 01 says. The proofs are in proofs/BegunAnew.antt.
use Rattle.std.specs.Prelude.{◌+◌, ◌≤◌, true, List, ◌∷◌, ◌++◌, ◌≡◌}
use Rattle.figuring.specs.Tables.{Table}
use Rattle.book.specs.Ledger.{Key, In, figure_at}
use Rattle.book.specs.Soundness.{sound}
use Rattle.book.specs.Postings.{fresh_book, covered_shortage}
use Rattle.book.specs.Rules.{Request}
use Rattle.book.specs.Accounts.{Opening, Accounts, Entry, as_accepted, zero_opening, accounts_from, accounts_of, made_by}
use Rattle.book.specs.Accounts.{bought, sold, applied, retired, covered}
use Rattle.book.specs.Demand3.{history, book_after, opening_of, InTurn}
use Rattle.book.specs.Companions.{Sized}
use Rattle.book.specs.declared.ledger.Book.{Book}
use Rattle.book.specs.declared.kinds.Call.{Call}
use Rattle.book.specs.declared.kinds.Application.{Application}
use Rattle.book.specs.declared.kinds.Cover.{Cover}

-- No call moves the opening figures: whatever the history, the accounts have those that they began with.
abbrev pub OpeningStays : Opening → List Entry → Type 0
OpeningStays o es = (accounts_from o es).opening ≡ o

-- "Fresh: year 2014, all else zero": a sound book, whose opening figures are all zero.
pub record FreshBegins : Type 0 where
  pub sized : Sized fresh_book
  pub is_sound : sound fresh_book ≡ true
  pub at_zero : opening_of fresh_book ≡ zero_opening

-- Demand 3 begun on it is then document 01's, with accounts that "start at zero": a lot is earned + bought - sold -
-- applied - retired, and a shortage is shortfall - covered.
pub record FromZero (b : Book) (a : Accounts) (k : Key) : Type 0 where
  pub lot : figure_at b.lots k + a.mg sold k + a.mg applied k + a.mg retired k ≡ a.earned k + a.mg bought k
  pub shortage : figure_at b.shortages k + a.mg covered k ≡ a.shortfall k

-- "the shortage that these accounts give its maker, set and year just before it is at least its Mg"; the years of an
-- application are as in `Covers`
abbrev pub CoversFromZero : Accounts → Application → Type 0
CoversFromZero a p = a.mg covered (covered_shortage p) + p.mg ≤ a.shortfall (covered_shortage p)

pub record BegunFresh (rs : List Request) : Type 0 where
  pub reconciled : (k : Key) → In k → FromZero (book_after fresh_book rs) (accounts_of (history fresh_book rs)) k
  pub covers :
      (before after : List Entry) (t : Table) (p : Application)
      → history fresh_book rs ≡ before ++ as_accepted t (Call.Apply p) ∷ after → CoversFromZero (accounts_of before) p
  -- card 9: and the same of each application that an accepted cover made, which these accounts figure
  pub made :
      (before after : List Entry) (t : Table) (c : Cover)
      → history fresh_book rs ≡ before ++ as_accepted t (Call.Cover c) ∷ after
      → InTurn CoversFromZero (accounts_of before) (made_by (accounts_of before) c)
