-- Card 9 in the accounts: a cover counts as the applications that it made, which are those of the book, and the open year by which
-- the accounts figure them is the opening one and as many more as there are accepted closes.
use Prim.Native.Nat.{◌+◌}
use mathlib.Core.Bool.{Bool, true, false}
use mathlib.Core.List.{List, [], ◌∷◌}
use mathlib.Core.Path.{◌≡◌, refl, ap}
use native.Mathlib.Omega.{arith}
use Rattle.figuring.specs.Tables.{Table}
use Rattle.book.specs.Below.{only}
use Rattle.book.specs.Covering.{applications_of}
use Rattle.book.specs.Rules.{Request}
use Rattle.book.specs.Accounts.{Opening, Accounts, Entry, begun_with, with_mg, add_applied, add_all, made_by}
use Rattle.book.specs.Accounts.{move, when_accepted, feed, feed_all, accounts_from}
use Rattle.book.specs.Demand3.{book_after, opening_of, accounts_after}
use Rattle.book.specs.OldestFirst.{as_entries, one_if_close, closes_in, CountsAsMade, AsInBook, OwnYear}
use Rattle.book.specs.declared.ledger.Book.{Book}
use Rattle.book.specs.declared.kinds.Call.{Call}
use Rattle.book.specs.declared.kinds.Application.{Application}
use Rattle.book.specs.declared.kinds.Cover.{Cover}
use Rattle.book.proofs.CoverLaws.{accepted_cover, same_standing}
use Rattle.book.proofs.Reconciliation.{begins, keeps_all}

-- ---- entered one by one
fed_alike : (t : Table) (ps : List Application) (a : Accounts) → with_mg a (add_all ps a.mg) ≡ feed_all a (as_entries t ps)
unfolding add_all feed_all feed
fed_alike t [] a = refl
fed_alike t (p ∷ ps) a = fed_alike t ps (with_mg a (add_applied p a.mg))

pub counts_as_made : (t : Table) (a : Accounts) (c : Cover) → CountsAsMade t a c
counts_as_made t a c = fed_alike t (made_by a c) a

-- ---- the book agrees with its accounts after any list (demand 3), so they have its figures and its open year
pub as_in_book : (t : Table) (b : Book) (rs : List Request) (c : Cover) → AsInBook t b rs c
unfolding accounts_from
as_in_book t b rs c z h =
    ap (applications_of c)
    (same_standing (book_after b rs) c (accepted_cover t (book_after b rs) c h) (accounts_after b rs)
    (keeps_all rs b (begun_with (opening_of b)) (begins b z)))

-- ---- the open year
year_moved : (t : Table) (a : Accounts) (c : Call) → (move t a c).open_year ≡ a.open_year + one_if_close c
year_moved t a (Call.File f) = omega arith
year_moved t a (Call.Close y) = refl
year_moved t a (Call.Trade x) = omega arith
year_moved t a (Call.Apply p) = omega arith
year_moved t a (Call.Retire p) = omega arith
year_moved t a (Call.Cover c) = omega arith

year_fed : (a : Accounts) (e : Entry) → (feed a e).open_year ≡ a.open_year + only e.accepted (one_if_close e.call)
unfolding feed only
year_fed a e = go e.accepted
  where
    go :
        (d : Bool)
        → (when_accepted d (move e.table a e.call) a).open_year ≡ a.open_year + only d (one_if_close e.call)
    go true = year_moved e.table a e.call
    go false = omega arith

year_counted : (es : List Entry) (a : Accounts) → (feed_all a es).open_year ≡ a.open_year + closes_in es
unfolding feed_all closes_in
year_counted [] a = omega arith
year_counted (e ∷ es) a = omega (arith, year_counted es (feed a e), year_fed a e)

pub own_year : (o : Opening) (es : List Entry) → OwnYear o es
unfolding accounts_from
own_year o es = year_counted es (begun_with o)
