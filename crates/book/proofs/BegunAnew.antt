-- Card 8: no call moves opening figures; a fresh book's are all zero, and so demand 3 begun on it is document 01's.
use mathlib.Core.Bool.{Bool, true, false, cond}
use mathlib.Core.List.{List, [], ◌∷◌}
use mathlib.Core.Path.{◌≡◌, refl, ◌∙◌, ap, subst}
use native.Mathlib.Omega.{arith}
use lib.Dec.{eqb}
use lib.IntN.{ℤ, pos}
use Rattle.figuring.specs.Years.{first_year}
use Rattle.figuring.specs.Tables.{Table}
use Rattle.book.specs.Ledger.{Key, cell}
use Rattle.book.specs.Postings.{fresh_book, covered_shortage}
use Rattle.book.specs.Rules.{Request}
use Rattle.book.specs.Accounts.{Opening, Accounts, Entry, begun_with, zero_opening, accounts_from, accounts_of}
use Rattle.book.specs.Accounts.{with_mg, add_applied, made_by, move, when_accepted, feed, feed_all}
use Rattle.book.specs.Demand3.{history, book_after, opening_of, Reconciled, Covers, InTurn, Demand3}
use Rattle.book.specs.BegunAnew.{OpeningStays, FreshBegins, CoversFromZero, BegunFresh}
use Rattle.book.specs.declared.kinds.Call.{Call}
use Rattle.book.specs.declared.kinds.Application.{Application}
use Rattle.book.proofs.LedgerLaws.{at_zeros, no_part}
use Rattle.book.proofs.FreshSound.{fresh_sound, fresh_sized}
use Rattle.book.proofs.Reconciliation.{demand3}

-- ---- no call moves them
call_leaves :
    (t : Table) (a : Accounts) (c : Call) (accepted : Bool)
    → (when_accepted accepted (move t a c) a).opening ≡ a.opening
call_leaves t a c false = refl
call_leaves t a (Call.File f) true = refl
call_leaves t a (Call.Close y) true = refl
call_leaves t a (Call.Trade x) true = refl
call_leaves t a (Call.Apply p) true = refl
call_leaves t a (Call.Retire p) true = refl
call_leaves t a (Call.Cover c) true = refl

all_leave : (es : List Entry) (a : Accounts) → (feed_all a es).opening ≡ a.opening
unfolding feed_all feed
all_leave [] a = refl
all_leave (e ∷ es) a = all_leave es (feed a e) ∙ call_leaves e.table a e.call e.accepted

pub opening_stays : (o : Opening) (es : List Entry) → OpeningStays o es
unfolding accounts_from
opening_stays o es = all_leave es (begun_with o)

-- ---- a fresh book
zero_either_way : (t : Bool) (z : ℤ) → z ≡ pos 0 → cond t z (pos 0) ≡ pos 0
zero_either_way true z e = e
zero_either_way false z e = refl

pub fresh_at_zero : opening_of fresh_book ≡ zero_opening
unfolding fresh_book
fresh_at_zero = λ i.
    record {
      year = first_year;
      lot = λ k. at_zeros k i;
      shortage = λ k. at_zeros k i;
      part = λ k f. zero_either_way (eqb k.year first_year) _ (no_part (cell k.maker k.set) f) i;
    }

pub fresh_begins : FreshBegins
fresh_begins = record { sized = fresh_sized; is_sound = fresh_sound; at_zero = fresh_at_zero }

-- ---- demand 3 begun on it
module _ (es : List Entry) where
  no_lot : (k : Key) → (accounts_of es).opening.lot k ≡ 0
  no_lot k = ap (λ (o : Opening). o.lot k) (opening_stays zero_opening es)

  no_shortage : (k : Key) → (accounts_of es).opening.shortage k ≡ 0
  no_shortage k = ap (λ (o : Opening). o.shortage k) (opening_stays zero_opening es)

from_zero : (a : Accounts) (p : Application) → a.opening ≡ zero_opening → Covers a p → CoversFromZero a p
from_zero a p z c = omega (arith, c.enough, ap (λ (o : Opening). o.shortage (covered_shortage p)) z)

all_from_zero :
    (ps : List Application) (a : Accounts) → a.opening ≡ zero_opening → InTurn Covers a ps → InTurn CoversFromZero a ps
all_from_zero [] a z h = tt
all_from_zero (p ∷ ps) a z h =
    (from_zero a p z h.0, all_from_zero ps (with_mg a (add_applied p a.mg)) z h.1)

pub begun_fresh : (rs : List Request) → BegunFresh rs
begun_fresh rs =
    record {
      reconciled = λ k i.
          let r =
          subst (λ (o : Opening). Reconciled (book_after fresh_book rs) (accounts_from o es) k) fresh_at_zero (d.reconciled k i)
          in
          record { lot = omega (arith, r.lot, no_lot es k); shortage = omega (arith, r.shortage, no_shortage es k) };
      covers = λ before after t p e.
          let c = subst (λ (o : Opening). Covers (accounts_from o before) p) fresh_at_zero (d.covers before after t p e) in
          from_zero (accounts_of before) p (opening_stays zero_opening before) c;
      made = λ before after t c e.
          all_from_zero (made_by (accounts_of before) c) (accounts_of before) (opening_stays zero_opening before)
          (subst (λ (o : Opening). InTurn Covers (accounts_from o before) (made_by (accounts_from o before) c)) fresh_at_zero
          (d.made before after t c e));
    }
  where
    es : List Entry
    es = history fresh_book rs

    d : Demand3 fresh_book rs
    d = demand3 fresh_book fresh_sized rs
