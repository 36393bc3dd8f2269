-- Demand 3: the relation `Agree` between a book and accounts, which every call keeps, whatever the book and the accounts that it
-- begins with. Any book agrees with the accounts that it opens.
-- What an accepted call keeps comes from its record, `Lawful`. Nothing here looks into a call's rows, the figuring, the tests of
-- soundness and life, or the limits; and no call is named but the application and the cover, of which demand 3 says more.
use Prim.Native.Nat.{ℕ}
use mathlib.Core.Bool.{true}
use mathlib.Core.List.{List, [], ◌∷◌, ◌++◌}
use mathlib.Core.Path.{◌≡◌, refl, ap}
use mathlib.Core.Logic.{◌≢◌}
use native.Mathlib.Omega.{arith}
use borrow.Author.Tests.{eq-eqb, ne_eqb}
use lib.IntN.{pos}
use Rattle.figuring.specs.Tables.{Table}
use Rattle.book.specs.Ledger.{Key, key, cell, part_at}
use Rattle.book.specs.Postings.{covered_shortage, application_done}
use Rattle.book.specs.Covering.{applications_of, in_book}
use Rattle.book.specs.Rules.{Request, own_rows, posted, posted_to}
use Rattle.book.specs.Accounts.{Accounts, Entry, as_accepted, begun_with, feed, feed_all, accounts_from, move, made_by}
use Rattle.book.specs.Demand3.{is_accepted, entry_of, history, book_after, opening_of, Covers, InTurn, Demand3}
use Rattle.book.specs.Companions.{Sized}
use Rattle.book.specs.declared.ledger.Book.{Book}
use Rattle.book.specs.declared.kinds.Call.{Call}
use Rattle.book.specs.declared.kinds.Application.{Application}
use Rattle.book.specs.declared.kinds.Cover.{Cover}
use Rattle.book.proofs.TableLaws.{by_verdict}
use Rattle.book.proofs.MoveFacts.{Applicable, applicable}
use Rattle.book.proofs.MovingLaws.{apply_agrees}
use Rattle.book.proofs.Balances.{Agree, agree_reconciled}
use Rattle.book.proofs.CoverTurns.{AllTaken}
use Rattle.book.proofs.CoverLaws.{accepted_cover, cover_taken, same_standing}
use Rattle.book.proofs.CallLaws.{lawful}

-- ---- the beginning

-- a book's parts are those of its open year
pub opening_now :
    (b : Book) (m s f : ℕ) → (opening_of b).part (key m s b.open_year) f ≡ part_at b.parts (cell m s) f
opening_now b m s f = rw (eq-eqb b.open_year b.open_year refl)

pub opening_else : (b : Book) (k : Key) (f : ℕ) → k.year ≢ b.open_year → (opening_of b).part k f ≡ pos 0
opening_else b k f h = rw (ne_eqb k.year b.open_year h)

-- The book need not be sound: whatever stands in it, from the open year on too, it begins with.
pub begins : (b : Book) → Sized b → Agree b (begun_with (opening_of b))
begins b z =
    record {
      year = refl;
      families =
          record {
            size = z.parts;
            current = λ m s f hm hs hf. opening_now b m s f;
            later = λ k f h. opening_else b k f (omega arith);
          };
      lots = record { size = z.lots; balance = λ k i. omega arith; ahead = λ k i h. refl };
      shortages = record { size = z.shortages; balance = λ k i. omega arith; ahead = λ k i h. refl };
    }

-- ---- one call
pub keeps : (b : Book) (a : Accounts) (r : Request) → Agree b a → Agree (posted_to b r).book (feed a (entry_of b r))
unfolding feed is_accepted
keeps b a r h =
    by_verdict r.table b r.call
    (λ p. Agree p.book (feed a (record { table = r.table; call = r.call; accepted = is_accepted p.answer }))) (λ w. h)
    (λ s e. let w = lawful r.table b r.call s e in rw w.answered (w.agrees a h))

-- ---- any list of calls, from any book and accounts that agree

pub keeps_all :
    (rs : List Request) (b : Book) (a : Accounts) → Agree b a → Agree (book_after b rs) (feed_all a (history b rs))
unfolding book_after feed_all history
keeps_all [] b a h = h
keeps_all (r ∷ rs) b a h = keeps_all rs (posted_to b r).book (feed a (entry_of b r)) (keeps b a r h)

-- ---- accepted applications

covers_done : (b : Book) (a : Accounts) (p : Application) → Agree b a → Applicable b p → Covers a p
covers_done b a p h g =
    record {
      enough = omega (arith, (agree_reconciled b a h (covered_shortage p) g.covered).shortage, g.enough);
      not_too_late = omega (arith, g.payer.live, g.open_year);
      not_too_early = omega (arith, g.payer.live, g.open_year);
    }

covers :
    (t : Table) (b : Book) (a : Accounts) (p : Application) → Agree b a
    → is_accepted (posted t b (Call.Apply p)).answer ≡ true → Covers a p
unfolding is_accepted own_rows
covers t b a p h =
    by_verdict t b (Call.Apply p) (λ q. is_accepted q.answer ≡ true → Covers a p)
    (λ r d. absurd (let z : ◌≡◌ {A = ℕ} 0 1 = cc in omega arith)) (λ s e d. covers_done b a p h (applicable b p s e))

-- ---- the applications that accepted covers made
each_covers :
    (t : Table) (ps : List Application) (b : Book) (a : Accounts) → AllTaken b ps → Agree b a → InTurn Covers a ps
each_covers t [] b a h g = tt
each_covers t (p ∷ ps) b a h g =
    let w = applicable b p h.0 h.1 in (
      covers_done b a p g w,
      each_covers t ps (application_done b p).book (move t a (Call.Apply p)) h.2 (apply_agrees t b a p g w),
    )

made :
    (t : Table) (b : Book) (a : Accounts) (c : Cover) → Agree b a
    → is_accepted (posted t b (Call.Cover c)).answer ≡ true → InTurn Covers a (made_by a c)
made t b a c h d =
    let g = accepted_cover t b c d in
    rw (same_standing b c g a h)
    (each_covers t (applications_of c (in_book b c)) b a (cover_taken b c g h.lots.size h.shortages.size) h)

-- ---- what holds of a call that a book accepted, by any accounts that it agrees with, holds wherever the call stands in a list
wherever :
    (P : Accounts → Type 0) (x : Call)
    → ((t : Table) (b : Book) (a : Accounts) → Agree b a → is_accepted (posted t b x).answer ≡ true → P a)
    → (rs : List Request) (b : Book) (a : Accounts) → Agree b a → (before after : List Entry) (t : Table)
    → history b rs ≡ before ++ as_accepted t x ∷ after → P (feed_all a before)
unfolding history feed_all
wherever P x f [] b a h [] after t e = absurd (let z : ◌≡◌ {A = ℕ} 0 1 = cc in omega arith)
wherever P x f [] b a h (y ∷ before) after t e = absurd (let z : ◌≡◌ {A = ℕ} 0 1 = cc in omega arith)
wherever P x f (r ∷ rs) b a h [] after t e =
    let q : entry_of b r ≡ as_accepted t x = cc in
    let qc : r.call ≡ x = ap (λ (y : Entry). y.call) q in
    let qa : is_accepted (posted_to b r).answer ≡ true = ap (λ (y : Entry). y.accepted) q in
    f r.table b a h (rw qc at qa)
wherever P x f (r ∷ rs) b a h (y ∷ before) after t e =
    let q : entry_of b r ≡ y = cc in
    let w : history (posted_to b r).book rs ≡ before ++ as_accepted t x ∷ after = cc in
    rw (← q) (wherever P x f rs (posted_to b r).book (feed a (entry_of b r)) (keeps b a r h) before after t w)

-- ---- demand 3

pub demand3 : (b : Book) → Sized b → (rs : List Request) → Demand3 b rs
unfolding accounts_from
demand3 b z rs =
    record {
      reconciled = agree_reconciled _ _ (keeps_all rs b a₀ start);
      year = (keeps_all rs b a₀ start).year;
      covers = λ before after t p.
          wherever (λ a. Covers a p) (Call.Apply p) (λ u d a. covers u d a p) rs b a₀ start before after t;
      made = λ before after t c.
          wherever (λ a. InTurn Covers a (made_by a c)) (Call.Cover c) (λ u d a. made u d a c) rs b a₀ start before after t;
    }
  where
    a₀ : Accounts
    a₀ = begun_with (opening_of b)

    start : Agree b a₀
    start = begins b z
