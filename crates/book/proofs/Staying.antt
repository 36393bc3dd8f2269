-- An expired lot and an overdue shortage stay: a call moves only figures of live vintages and open shortages, and a close
-- writes the open year's.
use Prim.Native.Nat.{ℕ}
use mathlib.Core.List.{List, [], ◌∷◌}
use mathlib.Core.Path.{◌≡◌, refl, ◌∙◌}
use native.Mathlib.Omega.{arith}
use Rattle.book.specs.Ledger.{Key, In, figure_at}
use Rattle.figuring.specs.Life.{expired, overdue}
use Rattle.book.specs.Rules.{Request, posted_to}
use Rattle.book.specs.Demand3.{book_after}
use Rattle.book.specs.Companions.{Stays}
use Rattle.book.specs.declared.ledger.Book.{Book}
use Rattle.book.proofs.TableLaws.{by_verdict}
use Rattle.figuring.proofs.LifeLaws.{Old, old_is, is_old}
use Rattle.book.proofs.CallLaws.{lawful}

-- ---- one call
module _ (b : Book) (k : Key) (i : In k) where
  call_old : (life : ℕ) (r : Request) → Old life b.open_year k.year → Old life (posted_to b r).book.open_year k.year
  call_old life r o =
      by_verdict r.table b r.call (λ p. Old life p.book.open_year k.year) (λ w. o)
      (λ s e. record { from = o.from; old = omega (arith, o.old, (lawful r.table b r.call s e).onward) })

  call_lot :
      (r : Request) → Old 6 b.open_year k.year → figure_at (posted_to b r).book.lots k ≡ figure_at b.lots k
  call_lot r o =
      by_verdict r.table b r.call (λ p. figure_at p.book.lots k ≡ figure_at b.lots k) (λ w. refl) (λ s e. (lawful r.table b r.call s e).lot k i o)

  call_shortage :
      (r : Request) → Old 4 b.open_year k.year
      → figure_at (posted_to b r).book.shortages k ≡ figure_at b.shortages k
  call_shortage r o =
      by_verdict r.table b r.call (λ p. figure_at p.book.shortages k ≡ figure_at b.shortages k) (λ w. refl)
      (λ s e. (lawful r.table b r.call s e).shortage k i o)

-- ---- any list of calls
after_old :
    (life : ℕ) (rs : List Request) (b : Book) (k : Key) → In k → Old life b.open_year k.year
    → Old life (book_after b rs).open_year k.year
unfolding book_after
after_old life [] b k i o = o
after_old life (r ∷ rs) b k i o = after_old life rs (posted_to b r).book k i (call_old b k i life r o)

after_lot : (rs : List Request) (b : Book) (k : Key) → In k → Old 6 b.open_year k.year → figure_at (book_after b rs).lots k ≡ figure_at b.lots k
unfolding book_after
after_lot [] b k i o = refl
after_lot (r ∷ rs) b k i o = after_lot rs (posted_to b r).book k i (call_old b k i 6 r o) ∙ call_lot b k i r o

after_shortage :
    (rs : List Request) (b : Book) (k : Key) → In k → Old 4 b.open_year k.year
    → figure_at (book_after b rs).shortages k ≡ figure_at b.shortages k
unfolding book_after
after_shortage [] b k i o = refl
after_shortage (r ∷ rs) b k i o = after_shortage rs (posted_to b r).book k i (call_old b k i 4 r o) ∙ call_shortage b k i r o

pub stays : (b : Book) (rs : List Request) (k : Key) → In k → Stays b rs k
unfolding expired overdue
stays b rs k i =
    record {
      lot = λ e. after_lot rs b k i (old_is 6 _ _ e);
      still_expired = λ e. is_old 6 _ _ (after_old 6 rs b k i (old_is 6 _ _ e));
      shortage = λ e. after_shortage rs b k i (old_is 4 _ _ e);
      still_overdue = λ e. is_old 4 _ _ (after_old 4 rs b k i (old_is 4 _ _ e));
    }
