-- What an accepted trade, application or retirement keeps. A sound book sound: a trade leaves the total of its set and vintage as
-- it was, and the other two only lower figures. And the accounts' columns, with the figures of other years.
use Prim.Native.Nat.{ℕ, ◌+◌, ◌≤◌, ◌<◌}
use mathlib.Core.Bool.{Bool}
use mathlib.Core.List.{List}
use mathlib.Core.Path.{◌≡◌, refl, ◌∙◌, ap}
use native.Mathlib.Omega.{arith}
use lib.ListN.{length}
use Rattle.figuring.specs.Years.{first_year}
use Rattle.figuring.specs.Tables.{Table}
use Rattle.book.specs.Sizes.{sets, years, places}
use Rattle.book.specs.Below.{only}
use Rattle.book.specs.Ledger.{Key, In, figure_at, lower, raise}
use Rattle.book.specs.Accounts.{Accounts, move}
use Rattle.book.specs.Rules.{done}
use Rattle.book.specs.Demand3.{is_accepted}
use Rattle.book.specs.Postings.{moved, trade_done, application_done, retirement_done}
use Rattle.book.specs.Postings.{seller_lot, buyer_lot, applied_lot, covered_shortage, retired_lot}
use Rattle.book.specs.Companions.{Sized}
use Rattle.book.specs.declared.ledger.Book.{Book}
use Rattle.book.specs.declared.kinds.Call.{Call}
use Rattle.book.specs.declared.kinds.Trade.{Trade}
use Rattle.book.specs.declared.kinds.Application.{Application}
use Rattle.book.specs.declared.kinds.Retirement.{Retirement}
use Rattle.book.proofs.LedgerLaws.{at_lower, at_raise, length_lower, length_raise, lower_elsewhere, raise_elsewhere}
use Rattle.book.proofs.MoveFacts.{Tradable, Applicable, Retirable}
use Rattle.book.proofs.SoundnessLaws.{Sound}
use Rattle.book.proofs.TotalLaws.{total_of, total_lower, total_raise, other_vintage, any_maker}
use Rattle.book.proofs.Balances.{Agree, agree_moved, tied_as, tied_out, tied_in}
use Rattle.book.proofs.Lawful.{Lawful}

-- ---- what moving figures must not do
pub record Allowed (b : Book) (l s : List ℕ) : Type 0 where
  pub shortage : (k : Key) → In k → figure_at s k ≤ figure_at b.shortages k
  pub ahead : (k : Key) → In k → b.open_year ≤ k.year → figure_at l k ≤ figure_at b.lots k
  pub total : (t i : ℕ) → t < sets → i < years → total_of l t i ≤ total_of b.lots t i

moved_sound : (b : Book) (l s : List ℕ) → Sound b → Allowed b l s → Sound (moved b l s)
moved_sound b l s h a =
    record {
      low = h.low;
      high = h.high;
      bounded = h.bounded;
      unmarked = h.unmarked;
      shortage = λ k i. omega (arith, h.shortage k i, a.shortage k i);
      ahead = λ k i y.
          (omega (arith, (h.ahead k i y).0, a.ahead k i y), omega (arith, (h.ahead k i y).1, a.shortage k i));
      total = λ t i ht hi. omega (arith, h.total t i ht hi, a.total t i ht hi);
    }

moved_sized : {b : Book} {l s : List ℕ} → Sized b → length l ≡ places → length s ≡ places → Sized (moved b l s)
moved_sized z hl hs = record { marks = z.marks; parts = z.parts; lots = hl; shortages = hs }

-- ---- a lowered list
module _ (l : List ℕ) (k : Key) (n : ℕ) (size : length l ≡ places) (ik : In k) (enough : n ≤ figure_at l k) where
  falls : (j : Key) → In j → figure_at (lower l k n) j ≤ figure_at l j
  falls j ij = omega (arith, at_lower l k j n size ik ij enough)

  total_falls : (t i : ℕ) → t < sets → i < years → total_of (lower l k n) t i ≤ total_of l t i
  total_falls t i ht hi = omega (arith, total_lower l k n t i size ik ht hi enough)

-- ---- trade
trade_sound : (b : Book) (t : Trade) → Sized b → Tradable b t → Sound (trade_done b t).book
unfolding trade_done
trade_sound b t z g =
    let v = g.seller.live in
    let from = g.seller.lot in
    let to = g.buyer in
    let enough = g.seller.enough in
    let l = lower b.lots (seller_lot t) t.mg in
    let zl : length l ≡ places = length_lower b.lots (seller_lot t) t.mg ∙ z.lots in
    moved_sound b (raise l (buyer_lot t) t.mg) b.shortages g.seller.sound (record {
      shortage = λ k i. omega arith;
      ahead = λ k i y.
          omega (
            arith,
            at_raise l (buyer_lot t) k t.mg zl to i,
            other_vintage (buyer_lot t) k t.mg (omega arith),
            at_lower b.lots (seller_lot t) k t.mg z.lots from i enough,
          );
      total = λ r i hr hi.
          omega (
            arith,
            total_raise l (buyer_lot t) t.mg r i zl to hr hi,
            total_lower b.lots (seller_lot t) t.mg r i z.lots from hr hi enough,
            ap (λ (x : Bool). only x t.mg) (any_maker t.from t.to t.set r t.vintage (first_year + i)),
          );
    })

trade_agrees :
    (t : Table) (b : Book) (a : Accounts) (x : Trade) → Agree b a → Tradable b x
    → Agree (trade_done b x).book (move t a (Call.Trade x))
unfolding trade_done only
trade_agrees t b a x h g =
    let paid = tied_out h.lots (seller_lot x) x.mg g.seller.lot g.seller.enough in
    agree_moved _ h (tied_as (tied_in paid (buyer_lot x) x.mg g.buyer) _ _ (λ k. omega arith) (λ k. omega arith))
    (tied_as h.shortages _ _ (λ k. omega arith) (λ k. omega arith))

pub trade_lawful : (t : Table) (b : Book) (x : Trade) → Tradable b x → Lawful t b (Call.Trade x)
unfolding done trade_done is_accepted
trade_lawful t b x g =
    record {
      answered = refl;
      onward = omega arith;
      sized = λ z. moved_sized z (simp (length_raise, length_lower) z.lots) z.shortages;
      sound = λ z. trade_sound b x z g;
      agrees = λ a h. trade_agrees t b a x h g;
      lot = λ k i o.
          raise_elsewhere (lower b.lots (seller_lot x) x.mg) (buyer_lot x) k x.mg g.buyer i
          (omega (arith, o, g.seller.live))
          ∙ lower_elsewhere b.lots (seller_lot x) k x.mg g.seller.lot i (omega (arith, o, g.seller.live));
      shortage = λ k i o. refl;
    }

-- ---- apply
-- of the lengths it needs these two alone
pub apply_sound :
    (b : Book) (p : Application) → length b.lots ≡ places → length b.shortages ≡ places → Applicable b p
    → Sound (application_done b p).book
unfolding application_done
apply_sound b p zl zs g =
    let s = g.payer.sound in
    let lot = g.payer.lot in
    let paid = g.payer.enough in
    moved_sound b (lower b.lots (applied_lot p) p.mg) (lower b.shortages (covered_shortage p) p.mg) s (record {
      shortage = falls b.shortages (covered_shortage p) p.mg zs g.covered g.enough;
      ahead = λ k i y. falls b.lots (applied_lot p) p.mg zl lot paid k i;
      total = total_falls b.lots (applied_lot p) p.mg zl lot paid;
    })

pub apply_agrees :
    (t : Table) (b : Book) (a : Accounts) (p : Application) → Agree b a → Applicable b p
    → Agree (application_done b p).book (move t a (Call.Apply p))
unfolding application_done only
apply_agrees t b a p h g =
    let paid = tied_out h.lots (applied_lot p) p.mg g.payer.lot g.payer.enough in
    let less = tied_out h.shortages (covered_shortage p) p.mg g.covered g.enough in
    agree_moved _ h (tied_as paid _ _ (λ k. omega arith) (λ k. omega arith))
    (tied_as less _ _ (λ k. omega arith) (λ k. omega arith))

pub apply_lawful : (t : Table) (b : Book) (p : Application) → Applicable b p → Lawful t b (Call.Apply p)
unfolding done application_done is_accepted
apply_lawful t b p g =
    record {
      answered = refl;
      onward = omega arith;
      sized = λ z. moved_sized z (simp length_lower z.lots) (simp length_lower z.shortages);
      sound = λ z. apply_sound b p z.lots z.shortages g;
      agrees = λ a h. apply_agrees t b a p h g;
      lot = λ k i o.
          lower_elsewhere b.lots (applied_lot p) k p.mg g.payer.lot i (omega (arith, o, g.payer.live));
      shortage = λ k i o.
          lower_elsewhere b.shortages (covered_shortage p) k p.mg g.covered i (omega (arith, o, g.open_year));
    }

-- ---- retire
retire_sound : (b : Book) (p : Retirement) → Sized b → Retirable b p → Sound (retirement_done b p).book
unfolding retirement_done
retire_sound b p z g =
    let s = g.payer.sound in
    let lot = g.payer.lot in
    let paid = g.payer.enough in
    moved_sound b (lower b.lots (retired_lot p) p.mg) b.shortages s (record {
      shortage = λ k i. omega arith;
      ahead = λ k i y. falls b.lots (retired_lot p) p.mg z.lots lot paid k i;
      total = total_falls b.lots (retired_lot p) p.mg z.lots lot paid;
    })

retire_agrees :
    (t : Table) (b : Book) (a : Accounts) (p : Retirement) → Agree b a → Retirable b p
    → Agree (retirement_done b p).book (move t a (Call.Retire p))
unfolding retirement_done only
retire_agrees t b a p h g =
    let paid = tied_out h.lots (retired_lot p) p.mg g.payer.lot g.payer.enough in
    agree_moved _ h (tied_as paid _ _ (λ k. omega arith) (λ k. omega arith))
    (tied_as h.shortages _ _ (λ k. omega arith) (λ k. omega arith))

pub retire_lawful : (t : Table) (b : Book) (p : Retirement) → Retirable b p → Lawful t b (Call.Retire p)
unfolding done retirement_done is_accepted
retire_lawful t b p g =
    record {
      answered = refl;
      onward = omega arith;
      sized = λ z. moved_sized z (simp length_lower z.lots) z.shortages;
      sound = λ z. retire_sound b p z g;
      agrees = λ a h. retire_agrees t b a p h g;
      lot = λ k i o.
          lower_elsewhere b.lots (retired_lot p) k p.mg g.payer.lot i (omega (arith, o, g.payer.live));
      shortage = λ k i o. refl;
    }
