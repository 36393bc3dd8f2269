-- What an accepted trade, application or retirement says, as facts: the code's needs and the theorems cite these
-- records, never a call's rows.
use Prim.Native.Nat.{ℕ, ◌+◌, ◌^◌, ◌≤◌, ◌<◌}
use mathlib.Core.Bool.{Bool, true, false, not}
use mathlib.Core.Logic.{◌≢◌}
use mathlib.Core.List.{[]}
use mathlib.Core.Path.{◌≡◌, refl}
use native.Mathlib.Omega.{arith}
use borrow.Author.Tests.{ltb-false, leb-false, eqb-false}
use lib.Dec.{ltb, eqb}
use Rattle.book.specs.Sizes.{makers, sets, all_closed}
use Rattle.book.specs.Ledger.{Key, In, figure_at, lower, has_shortage}
use Rattle.book.specs.Soundness.{sound}
use Rattle.figuring.specs.Life.{live, open_short}
use Rattle.book.specs.Refusals.{Verdict, first_refusal}
use Rattle.book.specs.Rules.{head_rows, rows_for, own_rows, trade_rows, apply_rows, retire_rows}
use Rattle.book.specs.Postings.{seller_lot, buyer_lot, applied_lot, covered_shortage, retired_lot}
use Rattle.book.specs.declared.ledger.Book.{Book}
use Rattle.book.specs.declared.kinds.Trade.{Trade}
use Rattle.book.specs.declared.kinds.Application.{Application}
use Rattle.book.specs.declared.kinds.Retirement.{Retirement}
use Rattle.std.specs.Prelude.{Ok}
use Rattle.book.specs.declared.kinds.Call.{Call}
use Rattle.figuring.specs.Tables.{Table, built_in}
use Rattle.book.proofs.TableLaws.{cleared, head_passed, sound_so, own_so}
use Rattle.book.proofs.SoundnessLaws.{Sound, sound_is, sound_lot}
use Rattle.book.proofs.LedgerLaws.{lower_apart}
use Rattle.figuring.proofs.LifeLaws.{Live, live_is, OpenShort, open_is}

-- a live vintage and an open shortage's year are years of the book
module _ (Y : ℕ) (k : Key) (high : Y ≤ all_closed) (m : k.maker < makers) (i : k.set < sets) where
  pub live_in : not (live Y k.year) ≡ false → In k
  live_in v = omega (arith, live_is _ _ v)

  pub open_in : not (open_short Y k.year) ≡ false → In k
  open_in v = omega (arith, open_is _ _ v)

-- as the code finds it, once the head has accepted: r is the head's answer to s, that the book is sound, and l whether
-- the vintage is live, or the shortage open
module _
    (b : Book) (k : Key) {r : Verdict} {s : Bool} (passed : r ≡ Ok tt)
    (said : r ≡ first_refusal (head_rows s [])) (is : s ≡ sound b) (m : k.maker < makers) (i : k.set < sets)
  where
    pub live_place : {l : Bool} → l ≡ true → l ≡ live b.open_year k.year → In k
    live_place h e = live_in b.open_year k (sound_is b (head_passed b passed said is)).high m i (rw (← e, h) refl)

    pub open_place : {l : Bool} → l ≡ true → l ≡ open_short b.open_year k.year → In k
    open_place h e = open_in b.open_year k (sound_is b (head_passed b passed said is)).high m i (rw (← e, h) refl)

-- ---- a lot that pays n, which the three calls share
pub record Pays (b : Book) (k : Key) (n : ℕ) : Type 0 where
  pub sound : Sound b
  pub lot : In k
  pub live : Live b.open_year k.year
  pub some : n ≢ 0
  pub enough : n ≤ figure_at b.lots k

-- the lot k pays n, by the rows that the three calls share
pays :
    (b : Book) (k : Key) (n : ℕ) → Sound b → k.maker < makers → k.set < sets
    → not (live b.open_year k.year) ≡ false → eqb n 0 ≡ false → ltb (figure_at b.lots k) n ≡ false
    → Pays b k n
pays b k n s m i v z e =
    record {
      sound = s;
      lot = live_in _ k s.high m i v;
      live = live_is _ _ v;
      some = eqb-false n 0 z;
      enough = ltb-false _ n e;
    }

-- what the code knows of a call that its verdict accepts, whatever the table: that its book is sound, and its own rows
module _ (b : Book) (c : Call) {r : Verdict} (said : (t : Table) → r ≡ first_refusal (rows_for t b c)) (h : r ≡ Ok tt) where
  book_sound : sound b ≡ true
  book_sound = sound_so built_in b c (said built_in) h

  own_accept : first_refusal (own_rows built_in b c) ≡ Ok tt
  own_accept = own_so built_in b c (said built_in) h

-- ---- trade
pub record Tradable (b : Book) (t : Trade) : Type 0 where
  pub seller : Pays b (seller_lot t) t.mg
  pub buyer : In (buyer_lot t)
  pub apart : t.from ≢ t.to
  pub clear : has_shortage b.shortages t.from t.set ≡ false
  -- what the buyer's lot comes to, once the seller's is lowered, is below 2 ^ 64
  pub room : figure_at (lower b.lots (seller_lot t) t.mg) (buyer_lot t) + t.mg < 2 ^ 64

pub tradable :
    (b : Book) (t : Trade) → sound b ≡ true
    → first_refusal (trade_rows b.open_year b.lots b.shortages t) ≡ Ok tt → Tradable b t
unfolding trade_rows
tradable b t w e =
    let s = sound_is b w in
    let h = cleared (trade_rows b.open_year b.lots b.shortages t) e in
    let from : t.from < makers = leb-false makers _ (search h) in
    let to : t.to < makers = leb-false makers _ (search h) in
    let among : t.set < sets = leb-false sets _ (search h) in
    let v : not (live b.open_year t.vintage) ≡ false = search h in
    let p : Pays b (seller_lot t) t.mg = pays b (seller_lot t) t.mg s from among v (search h) (search h) in
    let i : In (buyer_lot t) = live_in _ (buyer_lot t) s.high to among v in
    let apart : t.from ≢ t.to = eqb-false _ _ (search h) in
    record {
      seller = p;
      buyer = i;
      apart = apart;
      clear = search h;
      room =
          omega (
            arith,
            sound_lot b s (seller_lot t) p.lot,
            sound_lot b s (buyer_lot t) i,
            lower_apart b.lots (seller_lot t) (buyer_lot t) t.mg (λ q. apart (omega arith)),
          );
    }

-- ---- apply
pub record Applicable (b : Book) (p : Application) : Type 0 where
  pub payer : Pays b (applied_lot p) p.mg
  pub covered : In (covered_shortage p)
  pub open_year : OpenShort b.open_year p.year
  pub enough : p.mg ≤ figure_at b.shortages (covered_shortage p)

pub applicable :
    (b : Book) (p : Application) → sound b ≡ true
    → first_refusal (apply_rows b.open_year b.lots b.shortages p) ≡ Ok tt → Applicable b p
unfolding apply_rows
applicable b p w e =
    let s = sound_is b w in
    let h = cleared (apply_rows b.open_year b.lots b.shortages p) e in
    let maker : p.maker < makers = leb-false makers _ (search h) in
    let among : p.set < sets = leb-false sets _ (search h) in
    let o : not (open_short b.open_year p.year) ≡ false = search h in
    record {
      payer = pays b (applied_lot p) p.mg s maker among (search h) (search h) (search h);
      covered = open_in _ (covered_shortage p) s.high maker among o;
      open_year = open_is _ _ o;
      enough = ltb-false _ p.mg (search h);
    }

-- ---- retire
pub record Retirable (b : Book) (p : Retirement) : Type 0 where
  pub payer : Pays b (retired_lot p) p.mg
  pub clear : has_shortage b.shortages p.maker p.set ≡ false

pub retirable :
    (b : Book) (p : Retirement) → sound b ≡ true
    → first_refusal (retire_rows b.open_year b.lots b.shortages p) ≡ Ok tt → Retirable b p
unfolding retire_rows
retirable b p w e =
    let h = cleared (retire_rows b.open_year b.lots b.shortages p) e in
    let maker : p.maker < makers = leb-false makers _ (search h) in
    let among : p.set < sets = leb-false sets _ (search h) in
    record {
      payer = pays b (retired_lot p) p.mg (sound_is b w) maker among (search h) (search h) (search h);
      clear = search h;
    }

-- ---- of the code's verdicts
pub trade_facts :
    (b : Book) (t : Trade) {r : Verdict}
    → ((table : Table) → r ≡ first_refusal (rows_for table b (Call.Trade t))) → r ≡ Ok tt → Tradable b t
unfolding own_rows
trade_facts b t said h = tradable b t (book_sound b (Call.Trade t) said h) (own_accept b (Call.Trade t) said h)

pub application_facts :
    (b : Book) (p : Application) {r : Verdict}
    → ((table : Table) → r ≡ first_refusal (rows_for table b (Call.Apply p))) → r ≡ Ok tt → Applicable b p
unfolding own_rows
application_facts b p said h = applicable b p (book_sound b (Call.Apply p) said h) (own_accept b (Call.Apply p) said h)

pub retirement_facts :
    (b : Book) (p : Retirement) {r : Verdict}
    → ((table : Table) → r ≡ first_refusal (rows_for table b (Call.Retire p))) → r ≡ Ok tt → Retirable b p
unfolding own_rows
retirement_facts b p said h = retirable b p (book_sound b (Call.Retire p) said h) (own_accept b (Call.Retire p) said h)
