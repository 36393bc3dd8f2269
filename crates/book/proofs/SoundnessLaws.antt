-- What a sound book is, as facts: `sound b ≡ true` says exactly what the record `Sound b` says.
use mathlib.Core.Bool.{Bool, true, false, ◌||◌}
use mathlib.Core.Path.{◌≡◌, refl, sym, ◌∙◌, ap}
use Prim.Native.Nat.{ℕ, ◌+◌, ◌-◌, ◌*◌, ◌/◌, ◌%◌, ◌≤◌, ◌<◌}
use native.Mathlib.Omega.{arith}
use borrow.Author.Tests.{ltb-false, leb-true, eqb-true, le-ltb, le-leb, eq-eqb}
use lib.Dec.{ltb, leb, eqb}
use lib.ListN.{get_or}
use lib.IntN.{ℤ, pos, negsuc, nat_abs}
use Rattle.figuring.specs.Years.{first_year}
use Rattle.figuring.specs.Parts.{part_most}
use Rattle.figuring.proofs.BoolLaws.{both, and_intro}
use Rattle.book.specs.Sizes.{makers, sets, cells, families, years, all_closed, shortage_most, lots_most}
use Rattle.figuring.specs.Below.{all_below}
use Rattle.book.specs.Below.{sum_below}
use Rattle.book.specs.Ledger.{Key, key, In, figure_at, cell, marked, part_at}
use Rattle.book.specs.Soundness.{sound, year_in_range, cells_sound, maker_sound, cell_sound, family_sound, part_sound, year_sound, figures_sound, totals_sound, set_sound, total_sound, lot_of}
use Rattle.book.specs.declared.ledger.Book.{Book}
use Rattle.figuring.proofs.BelowLaws.{all_at, all_of}
use Rattle.book.proofs.BelowLaws.{sum_at_lem}

pub record Sound (b : Book) : Type 0 where
  pub low : first_year ≤ b.open_year
  pub high : b.open_year ≤ all_closed
  pub bounded : (c f : ℕ) → c < cells → f < families → nat_abs (part_at b.parts c f) ≤ part_most
  pub unmarked :
      (c f : ℕ) → c < cells → f < families → marked (get_or b.marks c 0) f ≡ false → part_at b.parts c f ≡ pos 0
  pub shortage : (k : Key) → In k → figure_at b.shortages k ≤ shortage_most
  pub ahead : (k : Key) → In k → b.open_year ≤ k.year → (figure_at b.lots k ≡ 0) × (figure_at b.shortages k ≡ 0)
  pub total : (s i : ℕ) → s < sets → i < years → sum_below makers (lot_of b.lots s i) ≤ lots_most

or_false : (a b : Bool) → (a || b) ≡ true → a ≡ false → b ≡ true
or_false true b e f = absurd (let z : ◌≡◌ {A = ℕ} 0 1 = cc in omega arith)
or_false false b e f = e

pub zero_is : (x : ℤ) → nat_abs x ≡ 0 → x ≡ pos 0
zero_is (pos n) e = ap pos e
zero_is (negsuc n) e = absurd (omega arith)

-- the year of a key, counted from the first
year_of : (k : Key) → In k → key k.maker k.set (first_year + (k.year - first_year)) ≡ k
year_of k i =
    let e : first_year + (k.year - first_year) ≡ k.year = omega arith in
    ap (λ (y : ℕ). key k.maker k.set y) e

module _ (b : Book) (e : sound b ≡ true) where
  ranges : year_in_range b.open_year ≡ true
  unfolding sound
  ranges = (both _ _ e).0

  cells_hold : cells_sound b ≡ true
  unfolding sound
  cells_hold = (both (cells_sound b) (totals_sound b.lots) (both (year_in_range b.open_year) _ e).1).0

  totals_hold : totals_sound b.lots ≡ true
  unfolding sound
  totals_hold = (both (cells_sound b) (totals_sound b.lots) (both (year_in_range b.open_year) _ e).1).1

  cell_holds : (m s : ℕ) → m < makers → s < sets → cell_sound b m s ≡ true
  unfolding cells_sound maker_sound
  cell_holds m s hm hs = all_at (cell_sound b m) sets s hs (all_at (maker_sound b) makers m hm cells_hold)

  family_holds : (c f : ℕ) → c < cells → f < families → family_sound b c f ≡ true
  unfolding cell_sound
  family_holds c f hc hf =
      let m : c / sets < makers = omega arith in
      let s : c % sets < sets = omega arith in
      let w : c / sets * sets + c % sets ≡ c = omega arith in
      let h = (both _ _ (cell_holds (c / sets) (c % sets) m s)).0 in
      rw w at (all_at (family_sound b (cell (c / sets) (c % sets))) families f hf h)

  year_holds : (k : Key) → In k → figures_sound b.open_year k.year (figure_at b.lots k) (figure_at b.shortages k) ≡ true
  unfolding cell_sound year_sound
  year_holds k i =
      let h = (both (all_below families (family_sound b (cell k.maker k.set))) (all_below years (year_sound b k.maker k.set)) (cell_holds k.maker k.set i.maker i.set)).1 in
      let g : year_sound b k.maker k.set (k.year - first_year) ≡ true = all_at (year_sound b k.maker k.set) years (k.year - first_year) (omega arith) h in
      ap (λ (j : Key). figures_sound b.open_year j.year (figure_at b.lots j) (figure_at b.shortages j)) (sym (year_of k i)) ∙ g

  pub sound_is : Sound b
  unfolding year_in_range family_sound part_sound figures_sound totals_sound set_sound total_sound
  sound_is =
      let y = both _ _ ranges in
      record {
        low = leb-true first_year _ y.0;
        high = leb-true _ all_closed y.1;
        bounded = λ c f hc hf. leb-true _ part_most (both _ _ (family_holds c f hc hf)).0;
        unmarked = λ c f hc hf m.
            zero_is _ (eqb-true _ 0 (or_false (marked (get_or b.marks c 0) f) _ (both (leb (nat_abs (part_at b.parts c f)) part_most) _ (family_holds c f hc hf)).1 m));
        shortage = λ k i. leb-true _ shortage_most (both _ _ (year_holds k i)).0;
        ahead = λ k i h.
            let w = both _ _ (or_false (ltb k.year b.open_year) _ (both (leb (figure_at b.shortages k) shortage_most) _ (year_holds k i)).1 (le-ltb k.year b.open_year h)) in
            (eqb-true _ 0 w.0, eqb-true _ 0 w.1);
        total = λ s i hs hi. leb-true _ lots_most (all_at (total_sound b.lots s) years i hi (all_at (set_sound b.lots) sets s hs totals_hold));
      }

-- a lot of a sound book
pub sound_lot : (b : Book) → Sound b → (k : Key) → In k → figure_at b.lots k ≤ lots_most
sound_lot b s k i =
    let h = sum_at_lem (lot_of b.lots k.set (k.year - first_year)) makers k.maker i.maker in
    let t = s.total k.set (k.year - first_year) i.set (omega arith) in
    let e : figure_at b.lots (key k.maker k.set (first_year + (k.year - first_year))) ≡ figure_at b.lots k = ap (figure_at b.lots) (year_of k i) in
    omega arith

or_intro : (a b : Bool) → (a ≡ false → b ≡ true) → (a || b) ≡ true
or_intro true b h = refl
or_intro false b h = h refl

-- the other way round: what has these facts is sound
module _ (b : Book) (s : Sound b) where
  family_sound_lem : (c f : ℕ) → c < cells → f < families → family_sound b c f ≡ true
  unfolding family_sound part_sound
  family_sound_lem c f hc hf =
      and_intro (le-leb (nat_abs (part_at b.parts c f)) part_most (s.bounded c f hc hf))
      (or_intro (marked (get_or b.marks c 0) f) (eqb (nat_abs (part_at b.parts c f)) 0)
      (λ m. eq-eqb (nat_abs (part_at b.parts c f)) 0 (ap nat_abs (s.unmarked c f hc hf m))))

  year_sound_lem : (m k i : ℕ) → m < makers → k < sets → i < years → year_sound b m k i ≡ true
  unfolding year_sound figures_sound
  year_sound_lem m k i hm hk hi =
      let j : In (key m k (first_year + i)) = omega arith in
      and_intro (le-leb (figure_at b.shortages (key m k (first_year + i))) shortage_most (s.shortage (key m k (first_year + i)) j))
      (or_intro (ltb (first_year + i) b.open_year) _
      (λ l.
      let a = s.ahead (key m k (first_year + i)) j (ltb-false (first_year + i) b.open_year l) in
      and_intro (eq-eqb (figure_at b.lots (key m k (first_year + i))) 0 a.0)
      (eq-eqb (figure_at b.shortages (key m k (first_year + i))) 0 a.1)))

  pub is_sound : sound b ≡ true
  unfolding sound year_in_range cells_sound maker_sound cell_sound totals_sound set_sound total_sound
  is_sound =
      and_intro (and_intro (le-leb first_year b.open_year s.low) (le-leb b.open_year all_closed s.high))
      (and_intro
      (all_of (maker_sound b) makers (λ m hm. all_of (cell_sound b m) sets (λ k hk.
      and_intro (all_of (family_sound b (cell m k)) families (λ f hf. family_sound_lem (cell m k) f (omega arith) hf))
      (all_of (year_sound b m k) years (λ i hi. year_sound_lem m k i hm hk hi)))))
      (all_of (set_sound b.lots) sets (λ k hk. all_of (total_sound b.lots k) years (λ i hi.
      le-leb (sum_below makers (lot_of b.lots k i)) lots_most (s.total k i hk hi)))))
