-- A sound book is one that a text can say: the bounds of a sound book have at most 18 digits.
use Prim.Native.Nat.{ℕ, ◌+◌, ◌*◌, ◌/◌, ◌%◌, ◌≤◌, ◌<◌}
use native.Mathlib.Decide.{dec_lt}
use native.Mathlib.Omega.{arith}
use mathlib.Core.Path.{◌≡◌}
use mathlib.Core.List.{List}
use lib.Dec.{lit≤}
use lib.ListN.{length, get_or, get_or-eq_default}
use lib.IntN.{pos, nat_abs}
use Rattle.figuring.specs.Years.{first_year}
use Rattle.figuring.specs.Parts.{part_most}
use Rattle.book.specs.Sizes.{sets, families, years, places, all_parts, all_closed, shortage_most, lots_most}
use Rattle.book.specs.Ledger.{Key, key, In, place, figure_at}
use Rattle.book.specs.Companions.{Sized}
use Rattle.book.specs.declared.ledger.Book.{Book}
use Rattle.book.proofs.SoundnessLaws.{Sound, sound_lot}
use Rattle.text.specs.RoundTrip.{Marks64, Writable}
use Rattle.text.proofs.AcceptedTextLaws.{Low, Lowℤ}

part_most_lem : Low part_most
part_most_lem = lit≤ tt

shortage_most_lem : Low shortage_most
shortage_most_lem = lit≤ tt

lots_most_lem : Low lots_most
lots_most_lem = lit≤ tt

all_closed_lem : Low all_closed
all_closed_lem = lit≤ tt

-- the figures of an array that are bounded key by key are low, and so is what stands past it
module _ (l : List ℕ) (long : length l ≡ places) (most : ℕ) (low : Low most)
    (bounded : (k : Key) → In k → figure_at l k ≤ most) where
  low_figure : (i : ℕ) → Low (get_or l i 0)
  unfolding figure_at
  low_figure i = go (dec_lt i places)
    where
      go : Dec (i < places) → Low (get_or l i 0)
      go (yes h) =
          let k : Key = key (i / years / sets) (i / years % sets) (first_year + i % years) in
          let j : In k = omega arith in
          let e : place k ≡ i = omega arith in
          let m : get_or l i 0 ≤ most = rw e at (bounded k j) in
          omega arith
      go (no h) = rw (get_or-eq_default l 0 {n = i} (omega arith)) (lit≤ tt)

module _ (b : Book) (n : Sized b) (w : Marks64 b) (s : Sound b) where
  low_part : (i : ℕ) → Dec (i < all_parts) → Lowℤ (get_or b.parts i (pos 0))
  low_part i (yes h) =
      let e : i / families * families + i % families ≡ i = omega arith in
      let l : nat_abs (get_or b.parts i (pos 0)) ≤ part_most =
      rw e at (s.bounded (i / families) (i % families) (omega arith) (omega arith)) in
      omega (arith, part_most_lem)
  low_part i (no h) = rw (get_or-eq_default b.parts (pos 0) {n = i} (omega (arith, n.parts))) (lit≤ tt)

  pub sound_writable : Writable b
  sound_writable =
      record {
        sized = n;
        bits = w;
        unmarked = λ i h u.
            let e : i / families * families + i % families ≡ i = omega arith in
            rw e at (s.unmarked (i / families) (i % families) (omega arith) (omega arith) u);
        year = omega (arith, s.high, all_closed_lem);
        parts = λ i. low_part i (dec_lt i all_parts);
        lots = low_figure b.lots n.lots lots_most lots_most_lem (sound_lot b s);
        shortages = low_figure b.shortages n.shortages shortage_most shortage_most_lem s.shortage;
      }
