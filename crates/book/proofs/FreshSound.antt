-- A book with nothing in it is sound, whatever its open year: by the laws, since computing it takes long.
use Prim.Native.Nat.{ℕ, ◌+◌, ◌≤◌, ◌<◌}
use mathlib.Core.Bool.{true}
use mathlib.Core.Path.{◌≡◌, ap}
use native.Mathlib.Omega.{arith}
use lib.ListN.{replicate, length-replicate}
use lib.IntN.{pos, nat_abs}
use Rattle.figuring.specs.Years.{first_year}
use Rattle.figuring.specs.Parts.{part_most}
use Rattle.book.specs.Sizes.{makers, cells, families, places, all_parts, all_closed}
use Rattle.book.specs.Ledger.{key, part_at}
use Rattle.book.specs.Soundness.{sound, lot_of}
use Rattle.book.specs.Postings.{empty_in, fresh_book}
use Rattle.book.specs.Companions.{Sized}
use Rattle.book.specs.Marked.{last_open}
use Rattle.book.proofs.BelowLaws.{sum_zero}
use Rattle.book.proofs.LedgerLaws.{at_zeros, no_part}
use Rattle.book.proofs.SoundnessLaws.{is_sound}

pub no_part_bounded : (c f : ℕ) → c < cells → f < families → nat_abs (part_at (replicate all_parts (pos 0)) c f) ≤ part_most
no_part_bounded c f hc hf = omega (arith, ap nat_abs (no_part c f))

pub empty_sound : (y : ℕ) → first_year ≤ y → y ≤ all_closed → sound (empty_in y) ≡ true
empty_sound y l h =
    is_sound (empty_in y) (record {
      low = l;
      high = h;
      bounded = no_part_bounded;
      unmarked = λ c f hc hf m. no_part c f;
      shortage = λ k i. omega (arith, at_zeros k);
      ahead = λ k i a. (at_zeros k, at_zeros k);
      total = λ s i hs hi.
          omega (
            arith,
            sum_zero (lot_of (empty_in y).lots s i) makers (λ m hm. at_zeros (key m s (first_year + i))),
          );
    })

pub empty_sized : (y : ℕ) → Sized (empty_in y)
empty_sized y =
    record {
      marks = length-replicate {A = ℕ} cells 0;
      parts = length-replicate all_parts (pos 0);
      lots = length-replicate {A = ℕ} places 0;
      shortages = length-replicate {A = ℕ} places 0;
    }

pub fresh_sound : sound fresh_book ≡ true
unfolding fresh_book
fresh_sound = empty_sound first_year (omega arith) (omega arith)

pub fresh_sized : Sized fresh_book
unfolding fresh_book
fresh_sized = empty_sized first_year

pub last_sound : sound last_open ≡ true
unfolding last_open
last_sound = empty_sound 2037 (omega arith) (omega arith)

pub last_sized : Sized last_open
unfolding last_open
last_sized = empty_sized 2037
