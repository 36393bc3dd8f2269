-- What an accepted close keeps. A sound book sound: 64 parts within their bound come to a lot and a shortage within theirs, the lots of 8
-- makers to a total within its own, and other years stay as they were.
use Prim.Native.Nat.{ℕ, ◌+◌, ◌-◌, ◌*◌, ◌≤◌, ◌<◌}
use mathlib.Core.List.{List}
use mathlib.Core.Path.{◌≡◌, refl, ◌∙◌, ap}
use native.Mathlib.Omega.{arith}
use native.Mathlib.Decide.{ℕ_discrete}
use lib.ListN.{length, length-replicate}
use lib.IntN.{pos, nat_abs}
use Rattle.figuring.specs.Years.{first_year, last_year}
use Rattle.figuring.specs.Units.{engine_unit}
use Rattle.figuring.specs.Tables.{Table}
use Rattle.figuring.specs.Parts.{part_most}
use Rattle.figuring.specs.Netting.{net_most, net_of, earned_of, shortfall_of}
use Rattle.figuring.proofs.NettingLaws.{net_bound}
use Rattle.book.specs.Sizes.{makers, sets, cells, families, years, places, all_parts, shortage_most, lots_most}
use Rattle.book.specs.Ledger.{Key, key, In, figure_at, cell, cell_sum, part_at}
use Rattle.book.specs.Postings.{close_done, netted, earned_by, short_by}
use Rattle.book.specs.Rules.{done}
use Rattle.book.specs.Accounts.{Accounts, sum_at, earned_at, shortfall_at, move}
use Rattle.book.specs.Demand3.{is_accepted}
use Rattle.book.specs.Companions.{Sized}
use Rattle.book.specs.declared.ledger.Book.{Book}
use Rattle.book.specs.declared.kinds.Call.{Call}
use Rattle.book.proofs.BelowLaws.{sum_ℤ_small}
use Rattle.book.proofs.CloseFacts.{Closable}
use Rattle.book.proofs.LedgerLaws.{no_part, netted_length, netted_in, netted_out}
use Rattle.book.proofs.SoundnessLaws.{Sound, sound_is}
use Rattle.book.proofs.TotalLaws.{sum_small, sum_falls, total_of}
use Rattle.book.proofs.FreshSound.{no_part_bounded}
use Rattle.book.proofs.Balances.{Agree, tied_net, families_clear, families_sum}
use Rattle.book.proofs.Lawful.{Lawful}

sum_bound : (b : Book) (c : ℕ) → Sound b → c < cells → nat_abs (cell_sum b.parts c) ≤ families * part_most
unfolding cell_sum
sum_bound b c s hc = sum_ℤ_small (part_at b.parts c) families part_most (λ f hf. s.bounded c f hc hf)

abbrev lot_key : ℕ → ℕ → ℕ → Key
lot_key s i m = key m s (first_year + i)

-- ---- a list of figures in which the year y was netted
module _ (l : List ℕ) (v : ℕ → ℕ) (y : ℕ) (size : length l ≡ places) (from : first_year ≤ y) (upto : y ≤ last_year) where
  abbrev after : List ℕ
  after = netted (y - first_year) v cells l

  -- a bound that the old figures and the new ones keep
  figure_bound :
      (most : ℕ) (k : Key) → In k → figure_at l k ≤ most → ((c : ℕ) → c < cells → v c ≤ most) → figure_at after k ≤ most
  figure_bound most k i old new = go (ℕ_discrete k.year y)
    where
      go : Dec (k.year ≡ y) → figure_at after k ≤ most
      go (yes p) = omega (arith, netted_in y v l k size i p, new (cell k.maker k.set) (omega arith))
      go (no p) = omega (arith, netted_out y v l k i from upto p)

  total_bound :
      (most all s i : ℕ)
      → s < sets → i < years → total_of l s i ≤ all → makers * most ≤ all → ((c : ℕ) → c < cells → v c ≤ most)
      → total_of after s i ≤ all
  total_bound most all s i hs hi old room new = go (ℕ_discrete (first_year + i) y)
    where
      go : Dec (first_year + i ≡ y) → total_of after s i ≤ all
      go (yes p) =
          omega (
            arith,
            sum_small (λ m. figure_at after (lot_key s i m)) makers most
                (λ m hm. omega (arith, netted_in y v l (lot_key s i m) size (omega arith) p, new (cell m s) (omega arith))),
          )
      go (no p) =
          omega (
            arith,
            sum_falls (λ m. figure_at l (lot_key s i m)) (λ m. figure_at after (lot_key s i m)) makers
                (λ m hm. omega (arith, netted_out y v l (lot_key s i m) (omega arith) from upto p)),
          )

close_sound : (b : Book) (y : ℕ) → Sized b → Closable b y → Sound (close_done b).book
unfolding close_done
close_sound b y z g =
    let Y = b.open_year in
    let s = sound_is b g.sound in
    let upto : Y ≤ last_year = g.upto in
    record {
      low = omega (arith, s.low);
      high = omega arith;
      bounded = no_part_bounded;
      unmarked = λ d f hd hf m. no_part d f;
      shortage = λ k i.
          figure_bound b.shortages (short_by b) Y z.shortages s.low upto shortage_most k i (s.shortage k i)
          (λ d hd. (net_bound (cell_sum b.parts d) (sum_bound b d s hd)).1);
      ahead = λ k i h.
          let zero = s.ahead k i (omega arith) in (
            netted_out Y (earned_by b) b.lots k i s.low upto (omega arith) ∙ zero.0,
            netted_out Y (short_by b) b.shortages k i s.low upto (omega arith) ∙ zero.1,
          );
      total = λ t i ht hi.
          total_bound b.lots (earned_by b) Y z.lots s.low upto net_most lots_most t i ht hi (s.total t i ht hi)
          (omega arith) (λ d hd. (net_bound (cell_sum b.parts d) (sum_bound b d s hd)).0);
    }

close_sized : (b : Book) → Sized b → Sized (close_done b).book
unfolding close_done
close_sized b z =
    record {
      marks = length-replicate {A = ℕ} cells 0;
      parts = length-replicate all_parts (pos 0);
      lots = simp netted_length z.lots;
      shortages = simp netted_length z.shortages;
    }

close_agrees :
    (t : Table) (b : Book) (a : Accounts) (y : ℕ) → Agree b a → Closable b y
    → Agree (close_done b).book (move t a (Call.Close y))
unfolding close_done
close_agrees t b a y h g =
    let s = sound_is b g.sound in
    rw g.year
    (record {
      year = ap (λ (Y : ℕ). Y + 1) h.year;
      families = families_clear h.families;
      lots =
          tied_net h.lots (earned_by b) (earned_at a) g.from g.upto
          (λ k i e. ap earned_of (net_same k i e)) (λ k i e. (s.ahead k i (omega arith)).0);
      shortages =
          tied_net h.shortages (short_by b) (shortfall_at a) g.from g.upto
          (λ k i e. ap shortfall_of (net_same k i e)) (λ k i e. (s.ahead k i (omega arith)).1);
    })
  where
    -- what the accounts' sum nets to is what the cell nets to
    net_same :
        (k : Key) → In k → k.year ≡ b.open_year
        → net_of engine_unit (sum_at a k) ≡ net_of engine_unit (cell_sum b.parts (cell k.maker k.set))
    net_same k i e = ap (net_of engine_unit) (families_sum h.families k i e)

pub close_lawful : (t : Table) (b : Book) (y : ℕ) → Closable b y → Lawful t b (Call.Close y)
unfolding done close_done is_accepted
close_lawful t b y g =
    record {
      answered = refl;
      onward = omega arith;
      sized = close_sized b;
      sound = λ z. close_sound b y z g;
      agrees = λ a h. close_agrees t b a y h g;
      lot = λ k i o. netted_out b.open_year (earned_by b) b.lots k i g.from g.upto (omega (arith, o));
      shortage = λ k i o. netted_out b.open_year (short_by b) b.shortages k i g.from g.upto (omega (arith, o));
    }
