-- Card 4 for whole sessions: what the rules of now make of a book and a call restated is what those with document 01's
-- figures make of them, restated. Nothing here looks into a limit, a bound or the rounding: figuring's FineLaws say what
-- each makes of a figure ten times as large.
use Prim.Native.Nat.{ℕ, zero, suc, ◌+◌, ◌*◌, ◌-◌, ◌/◌, ◌%◌, ◌<◌, ◌≤◌}
use mathlib.Core.Bool.{Bool, true, false, and-true}
use mathlib.Core.List.{List, [], ◌∷◌, ◌++◌, map}
use mathlib.Core.Path.{◌≡◌, refl, sym, ◌∙◌, ap, subst}
use native.Mathlib.Omega.{arith}
use borrow.Author.Tests.{leb-true, le-leb}
use lib.Dec.{ltb, leb}
use lib.IntN.{ℤ, pos, nat_abs}
use lib.ListN.{get_or, replicate, set as store, get_or-map}
use Rattle.figuring.specs.Years.{first_year}
use Rattle.figuring.specs.Units.{engine_unit}
use Rattle.figuring.specs.Parts.{part_most}
use Rattle.figuring.specs.Netting.{net_of, earned_of, shortfall_of}
use Rattle.figuring.specs.FiveDecimals.{finer, old_unit, old_part_most, restated_part}
use Rattle.figuring.proofs.BoolLaws.{both, and_intro}
use Rattle.figuring.proofs.SignedLaws.{abs_mul, add_mul}
use Rattle.figuring.proofs.FineLaws.{limits_old, part_finer, bound_finer, net_finer}
use Rattle.figuring.specs.Tables.{Table}
use Rattle.book.specs.Sizes.{cells, families, all_parts}
use Rattle.figuring.specs.Below.{all_below}
use Rattle.book.specs.Below.{count_below, sum_below_ℤ}
use Rattle.book.specs.Ledger.{part_at, cell_sum}
use Rattle.book.specs.Soundness.{sound, part_sound}
use Rattle.book.specs.Refusals.{Row, first_refusal}
use Rattle.book.specs.Postings.{fresh_book, part_for, part_beside, filing_cell, stored, cell_net, netted, close_done}
use Rattle.book.specs.Postings.{trade_done, application_done, retirement_done}
use Rattle.book.specs.Covering.{cover_done}
use Rattle.book.specs.Rules.{Request, head_rows, table_rows, file_rows, own_rows, rows_for, done, outcome, posted}
use Rattle.book.specs.FiveDecimals.{old_sound, old_limits, old_done, old_posted, SideBySide, SameSessions, SoundParts}
use Rattle.book.specs.FiveDecimals.{restated_call, restated_book, restated_answer}
use Rattle.book.specs.declared.ledger.Book.{Book}
use Rattle.book.specs.declared.kinds.Call.{Call}
use Rattle.book.specs.declared.answers.Answer.{Answer}
use Rattle.std.specs.Prelude.{Ok}
use Rattle.book.specs.declared.answers.Posted.{Posted}
use Rattle.figuring.proofs.BelowLaws.{all_at, all_of}
use Rattle.book.proofs.TableLaws.{alike}
use Rattle.book.proofs.SoundnessLaws.{Sound, sound_is, is_sound, zero_is}

pub sound_parts : SoundParts
unfolding part_sound
sound_parts = record { filed = λ mark family z m. rw m (and-true (leb (nat_abs z) part_most)) }

-- what a call gives, restated
abbrev restated_posted : Posted → Posted
restated_posted p = record { answer = restated_answer p.answer; book = restated_book p.book }

-- ---- lists of parts
map_store : (l : List ℤ) (i : ℕ) (z : ℤ) → store (map restated_part l) i (restated_part z) ≡ map restated_part (store l i z)
map_store [] i z = refl
map_store (x ∷ xs) zero z = refl
map_store (x ∷ xs) (suc i) z = ap (λ (l : List ℤ). restated_part x ∷ l) (map_store xs i z)

map_none : (n : ℕ) → map restated_part (replicate n (pos 0)) ≡ replicate n (pos 0)
map_none zero = refl
map_none (suc n) = ap (λ (l : List ℤ). pos 0 ∷ l) (map_none n)

part_at_lem : (l : List ℤ) (c f : ℕ) → part_at (map restated_part l) c f ≡ restated_part (part_at l c f)
part_at_lem l c f = get_or-map restated_part l (c * families + f) (pos 0)

sum_restated :
    (n : ℕ) (f g : ℕ → ℤ) → ((i : ℕ) → g i ≡ restated_part (f i)) → sum_below_ℤ n g ≡ restated_part (sum_below_ℤ n f)
unfolding sum_below_ℤ
sum_restated zero f g h = refl
sum_restated (suc n) f g h = rw (sum_restated n f g h, h n) (sym (add_mul (sum_below_ℤ n f) (f n) finer))

-- ---- soundness
same_test : (x y : Bool) → (x ≡ true → y ≡ true) → (y ≡ true → x ≡ true) → x ≡ y
same_test true y h g = sym (h refl)
same_test false true h g = g refl
same_test false false h g = refl

zero_restated : (z : ℤ) → restated_part z ≡ pos 0 → z ≡ pos 0
zero_restated z e = zero_is z (omega (arith, abs_mul z finer, ap nat_abs e))

module _ (b : Book) where
  -- document 01's bound of a part, at any place of the list
  abbrev OldBound : ℕ → Bool
  OldBound i = leb (nat_abs (get_or b.parts i (pos 0))) old_part_most

  module _ (s : Sound (restated_book b)) where
    within_bound : (c f : ℕ) → c < cells → f < families → nat_abs (restated_part (part_at b.parts c f)) ≤ part_most
    within_bound c f hc hf = rw (← part_at_lem b.parts c f) (s.bounded c f hc hf)

    was_sound : Sound b
    was_sound =
        record {
          low = s.low;
          high = s.high;
          bounded = λ c f hc hf. omega (arith, within_bound c f hc hf, abs_mul (part_at b.parts c f) finer);
          unmarked = λ c f hc hf m.
              zero_restated (part_at b.parts c f) (sym (part_at_lem b.parts c f) ∙ s.unmarked c f hc hf m);
          shortage = s.shortage;
          ahead = s.ahead;
          total = s.total;
        }

    was_bounded : (i : ℕ) → i < all_parts → OldBound i ≡ true
    was_bounded i h =
        let c = i / families in
        let f = i % families in
        let e : c * families + f ≡ i = omega arith in
        let w : nat_abs (restated_part (part_at b.parts c f)) ≤ part_most = within_bound c f (omega arith) (omega arith) in
        ap OldBound (sym e)
        ∙ sym (bound_finer (part_at b.parts c f))
        ∙ le-leb (nat_abs (restated_part (part_at b.parts c f))) part_most w

  stays_sound_lem : Sound b → ((i : ℕ) → i < all_parts → OldBound i ≡ true) → Sound (restated_book b)
  stays_sound_lem s h =
      record {
        low = s.low;
        high = s.high;
        bounded = λ c f hc hf.
            rw (part_at_lem b.parts c f)
            (leb-true (nat_abs (restated_part (part_at b.parts c f))) part_most
            (bound_finer (part_at b.parts c f) ∙ h (c * families + f) (omega arith)));
        unmarked = λ c f hc hf m. part_at_lem b.parts c f ∙ ap restated_part (s.unmarked c f hc hf m);
        shortage = s.shortage;
        ahead = s.ahead;
        total = s.total;
      }

  same_sound : sound (restated_book b) ≡ old_sound b
  same_sound =
      same_test (sound (restated_book b)) (old_sound b)
      (λ e.
      let s = sound_is (restated_book b) e in
      and_intro (is_sound b (was_sound s)) (all_of OldBound all_parts (was_bounded s)))
      (λ e.
      let h = both (sound b) (all_below all_parts OldBound) e in
      is_sound (restated_book b) (stays_sound_lem (sound_is b h.0) (λ i l. all_at OldBound all_parts i l h.1)))

  -- ---- refusals
  same_beside : (t : Table) (c : Call) → table_rows t (restated_call c) ≡ table_rows t c
  same_beside t (Call.File f) = refl
  same_beside t (Call.Close y) = refl
  same_beside t (Call.Trade x) = refl
  same_beside t (Call.Apply p) = refl
  same_beside t (Call.Retire p) = refl
  same_beside t (Call.Cover c) = refl

  same_rows : (t : Table) (c : Call) → own_rows t (restated_book b) (restated_call c) ≡ own_rows t b (old_limits c)
  unfolding own_rows file_rows
  same_rows t (Call.File f) = rw (limits_old f.fcl f.cf f.volume f.life)
  same_rows t (Call.Close y) = refl
  same_rows t (Call.Trade x) = refl
  same_rows t (Call.Apply p) = refl
  same_rows t (Call.Retire p) = refl
  same_rows t (Call.Cover c) = refl

  -- ---- what an accepted call gives
  same_net : (c : ℕ) → cell_net engine_unit (restated_book b) c ≡ cell_net old_unit b c
  unfolding cell_sum
  same_net c =
      ap (net_of engine_unit) (sum_restated families (part_at b.parts c) (part_at (map restated_part b.parts) c) (part_at_lem b.parts c))
      ∙ net_finer (sum_below_ℤ families (part_at b.parts c))

  same_done : (t : Table) (c : Call) → done t (restated_book b) (restated_call c) ≡ restated_posted (old_done t b c)
  unfolding done stored close_done part_beside trade_done application_done retirement_done cover_done
  same_done t (Call.File f) =
      rw (part_finer _ f.fcl f.cf f.volume f.life, map_store b.parts (filing_cell f * families + f.family) (part_for t f))
  same_done t (Call.Close y) =
      λ i. record {
        answer = Ok (Answer.Closed (count_below cells (λ c. ltb 0 (shortfall_of (same_net c i)))));
        book = record {
          open_year = b.open_year + 1;
          marks = replicate cells 0;
          parts = sym (map_none all_parts) i;
          lots = netted (b.open_year - first_year) (λ c. earned_of (same_net c i)) cells b.lots;
          shortages = netted (b.open_year - first_year) (λ c. shortfall_of (same_net c i)) cells b.shortages;
        };
      }
  same_done t (Call.Trade x) = refl
  same_done t (Call.Apply p) = refl
  same_done t (Call.Retire p) = refl
  same_done t (Call.Cover c) = refl

  -- ---- a call
  same_posted : (t : Table) (c : Call) → posted t (restated_book b) (restated_call c) ≡ restated_posted (old_posted t b c)
  unfolding posted rows_for old_posted
  same_posted t c =
      ap
      (λ (x : Bool). outcome (first_refusal (head_rows x (table_rows t (restated_call c)) ++ own_rows t (restated_book b) (restated_call c)))
      (restated_book b) after)
      same_sound
      ∙ ap
      (λ (beside : List Row). outcome (first_refusal (head_rows (old_sound b) beside ++ own_rows t (restated_book b) (restated_call c)))
      (restated_book b) after)
      (same_beside t c)
      ∙ ap (λ (xs : List Row). outcome (first_refusal (head_rows (old_sound b) (table_rows t c) ++ xs)) (restated_book b) after) (same_rows t c)
      ∙ alike (λ p q. p ≡ restated_posted q) (first_refusal (head_rows (old_sound b) (table_rows t c) ++ own_rows t b (old_limits c))) _ _ _ _ (λ r. refl)
      (same_done t c)
    where
      after : Posted
      after = done t (restated_book b) (restated_call c)

-- ---- any list of calls
side_by_side : (b : Book) (rs : List Request) → SideBySide b (restated_book b) rs
side_by_side b [] = refl
side_by_side b (r ∷ rs) =
    let same = same_posted b r.table r.call in
    let after = (old_posted r.table b r.call).book in (
      refl,
      ap (λ (p : Posted). p.answer) same,
      subst (λ (d : Book). SideBySide after d rs) (sym (ap (λ (p : Posted). p.book) same)) (side_by_side after rs),
    )

fresh_restated : restated_book fresh_book ≡ fresh_book
unfolding fresh_book
fresh_restated = rw (map_none all_parts)

pub same_sessions : SameSessions
same_sessions =
    record {
      fresh = λ rs. subst (λ (d : Book). SideBySide fresh_book d rs) fresh_restated (side_by_side fresh_book rs);
      any = side_by_side;
    }
