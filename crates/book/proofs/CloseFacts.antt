-- What an accepted close says, and the writes of a close cell by cell.
use mathlib.Core.Bool.{Bool, true, false}
use mathlib.Core.List.{List, []}
use mathlib.Core.Path.{◌≡◌, refl, sym, ◌∙◌}
use Prim.Native.Nat.{ℕ, zero, suc, ◌+◌, ◌*◌, ◌^◌, ◌≤◌, ◌<◌}
use native.Mathlib.Omega.{arith}
use native.Mathlib.Numerals.{add-one}
use borrow.Author.Tests.{eqb-true, eqb-false, not-false}
use lib.Dec.{ltb, eqb}
use lib.ListN.{set as store, get_or, take, drop, length}
use Rattle.std.proofs.lemmas.List.{get_or-drop, length-drop}
use lib.IntN.{ℤ, pos, nat_abs, ◌+ℤ◌}
use mir.Syntax.{w64}
use mir.Val.{bool_byte}
use Rattle.std.proofs.Common.{Iter, Bor, ◌++◌, subst, ap}
use Rattle.std.specs.Prelude.{FitsSigned, ⊤}
use Rattle.std.specs.List.{fold}
use Rattle.std.specs.Iterator.{Drains, Yields}
use Rattle.std.specs.Iterator.Runs.{EachRunFrom, YieldsRun}
use Rattle.std.specs.Slice.Iter.{iter_rest}
use Rattle.std.proofs.iter.Yields.{fronts, gives_left}
use Rattle.std.proofs.lemmas.List.{get_or_append_left}
use Rattle.figuring.specs.Units.{engine_unit}
use Rattle.figuring.specs.Netting.{net_of, earned_of, shortfall_of}
use Rattle.std.proofs.lemmas.List.Sums.{fold_more}
use Rattle.std.proofs.lemmas.List.{take_all, drop_all, drop-drop, drop-append-le, length-append}
use Rattle.std.proofs.Math.Seq.{take-append_seam}
use Rattle.std.proofs.lemmas.List.Folds.{fold-map}
use Rattle.std.proofs.lemmas.Iterator.{YieldsList-from_slice}
use Rattle.std.proofs.lemmas.Iterator.Adapters.{total_from_yields_List}
use Rattle.book.specs.Ledger.{cell_sum}
use Rattle.figuring.specs.Years.{first_year, last_year}
use Rattle.figuring.specs.Parts.{part_most}
use Rattle.figuring.proofs.SignedLaws.{small}
use Rattle.book.specs.Sizes.{cells, families, years, all_parts, all_closed}
use Rattle.book.specs.Below.{sum_below, sum_below_ℤ, count_below, one_if}
use Rattle.book.specs.Ledger.{part_at}
use Rattle.book.specs.Soundness.{sound}
use Rattle.book.specs.Refusals.{first_refusal}
use Rattle.book.specs.Rules.{close_rows}
use Rattle.book.specs.Postings.{netted, earned_by, short_by, moved}
use Rattle.book.specs.declared.ledger.Book.{Book}
use Rattle.std.specs.Prelude.{Ok}
use Rattle.book.proofs.BelowLaws.{sum_ℤ_same, sum_ℤ_small, count_more, one_if_small}
use Rattle.book.proofs.TableLaws.{cleared}
use Rattle.book.proofs.SoundnessLaws.{sound_is}

-- the open year of a sound book that isn't all closed
pub still_open : (b : Book) → sound b ≡ true → eqb b.open_year all_closed ≡ false → b.open_year ≤ last_year
still_open b e h = let s = sound_is b e in let n = eqb-false b.open_year all_closed h in omega (arith, n)

pub record Closable (b : Book) (y : ℕ) : Type 0 where
  pub sound : sound b ≡ true
  pub year : y ≡ b.open_year
  pub from : first_year ≤ b.open_year
  pub upto : b.open_year ≤ last_year

pub closable :
    (b : Book) (y : ℕ) → sound b ≡ true → first_refusal (close_rows b.open_year y) ≡ Ok tt → Closable b y
unfolding close_rows
closable b y s e =
    let p = cleared (close_rows b.open_year y) e in
    record {
      sound = s;
      year = eqb-true y b.open_year (not-false (eqb y b.open_year) (search));
      from = (sound_is b s).low;
      upto = still_open b s (search);
    }

-- ---- the cells below n netted in the lots and the shortages of a book, how many closed short, and the parts of the others
pub record Netted (b : Book) (i : ℕ) (lots shortages : List ℕ) (rest : List ℤ) (k n : ℕ) : Type 0 where
  pub bound : n ≤ cells
  pub rest_is : rest ≡ drop (n * families) b.parts
  pub lots_are : lots ≡ netted i (earned_by b) n b.lots
  pub shortages_are : shortages ≡ netted i (short_by b) n b.shortages
  pub short : k ≡ count_below n (λ c. ltb 0 (short_by b c))
  pub few : k ≤ n

pub none_netted : (b : Book) (i : ℕ) → Netted b i b.lots b.shortages b.parts 0 0
unfolding netted count_below sum_below
none_netted b i =
    record {
      bound = omega arith;
      rest_is = refl;
      lots_are = refl;
      shortages_are = refl;
      short = refl;
      few = omega arith;
    }

-- a test as a number, as the code counts
pub byte_is : (t : Bool) → bool_byte t ≡ one_if t
byte_is true = refl
byte_is false = refl

netted_more :
    (i : ℕ) (v : ℕ → ℕ) (n : ℕ) (l : List ℕ)
    → netted i v (n + 1) l ≡ store (netted i v n l) (n * years + i) (v n)
unfolding netted
netted_more i v n l = rw add-one

-- the next cell's parts, cut off the rest
module _ {b : Book} {i : ℕ} {lots shortages : List ℕ} {rest : List ℤ} {k n : ℕ} (h : Netted b i lots shortages rest k n)
    (z : length b.parts ≡ all_parts) (parts left : List ℤ) (cut : rest ≡ parts ++ left) (long : length parts ≡ families) where
  pub next_in : n < cells
  next_in =
      omega (arith, ap length h.rest_is, ap length cut, length-append parts left, length-drop (n * families) b.parts)

  pub part_here : (f : ℕ) → f < families → get_or parts f (pos 0) ≡ part_at b.parts n f
  part_here f k =
      sym (get_or_append_left parts left (pos 0) f (omega (arith, long)))
      ∙ ap (λ l. get_or l f (pos 0)) (sym cut ∙ h.rest_is)
      ∙ get_or-drop (n * families) b.parts f (pos 0)

  left_is : left ≡ drop ((n + 1) * families) b.parts
  left_is =
      let m : (n + 1) * families ≡ n * families + families = omega arith in
      let whole : drop families parts ≡ [] = drop_all families parts (omega (arith, long)) in
      let here : drop families (parts ++ left) ≡ left = drop-append-le families parts left (omega (arith, long)) ∙ rw whole in
      rw (m, ← drop-drop families (n * families) b.parts, ← h.rest_is, cut) (sym here)

  sum_here : {s : ℤ} → s ≡ sum_below_ℤ (length parts) (λ f. get_or parts f (pos 0)) → s ≡ cell_sum b.parts n
  unfolding cell_sum
  sum_here e = rw long at e ∙ sum_ℤ_same (part_at b.parts n) (λ f. get_or parts f (pos 0)) families part_here

  pub one_more :
      {s : ℤ} {earned lacks one : ℕ}
      → s ≡ sum_below_ℤ (length parts) (λ f. get_or parts f (pos 0)) → earned ≡ earned_of (net_of engine_unit s)
      → lacks ≡ shortfall_of (net_of engine_unit s) → one ≡ one_if (ltb 0 lacks)
      → Netted b i (store lots (n * years + i) earned) (store shortages (n * years + i) lacks) left (k + one) (n + 1)
  one_more {s} {earned} {lacks} {one} e a o t =
      let q = sum_here e in
      let a' : earned ≡ earned_by b n = a ∙ ap (λ x. earned_of (net_of engine_unit x)) q in
      let o' : lacks ≡ short_by b n = o ∙ ap (λ x. shortfall_of (net_of engine_unit x)) q in
      record {
        bound = omega (arith, next_in);
        rest_is = left_is;
        lots_are = rw (h.lots_are, a', netted_more i (earned_by b) n b.lots);
        shortages_are = rw (h.shortages_are, o', netted_more i (short_by b) n b.shortages);
        short = rw (h.short, t, o') (sym (count_more (λ c. ltb 0 (short_by b c)) n));
        few = omega (arith, one_if_small (ltb 0 lacks));
      }

-- no cell is left
module _ {b : Book} {i : ℕ} {lots shortages : List ℕ} {rest : List ℤ} {k n : ℕ} (h : Netted b i lots shortages rest k n)
    (z : length b.parts ≡ all_parts) (l : length rest < families) where
  pub all_cells : n ≡ cells
  all_cells = omega (arith, h.bound, ap length h.rest_is, length-drop (n * families) b.parts)

  pub all_netted :
      moved b lots shortages ≡ moved b (netted i (earned_by b) cells b.lots) (netted i (short_by b) cells b.shortages)
  all_netted =
      let e = rw all_cells at h.lots_are in
      let f = rw all_cells at h.shortages_are in
      rw (e, f)

  pub all_short : k ≡ count_below cells (λ c. ltb 0 (short_by b c))
  all_short = rw all_cells at h.short

-- ---- the sum of a list of parts, as an iterator over them has it at its end and so far
module _ (l : List ℤ) where
  sum_of_first : (n : ℕ) → n ≤ length l → fold ◌+ℤ◌ (pos 0) (take n l) ≡ sum_below_ℤ n (λ f. get_or l f (pos 0))
  unfolding sum_below_ℤ
  sum_of_first zero k = refl
  sum_of_first (suc n) k =
      rw (← add-one) (fold_more ◌+ℤ◌ (pos 0) l n (pos 0) (omega arith))
      ∙ ap (λ z. z +ℤ get_or l n (pos 0)) (sum_of_first n (omega arith))

  pub sum_is :
      {s : Iter ℤ} {r : ℤ} → iter_rest s ≡ l
      → (xs : List (Bor ℤ)) × (⊤ → Drains fronts s xs) × (r ≡ fold (λ a x. a +ℤ x.now) (pos 0) xs)
      → r ≡ sum_below_ℤ (length l) (λ f. get_or l f (pos 0))
  sum_is e d =
      total_from_yields_List ◌+ℤ◌ (pos 0) _ d (YieldsList-from_slice l e)
      ∙ ap (fold ◌+ℤ◌ (pos 0)) (sym (take_all (length l) l (omega arith)))
      ∙ sum_of_first (length l) (omega arith)

  module _ (z : length l ≤ families) (b : (f : ℕ) → f < families → nat_abs (get_or l f (pos 0)) ≤ part_most) where
    front_small : (xs more : List ℤ) → l ≡ xs ++ more → nat_abs (fold ◌+ℤ◌ (pos 0) xs) < 2 ^ 63
    front_small xs more q =
        let n : length xs ≤ length l = omega (arith, ap length q, length-append xs more) in
        let front : take (length xs) l ≡ xs = rw q (take-append_seam xs more) in
        let sum = rw front at (sum_of_first (length xs) n) in
        rw sum
        (omega (arith, sum_ℤ_small (λ f. get_or l f (pos 0)) (length xs) part_most (λ f k. b f (omega arith))))

    pub sum_fits :
        {s : Iter ℤ} → iter_rest s ≡ l
        → EachRunFrom fronts s (λ p. FitsSigned w64 (fold (λ a x. a +ℤ x.now) (pos 0) p.items))
    unfolding YieldsRun
    sum_fits {s} e p t at =
        let ran = subst (λ u. Yields fronts u p.items p.gave.0.0) at p.gave.0.1 in
        let left = gives_left fronts (λ y. y.now) p.items l s _ (YieldsList-from_slice l e).runs ran in
        rw (← fold-map ◌+ℤ◌ (λ y. y.now) (pos 0) p.items) (small _ (front_small _ left.0 left.1))
