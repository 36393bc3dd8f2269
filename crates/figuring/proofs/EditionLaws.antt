-- Card 5: the standard under an edition, beside whatever ordinary one, when there is none, and its range.
use Prim.Native.Nat.{ℕ, zero, suc, ◌≤◌, ◌<◌}
use mathlib.Core.Bool.{Bool, true, false, not, cond, ◌&&◌, ◌||◌, true≢false}
use mathlib.Core.List.{List}
use mathlib.Core.Path.{◌≡◌, refl, sym, ◌∙◌, ap}
use native.Mathlib.Omega.{arith}
use native.Mathlib.Decide.{ℕ_discrete}
use borrow.Author.Tests.{leb-true, ltb-false, lt-ltb, lt-leb, ne_eqb}
use lib.Dec.{ltb, leb, eqb}
use lib.ListN.{get_or}
use Rattle.figuring.specs.Parts.{between, standard_least, standard_most}
use Rattle.figuring.specs.Standards.{Standard, ◌through◌, grams_of, is_absent}
use Rattle.figuring.specs.Tables.{Table, is_standard, ordinary_in}
use Rattle.figuring.specs.Editions.{earlier_table, later_table, alternative_sets, alternative_years, in_table, alternative_for}
use Rattle.figuring.specs.Editions.{standard_under, no_edition, CardEditions}
use Rattle.std.proofs.Common.{Some, None}
use Rattle.figuring.proofs.StandardLaws.{either, in_range, in_either, range_is, present_given}
use Rattle.figuring.proofs.TableLaws.{ordinary_in_range, use_known}

-- ---- none
absent_either : (b : Bool) (x z : Standard) → x ≡ None → z ≡ None → cond b x z ≡ None
absent_either b x z = either (λ j x. x ≡ None) b 0 0 x z

-- where neither table has a standard for a set and a use, no edition but the ordinary one has
absent_in_both :
    (x : Standard) (e s u y : ℕ) → 0 < e → in_table earlier_table s u ≡ None → in_table later_table s u ≡ None
    → standard_under x e s u y ≡ None
unfolding standard_under alternative_for
absent_in_both x e s u y h p q =
    rw (ne_eqb e 0 (λ z. omega arith))
    (absent_either (alternative_years y) _ _ (absent_either (eqb e 1) _ _ p (absent_either (eqb e 2) _ _ q refl)) refl)

above_2 : (x : Standard) (e s u y : ℕ) → 2 < e → standard_under x e s u y ≡ None
unfolding standard_under alternative_for
above_2 x e s u y h =
    rw (ne_eqb e 0 (λ z. omega arith), ne_eqb e 1 (λ z. omega arith), ne_eqb e 2 (λ z. omega arith))
    (absent_either (alternative_years y) _ _ refl refl)

-- ---- sets and uses without a column
no_set : (t : List ℕ) (s u : ℕ) → (2 through 3) s ≡ false → in_table t s u ≡ None
unfolding in_table
no_set t s u h =
    let out : (n : ℕ) → (2 through 3) n ≡ true → s ≡ n → ⊥ = λ n e z. true≢false (sym e ∙ sym (ap (2 through 3) z) ∙ h) in
    rw (ne_eqb s 2 (out 2 refl), ne_eqb s 3 (out 3 refl))
    (absent_either (eqb u 0) _ _ refl (absent_either (eqb u 1) _ _ refl refl))

no_use : (t : List ℕ) (s u : ℕ) → 1 < u → in_table t s u ≡ None
unfolding in_table
no_use t s u h = rw (ne_eqb u 0 (λ z. omega arith), ne_eqb u 1 (λ z. omega arith))

-- ---- 17, where there is an ordinary standard
other_set_lem : (s : ℕ) → (s ≡ 2 → ⊥) → (s ≡ 3 → ⊥) → (2 through 3) s ≡ false
other_set_lem s n m = go (leb 2 s) refl
  where
    go : (t : Bool) → leb 2 s ≡ t → (t && leb s 3) ≡ false
    go true e = let h : 2 ≤ s = leb-true 2 s e in lt-leb s 3 (omega arith)
    go false e = refl

given_use : (u a b : ℕ) → u < 2 → is_absent (cond (eqb u 0) (Some a) (cond (eqb u 1) (Some b) None)) ≡ false
given_use zero a b h = refl
given_use (suc zero) a b h = refl
given_use (suc (suc u)) a b h = absurd (omega arith)

-- for a use of 0 or 1 a table has a standard exactly in its sets
table_absent : (t : List ℕ) (s u : ℕ) → u < 2 → is_absent (in_table t s u) ≡ not (alternative_sets s)
unfolding in_table alternative_sets
table_absent t s u h = go (ℕ_discrete s 2) (ℕ_discrete s 3)
  where
    go : Dec (s ≡ 2) → Dec (s ≡ 3) → is_absent (in_table t s u) ≡ not (alternative_sets s)
    go (yes p) q = rw p (given_use u _ _ h)
    go (no n) (yes p) = rw p (given_use u _ _ h)
    go (no n) (no m) = let o = other_set_lem s n m in rw o (ap is_absent (no_set t s u o))

outside :
    (x z : Bool) (w : Standard) → is_absent w ≡ not x → (not x || not z) ≡ is_absent (cond z w None)
outside true true w h = sym h
outside true false w h = refl
outside false true w h = sym h
outside false false w h = refl

-- of whatever table the ordinary standard is read from
module _ (t : Table) (s u y : ℕ) (h : is_absent (ordinary_in t s u y) ≡ false) where
  in_edition :
      (table : List ℕ)
      → (not (alternative_sets s) || not (alternative_years y)) ≡ is_absent (cond (alternative_years y) (in_table table s u) None)
  in_edition table =
      outside (alternative_sets s) (alternative_years y) (in_table table s u) (table_absent table s u (use_known t s u y h))

  seventeen : (e : ℕ) → no_edition e s y ≡ is_absent (standard_under (ordinary_in t s u y) e s u y)
  unfolding no_edition standard_under alternative_for
  seventeen e = go (ℕ_discrete e 0) (ℕ_discrete e 1) (ℕ_discrete e 2)
    where
      go : Dec (e ≡ 0) → Dec (e ≡ 1) → Dec (e ≡ 2) → no_edition e s y ≡ is_absent (standard_under (ordinary_in t s u y) e s u y)
      go (yes p) o w = rw p (sym h)
      go (no z) (yes p) w = rw p (in_edition earlier_table)
      go (no z) (no o) (yes p) = rw p (in_edition later_table)
      go (no z) (no o) (no w) =
          rw (lt-ltb 2 e (omega arith)) (sym (ap is_absent (above_2 (ordinary_in t s u y) e s u y (omega arith))))

  -- where 17 does not apply there is a standard
  pub named :
      (e : ℕ) → no_edition e s y ≡ false
      → standard_under (ordinary_in t s u y) e s u y ≡ Some (grams_of (standard_under (ordinary_in t s u y) e s u y))
  named e n = present_given (standard_under (ordinary_in t s u y) e s u y) (sym (seventeen e) ∙ n)

-- an edition that 17 lets pass is 0, 1 or 2
pub edition_known : (e s y : ℕ) → no_edition e s y ≡ false → e ≤ 2
unfolding no_edition
edition_known e s y h = go (ltb 2 e) _ refl h
  where
    go : (t x : Bool) → ltb 2 e ≡ t → (t || x) ≡ false → e ≤ 2
    go true x d k = absurd (true≢false k)
    go false x d k = ltb-false 2 e d

-- ---- range
table_in_range :
    (t : List ℕ) (s u : ℕ)
    → in_range (Some (get_or t 0 0)) ≡ true → in_range (Some (get_or t 1 0)) ≡ true
    → in_range (Some (get_or t 2 0)) ≡ true → in_range (Some (get_or t 3 0)) ≡ true
    → in_range (in_table t s u) ≡ true
unfolding in_table
table_in_range t s u p₂ p₃ q₂ q₃ =
    let at = in_either in
    at (eqb u 0) _ _ (at (eqb s 2) _ _ p₂ (at (eqb s 3) _ _ p₃ refl))
    (at (eqb u 1) _ _ (at (eqb s 2) _ _ q₂ (at (eqb s 3) _ _ q₃ refl)) refl)

under_in_range : (x : Standard) (e s u y : ℕ) → in_range x ≡ true → in_range (standard_under x e s u y) ≡ true
unfolding standard_under alternative_for is_standard between
under_in_range x e s u y h =
    let at = in_either in
    at (eqb e 0) _ _ h
    (at (alternative_years y) _ _
    (at (eqb e 1) _ _ (table_in_range earlier_table s u refl refl refl refl)
    (at (eqb e 2) _ _ (table_in_range later_table s u refl refl refl refl) refl))
    refl)

under_range :
    (t : Table) (e s u y : ℕ) {g : ℕ} → standard_under (ordinary_in t s u y) e s u y ≡ Some g
    → (standard_least ≤ g) × (g ≤ standard_most)
under_range t e s u y d =
    let x = ordinary_in t s u y in
    range_is (standard_under x e s u y) (under_in_range x e s u y (ordinary_in_range t s u y)) d

-- of a family that 6 and 17 let pass
pub named_range :
    (t : Table) (e s u y : ℕ) → is_absent (ordinary_in t s u y) ≡ false → no_edition e s y ≡ false
    → (standard_least ≤ grams_of (standard_under (ordinary_in t s u y) e s u y))
    × (grams_of (standard_under (ordinary_in t s u y) e s u y) ≤ standard_most)
named_range t e s u y h n = under_range t e s u y (named t s u y h e n)

-- ---- the card's words
pub card_editions : CardEditions
unfolding standard_under alternative_for in_table alternative_years no_edition
card_editions =
    record {
      ordinary = λ x s u y. (refl, refl);
      earlier = λ x y. (refl, refl, refl, refl);
      later = λ x y. (refl, refl, refl, refl);
      no_other = above_2;
      no_other_set = λ x e s u y h n. absent_in_both x e s u y h (no_set earlier_table s u n) (no_set later_table s u n);
      no_other_use = λ x e s u y h n. absent_in_both x e s u y h (no_use earlier_table s u n) (no_use later_table s u n);
      seventeen = λ t e s u y h. seventeen t s u y h e;
      range = under_range;
    }
