-- Card 5, "Alternative standards, two editions": the alternative standards of 1036.150(p)(2), beside the ordinary ones.
-- An edition: "0 ordinary, 1 the earlier table, 2 the later".
use Rattle.std.specs.Prelude.{ℕ, ◌≤◌, ◌<◌, Bool, false, ◌&&◌, ◌||◌, not, cond, List, [], ◌∷◌, ◌≡◌, ltb, eqb, get_or, Some, None}
use Rattle.figuring.specs.Standards.{Standard, ◌through◌, is_absent}
use Rattle.figuring.specs.Tables.{Table, ordinary_in}

-- The two tables as printed, "in the order medium vocational, heavy vocational, medium tractor, heavy tractor".
abbrev pub earlier_table : List ℕ
earlier_table = 538 ∷ 506 ∷ 467 ∷ 442 ∷ []

abbrev pub later_table : List ℕ
later_table = 542 ∷ 510 ∷ 467 ∷ 442 ∷ []

-- what they are printed for: sets 2 and 3, medium and heavy, and "2024-2026 engines"
unfoldable pub alternative_sets : ℕ → Bool
alternative_sets s = (2 through 3) s

unfoldable pub alternative_years : ℕ → Bool
alternative_years y = (2024 through 2026) y

-- The standard in such a table for a set and a use; none where it has no column for them.
unfoldable pub in_table : List ℕ → ℕ → ℕ → Standard
in_table table s u =
    cond (eqb u 0) (cond (eqb s 2) (Some (get_or table 0 0)) (cond (eqb s 3) (Some (get_or table 1 0)) None))
    (cond (eqb u 1) (cond (eqb s 2) (Some (get_or table 2 0)) (cond (eqb s 3) (Some (get_or table 3 0)) None)) None)

-- The alternative standard of an edition from 1 on.
unfoldable pub alternative_for : ℕ → ℕ → ℕ → ℕ → Standard
alternative_for edition s u y =
    cond (alternative_years y)
    (cond (eqb edition 1) (in_table earlier_table s u) (cond (eqb edition 2) (in_table later_table s u) None))
    None

-- The standard that a family names: for an edition, a set, a use and a year, beside the ordinary one of these. Card 7:
-- "edition 0 then means this table", and "Editions 1 and 2 keep their figures".
unfoldable pub standard_under : Standard → ℕ → ℕ → ℕ → ℕ → Standard
standard_under ordinary edition s u y = cond (eqb edition 0) ordinary (alternative_for edition s u y)

-- "17, the edition is above 2, or is 1 or 2 outside sets 2 and 3 or outside 2024-2026"
unfoldable pub no_edition : ℕ → ℕ → ℕ → Bool
no_edition edition s y =
    ltb 2 edition || ((1 through 2) edition && (not (alternative_sets s) || not (alternative_years y)))

-- ---- the card's words, of every edition, set, use and year

-- a standard in 2024 to 2026, and none in any other year
abbrev pub in2024to2026 : ℕ → ℕ → Standard
in2024to2026 g y = cond ((2024 through 2026) y) (Some g) None

pub record CardEditions : Type 0 where
  -- "0 ordinary", which 17 never concerns
  pub ordinary : (x : Standard) (s u y : ℕ) → (standard_under x 0 s u y ≡ x) × (no_edition 0 s y ≡ false)
  -- "1 the earlier table": "538, 506, 467, 442", whatever the ordinary standard
  pub earlier : (x : Standard) (y : ℕ) →
      (standard_under x 1 2 0 y ≡ in2024to2026 538 y)
      × (standard_under x 1 3 0 y ≡ in2024to2026 506 y)
      × (standard_under x 1 2 1 y ≡ in2024to2026 467 y)
      × (standard_under x 1 3 1 y ≡ in2024to2026 442 y)
  -- "2 the later": "542, 510, 467, 442"
  pub later : (x : Standard) (y : ℕ) →
      (standard_under x 2 2 0 y ≡ in2024to2026 542 y)
      × (standard_under x 2 3 0 y ≡ in2024to2026 510 y)
      × (standard_under x 2 2 1 y ≡ in2024to2026 467 y)
      × (standard_under x 2 3 1 y ≡ in2024to2026 442 y)
  -- no other edition has a standard, and these have none for another set or use
  pub no_other : (x : Standard) (edition s u y : ℕ) → 2 < edition → standard_under x edition s u y ≡ None
  pub no_other_set :
      (x : Standard) (edition s u y : ℕ) → 0 < edition → (2 through 3) s ≡ false
      → standard_under x edition s u y ≡ None
  pub no_other_use :
      (x : Standard) (edition s u y : ℕ) → 0 < edition → 1 < u → standard_under x edition s u y ≡ None
  -- 17, which is "checked after 6": where a table has an ordinary standard, it is exactly that the edition has none
  pub seventeen :
      (t : Table) (edition s u y : ℕ) → is_absent (ordinary_in t s u y) ≡ false
      → no_edition edition s y ≡ is_absent (standard_under (ordinary_in t s u y) edition s u y)
  -- every standard, of whatever table and under whatever edition, is 432 to 769
  pub range :
      (t : Table) (edition s u y : ℕ) {g : ℕ}
      → standard_under (ordinary_in t s u y) edition s u y ≡ Some g → (432 ≤ g) × (g ≤ 769)
