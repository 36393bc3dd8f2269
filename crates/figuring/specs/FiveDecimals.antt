-- Card 4, "Five decimals of CF": its figures, and its promise of those of document 01, which counted CF in
-- ten-thousandths and a part in units of 10^-7 Mg.
-- "The Mg of every old figure are the same once its CF is multiplied by 10".
use Rattle.std.specs.Prelude.{ℕ, ◌+◌, ◌*◌, Bool, ◌&&◌, cond, List, [], ◌∷◌, map, ◌≡◌, leb, ℤ, pos, nat_abs, ◌+ℤ◌, ◌*ℤ◌}
use Rattle.figuring.specs.Units.{engine_unit, neg}
use Rattle.figuring.specs.Parts.{cf_most, volume_most, life_most, part_most, within_limits, part_of}
use Rattle.figuring.specs.Netting.{half_mg, net_of}
use Rattle.figuring.specs.declared.netting.Net.TheVariants.{Surplus, Neither}

-- ---- the card's figures: CF "1 to 1,000,000", "a half is now 50,000,000", and the bound of a part, which the limits give
pub record CardFigures : Type 0 where
  -- of every CF, so with each of its decimals
  pub cf : (cf : ℕ) → within_limits 465 cf 1000 435 ≡ (leb 1 cf && leb cf 1000000)
  pub half : half_mg engine_unit ≡ 50000000
  pub bound : part_most ≡ 768 * cf_most * volume_most * life_most

-- ---- document 01's figures that the card replaces; nothing but its promise names them

-- "CF (.., ten-thousandths of a hp-hr per mile, 1-100,000)"
abbrev pub old_cf_most : ℕ
old_cf_most = 100000

-- one above that was out of its limits: it is read as one that is above the present most
abbrev pub old_cf : ℕ → ℕ
old_cf cf = cond (leb cf old_cf_most) cf (cf_most + 1)

-- "in units of 10^-7 Mg"
abbrev pub old_unit : ℕ
old_unit = 10000000

-- "every part within ±3.84 × 10^15"
abbrev pub old_part_most : ℕ
old_part_most = 3840000000000000

-- as the papers have them: of every CF "1-100,000"; and card 3's "5,000,000 units give 0, 15,000,000 give 2,
-- -5,000,000 give 0"
pub record OldFigures : Type 0 where
  pub cf : (cf : ℕ) → within_limits 465 (old_cf cf) 1000 435 ≡ (leb 1 cf && leb cf 100000)
  pub half_even : net_of old_unit (pos 5000000) ≡ Neither
  pub half_odd : net_of old_unit (pos 15000000) ≡ Surplus (record { 0 = 2 })
  pub half_below : net_of old_unit (neg 5000000) ≡ Neither

-- ---- the promise

-- how many times as fine CF and parts are counted
abbrev pub finer : ℕ
finer = 10

-- "its CF .. multiplied by 10", and with it every part
abbrev pub restated_cf : ℕ → ℕ
restated_cf cf = cf * finer

abbrev pub restated_part : ℤ → ℤ
restated_part z = z *ℤ pos finer

-- a family's four figures, and the standard it is held to
pub record Figures : Type 0 where
  pub standard : ℕ
  pub fcl : ℕ
  pub cf : ℕ
  pub volume : ℕ
  pub life : ℕ

-- FCL, volume and life as they are
abbrev pub restated : Figures → Figures
restated f =
    record { standard = f.standard; fcl = f.fcl; cf = restated_cf f.cf; volume = f.volume; life = f.life }

abbrev pub within : Figures → Bool
within f = within_limits f.fcl f.cf f.volume f.life

-- within document 01's limits: those of now, but for CF
abbrev pub within_old : Figures → Bool
within_old f = within_limits f.fcl (old_cf f.cf) f.volume f.life

abbrev pub part_from : Figures → ℤ
part_from f = part_of f.standard f.fcl f.cf f.volume f.life

-- the parts of families, added exactly
abbrev pub sum_from : List Figures → ℤ
sum_from [] = pos 0
sum_from (f ∷ fs) = part_from f +ℤ sum_from fs

pub record SameMg : Type 0 where
  -- a family is within the limits exactly when it was
  pub limits : (f : Figures) → within (restated f) ≡ within_old f
  -- its part is ten times the old one
  pub part : (f : Figures) → part_from (restated f) ≡ restated_part (part_from f)
  -- such a part is within its bound exactly when the old one was within its own
  pub bound : (z : ℤ) → leb (nat_abs (restated_part z)) part_most ≡ leb (nat_abs z) old_part_most
  -- the families' sum nets in the new unit to what the old sum nets in the old unit: surplus, shortage or neither
  pub net : (fs : List Figures) → net_of engine_unit (sum_from (map restated fs)) ≡ net_of old_unit (sum_from fs)
