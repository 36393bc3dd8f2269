-- Card 9: "pays the oldest open shortage from the oldest live lot until either kind is used up", as a list of payments
-- figured from a cell's live lots and open shortages alone. The book and the accounts figure it by this one definition.
-- That it is the card's sentence, and that no other list is, is claimed in OldestFirst: no reader need trust the turns.
use Rattle.std.specs.Prelude.{ℕ, zero, suc, ◌+◌, ◌-◌, min, List, [], ◌∷◌, ◌++◌, map, eqb}
use Rattle.figuring.specs.Years.{first_year}
use Rattle.figuring.specs.Life.{live, open_short}
use Rattle.book.specs.Sizes.{years}
use Rattle.book.specs.Below.{only}

-- what one cell has, in Mg: live lots by vintage and open shortages by year, 0 where there is none
pub record Standing : Type 0 where
  pub lots : ℕ → ℕ
  pub shorts : ℕ → ℕ

-- the live lots and the open shortages among a cell's figures, Y the open year
abbrev pub standing : ℕ → (ℕ → ℕ) → (ℕ → ℕ) → Standing
standing Y lot shortage =
    record { lots = λ v. only (live Y v) (lot v); shorts = λ y. only (open_short Y y) (shortage y) }

-- a lot's vintage and a shortage's year
pub record Turn : Type 0 where
  pub vintage : ℕ
  pub year : ℕ

abbrev pub turn : ℕ → ℕ → Turn
turn y v = record { vintage = v; year = y }

-- Mg of a lot for a shortage
pub record Payment : Type 0 where
  pub vintage : ℕ
  pub year : ℕ
  pub mg : ℕ

-- a lot pays a shortage as far as the smaller of the two goes
abbrev pub amount : Standing → Turn → ℕ
amount h t = min (h.lots t.vintage) (h.shorts t.year)

-- the figures with n taken off year y's
abbrev pub less : ℕ → ℕ → (ℕ → ℕ) → ℕ → ℕ
less y n f z = f z - only (eqb y z) n

unfoldable pub after : Standing → Turn → Standing
after h t =
    record { lots = less t.vintage (amount h t) h.lots; shorts = less t.year (amount h t) h.shorts }

-- 0 Mg is no payment
abbrev pub paying : Turn → ℕ → List Payment → List Payment
paying t zero ps = ps
paying t (suc n) ps = record { vintage = t.vintage; year = t.year; mg = suc n } ∷ ps

-- what is paid in some turns, one after the other
unfoldable pub payments : Standing → List Turn → List Payment
payments h [] = []
payments h (t ∷ ts) = paying t (amount h t) (payments (after h t) ts)

-- y, y + 1, .., n of them
unfoldable pub rising : ℕ → ℕ → List ℕ
rising y zero = []
rising y (suc n) = y ∷ rising (y + 1) n

-- each year of the first list in turn, with each vintage of the second in turn
unfoldable pub turns : List ℕ → List ℕ → List Turn
turns [] vs = []
turns (y ∷ ys) vs = map (turn y) vs ++ turns ys vs

-- model years 2014 to 2037, the oldest first
abbrev pub model_years : List ℕ
model_years = rising first_year years

-- the oldest shortage before the younger ones, and each from the oldest lot before the younger ones
unfoldable pub coverage : Standing → List Payment
coverage h = payments h (turns model_years model_years)

-- the Mg of payments
unfoldable pub total : List Payment → ℕ
total [] = 0
total (p ∷ ps) = p.mg + total ps
