-- The sizes of the book and the bounds of a sound one, each named once.
use Rattle.std.specs.Prelude.{ℕ, ◌*◌}
use Rattle.figuring.specs.Netting.{net_most}

-- "8 makers", numbered 0 to 7
abbrev pub makers : ℕ
makers = 8

-- sets 0 to 3
abbrev pub sets : ℕ
sets = 4

-- "A cell is one maker and one set, 32 in all."
abbrev pub cells : ℕ
cells = makers * sets

-- families 0 to 63 of a cell, "one bit a family"
abbrev pub families : ℕ
families = 64

-- model years 2014 to 2037
abbrev pub years : ℕ
years = 24

-- one figure for each cell and year
abbrev pub places : ℕ
places = cells * years

-- one part for each cell and family
abbrev pub all_parts : ℕ
all_parts = cells * families

-- "the open year, 2014 to 2038 (2038: all closed)"
abbrev pub all_closed : ℕ
all_closed = 2038

-- "every shortage at most 2.5 × 10^10"
abbrev pub shortage_most : ℕ
shortage_most = net_most

-- "for each set and vintage the lots of all makers together at most 2 × 10^11"
abbrev pub lots_most : ℕ
lots_most = 200000000000
