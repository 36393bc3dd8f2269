-- Card 8: the order of the lines in the card's words. The families come before the lots, these before the shortages, and
-- "each group rises by its first three figures".
use Rattle.std.specs.Prelude.{ℕ, Bool, true, false, ◌&&◌, ◌||◌, List, [], ◌∷◌, ◌≡◌, ltb, eqb}
use Rattle.text.specs.declared.entries.Entry.{Entry}
use Rattle.text.specs.Entries.{in_book, rank}

-- an entry's group, and its first three figures
abbrev pub ordering : Entry → List ℕ
ordering (Entry.Family m s n part) = 0 ∷ m ∷ s ∷ n ∷ []
ordering (Entry.Lot m s y mg) = 1 ∷ m ∷ s ∷ y ∷ []
ordering (Entry.Shortage m s y mg) = 2 ∷ m ∷ s ∷ y ∷ []

-- the first figure that differs decides
abbrev pub lesser : List ℕ → List ℕ → Bool
lesser [] ks = false
lesser (j ∷ js) [] = false
lesser (j ∷ js) (k ∷ ks) = ltb j k || (eqb j k && lesser js ks)

abbrev pub RankOrders : Type 0
RankOrders =
    (a b : Entry) → in_book a ≡ true → in_book b ≡ true → ltb (rank a) (rank b) ≡ lesser (ordering a) (ordering b)
