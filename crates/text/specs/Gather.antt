-- Lists one after the other: of a listing its lines, of a book its entries.
use Rattle.std.specs.Prelude.{ℕ, zero, suc, List, [], ◌++◌}

-- f 0, then f 1, up to the one before f n
unfoldable pub gather : {A : Type 0} → ℕ → (ℕ → List A) → List A
gather zero f = []
gather (suc n) f = gather n f ++ f n
