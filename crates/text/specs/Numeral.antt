-- Document 01: "decimal numbers of 1 to 12 digits, no leading zero except 0 itself", read and written.
use Rattle.std.specs.Prelude.{ℕ, zero, suc, ◌+◌, ◌-◌, ◌*◌, ◌/◌, ◌%◌, Bool, not, cond, ◌&&◌, ◌||◌, List, [], ◌∷◌, ◌++◌, leb, ltb, eqb, length, get_or, fold, Option, Some, None}

-- the ASCII code of 0 to 9
abbrev pub digit : ℕ → Bool
digit c = leb 48 c && leb c 57

-- the digits that a text starts with
unfoldable pub leading : List ℕ → List ℕ
leading [] = []
leading (c ∷ s) = cond (digit c) (c ∷ leading s) []

-- what digits are worth after digits that are worth v
unfoldable pub worth : ℕ → List ℕ → ℕ
worth v s = fold (λ v c. v * 10 + (c - 48)) v s

unfoldable pub value : List ℕ → ℕ
value s = worth 0 s

-- 1 to `most` digits, with no leading zero except 0 itself
abbrev pub proper : ℕ → List ℕ → Bool
proper most ds = ltb 0 (length ds) && (leb (length ds) most && (leb (length ds) 1 || not (eqb (get_or ds 0 0) 48)))

-- the number of at most `most` digits that a text starts with, and how many digits it has
unfoldable pub number : ℕ → List ℕ → Option (ℕ × ℕ)
number most s = cond (proper most (leading s)) (Some (value (leading s), length (leading s))) None

-- the digits of n, which has at most k of them
unfoldable pub numeral_of : ℕ → ℕ → List ℕ
numeral_of zero n = []
numeral_of (suc k) n = cond (ltb n 10) ((48 + n) ∷ []) (numeral_of k (n / 10) ++ ((48 + n % 10) ∷ []))

-- a number of 64 bits has at most 20 digits
abbrev pub numeral : ℕ → List ℕ
numeral n = numeral_of 20 n
