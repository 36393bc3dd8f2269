-- A failure told in one line: what failed, and the system's words for it.
use Rattle.std.specs.Prelude.{ℕ, List, [], ◌∷◌, ◌++◌, cond, nat_eq}
use Rattle.std.specs.List.{starts_with}
use lib.Chars.{codes}

-- what std puts behind the system's words, before the error's number
abbrev pub numbered : List ℕ
numbered = codes " (os error "

-- a text up to where that begins, and all of it where it does not
unfoldable pub words : List ℕ → List ℕ
words [] = []
words (c ∷ s) = cond (starts_with nat_eq (c ∷ s) numbered) [] (c ∷ words s)

abbrev pub message : List ℕ → List ℕ → List ℕ
message what text = what ++ (codes ": " ++ (words text ++ codes "\n"))
