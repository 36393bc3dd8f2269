-- Private to the readers of a lent text: its first line, and what follows.
use Rattle.std.specs.Prelude.{ℕ, suc, cond, ◌≡◌, List, [], ◌∷◌, ◌++◌, eqb, length, drop}
use Rattle.text.specs.Desk.{line_feed}
use Rattle.text.specs.Lines.{Lacks}

-- the bytes before the first line feed, or all where there is none
unfoldable pub first_line : List ℕ → List ℕ
first_line [] = []
first_line (b ∷ s) = cond (eqb b line_feed) [] (b ∷ first_line s)

-- what follows that line feed
abbrev pub after_line : List ℕ → List ℕ
after_line s = drop (suc (length (first_line s))) s

-- a text is what stands before the first byte b, that byte, and what stands behind it
pub record Parted (b : ℕ) (text before behind : List ℕ) : Type 0 where
  pub lacks : Lacks b before
  pub parts : text ≡ before ++ (b ∷ behind)
