-- Lines that all end in a line feed: the text that they make, and how a text ends.
use Prim.Native.Nat.{ℕ}
use mathlib.Core.Bool.{Bool, true, false, cond, false≢true}
use mathlib.Core.Path.{◌≡◌, refl, ◌∙◌}
use mathlib.Core.List.{List, [], ◌∷◌, ◌++◌, append_assoc}
use lib.Dec.{eqb}
use borrow.Author.Tests.{eqb-true, ne_eqb}
use Rattle.text.specs.Desk.{line_feed}
use Rattle.text.specs.Lines.{lines_from, lines_of, OneLine}
use Rattle.text.specs.BookReading.{ends_in_feed, all_ended}

-- each line, and its line feed
unfoldable pub fed : List (List ℕ) → List ℕ
fed [] = []
fed (l ∷ ls) = l ++ (line_feed ∷ fed ls)

-- the lines of a text that ends in a line feed make that text
from_lines :
    (b : Bool) (l s : List ℕ) → (b ≡ true → l ≡ []) → ends_in_feed b s ≡ true → fed (lines_from l s) ≡ l ++ s
unfolding fed lines_from ends_in_feed
from_lines b l [] n e = rw (n e)
from_lines b l (c ∷ s) n e = go (eqb c line_feed) refl e (λ d l. from_lines d l s)
  where
    go :
        (d : Bool) → eqb c line_feed ≡ d → ends_in_feed d s ≡ true
        → ((d : Bool) (l : List ℕ) → (d ≡ true → l ≡ []) → ends_in_feed d s ≡ true → fed (lines_from l s) ≡ l ++ s)
        → fed (cond d (l ∷ lines_from [] s) (lines_from (l ++ (c ∷ [])) s)) ≡ l ++ (c ∷ s)
    go true p e ih =
        let f : c ≡ line_feed = eqb-true c line_feed p in
        rw (f, ih true [] (λ q. refl) e)
    go false p e ih = ih false (l ++ (c ∷ [])) (λ q. absurd (false≢true q)) e ∙ append_assoc l (c ∷ []) s

pub lines_fed : (s : List ℕ) → all_ended s ≡ true → fed (lines_of s) ≡ s
lines_fed s e = from_lines true [] s (λ q. refl) e

-- how a text ends is how what follows a line feed ends
pub feed_then : (b : Bool) (l s : List ℕ) → ends_in_feed b (l ++ (line_feed ∷ s)) ≡ all_ended s
unfolding ends_in_feed
feed_then b [] s = refl
feed_then b (c ∷ l) s = feed_then (eqb c line_feed) l s

-- bytes with no line feed among them do not end in one
pub no_feed_lem : (b : Bool) (c : ℕ) (s : List ℕ) → OneLine (c ∷ s) → ends_in_feed b (c ∷ s) ≡ false
unfolding ends_in_feed
no_feed_lem b c [] h = ne_eqb c line_feed h.0
no_feed_lem b c (d ∷ s) h = no_feed_lem (eqb c line_feed) d s h.1
