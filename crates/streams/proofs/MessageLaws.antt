-- Laws of a message's words: they end at the first window that is what std puts before the number.
use Rattle.std.proofs.Common.{◌≡◌, ℕ, ◌+◌, ◌<◌, ◌≤◌, Bool, true, false, cond, nat_eq, List, [], ◌∷◌, length, take, drop, refl, sym, ap, ◌∙◌, arith, length-take, Option, None, Some}
use Rattle.std.specs.Prelude.{leb, ltb, ◌&&◌, suc, not}
use Rattle.std.specs.List.{position_or_len}
use Rattle.std.specs.Cmp.Lexicographic.{pointwise}
use Rattle.std.specs.Option.{unwrap_or}
use Rattle.std.specs.Slice.Iter.{windows_rest, windows_size, windows_steps}
use Rattle.std.proofs.lemmas.Iterator.{YieldsList}
use Rattle.std.proofs.lemmas.Iterator.Splits.{YieldsList-from_shown_while}
use mathlib.Core.Bool.{and-false}
use mathlib.Core.Path.{ap₂}
use Rattle.std.proofs.Math.Seq.{take-length}
use native.Mathlib.Decide.{dec_lt}
use Rattle.std.proofs.lemmas.Bool.Decides.{nat_tests}
use borrow.Author.Tests.{le-leb, lt-leb, lt-ltb, le-ltb}
use Rattle.streams.specs.Messages.{numbered, words}

-- ---- the windows of a text that may be what std puts there
abbrev size : ℕ
size = length numbered

pub windows_of : List ℕ → List (List ℕ)
windows_of [] = []
windows_of (c ∷ s) = cond (leb size (length (c ∷ s))) (take size (c ∷ s) ∷ windows_of s) []

no_window : (s : List ℕ) → length s < size → windows_of s ≡ []
unfolding windows_of
no_window [] h = refl
no_window (c ∷ s) h = rw (lt-leb size (length (c ∷ s)) h)

one_window : (s : List ℕ) → size ≤ length s → windows_of s ≡ take size s ∷ windows_of (drop 1 s)
unfolding windows_of
one_window [] h = absurd (omega arith)
one_window (c ∷ s) h = rw (le-leb size (length (c ∷ s)) h)

pub windows_are :
    {s : _} (text : List ℕ) → windows_rest s ≡ text → windows_size s ≡ size
    → YieldsList windows_steps (λ w. w.now) s (windows_of text)
windows_are {s} text e z =
    rw (← e)
    (YieldsList-from_shown_while windows_steps (λ w. w.now) (λ w. windows_of (windows_rest w)) (λ w. windows_size w ≡ size)
    (λ w t p h. rw (no_window (windows_rest w) (omega (arith, h.1.0))))
    (λ w x t p h.
    let n : size ≤ length (windows_rest w) = omega (arith, h.1.0) in
    let first = one_window (windows_rest w) n in (h.0 ∙ p, cc))
    s z)

-- ---- the test of one, and that the words go on where it fails
abbrev pub is_numbered : List ℕ → Bool
is_numbered w = pointwise nat_eq w numbered

either_way : (xs ys : List ℕ) → pointwise nat_eq xs ys ≡ pointwise nat_eq ys xs
either_way [] [] = refl
either_way [] (y ∷ ys) = refl
either_way (x ∷ xs) [] = refl
either_way (x ∷ xs) (y ∷ ys) = ap₂ ◌&&◌ (grind (arith, nat_tests)) (either_way xs ys)

too_short : (xs ys : List ℕ) → length ys < length xs → pointwise nat_eq xs ys ≡ false
too_short [] ys h = absurd (omega arith)
too_short (x ∷ xs) [] h = refl
too_short (x ∷ xs) (y ∷ ys) h = rw (too_short xs ys (omega arith)) (and-false (nat_eq x y))

ended : (c : ℕ) (s : List ℕ) → is_numbered (take size (c ∷ s)) ≡ true → words (c ∷ s) ≡ []
unfolding words
ended c s h = rw (sym (either_way (take size (c ∷ s)) numbered) ∙ h)

one_word : (c : ℕ) (s : List ℕ) → is_numbered (take size (c ∷ s)) ≡ false → words (c ∷ s) ≡ c ∷ words s
unfolding words
one_word c s h = rw (sym (either_way (take size (c ∷ s)) numbered) ∙ h)

all_words : (s : List ℕ) → length s < size → words s ≡ s
unfolding words
all_words [] h = refl
all_words (c ∷ s) h =
    rw (too_short numbered (take size (c ∷ s)) (omega (arith, length-take size (c ∷ s))))
    (ap (λ w. c ∷ w) (all_words s (omega arith)))

-- ---- the words by the place of the first that is
abbrev pub place : List ℕ → ℕ
place s = position_or_len is_numbered (windows_of s)

abbrev pub below : ℕ → ℕ → Option ℕ
below p n = cond (ltb p n) (Some p) None

abbrev pub found : List ℕ → Option ℕ
found s = below (place s) (length (windows_of s))

further :
    (p n c : ℕ) (s ws : List ℕ) → take (unwrap_or (below p n) (length s)) s ≡ ws
    → take (unwrap_or (below (1 + p) (suc n)) (length (c ∷ s))) (c ∷ s) ≡ c ∷ ws
further p n c s ws h = go (dec_lt p n)
  where
    go : Dec (p < n) → take (unwrap_or (below (1 + p) (suc n)) (length (c ∷ s))) (c ∷ s) ≡ c ∷ ws
    go (yes k) =
        let one : 1 + p ≡ suc p = omega arith in
        rw (lt-ltb (1 + p) (suc n) (omega arith), one) (ap (λ w. c ∷ w) (rw (lt-ltb p n k) at h))
    go (no k) = rw (le-ltb (1 + p) (suc n) (omega (arith, k))) (ap (λ w. c ∷ w) (rw (le-ltb p n (omega (arith, k))) at h))

-- one more in front, that is or is not
one_more :
    (c : ℕ) (s : List ℕ) (b : Bool) → is_numbered (take size (c ∷ s)) ≡ b
    → take (unwrap_or (found s) (length s)) s ≡ words s
    → take (unwrap_or (below (cond (not b) (1 + place s) 0) (suc (length (windows_of s)))) (length (c ∷ s))) (c ∷ s)
    ≡ words (c ∷ s)
one_more c s true e ih = rw (lt-ltb 0 (suc (length (windows_of s))) (omega arith)) (sym (ended c s e))
one_more c s false e ih = further (place s) (length (windows_of s)) c s (words s) ih ∙ sym (one_word c s e)

pub words_by_place : (s : List ℕ) → take (unwrap_or (found s) (length s)) s ≡ words s
unfolding words windows_of
words_by_place [] = refl
words_by_place (c ∷ s) = go (dec_lt (length (c ∷ s)) size) (words_by_place s)
  where
    go :
        Dec (length (c ∷ s) < size) → take (unwrap_or (found s) (length s)) s ≡ words s
        → take (unwrap_or (found (c ∷ s)) (length (c ∷ s))) (c ∷ s) ≡ words (c ∷ s)
    go (yes h) ih = rw (no_window (c ∷ s) h) (take-length (c ∷ s) ∙ sym (all_words (c ∷ s) h))
    go (no h) ih = rw (one_window (c ∷ s) (omega (arith, h))) (one_more c s (is_numbered (take size (c ∷ s))) refl ih)
