-- Laws of the reading of a file into a buffer.
use Rattle.std.proofs.Common.{◌≡◌, ℕ, ◌+◌, ◌-◌, ◌≤◌, List, [], ◌∷◌, ◌++◌, length, length-append, length-drop, length-take-le, take, drop, true, Result, append_assoc, refl, sym, ap, ◌∙◌, arith, inl, inr}
use mathlib.Core.List.{append-nil}
use lib.Seq.{take-add}
use Rattle.text.specs.Program.{joined}
use Rattle.credit_book.specs.declared.files.TextRead.{TextRead}
use Rattle.credit_book.specs.declared.progress.Lapse.{Lapse}
use Rattle.credit_book.specs.declared.progress.Progress.{Progress}
use Rattle.credit_book.specs.Turns.{count, most_turns, progress}
use Rattle.credit_book.specs.Files.{AddedBy, ComesTo, Pieces, ReadWhole, Torn, unless_full}

-- ---- the reading
-- what has been read so far, and how far that has come: the loop's invariant is this at `More`
pub record SoFar (text₀ text : List ℕ) (len turns : ℕ) (p : Progress) : Type 0 where
  pub long : length text ≡ length text₀
  pub inside : len ≤ length text₀
  pub pieces : List (List ℕ)
  pub reading : Pieces (length text₀) pieces p
  pub len_is : len ≡ length (joined pieces)
  pub bytes_are : take len text ≡ joined pieces
  pub counts : turns ≡ length pieces

pub none_yet : {text : List ℕ} → SoFar text text 0 0 Progress.More
unfolding joined
none_yet =
    record {
      long = refl;
      inside = omega arith;
      pieces = [];
      reading = Pieces.begun;
      len_is = refl;
      bytes_are = refl;
      counts = refl;
    }

joined_more : (ps : List (List ℕ)) (b : List ℕ) → joined (ps ++ (b ∷ [])) ≡ joined ps ++ b
unfolding joined
joined_more [] b = append-nil b
joined_more (p ∷ ps) b = ap (p ++◌) (joined_more ps b) ∙ sym (append_assoc p (joined ps) b)

-- one read more, of n bytes
pub next :
    {text₀ text text' : List ℕ} {len n turns : ℕ} {p : Progress} {read : Result ℕ Lapse}
    → SoFar text₀ text len turns Progress.More → length text' ≡ length text → AddedBy len text read text'
    → n ≡ count read → p ≡ unless_full (length text') (len + n) (progress read true)
    → SoFar text₀ text' (len + n) (turns + 1) p
next {text₀ = text₀} {text' = text'} {len = len} {n = n} {read = read} g l a c e =
    let within : n ≤ length text₀ - len = omega (arith, a.within, c, g.long) in
    let bytes = take n (drop len text') in
    let size : length bytes ≡ n =
    length-take-le n (drop len text') (rw length-drop (omega (arith, within, l, g.long))) in
    let all : take (len + n) text' ≡ joined (g.pieces ++ (bytes ∷ [])) =
    take-add len n text' ∙ ap (λ (p : List ℕ). p ++ bytes) (a.before ∙ g.bytes_are)
    ∙ sym (joined_more g.pieces bytes) in
    let end : len + n ≡ length (joined (g.pieces ++ (bytes ∷ []))) =
    rw (joined_more g.pieces bytes, length-append (joined g.pieces) bytes, size, ← g.len_is) refl in
    record {
      long = l ∙ g.long;
      inside = omega (arith, within, g.inside);
      pieces = g.pieces ++ (bytes ∷ []);
      reading =
          rw (e, l ∙ g.long, end)
          (Pieces.piece bytes read g.reading (size ∙ c) (omega (arith, within, c, g.len_is)));
      len_is = end;
      bytes_are = all;
      counts = rw (length-append g.pieces (bytes ∷ [])) (omega (arith, g.counts));
    }

pub whole :
    {text₀ text : List ℕ} {len turns : ℕ} → SoFar text₀ text len turns Progress.Ended
    → ReadWhole (record { len = len; turns = turns }) text
whole g =
    record {
      pieces = g.pieces;
      reading = rw g.long g.reading;
      len_is = g.len_is;
      bytes_are = g.bytes_are;
      counts = g.counts;
    }

pub failed :
    {text₀ text : List ℕ} {len turns : ℕ} → SoFar text₀ text len turns Progress.Failed
    → Torn (record { len = len; turns = turns }) text
failed g =
    record {
      broken = record { pieces = g.pieces; reading = inl (rw g.long g.reading) };
      len_is = g.len_is;
      bytes_are = g.bytes_are;
      counts = g.counts;
    }

pub used_up :
    {text₀ text : List ℕ} {len : ℕ} → SoFar text₀ text len most_turns Progress.More
    → Torn (record { len = len; turns = most_turns }) text
used_up g =
    record {
      broken = record { pieces = g.pieces; reading = inr (rw g.long g.reading, sym g.counts) };
      len_is = g.len_is;
      bytes_are = g.bytes_are;
      counts = g.counts;
    }

-- ---- what the text comes to
-- by any f that a text's first bytes decide
pub comes_to :
    {A : Type 0} {room : ℕ} {f : List ℕ → A} {r : TextRead} {text : List ℕ} {v : A}
    → ((s : List ℕ) → f (take room s) ≡ f s) → length text ≡ room → ReadWhole r text → f (take r.len text) ≡ v
    → ComesTo room f v
comes_to {f = f} first_bytes_lem long h k =
    let verdict = ap f (sym h.bytes_are) ∙ k in
    record {
      pieces = h.pieces;
      reading = rw (← long) h.reading;
      verdict = verdict;
      any_text = λ s p. sym (first_bytes_lem s) ∙ ap f p ∙ verdict;
    }
