-- The first line of a text, and the text that follows it; and texts with no line feed in them.
use Prim.Native.Nat.{ℕ, zero, suc, ◌+◌, ◌-◌, ◌/◌, ◌%◌, ◌<◌}
use native.Mathlib.Omega.{arith}
use mathlib.Core.Bool.{Bool, true, false, not, cond, ◌&&◌}
use mathlib.Core.Logic.{◌⊎◌, inl, inr, ⊎_elim}
use mathlib.Core.Path.{◌≡◌, refl, sym, ap, subst, ◌∙◌}
use mathlib.Core.List.{List, [], ◌∷◌, ◌++◌, append_assoc}
use lib.Dec.{eqb, ltb}
use lib.ListN.{length, get_or, take, drop, drop_of_length-le}
use lib.Seq.{take_all}
use borrow.Author.Tests.{eqb-true, eqb-false, ne_eqb, not-true}
use Rattle.std.proofs.Common.{Option, None, Some}
use denote.Ref.{Bor}
use Rattle.std.specs.Option.{MatchOption, unwrap_or}
use Rattle.std.proofs.lemmas.List.{drop-take}
use Rattle.figuring.proofs.BoolLaws.{both}
use Rattle.text.specs.Numeral.{numeral, numeral_of}
use Rattle.text.specs.Pattern.{filled, hash, choose}
use Rattle.text.specs.Desk.{line_feed}
use Rattle.text.specs.Lines.{Lacks, lines_from, lines_of, OneLine}
use Rattle.text.specs.FirstLine.{first_line, after_line, Parted}
use Rattle.text.proofs.SessionLaws.{lines}

-- ---- a pattern with no line feed in it is filled to one line
unfoldable pub no_feed : List ℕ → Bool
no_feed [] = true
no_feed (c ∷ s) = not (eqb c line_feed) && no_feed s

one_digits : (k x : ℕ) (s : List ℕ) → OneLine s → OneLine (numeral_of k x ++ s)
unfolding numeral_of
one_digits zero x s h = h
one_digits (suc k) x s h = go (ltb x 10) (one_digits k (x / 10))
  where
    go :
        (b : Bool) → ((t : List ℕ) → OneLine t → OneLine (numeral_of k (x / 10) ++ t))
        → OneLine (cond b ((48 + x) ∷ []) (numeral_of k (x / 10) ++ ((48 + x % 10) ∷ [])) ++ s)
    go true ih = (λ e. omega arith, h)
    go false ih =
        subst OneLine (sym (append_assoc (numeral_of k (x / 10)) ((48 + x % 10) ∷ []) s))
        (ih ((48 + x % 10) ∷ s) (λ e. omega arith, h))

pub one_filled : (p ns : List ℕ) → no_feed p ≡ true → OneLine (filled p ns)
unfolding filled no_feed
one_filled [] ns h = tt
one_filled (c ∷ p) ns h =
    let w = both (not (eqb c line_feed)) (no_feed p) h in
    go (eqb c hash) (eqb-false c line_feed (not-true _ w.0)) (λ ms. one_filled p ms w.1)
  where
    go :
        (b : Bool) → (c ≡ line_feed → ⊥) → ((ms : List ℕ) → OneLine (filled p ms))
        → OneLine (choose b (λ u. numeral (get_or ns 0 0) ++ filled p (drop 1 ns)) (λ u. c ∷ filled p ns))
    go true n ih = one_digits 20 (get_or ns 0 0) (filled p (drop 1 ns)) (ih (drop 1 ns))
    go false n ih = (n, ih ns)

-- ---- the first line
pub first_one : (s : List ℕ) → OneLine (first_line s)
unfolding first_line
first_one [] = tt
first_one (b ∷ s) = go (eqb b line_feed) refl (first_one s)
  where
    go : (e : Bool) → eqb b line_feed ≡ e → OneLine (first_line s) → OneLine (cond e [] (b ∷ first_line s))
    go true e ih = tt
    go false e ih = (eqb-false b line_feed e, ih)

-- a text is its first line, the last one; or that line, a line feed and what follows
abbrev pub IsLast : List ℕ → Type 0
IsLast s = (s ≡ first_line s) × (after_line s ≡ [])

pub parted : (s : List ℕ) → IsLast s ⊎ (s ≡ first_line s ++ line_feed ∷ after_line s)
unfolding first_line
parted [] = inl (refl, refl)
parted (b ∷ s) = go (eqb b line_feed) refl (parted s)
  where
    go :
        (e : Bool) → eqb b line_feed ≡ e → IsLast s ⊎ (s ≡ first_line s ++ line_feed ∷ after_line s)
        → ((b ∷ s ≡ cond e [] (b ∷ first_line s)) × (drop (suc (length (cond e [] (b ∷ first_line s)))) (b ∷ s) ≡ []))
        ⊎ (b ∷ s ≡ cond e [] (b ∷ first_line s)
        ++ line_feed ∷ drop (suc (length (cond e [] (b ∷ first_line s)))) (b ∷ s))
    go true e ih = inr (ap (λ (x : ℕ). x ∷ s) (eqb-true b line_feed e))
    go false e (inl h) = inl (ap (λ (l : List ℕ). b ∷ l) h.0, h.1)
    go false e (inr h) = inr (ap (λ (l : List ℕ). b ∷ l) h)

pub first_lines : (b : ℕ) (s : List ℕ) → lines_of (b ∷ s) ≡ first_line (b ∷ s) ∷ lines_of (after_line (b ∷ s))
unfolding lines_from
first_lines b s =
    ⊎_elim
    (λ h. lines.last (b ∷ s) (subst OneLine (sym h.0) (first_one (b ∷ s)))
    ∙ ap (λ (l : List ℕ). l ∷ []) h.0
    ∙ ap (λ (r : List ℕ). first_line (b ∷ s) ∷ lines_of r) (sym h.1))
    (λ h. ap lines_of h ∙ lines.ended (first_line (b ∷ s)) (after_line (b ∷ s)) (first_one (b ∷ s))) (parted (b ∷ s))

-- ---- the first line of a text that is cut
pub first_cut : (k : ℕ) (s : List ℕ) → first_line (take k s) ≡ take k (first_line s)
unfolding first_line
first_cut zero s = refl
first_cut (suc k) [] = refl
first_cut (suc k) (b ∷ s) = go (eqb b line_feed) (first_cut k s)
  where
    go :
        (e : Bool) → first_line (take k s) ≡ take k (first_line s)
        → cond e [] (b ∷ first_line (take k s)) ≡ take (suc k) (cond e [] (b ∷ first_line s))
    go true ih = refl
    go false ih = ap (λ (l : List ℕ). b ∷ l) ih

-- where the cut is past its line feed
pub after_cut :
    (k : ℕ) (s : List ℕ) → length (first_line s) < k
    → after_line (take k s) ≡ take (k - suc (length (first_line s))) (after_line s)
after_cut k s h =
    let n : ℕ = suc (length (first_line s)) in
    let f : first_line (take k s) ≡ first_line s = first_cut k s ∙ take_all k (first_line s) (omega arith) in
    let e : k ≡ n + (k - n) = omega arith in
    ap (λ (l : List ℕ). drop (suc (length l)) (take k s)) f
    ∙ ap (λ (j : ℕ). drop n (take j s)) e ∙ drop-take n (k - n) s

-- ---- by its line feed
first_before : (l r : List ℕ) → OneLine l → first_line (l ++ (line_feed ∷ r)) ≡ l
unfolding first_line
first_before [] r h = refl
first_before (b ∷ l) r h = rw (ne_eqb b line_feed h.0, first_before l r h.1)

drop_past : (l r : List ℕ) → drop (suc (length l)) (l ++ (line_feed ∷ r)) ≡ r
drop_past [] r = refl
drop_past (b ∷ l) r = drop_past l r

first_last : (l : List ℕ) → OneLine l → first_line l ≡ l
unfolding first_line
first_last [] h = refl
first_last (b ∷ l) h = rw (ne_eqb b line_feed h.0, first_last l h.1)

-- where its line feed is found, or none is
pub first_or_last :
    (s : List ℕ) (o : Option (Bor (List ℕ) × Bor (List ℕ))) (d : Bor (List ℕ) × Bor (List ℕ))
    → MatchOption o (Lacks line_feed s) (λ r. Parted line_feed s r.0.now r.1.now) → d.0.now ≡ s → d.1.now ≡ []
    → ((unwrap_or o d).0.now ≡ first_line s) × ((unwrap_or o d).1.now ≡ after_line s)
first_or_last s None d h e f =
    let q : first_line s ≡ s = first_last s h in
    rw q (e, f ∙ sym (drop_of_length-le s {i = suc (length s)} (omega arith)))
first_or_last s (Some (l, r)) d h e f =
    let q : first_line (l.now ++ (line_feed ∷ r.now)) ≡ l.now = first_before l.now r.now h.lacks in
    rw (h.parts, q) (refl, sym (drop_past l.now r.now))
