-- A line is a form's call just where it is that call, rendered, with its figures small, in at most 160 bytes.
use Prim.Native.Nat.{ℕ, zero, suc, ◌≤◌}
use native.Mathlib.Omega.{arith}
use mathlib.Core.Bool.{Bool, true, false, cond, ◌&&◌}
use mathlib.Core.Path.{◌≡◌, refl, ap, subst, ◌∙◌}
use Rattle.std.proofs.Common.{Option, None, Some}
use mathlib.Core.List.{List, [], ◌∷◌, map}
use lib.Dec.{ltb, lit≤}
use lib.ListN.{length, get_or, drop}
use borrow.Author.Tests.{le-ltb, ltb-false}
use Rattle.figuring.proofs.BoolLaws.{both}
use Rattle.book.specs.Limits.{small_limits}
use Rattle.book.specs.declared.kinds.Limits.{Limits}
use Rattle.book.specs.declared.kinds.Purpose.{Purpose}
use Rattle.book.specs.declared.kinds.Call.{Call}
use Rattle.book.specs.declared.kinds.Filing.{Filing}
use Rattle.std.specs.Option.{option_or, option_map}
use Rattle.text.specs.Pattern.{fit, filled, hashes}
use Rattle.text.specs.Line.{Form, forms, first_form, line_at, line_of, longest_line, most_digits}
use Rattle.text.specs.Rendered.{form_of, same_limits, figures_in, HasLine, rendered, FewDigits, IsText, NoText, Reads}
use Rattle.text.specs.Answers.{answer_to, posted_line, ByText}
use Rattle.text.proofs.RenderLaws.{fit_fills, fills_fit, separate, apart, apart_unfit}

head_same : {A : Type 0} {x y : A} {xs ys : List A} → x ∷ xs ≡ y ∷ ys → x ≡ y
head_same e = cc

tail_same : {A : Type 0} {x y : A} {xs ys : List A} → x ∷ xs ≡ y ∷ ys → xs ≡ ys
tail_same e = cc

-- a list of k numbers, written out
abbrev pub firsts : ℕ → List ℕ → List ℕ
firsts zero ns = []
firsts (suc k) ns = get_or ns 0 0 ∷ firsts k (drop 1 ns)

pub listed : (k : ℕ) (ns : List ℕ) → length ns ≡ k → firsts k ns ≡ ns
listed zero [] h = refl
listed zero (n ∷ ns) h = absurd (omega arith)
listed (suc k) [] h = absurd (omega arith)
listed (suc k) (n ∷ ns) h = ap (λ (l : List ℕ). n ∷ l) (listed k ns (omega arith))

-- ---- an accepted line is its call, rendered
-- a form with as many numbers as it has figures
abbrev given : List ℕ → Form → Form × List ℕ
given ns f = (f, firsts (hashes f.pattern) ns)

-- the form and the figures of the call that it makes of them
abbrev read_back : List ℕ → Form → Form × List ℕ
read_back ns f = let c = f.call (given ns f).1 in (form_of c, figures_in c)

-- they are the same: computed for all forms at once
again : (ns : List ℕ) → map (read_back ns) forms ≡ map (given ns) forms
unfolding hashes
again ns = refl

-- what reading a text by a form says of its call
abbrev Accepted : List ℕ → Call → Type 0
Accepted s c = (s ≡ rendered c) × FewDigits most_digits (figures_in c) × HasLine c

accepted :
    (fs : List Form) → ((ns : List ℕ) → map (read_back ns) fs ≡ map (given ns) fs)
    → (s : List ℕ) (c : Call) → first_form fs s ≡ Some c → Accepted s c
accepted [] a s c e = let z : ◌≡◌ {A = ℕ} 0 1 = cc in absurd (omega arith)
accepted (f ∷ fs) a s c e =
    go (fit most_digits f.pattern s) refl e (accepted fs (λ ns. tail_same (a ns)) s c)
  where
    go :
        (o : Option (List ℕ))
        → fit most_digits f.pattern s ≡ o
        → option_or (option_map f.call o) (first_form fs s) ≡ Some c
        → (first_form fs s ≡ Some c → Accepted s c)
        → Accepted s c
    go None p q ih = ih q
    go (Some ns) p q ih =
        let w = fit_fills most_digits (lit≤ tt) f.pattern s ns p in
        let d : f.call ns ≡ c = cc in
        let l : firsts (hashes f.pattern) ns ≡ ns = listed (hashes f.pattern) ns w.count in
        let r : read_back ns f ≡ given ns f = head_same (a ns) in
        let k : ◌≡◌ {A = Form × List ℕ} (form_of c, figures_in c) (f, ns) = rw (← d) (rw l at r) in
        let g : form_of c ≡ f = ap (λ (x : Form × List ℕ). x.0) k in
        let n : figures_in c ≡ ns = ap (λ (x : Form × List ℕ). x.1) k in
        (rw (g, n) w.text, rw n w.small, rw (g, n) d)

only : (s : List ℕ) (c : Call) → line_of s ≡ Some c → IsText s c
unfolding line_of line_at
only s c e = go (ltb longest_line (length s)) refl e
  where
    go :
        (b : Bool) → ltb longest_line (length s) ≡ b → cond b None (first_form forms s) ≡ Some c
        → IsText s c
    go true p q = let z : ◌≡◌ {A = ℕ} 0 1 = cc in absurd (omega arith)
    go false p q =
        let w = accepted forms again s c q in
        record { has_line = w.2; text = w.0; short = ltb-false longest_line (length s) p; digits = w.1 }

-- ---- a call that is rendered is accepted
-- a form stands at a place of a list
abbrev IsAt : ℕ → List Form → Form → Type 0
IsAt n [] f = ⊥
IsAt zero (g ∷ gs) f = g ≡ f
IsAt (suc n) (g ∷ gs) f = IsAt n gs f

-- what has to be shown of each call: its form's place among the forms, and that its figures are as many
record Formed (c : Call) : Type 0 where
  place : ℕ
  is_there : IsAt place forms (form_of c)
  count : length (figures_in c) ≡ hashes (form_of c).pattern

filed_within :
    (is_small : Bool) (l : Limits) (x : Filing) → x.purpose ≡ Purpose.File l → same_limits l small_limits ≡ is_small
    → Formed (Call.File x)
unfolding hashes
filed_within true l x e s = record { place = 1; is_there = rw (e, s); count = rw (e, s) }
filed_within false l x e s = record { place = 0; is_there = rw (e, s); count = rw (e, s) }

filed : (p : Purpose) (x : Filing) → x.purpose ≡ p → Formed (Call.File x)
unfolding hashes
filed (Purpose.File l) x e = filed_within (same_limits l small_limits) l x e refl
filed Purpose.Amend x e = record { place = 2; is_there = rw e; count = rw e }

formed : (c : Call) → Formed c
unfolding hashes
formed (Call.File x) = filed x.purpose x refl
formed (Call.Close x) = record { place = 3; is_there = refl; count = refl }
formed (Call.Trade x) = record { place = 4; is_there = refl; count = refl }
formed (Call.Apply x) = record { place = 5; is_there = refl; count = refl }
formed (Call.Retire x) = record { place = 6; is_there = refl; count = refl }
formed (Call.Cover x) = record { place = 7; is_there = refl; count = refl }

-- every form of a list passes a test
unfoldable pub every : (Form → Bool) → List Form → Bool
every t [] = true
every t (f ∷ fs) = t f && every t fs

every_at : (t : Form → Bool) (n : ℕ) (fs : List Form) (f : Form) → IsAt n fs f → every t fs ≡ true → t f ≡ true
unfolding every
every_at t n [] f h e = absurd h
every_at t zero (g ∷ gs) f h e = subst (λ (x : Form). t x ≡ true) h (both (t g) (every t gs) e).0
every_at t (suc n) (g ∷ gs) f h e = every_at t n gs f h (both (t g) (every t gs) e).1

-- so what a computed test shows of the forms holds of each call's
pub each_form : (t : Form → Bool) → every t forms ≡ true → (c : Call) → t (form_of c) ≡ true
each_form t e c = every_at t (formed c).place forms (form_of c) (formed c).is_there e

-- no form fits what one after it is filled to, since they differ in a byte of their words
unfoldable all_apart : List Form → Bool
all_apart [] = true
all_apart (f ∷ fs) = every (λ g. apart f.pattern g.pattern) fs && all_apart fs

chosen :
    (n : ℕ) (fs : List Form) (f : Form) (ns : List ℕ) → IsAt n fs f → all_apart fs ≡ true → FewDigits most_digits ns
    → fit most_digits f.pattern (filled f.pattern ns) ≡ Some ns
    → first_form fs (filled f.pattern ns) ≡ Some (f.call ns)
unfolding all_apart
chosen n [] f ns h a m e = absurd h
chosen zero (g ∷ gs) f ns h a m e = rw (h, e)
chosen (suc n) (g ∷ gs) f ns h a m e =
    let w = both (every (λ x. apart g.pattern x.pattern) gs) (all_apart gs) a in
    let d = every_at (λ x. apart g.pattern x.pattern) n gs f h w.0 in
    rw (apart_unfit most_digits (lit≤ tt) (lit≤ tt) g.pattern f.pattern ns d m) (chosen n gs f ns h w.1 m e)

pub rendered_form :
    (c : Call) → HasLine c → FewDigits most_digits (figures_in c) → length (rendered c) ≤ longest_line
    → line_of (rendered c) ≡ Some c
unfolding line_of line_at every all_apart separate apart
rendered_form c r h l =
    let k = formed c in
    let p = each_form (λ f. separate f.pattern) refl c in
    let e = fills_fit most_digits (lit≤ tt) (lit≤ tt) (form_of c).pattern (figures_in c) p k.count h in
    rw (le-ltb longest_line (length (rendered c)) l)
    (chosen k.place forms (form_of c) (figures_in c) k.is_there refl h e ∙ ap {B = Option Call} Some r)

each : (s : List ℕ) (c : Call) → IsText s c → line_of s ≡ Some c
each s c t =
    ap line_of t.text ∙ rendered_form c t.has_line t.digits
    (subst (λ (x : List ℕ). length x ≤ longest_line) t.text t.short)

-- ---- both ways
pub reads : Reads
reads = record { only = only; each = each; else_none = λ s h. go s h (line_of s) refl }
  where
    go : (s : List ℕ) → NoText s → (r : Option Call) → line_of s ≡ r → r ≡ None
    go s h None e = refl
    go s h (Some c) e = absurd (h c (only s c e))

pub by_text : ByText
unfolding answer_to
by_text =
    record {
      form = λ t b s c h. ap (posted_line t b) (each s c h);
      no_form = λ t b s n. ap (posted_line t b) (reads.else_none s n);
    }
