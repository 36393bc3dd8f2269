-- Card 10: what a filing gets under any pair of limits, beside what it gets in the large entry.
use Prim.Native.Nat.{ℕ, ◌≤◌, min}
use mathlib.Core.Bool.{Bool, true, false, not, ◌||◌, or-true}
use mathlib.Core.List.{List, [], ◌∷◌, ◌++◌}
use mathlib.Core.Path.{◌≡◌, refl, sym, ◌∙◌, ap}
use native.Mathlib.Omega.{arith}
use lib.Dec.{ltb, leb}
use borrow.Author.Tests.{lt-leb, lt-ltb, le-ltb, ltb-true, ltb-false, leb-false, not-false}
use lib.ListN.{take}
use Rattle.figuring.specs.Tables.{Table, accepted_table}
use Rattle.figuring.specs.Parts.{within_limits}
use Rattle.figuring.proofs.PartLaws.{limited}
use Rattle.book.specs.Sizes.{families}
use Rattle.book.specs.Limits.{large_limits, small_limits}
use Rattle.book.specs.Filings.{with_purpose}
use Rattle.book.specs.Soundness.{sound}
use Rattle.book.specs.Refusals.{Verdict, Row, ◌⇒◌, first_refusal, number_of, refusal_in}
use Rattle.book.specs.Postings.{ordinary_for, part_beside}
use Rattle.book.specs.Rules.{posted, done, outcome, rows_for, head_rows, own_rows, fit_row, figure_rows, file_rows, filed_row}
use Rattle.book.specs.Amendments.{filed}
use Rattle.book.specs.FilingOrder.{family_of, is_filed}
use Rattle.book.specs.SmallMakers.{filed_under, first_of, UnderAnyPair, CountsAsLarge, at_most_large, TwoEntries}
use Rattle.book.specs.declared.ledger.Book.{Book}
use Rattle.book.specs.declared.kinds.Call.{Call}
use Rattle.book.specs.declared.kinds.Filing.{Filing}
use Rattle.book.specs.declared.kinds.Limits.{Limits}
use Rattle.book.specs.declared.kinds.Purpose.{Purpose}
use Rattle.book.specs.declared.answers.Refusal.{Refusal}
use Rattle.book.specs.declared.answers.Refusal.TheVariants.{UnknownFamily, OutOfLimits}
use Rattle.std.specs.Prelude.{Ok, Err}
use Rattle.book.proofs.NeverUnsound.{refuses_not}
use Rattle.book.proofs.TableLaws.{numbered, leaves, told_after}
use Rattle.book.proofs.Amendments.{number_of_lem}

-- what is asked from 7 on
from_seven : Bool → Bool → Bool → List Row
from_seven number volume is_filed =
    (number ⇒ UnknownFamily) ∷ (volume ⇒ OutOfLimits) ∷ filed_row false is_filed ∷ []

-- a test beside one that holds wherever it does
beside : (a b : Bool) → (a ≡ false → b ≡ false) → (a || b) ≡ a
beside true b h = refl
beside false b h = h refl

same_beside : (a b c : Bool) → (a ≡ false → b ≡ c) → (a || b) ≡ (a || c)
same_beside true b c h = refl
same_beside false b c h = h refl

-- ---- 7 and 8, beside what other tests of these rows give
seven_first : (m v w r s : Bool) → numbered (first_refusal (from_seven true v r)) ≡ first_of (numbered (first_refusal (from_seven m w s))) 7
unfolding from_seven
seven_first true v w r s = refl
seven_first false v true r s = refl
seven_first false v false r true = refl
seven_first false v false r false = refl

then_eight : (m w r s : Bool) → numbered (first_refusal (from_seven m true r)) ≡ first_of (numbered (first_refusal (from_seven m w s))) 8
unfolding from_seven
then_eight true w r s = refl
then_eight false true r s = refl
then_eight false false r true = refl
then_eight false false r false = refl

-- ---- a filing under a pair of limits
module _ (t : Table) (b : Book) (f : Filing) where
  -- what it is asked before 7
  abbrev early : List Row
  early =
      head_rows (sound b) (fit_row (accepted_table t) ∷ [])
      ++ take 6 (figure_rows (ordinary_for t f) b.open_year f)

  abbrev no_number : Bool
  no_number = leb families f.family

  abbrev no_figures : Bool
  no_figures = not (within_limits f.fcl f.cf f.volume f.life)

  abbrev over_number : Limits → Bool
  over_number l = no_number || ltb l.number f.family

  abbrev over_volume : Limits → Bool
  over_volume l = no_figures || ltb l.volume f.volume

  abbrev asked : Bool → Bool → List Row
  asked number volume = from_seven number volume (is_filed b (family_of f))

  verdict_by :
      (l : Limits)
      → first_refusal (rows_for t b (Call.File (with_purpose (Purpose.File l) f)))
      ≡ first_refusal (early ++ asked (over_number l) (over_volume l))
  unfolding rows_for head_rows own_rows file_rows from_seven
  verdict_by l = refl

  -- the two tests decide, and what an accepted filing does reads no limits
  same_tests :
      (l m : Limits) → over_number l ≡ over_number m → over_volume l ≡ over_volume m → filed_under l t b f ≡ filed_under m t b f
  unfolding posted done part_beside
  same_tests l m n v =
      ap (λ (x : Verdict). outcome x b (done t b (Call.File f)))
      (verdict_by l
      ∙ ap (λ (x : Bool). first_refusal (early ++ asked x (over_volume l))) n
      ∙ ap (λ (x : Bool). first_refusal (early ++ asked (over_number m) x)) v
      ∙ sym (verdict_by m))

  number_by :
      (l : Limits)
      → refusal_in (filed_under l t b f).answer ≡ numbered (first_refusal (early ++ asked (over_number l) (over_volume l)))
  number_by l = number_of_lem t b (with_purpose (Purpose.File l) f) ∙ ap numbered (verdict_by l)

  -- ---- the tests
  number_within : (l : Limits) → f.family ≤ l.number → over_number l ≡ no_number
  number_within l h = beside no_number (ltb l.number f.family) (λ e. le-ltb l.number f.family h)

  number_large : over_number large_limits ≡ no_number
  number_large =
      beside no_number (ltb large_limits.number f.family)
      (λ e. le-ltb large_limits.number f.family (omega (arith, leb-false families f.family e)))

  volume_within : (l : Limits) → f.volume ≤ l.volume → over_volume l ≡ no_figures
  volume_within l h = beside no_figures (ltb l.volume f.volume) (λ e. le-ltb l.volume f.volume h)

  -- figures within document 01's limits
  volume_most_held : no_figures ≡ false → f.volume ≤ 100000
  volume_most_held e = (limited f.fcl f.cf f.volume f.life (not-false (within_limits f.fcl f.cf f.volume f.life) e)).volume_high

  volume_large : over_volume large_limits ≡ no_figures
  volume_large =
      beside no_figures (ltb large_limits.volume f.volume)
      (λ e. le-ltb large_limits.volume f.volume (volume_most_held e))

  -- ---- the claims
  -- what is asked from 7 on, where it gives n or what the large limits give earlier
  stands_first :
      (n : ℕ) (number volume : Bool) → leaves (λ m. first_of m n) early ≡ true
      → numbered (first_refusal (asked number volume))
      ≡ first_of (numbered (first_refusal (asked (over_number large_limits) (over_volume large_limits)))) n
      → numbered (first_refusal (early ++ asked number volume)) ≡ first_of (refusal_in (filed t b f).answer) n
  stands_first n number volume a e =
      told_after (λ m. first_of m n) early (asked number volume) (asked (over_number large_limits) (over_volume large_limits)) a e
      ∙ ap (λ (r : ℕ). first_of r n) (sym (number_by large_limits))

  pub under_any_pair : (l : Limits) → UnderAnyPair t b f l
  unfolding head_rows
  under_any_pair l =
      record {
        within = λ n v.
            same_tests l large_limits (number_within l n ∙ sym number_large) (volume_within l v ∙ sym volume_large);
        number = λ n.
            number_by l
            ∙ rw (lt-ltb l.number f.family n, or-true no_number)
            (stands_first 7 true (over_volume l) refl (seven_first (over_number large_limits) (over_volume l) _ _ _));
        volume = λ n v.
            number_by l
            ∙ rw (number_within l n ∙ sym number_large, lt-ltb l.volume f.volume v, or-true no_figures)
            (stands_first 8 (over_number large_limits) true refl (then_eight (over_number large_limits) _ _ _));
      }

  under_cap : (l most n : ℕ) → n ≤ most → ltb l n ≡ ltb (min l most) n
  under_cap l most n h = go (ltb l n) refl
    where
      go : (e : Bool) → ltb l n ≡ e → e ≡ ltb (min l most) n
      go true e = sym (lt-ltb (min l most) n (omega (arith, ltb-true l n e)))
      go false e = sym (le-ltb (min l most) n (omega (arith, ltb-false l n e, h)))

  pub counts_as_large : (l : Limits) → CountsAsLarge t b f l
  counts_as_large l =
      same_tests l (at_most_large l)
      (same_beside no_number (ltb l.number f.family) (ltb (min l.number 63) f.family)
      (λ e. under_cap l.number 63 f.family (omega (arith, leb-false families f.family e))))
      (same_beside no_figures (ltb l.volume f.volume) (ltb (min l.volume 100000) f.volume)
      (λ e. under_cap l.volume 100000 f.volume (volume_most_held e)))

  -- in the large entry, where the rows of 7 and 8 are as these two tests say
  large_gives_not :
      (n : ℕ) (number volume : Bool) → over_number large_limits ≡ number → over_volume large_limits ≡ volume → 1 ≤ n
      → ((r : Refusal) → first_refusal (early ++ asked number volume) ≡ Err r → number_of r ≡ n → ⊥)
      → refusal_in (filed t b f).answer ≡ n → ⊥
  large_gives_not n number volume p q h k e =
      go (first_refusal (early ++ asked number volume)) refl
      (ap (λ (x : Bool). numbered (first_refusal (early ++ asked x volume))) (sym p)
      ∙ ap (λ (x : Bool). numbered (first_refusal (early ++ asked (over_number large_limits) x))) (sym q)
      ∙ sym (number_by large_limits)
      ∙ e)
    where
      go : (v : Verdict) → first_refusal (early ++ asked number volume) ≡ v → numbered v ≡ n → ⊥
      go (Ok u) d z = omega (arith, h, z)
      go (Err r) d z = k r d z

  pub two_entries : TwoEntries t b f
  unfolding head_rows from_seven
  two_entries =
      let mark = filed_row false (is_filed b (family_of f)) in
      record {
        small = under_any_pair small_limits;
        large = under_any_pair large_limits;
        no_seven = λ h.
            large_gives_not 7 false (over_volume large_limits) (number_large ∙ lt-leb families f.family (omega (arith, h)))
            refl (omega arith)
            (λ r d. refuses_not 7 (early ++ (over_volume large_limits ⇒ OutOfLimits) ∷ mark ∷ []) r refl d);
        no_eight = λ h.
            large_gives_not 8 (over_number large_limits) false refl (volume_large ∙ ap not h) (omega arith)
            (λ r d. refuses_not 8 (early ++ (over_number large_limits ⇒ UnknownFamily) ∷ mark ∷ []) r refl d);
      }
