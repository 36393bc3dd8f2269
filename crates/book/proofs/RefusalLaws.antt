-- No refusal has the number 0; and demand 1: what a call answers, refused or accepted.
use Prim.Native.Nat.{ℕ, ◌<◌}
use mathlib.Core.Bool.{true, false, false≢true, true≢false}
use mathlib.Core.Path.{◌≡◌, refl, sym, ap, ◌∙◌}
use native.Mathlib.Omega.{arith}
use lib.IntN.{pos}
use Rattle.figuring.specs.Tables.{Table}
use Rattle.book.specs.Refusals.{Answered, number_of, refusal_in, values_in, result_in}
use Rattle.book.specs.Rules.{posted, answered}
use Rattle.book.specs.Demand3.{is_accepted}
use Rattle.book.specs.Demand1.{Demand1}
use Rattle.book.specs.declared.ledger.Book.{Book}
use Rattle.book.specs.declared.kinds.Call.{Call}
use Rattle.std.specs.Prelude.{Ok, Err, is_ok, cond}
use Rattle.book.specs.declared.answers.Posted.{Posted}
use Rattle.book.specs.declared.answers.Refusal.{Refusal}
use Rattle.book.specs.declared.answers.Refusal.TheVariants.{NotAForm, UnsoundBook, UnknownMaker, UnknownSet}
use Rattle.book.specs.declared.answers.Refusal.TheVariants.{YearNotOpen, NoStandard, UnknownFamily, OutOfLimits}
use Rattle.book.specs.declared.answers.Refusal.TheVariants.{AlreadyFiled, VintageNotLive, ZeroAmount, SameMaker}
use Rattle.book.specs.declared.answers.Refusal.TheVariants.{HasShortage, NoOpenShortage, AboveLot, AboveShortage}
use Rattle.book.specs.declared.answers.Refusal.TheVariants.{NoEdition, NotFiled, NotATable, UnfitTable}
use Rattle.book.specs.declared.answers.Refusal.TheVariants.{ShortBuffer, NotABook}
use Rattle.book.proofs.TableLaws.{by_verdict}
use Rattle.book.proofs.CallLaws.{lawful}

pub number_above_0 : (r : Refusal) → 0 < number_of r
number_above_0 NotAForm = omega arith
number_above_0 UnsoundBook = omega arith
number_above_0 UnknownMaker = omega arith
number_above_0 UnknownSet = omega arith
number_above_0 YearNotOpen = omega arith
number_above_0 NoStandard = omega arith
number_above_0 UnknownFamily = omega arith
number_above_0 OutOfLimits = omega arith
number_above_0 AlreadyFiled = omega arith
number_above_0 VintageNotLive = omega arith
number_above_0 ZeroAmount = omega arith
number_above_0 SameMaker = omega arith
number_above_0 HasShortage = omega arith
number_above_0 NoOpenShortage = omega arith
number_above_0 AboveLot = omega arith
number_above_0 AboveShortage = omega arith
number_above_0 NoEdition = omega arith
number_above_0 NotFiled = omega arith
number_above_0 NotATable = omega arith
number_above_0 UnfitTable = omega arith
number_above_0 ShortBuffer = omega arith
number_above_0 NotABook = omega arith

-- ---- what an answer says of itself
pub accepted_number : (a : Answered) → is_accepted a ≡ true → refusal_in a ≡ 0
unfolding is_accepted refusal_in
accepted_number (Err r) e = absurd (false≢true e)
accepted_number (Ok a) e = refl

refused_number : (a : Answered) → is_accepted a ≡ false → 0 < refusal_in a
unfolding is_accepted refusal_in
refused_number (Err r) e = number_above_0 r
refused_number (Ok a) e = absurd (true≢false e)

refused_zeros : (a : Answered) → is_accepted a ≡ false → (i : ℕ) → result_in a i ≡ pos 0
unfolding is_accepted values_in
refused_zeros (Err r) e i = refl
refused_zeros (Ok a) e i = absurd (true≢false e)

-- ---- what a call answers
pub demand1 : (t : Table) (b : Book) (c : Call) → Demand1 t b c
unfolding is_accepted
demand1 t b c =
    record {
      accepted = accepted_number (posted t b c).answer;
      numbered = refused_number (posted t b c).answer;
      zeros = refused_zeros (posted t b c).answer;
      unchanged =
          by_verdict t b c (λ p. is_accepted p.answer ≡ false → p.book ≡ b) (λ r a. refl)
          (λ s e a. absurd (true≢false (sym (lawful t b c s e).answered ∙ a)));
    }

-- what is stored back is the call's own book
pub stored_so :
    (t : Table) (b : Book) (c : Call) {p : Posted} {a : Answered} {d : Book}
    → p ≡ posted t b c → a ≡ p.answer → d ≡ cond (is_ok p.answer) p.book b → answered a d ≡ posted t b c
unfolding is_accepted
stored_so t b c {p} e h k = rw (h, k, e) (ap (answered (posted t b c).answer) (go (posted t b c).answer refl))
  where
    go : (a : Answered) → a ≡ (posted t b c).answer → cond (is_ok a) (posted t b c).book b ≡ (posted t b c).book
    go (Ok a) k = refl
    go (Err r) k = sym ((demand1 t b c).unchanged (rw (← k) refl))
