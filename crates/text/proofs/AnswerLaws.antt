-- The texts of answers, each as the pattern that the code fills, and their lengths.
use Prim.Native.Nat.{ℕ, zero, suc, ◌+◌, ◌*◌, ◌≤◌, ◌<◌}
use native.Mathlib.Nat.{not-suc-le-zero}
use native.Mathlib.Omega.{arith}
use mathlib.Core.Path.{◌≡◌, refl}
use mathlib.Core.List.{List, [], ◌∷◌}
use lib.Dec.{leb, T, leb→le}
use lib.IntN.{ℤ, pos, negsuc, nat_abs}
use lib.ListN.{length}
use Rattle.std.specs.Prelude.{Ok, Err}
use Rattle.figuring.specs.declared.units.Mg.{Mg}
use Rattle.book.specs.declared.answers.Answer.{Answer}
use Rattle.book.specs.declared.answers.Refusal.{Refusal}
use Rattle.book.specs.Refusals.{Answered, number_of, refusal_in, values_in}
use Rattle.book.proofs.RefusalLaws.{number_above_0}
use Rattle.text.specs.Ascii.{ascii}
use Rattle.text.specs.Pattern.{filled, hashes}
use Rattle.text.specs.Answers.{said_for, text_of, answer_room}
use Rattle.text.specs.Placing.{by_sign}
use Rattle.text.proofs.FillLaws.{filled_length}

-- ---- a refusal
said_no : (n : ℕ) (vs : List ℤ) → 0 < n → said_for n vs ≡ filled (ascii "(no #)\n") (n ∷ [])
unfolding filled
said_no zero vs h = absurd (not-suc-le-zero h)
said_no (suc n) vs h = refl

pub refused_text : (r : Refusal) → text_of (Err r) ≡ filled (ascii "(no #)\n") (number_of r ∷ [])
unfolding text_of refusal_in
refused_text r = said_no (number_of r) _ (number_above_0 r)

-- ---- an accepted call
pub closed_text : (k : ℕ) → text_of (Ok (Answer.Closed k)) ≡ filled (ascii "(ok #)\n") (k ∷ [])
unfolding text_of refusal_in values_in filled
closed_text k = refl

pub left_text : (m : Mg) → text_of (Ok (Answer.Left m)) ≡ filled (ascii "(ok #)\n") (m.0 ∷ [])
unfolding text_of refusal_in values_in filled
left_text m = refl

pub covered_text : (m : Mg) → text_of (Ok (Answer.Covered m)) ≡ filled (ascii "(ok #)\n") (m.0 ∷ [])
unfolding text_of refusal_in values_in filled
covered_text m = refl

-- a filing's pattern is that of its part's sign; z is the part as the code reads it
pub filed_text :
    {x z : ℤ} {m : ℕ} (k : ℕ) → z ≡ x → m ≡ nat_abs z
    → filled (by_sign z (ascii "(ok -# #)\n") (ascii "(ok # #)\n")) (m ∷ k ∷ [])
    ≡ text_of (Ok (Answer.Filed (record { 0 = x }) k))
unfolding text_of refusal_in values_in filled
filed_text {x} {z} k s e = rw (← s, e) (go z)
  where
    go : (z : ℤ) → filled (by_sign z (ascii "(ok -# #)\n") (ascii "(ok # #)\n")) (nat_abs z ∷ k ∷ [])
        ≡ text_of (Ok (Answer.Filed (record { 0 = z }) k))
    go (pos n) = refl
    go (negsuc n) = refl

-- the texts that are one pattern, and how long a pattern can be filled
pub ruleset texts = (refused_text, closed_text, left_text, covered_text, filled_length)

-- ---- no answer's line is longer than its room
short : (p ns : List ℕ) → T (leb (length p + 20 * hashes p) answer_room) → length (filled p ns) ≤ answer_room
short p ns t = omega (arith, filled_length p ns, leb→le (length p + 20 * hashes p) answer_room t)

pub text_length : (a : Answered) → length (text_of a) ≤ answer_room
unfolding hashes
text_length (Err r) = rw refused_text (short _ _ tt)
text_length (Ok (Answer.Filed p k)) = rw (← filed_text {x = p.0} {m = nat_abs p.0} k refl refl) (go p.0)
  where
    go : (z : ℤ) → length (filled (by_sign z (ascii "(ok -# #)\n") (ascii "(ok # #)\n")) (nat_abs z ∷ k ∷ [])) ≤ answer_room
    go (pos n) = short _ _ tt
    go (negsuc n) = short _ _ tt
text_length (Ok (Answer.Closed k)) = rw closed_text (short _ _ tt)
text_length (Ok (Answer.Left m)) = rw left_text (short _ _ tt)
text_length (Ok (Answer.Covered m)) = rw covered_text (short _ _ tt)
