-- No list of calls begun on a sound book makes it unsound, so none is ever answered by refusal 2: a sound book passes the head,
-- and no row of a call's own gives 2.
use mathlib.Core.Bool.{Bool, true, false, not}
use mathlib.Core.List.{List, [], ◌∷◌}
use mathlib.Core.Path.{◌≡◌, sym, ◌∙◌}
use native.Mathlib.Omega.{arith}
use Prim.Native.Nat.{ℕ}
use borrow.Author.Tests.{eqb-false, not-true}
use lib.Dec.{eqb}
use Rattle.figuring.proofs.BoolLaws.{both}
use Rattle.figuring.specs.Tables.{Table}
use Rattle.book.specs.Soundness.{sound}
use Rattle.book.specs.Refusals.{Row, number_of, refusal_in, or_else, first_refusal}
use Rattle.book.specs.Rules.{Request, posted, table_rows, own_rows, done}
use Rattle.book.specs.Demand3.{book_after}
use Rattle.book.specs.Companions.{Sized, NeverUnsound}
use Rattle.book.specs.declared.ledger.Book.{Book}
use Rattle.book.specs.declared.kinds.Call.{Call}
use Rattle.book.specs.declared.answers.Refusal.{Refusal}
use Rattle.std.specs.Prelude.{Err}
use Rattle.book.proofs.TableLaws.{by_rows, sound_head}
use Rattle.book.proofs.RefusalLaws.{accepted_number}
use Rattle.book.proofs.CallLaws.{lawful, none_gives, beside_not_two, own_not_two}
use Rattle.book.proofs.KeptSound.{sound_after}

-- ---- refusal 2
-- rows of which none gives n refuse by no n
pub refuses_not :
    (n : ℕ) (xs : List Row) (r : Refusal) → none_gives n xs ≡ true → first_refusal xs ≡ Err r → number_of r ≡ n → ⊥
refuses_not n [] r e h k = cc
refuses_not n (x ∷ xs) r e h k =
    let w = both (not (eqb (number_of x.why) n)) (none_gives n xs) e in
    go x.test h (eqb-false _ _ (not-true _ w.0)) (λ d. refuses_not n xs r w.1 d k)
  where
    go :
        (t : Bool) → or_else t x.why (first_refusal xs) ≡ Err r → (number_of x.why ≡ n → ⊥)
        → (first_refusal xs ≡ Err r → ⊥) → ⊥
    go true d p q = let y : x.why ≡ r = cc in p (rw y k)
    go false d p q = q d

-- a sound book is never refused by 2
pub never_two_lem : (t : Table) (b : Book) (c : Call) → sound b ≡ true → refusal_in (posted t b c).answer ≡ 2 → ⊥
unfolding refusal_in
never_two_lem t b c s =
    by_rows t b c (λ p. refusal_in p.answer ≡ 2 → ⊥)
    (λ r e. refuses_not 2 (table_rows t c) r (beside_not_two t c) (sym (sound_head b (table_rows t c) s) ∙ e))
    (λ r. refuses_not 2 (own_rows t b c) r (own_not_two t b c))
    (λ h e n. omega (arith, accepted_number (done t b c).answer (lawful t b c h e).answered))

pub never_unsound : (b : Book) → Sized b → sound b ≡ true → (rs : List Request) → NeverUnsound b rs
never_unsound b z h rs =
    let s = sound_after b rs z h in
    record { stays_sound = s; never_refused = λ t c. never_two_lem t (book_after b rs) c s }
