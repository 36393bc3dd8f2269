-- Laws of the ordered rows: what a verdict says of them, what it makes of a call, and that the head comes before the call's own.
use Prim.Native.Nat.{ℕ}
use mathlib.Core.Bool.{Bool, true, false, ◌&&◌}
use mathlib.Core.List.{List, [], ◌∷◌, ◌++◌}
use mathlib.Core.Path.{◌≡◌, refl, sym, ◌∙◌, ap, subst}
use borrow.Author.Tests.{not-false, eqb-true}
use lib.Dec.{eqb}
use Rattle.figuring.proofs.BoolLaws.{both}
use Rattle.figuring.specs.Tables.{Table}
use Rattle.book.specs.Soundness.{sound}
use Rattle.book.specs.Refusals.{Verdict, Row, or_else, first_refusal, number_of}
use Rattle.book.specs.Rules.{posted, rows_for, head_rows, table_rows, own_rows, done, outcome, answered, refused_with}
use Rattle.book.specs.declared.ledger.Book.{Book}
use Rattle.book.specs.declared.kinds.Call.{Call}
use Rattle.book.specs.declared.answers.Posted.{Posted}
use Rattle.book.specs.declared.answers.Refusal.{Refusal}
use Rattle.std.specs.Prelude.{Ok, Err}

-- every test of a table is false
abbrev pub Clear : List Row → Type 0
Clear [] = Unit {0}
Clear (x ∷ xs) = (x.test ≡ false) × Clear xs

clear_row :
    (t : Bool) (w : Refusal) (xs : List Row) → (first_refusal xs ≡ Ok tt → Clear xs)
    → or_else t w (first_refusal xs) ≡ Ok tt → (t ≡ false) × Clear xs
clear_row true w xs k e = cc
clear_row false w xs k e = (refl, k e)

-- where rows accept, none of their tests holds. Facts are then found by their type, not by their place.
pub cleared : (xs : List Row) → first_refusal xs ≡ Ok tt → Clear xs
cleared [] e = tt
cleared (x ∷ xs) e = clear_row x.test x.why xs (cleared xs) e

-- ---- rows before others
passes : (xs ys : List Row) → first_refusal xs ≡ Ok tt → first_refusal (xs ++ ys) ≡ first_refusal ys
passes [] ys e = refl
passes (x ∷ xs) ys e = go x.test e (passes xs ys)
  where
    go :
        (t : Bool) → or_else t x.why (first_refusal xs) ≡ Ok tt
        → (first_refusal xs ≡ Ok tt → first_refusal (xs ++ ys) ≡ first_refusal ys)
        → or_else t x.why (first_refusal (xs ++ ys)) ≡ first_refusal ys
    go true h ih = cc
    go false h ih = ih h

stops : (xs ys : List Row) (r : Refusal) → first_refusal xs ≡ Err r → first_refusal (xs ++ ys) ≡ Err r
stops [] ys r e = cc
stops (x ∷ xs) ys r e = go x.test e (stops xs ys r)
  where
    go :
        (t : Bool) → or_else t x.why (first_refusal xs) ≡ Err r
        → (first_refusal xs ≡ Err r → first_refusal (xs ++ ys) ≡ Err r)
        → or_else t x.why (first_refusal (xs ++ ys)) ≡ Err r
    go true h ih = h
    go false h ih = ih h

-- rows that accept, after others that do
later : (xs ys : List Row) → first_refusal (xs ++ ys) ≡ Ok tt → first_refusal ys ≡ Ok tt
later [] ys e = e
later (x ∷ xs) ys e = go x.test e (later xs ys)
  where
    go :
        (t : Bool) → or_else t x.why (first_refusal (xs ++ ys)) ≡ Ok tt
        → (first_refusal (xs ++ ys) ≡ Ok tt → first_refusal ys ≡ Ok tt) → first_refusal ys ≡ Ok tt
    go true h ih = cc
    go false h ih = ih h

-- rows that decide alike, after the same rows
pub same_after :
    (xs ys zs : List Row) → first_refusal ys ≡ first_refusal zs → first_refusal (xs ++ ys) ≡ first_refusal (xs ++ zs)
same_after [] ys zs e = e
same_after (x ∷ xs) ys zs e = ap (or_else x.test x.why) (same_after xs ys zs e)

-- the number of a verdict, 0 where it accepts
abbrev pub numbered : Verdict → ℕ
numbered (Ok u) = 0
numbered (Err r) = number_of r

-- a function of numbers that leaves those of some rows as they are
abbrev pub leaves : (ℕ → ℕ) → List Row → Bool
leaves g [] = true
leaves g (x ∷ xs) = eqb (g (number_of x.why)) (number_of x.why) && leaves g xs

-- if it tells the number of one verdict by that of another, it does so after such rows too
pub told_after :
    (g : ℕ → ℕ) (xs ys zs : List Row) → leaves g xs ≡ true
    → numbered (first_refusal ys) ≡ g (numbered (first_refusal zs))
    → numbered (first_refusal (xs ++ ys)) ≡ g (numbered (first_refusal (xs ++ zs)))
told_after g [] ys zs h e = e
told_after g (x ∷ xs) ys zs h e = go x.test (told_after g xs ys zs w.1 e)
  where
    w : (eqb (g (number_of x.why)) (number_of x.why) ≡ true) × (leaves g xs ≡ true)
    w = both (eqb (g (number_of x.why)) (number_of x.why)) (leaves g xs) h

    go :
        (t : Bool)
        → numbered (first_refusal (xs ++ ys)) ≡ g (numbered (first_refusal (xs ++ zs)))
        → numbered (or_else t x.why (first_refusal (xs ++ ys))) ≡ g (numbered (or_else t x.why (first_refusal (xs ++ zs))))
    go true ih = sym (eqb-true (g (number_of x.why)) (number_of x.why) w.0)
    go false ih = ih

-- two outcomes of one verdict are alike where both its ways are
pub alike :
    (R : Posted → Posted → Type 0) (v : Verdict) (b d : Book) (p q : Posted)
    → ((r : Refusal) → R (refused_with b r) (refused_with d r)) → R p q → R (outcome v b p) (outcome v d q)
alike R (Ok u) b d p q onRefusal onDone = onDone
alike R (Err r) b d p q onRefusal onDone = onRefusal r

-- ---- the head, and then the call's own rows
pub head_sound : (b : Book) (xs : List Row) → first_refusal (head_rows (sound b) xs) ≡ Ok tt → sound b ≡ true
unfolding head_rows
head_sound b xs e = not-false (sound b) (cleared (head_rows (sound b) xs) e).0

-- a sound book leaves the head to what stands beside the call
pub sound_head : (b : Book) (xs : List Row) → sound b ≡ true → first_refusal (head_rows (sound b) xs) ≡ first_refusal xs
unfolding head_rows
sound_head b xs s = rw s

module _ (t : Table) (b : Book) (c : Call) where
  abbrev head : List Row
  head = head_rows (sound b) (table_rows t c)

  -- a head that refuses decides
  pub head_refuses : {r : Refusal} → first_refusal head ≡ Err r → posted t b c ≡ refused_with b r
  unfolding posted rows_for
  head_refuses e = ap (λ (v : Verdict). outcome v b (done t b c)) (stops head (own_rows t b c) _ e)

  -- one that accepts leaves the call to its own rows
  pub own_decide :
      {v : Verdict} → first_refusal head ≡ Ok tt → first_refusal (own_rows t b c) ≡ v
      → posted t b c ≡ outcome v b (done t b c)
  unfolding posted rows_for
  own_decide h e = ap (λ (v : Verdict). outcome v b (done t b c)) (passes head (own_rows t b c) h ∙ e)

  -- what holds of the refusals of either, and of what an accepted call gives, holds of what a call gives
  pub by_rows :
      (P : Posted → Type 0)
      → ((r : Refusal) → first_refusal head ≡ Err r → P (refused_with b r))
      → ((r : Refusal) → first_refusal (own_rows t b c) ≡ Err r → P (refused_with b r))
      → (sound b ≡ true → first_refusal (own_rows t b c) ≡ Ok tt → P (done t b c)) → P (posted t b c)
  by_rows P onHead onOwn onDone = at_head (first_refusal head) refl
    where
      own : (v : Verdict) → first_refusal head ≡ Ok tt → first_refusal (own_rows t b c) ≡ v → P (posted t b c)
      own (Ok u) h e = subst P (sym (own_decide h e)) (onDone (head_sound b (table_rows t c) h) e)
      own (Err r) h e = subst P (sym (own_decide h e)) (onOwn r e)

      at_head : (v : Verdict) → first_refusal head ≡ v → P (posted t b c)
      at_head (Ok u) e = own (first_refusal (own_rows t b c)) e refl
      at_head (Err r) e = subst P (sym (head_refuses e)) (onHead r e)

  -- the same where the refusals need not be told apart
  pub by_verdict :
      (P : Posted → Type 0) → ((r : Refusal) → P (refused_with b r))
      → (sound b ≡ true → first_refusal (own_rows t b c) ≡ Ok tt → P (done t b c)) → P (posted t b c)
  by_verdict P onRefusal onDone = by_rows P (λ r e. onRefusal r) (λ r e. onRefusal r) onDone

-- ---- as the code cites them: r is what the call's verdict answered
module _ (t : Table) (b : Book) (c : Call) {r : Verdict} (said : r ≡ first_refusal (rows_for t b c)) where
  -- what refuses the call is what it gives
  pub refused_so : {e : Refusal} → r ≡ Err e → answered (Err e) b ≡ posted t b c
  unfolding posted
  refused_so h = rw (sym said ∙ h)

  -- a call that nothing refuses is done, and its book is sound
  pub done_so : r ≡ Ok tt → done t b c ≡ posted t b c
  unfolding posted
  done_so h = rw (sym said ∙ h)

  pub sound_so : r ≡ Ok tt → sound b ≡ true
  unfolding rows_for head_rows
  sound_so h = not-false (sound b) (cleared (rows_for t b c) (sym said ∙ h)).0

  pub own_so : r ≡ Ok tt → first_refusal (own_rows t b c) ≡ Ok tt
  unfolding rows_for
  own_so h = later (head_rows (sound b) (table_rows t c)) (own_rows t b c) (sym said ∙ h)

-- where the head accepts, the book is sound
pub head_passed :
    {r : Verdict} {s : Bool} (b : Book)
    → r ≡ Ok tt → r ≡ first_refusal (head_rows s []) → s ≡ sound b → sound b ≡ true
head_passed b h e i = head_sound b [] (rw (sym i) (sym e ∙ h))
