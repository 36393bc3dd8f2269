-- What is said call by call, each once: what an accepted call keeps, and that no row of its own gives refusal 2.
use Prim.Native.Nat.{ℕ}
use mathlib.Core.Bool.{Bool, true, false, not, ◌&&◌}
use mathlib.Core.List.{List, [], ◌∷◌}
use mathlib.Core.Path.{◌≡◌, refl}
use lib.Dec.{eqb}
use Rattle.figuring.specs.Tables.{Table}
use Rattle.book.specs.Limits.{amends}
use Rattle.book.specs.Soundness.{sound}
use Rattle.book.specs.Refusals.{Row, number_of, first_refusal}
use Rattle.book.specs.Rules.{head_rows, table_rows, own_rows, rows_for, filed_row, mark_row, file_rows, close_rows, trade_rows, apply_rows, retire_rows, cover_rows, CheckingOrder}
use Rattle.book.specs.declared.ledger.Book.{Book}
use Rattle.book.specs.declared.kinds.Call.{Call}
use Rattle.book.specs.declared.kinds.Filing.{Filing}
use Rattle.std.specs.Prelude.{Ok}
use Rattle.book.proofs.FileFacts.{fileable}
use Rattle.book.proofs.CloseFacts.{closable}
use Rattle.book.proofs.MoveFacts.{tradable, applicable, retirable}
use Rattle.book.proofs.Lawful.{Lawful}
use Rattle.book.proofs.FilingLaws.{file_lawful}
use Rattle.book.proofs.ClosingLaws.{close_lawful}
use Rattle.book.proofs.MovingLaws.{trade_lawful, apply_lawful, retire_lawful}
use Rattle.book.proofs.CoverLaws.{coverable, cover_lawful}

pub lawful : (t : Table) (b : Book) (c : Call) → sound b ≡ true → first_refusal (own_rows t b c) ≡ Ok tt → Lawful t b c
unfolding own_rows
lawful t b (Call.File f) s e = file_lawful t b f (fileable t b f s e)
lawful t b (Call.Close y) s e = close_lawful t b y (closable b y s e)
lawful t b (Call.Trade x) s e = trade_lawful t b x (tradable b x s e)
lawful t b (Call.Apply p) s e = apply_lawful t b p (applicable b p s e)
lawful t b (Call.Retire p) s e = retire_lawful t b p (retirable b p s e)
lawful t b (Call.Cover c) s e = cover_lawful b c (coverable b c s e) t

-- no row gives n, whatever the tests
abbrev pub none_gives : ℕ → List Row → Bool
none_gives n [] = true
none_gives n (x ∷ xs) = not (eqb (number_of x.why) n) && none_gives n xs

-- a filing's last row gives 9 or 18
pub filed_gives_not :
    (n : ℕ) → not (eqb 9 n) ≡ true → not (eqb 18 n) ≡ true → (b : Book) (f : Filing) → none_gives n (mark_row b.marks f ∷ []) ≡ true
filed_gives_not n p q b f = go (amends f.purpose) _
  where
    go : (amending is_filed : Bool) → none_gives n (filed_row amending is_filed ∷ []) ≡ true
    go true is_filed = rw q
    go false is_filed = rw p

-- 2 is the head's first alone
pub beside_not_two : (t : Table) (c : Call) → none_gives 2 (table_rows t c) ≡ true
beside_not_two t (Call.File f) = refl
beside_not_two t (Call.Close y) = refl
beside_not_two t (Call.Trade x) = refl
beside_not_two t (Call.Apply p) = refl
beside_not_two t (Call.Retire p) = refl
beside_not_two t (Call.Cover c) = refl

pub own_not_two : (t : Table) (b : Book) (c : Call) → none_gives 2 (own_rows t b c) ≡ true
unfolding own_rows file_rows close_rows trade_rows apply_rows retire_rows cover_rows
own_not_two t b (Call.File f) = filed_gives_not 2 refl refl b f
own_not_two t b (Call.Close y) = refl
own_not_two t b (Call.Trade x) = refl
own_not_two t b (Call.Apply p) = refl
own_not_two t b (Call.Retire p) = refl
own_not_two t b (Call.Cover c) = refl

pub checking_order : CheckingOrder
unfolding rows_for head_rows own_rows file_rows close_rows trade_rows apply_rows retire_rows cover_rows
checking_order =
    record {
      file = λ t b f e. rw e;
      amend = λ t b f e. rw e;
      close = λ t b y. refl;
      trade = λ t b x. refl;
      apply = λ t b p. refl;
      retire = λ t b p. refl;
      cover = λ t b c. refl;
    }
