-- Laws of the writing out of a book.
use Prim.Native.Nat.{ℕ, ◌≤◌}
use native.Mathlib.Omega.{arith}
use mathlib.Core.Bool.{Bool, true, false}
use mathlib.Core.Path.{◌≡◌, refl, sym, ap, ◌∙◌}
use mathlib.Core.List.{List}
use lib.ListN.{length, take}
use borrow.Author.Tests.{le-ltb}
use Rattle.std.specs.Prelude.{Option, None, Some, Result, Ok, Err}
use Rattle.std.specs.Result.{result_ok}
use Rattle.book.specs.Refusals.{Verdict}
use Rattle.book.specs.Soundness.{sound}
use Rattle.book.specs.Rules.{head_rows}
use Rattle.book.specs.declared.ledger.Book.{Book}
use Rattle.book.specs.declared.answers.Refusal.{Refusal}
use Rattle.book.specs.declared.answers.Refusal.TheVariants.{UnsoundBook}
use Rattle.text.specs.BookText.{book_text, book_room}
use Rattle.text.specs.Writing.{writing_rows, writing, wrote_by, wrote_of, buffer_after}
use Rattle.text.proofs.BookRoomLaws.{room}
use Rattle.text.proofs.WritingLaws.{written_front}
use Rattle.credit_book.specs.declared.console.Wrote.{Wrote}
use Rattle.credit_book.specs.Saving.{SavesBook}

-- ---- with room for any book, its soundness alone decides
module _ (b : Book) (out : List ℕ) (h : book_room ≤ length out) where
  sound_writes : sound b ≡ true → writing b out ≡ Ok tt
  unfolding writing writing_rows head_rows
  sound_writes e = rw (e, le-ltb (length out) (length (book_text b)) (omega (arith, h, room.longest b)))

  unsound_refused : sound b ≡ false → writing b out ≡ Err UnsoundBook
  unfolding writing writing_rows head_rows
  unsound_refused e = rw e

-- what the writing answered, as a count where there is one
length_of : {r : Result ℕ Refusal} {n : ℕ} → result_ok r ≡ Some n → r ≡ Ok n
length_of {r = Ok m} e = cc
length_of {r = Err w} e = cc

module _ (b : Book) (out : List ℕ) {out' : List ℕ} {r : Result ℕ Refusal} {put : Option ℕ}
    (w : (r ≡ wrote_of b out) × (out' ≡ buffer_after b out)) (p : put ≡ result_ok r) where
  -- so the text can be lent: `&out[..n]`
  pub text_in : {n : ℕ} → put ≡ Some n → n ≤ length out'
  text_in {n} e = omega (arith, (written_front b out n (sym w.0 ∙ length_of (sym p ∙ e))).0, ap length w.1)

  -- the text that was written is handed over
  pub saves_text :
      {wrote : Wrote} → book_room ≤ length out → put ≡ Some wrote.handed → SavesBook b (Some wrote) out'
  saves_text {wrote} h e = go (sound b) refl
    where
      is : wrote_of b out ≡ Ok wrote.handed
      is = sym w.0 ∙ length_of (sym p ∙ e)

      go : (s : Bool) → sound b ≡ s → SavesBook b (Some wrote) out'
      go true k =
          record {
            handed_is = rw k (cc (is, ap (λ (v : Verdict). wrote_by v (book_text b)) (sound_writes b out h k)));
            bytes_are = rw k (ap (take wrote.handed) w.1 ∙ (written_front b out wrote.handed is).1);
          }
      go false k = cc (is, ap (λ (v : Verdict). wrote_by v (book_text b)) (unsound_refused b out h k))

  pub saves_nothing : book_room ≤ length out → put ≡ None → SavesBook b None out'
  saves_nothing h e = go (sound b) refl
    where
      go : (s : Bool) → sound b ≡ s → SavesBook b None out'
      go true k =
          let is = ap (λ (v : Verdict). result_ok (wrote_by v (book_text b))) (sound_writes b out h k) in
          cc (is, ap result_ok w.0)
      go false k = record { handed_is = rw k refl; bytes_are = rw k refl }
