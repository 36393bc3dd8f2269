-- What the writer puts: the line of a place, the groups one after the other, and the answer.
use Rattle.std.specs.Prelude.{Option, Some, None, Ok, Err, ok_or}
use Prim.Native.Nat.{ℕ, ◌+◌, ◌*◌, ◌/◌, ◌%◌, ◌^◌, ◌≤◌, ◌<◌}
use native.Mathlib.Decide.{dec_le}
use native.Mathlib.Nat.{zero-add}
use native.Mathlib.Omega.{arith}
use mathlib.Core.Bool.{Bool, true, false}
use mathlib.Core.Path.{◌≡◌, refl, sym, ◌∙◌}
use mathlib.Core.List.{List, [], ◌∷◌}
use lib.Dec.{lit≤}
use lib.IntN.{ℤ, pos, negsuc, nat_abs}
use lib.ListN.{length, get_or, take}
use lib.Seq.{sets as overwritten, length-sets}
use lib.Signed.{mag}
use mir.Syntax.{w64}
use mir.Val.{to_z, of_z}
use mir.Facts.{to_z-of_z}
use borrow.Author.Tests.{ltb-false, lt-ltb, le-ltb, le-leb, lt-leb}
use Rattle.figuring.specs.Years.{first_year}
use Rattle.book.specs.Sizes.{sets, families, years, places, all_parts}
use Rattle.book.specs.Ledger.{cell, marked, place}
use Rattle.book.specs.Places.{key_of}
use Rattle.book.specs.declared.places.Place.{Place}
use Rattle.book.specs.declared.places.Family.{Family}
use Rattle.book.specs.Soundness.{sound}
use Rattle.book.specs.Refusals.{Verdict, first_refusal}
use Rattle.book.specs.Rules.{head_rows}
use Rattle.book.specs.declared.ledger.Book.{Book}
use Rattle.book.specs.declared.answers.Refusal.TheVariants.{UnsoundBook, ShortBuffer}
use Rattle.book.proofs.TableLaws.{cleared}
use Rattle.text.specs.Gather.{gather}
use Rattle.text.specs.declared.entries.Entry.{Entry}
use Rattle.text.specs.declared.page.Page.{Page}
use Rattle.text.specs.Pattern.{filled}
use Rattle.text.specs.Placing.{Puts, room_for, HasRoom, Adds, by_sign}
use Rattle.text.specs.Listing.{entry_room}
use Rattle.text.specs.Entries.{family_at}
use Rattle.text.specs.BookText.{family, family_below, lot, short, entry_line, entry_lines, open_form, open_line}
use Rattle.text.specs.BookText.{book_text, book_room}
use Rattle.text.specs.Writing.{writing_rows, writing, wrote_by, buffer_by, wrote_of, buffer_after}
use Rattle.text.specs.Writing.{family_if, family_line, mg_line}
use Rattle.text.proofs.StoreLaws.{adds_text, adds_then, after_adds, at_front}
use Rattle.text.proofs.BookRoomLaws.{ended, filled_ended, text_is, open_length, families_length, mgs_length}

-- ---- the line of a family
module _ (mark : ℕ) (z : ℤ) (m s n : ℕ) where
  pub no_family : marked mark n ≡ false → entry_lines (family_if mark m s n z) ≡ []
  unfolding entry_lines
  no_family h = rw h

  module _ (h : marked mark n ≡ true) where
    abbrev put : List ℕ → ℕ → List ℕ
    put p k = filled p (m ∷ s ∷ n ∷ k ∷ [])

    one_family : ended (entry_line (Entry.Family m s n z)) ≡ entry_lines (family_if mark m s n z)
    unfolding entry_lines
    one_family = rw h

    -- its pattern is that of the part's sign; x is the part as the code reads it
    pub family_text :
        {x : ℤ} {k : ℕ} → x ≡ z → k ≡ nat_abs x
        → put (by_sign x (ended family_below.pattern) (ended family.pattern)) k ≡ entry_lines (family_if mark m s n z)
    family_text {x} e f = rw (f, e) (go z) ∙ one_family
      where
        go :
            (z : ℤ) → put (by_sign z (ended family_below.pattern) (ended family.pattern)) (nat_abs z)
            ≡ ended (entry_line (Entry.Family m s n z))
        go (pos k) = filled_ended family.pattern _
        go (negsuc k) = filled_ended family_below.pattern _

-- ---- as a loop hears of it: of the family, or the place, that stands at i
module _ (marks : List ℕ) (parts : List ℤ) (i : ℕ) (f : Family) where
  pub family_adds :
      {a b : Page} → cell f.cell.maker f.cell.set * families + f.number ≡ i
      → mag (get_or parts i (pos 0)) < 2 ^ 63
      → Adds
      (entry_lines (family_if (get_or marks (cell f.cell.maker f.cell.set) 0) f.cell.maker f.cell.set f.number (to_z w64 (of_z w64 (get_or parts i (pos 0))))))
      a b
      → Adds (family_line marks parts i) a b
  unfolding family_line family_at
  family_adds e g h =
      let c : i / families ≡ cell f.cell.maker f.cell.set = omega (arith, f.number_in) in
      let k : i % families ≡ f.number = omega (arith, f.number_in) in
      let q : cell f.cell.maker f.cell.set / sets ≡ f.cell.maker = omega (arith, f.cell.set_in) in
      let r : cell f.cell.maker f.cell.set % sets ≡ f.cell.set = omega (arith, f.cell.set_in) in
      let p : to_z w64 (of_z w64 (get_or parts i (pos 0))) ≡ get_or parts i (pos 0) =
      to_z-of_z {w = w64} (record { sfits = g }) in
      rw (c, k, q, r) (rw p at h)

module _ (p l : List ℕ) (i : ℕ) where
  pub no_mg : get_or l i 0 ≤ 0 → mg_line p l i ≡ []
  unfolding mg_line
  no_mg h = rw (le-ltb 0 (get_or l i 0) h)

  pub mg_adds :
      (at : Place) {a b : Page} → place (key_of at) ≡ i → 0 < get_or l i 0
      → Adds (filled p (at.cell.maker ∷ at.cell.set ∷ at.year ∷ get_or l i 0 ∷ [])) a b → Adds (mg_line p l i) a b
  unfolding mg_line
  mg_adds at e g h =
      let c : i / years ≡ cell at.cell.maker at.cell.set = omega (arith, at.cell.set_in, at.from, at.upto) in
      let y : first_year + i % years ≡ at.year = omega (arith, at.from, at.upto) in
      let q : cell at.cell.maker at.cell.set / sets ≡ at.cell.maker = omega (arith, at.cell.set_in) in
      let r : cell at.cell.maker at.cell.set % sets ≡ at.cell.set = omega (arith, at.cell.set_in) in
      rw (lt-ltb 0 (get_or l i 0) g, c, y, q, r) h

-- ---- the groups, one after the other
pub open_adds :
    (y : ℕ) {a b : Page} → Adds (filled (ended open_form) (y ∷ [])) a b → Adds (ended (open_line y)) a b
open_adds y h = adds_text (filled_ended open_form (y ∷ [])) h

module _ (b : Book) {p₀ p₁ : Page} (room : HasRoom book_room p₀) (h₁ : Adds (ended (open_line b.open_year)) p₀ p₁) where
  pub families_room : HasRoom (all_parts * entry_room) p₁
  families_room = omega (arith, after_adds h₁, open_length b.open_year)

  module _ {p₂ : Page} (h₂ : Adds (gather all_parts (family_line b.marks b.parts)) p₁ p₂) where
    pub lots_room : HasRoom (places * entry_room) p₂
    lots_room =
        omega (arith, after_adds h₁, open_length b.open_year, after_adds h₂, families_length b.marks b.parts)

    module _ {p₃ : Page} (h₃ : Adds (gather places (mg_line (ended lot.pattern) b.lots)) p₂ p₃) where
      pub shortages_room : HasRoom (places * entry_room) p₃
      shortages_room =
          omega (
            arith,
            after_adds h₁,
            open_length b.open_year,
            after_adds h₂,
            families_length b.marks b.parts,
            after_adds h₃,
            mgs_length (ended lot.pattern) b.lots (lit≤ tt),
          )

      pub whole :
          {p₄ : Page} → Adds (gather places (mg_line (ended short.pattern) b.shortages)) p₃ p₄
          → Adds (book_text b) p₀ p₄
      whole h₄ = adds_text (sym (text_is b)) (adds_then h₁ (adds_then h₂ (adds_then h₃ h₄)))

-- ---- the answer, row by row
module _ (b : Book) (out : List ℕ) where
  pub unsound : sound b ≡ false → (Err UnsoundBook ≡ wrote_of b out) × (out ≡ buffer_after b out)
  unfolding writing writing_rows head_rows
  unsound e = rw e (refl, refl)

  too_short :
      sound b ≡ true → length out < length (book_text b)
      → (Err ShortBuffer ≡ wrote_of b out) × (out ≡ buffer_after b out)
  unfolding writing writing_rows head_rows
  too_short e h = rw (e, lt-ltb (length out) (length (book_text b)) h) (refl, refl)

  fits :
      sound b ≡ true → length (book_text b) ≤ length out
      → (Ok (length (book_text b)) ≡ wrote_of b out) × (overwritten out 0 (book_text b) ≡ buffer_after b out)
  unfolding writing writing_rows head_rows
  fits e h = rw (e, le-ltb (length out) (length (book_text b)) h) (refl, refl)

  -- of a sound book, it is where the text was put
  pub put_or_not :
      {r : Option ℕ} {out' : List ℕ} → sound b ≡ true
      → Puts (room_for (length (book_text b)) 0 out) (book_text b) 0 out r out'
      → (ok_or r ShortBuffer ≡ wrote_of b out) × (out' ≡ buffer_after b out)
  put_or_not {r} {out'} e h = go (dec_le (length (book_text b)) (length out))
    where
      go : Dec (length (book_text b) ≤ length out) → (ok_or r ShortBuffer ≡ wrote_of b out) × (out' ≡ buffer_after b out)
      go (yes l) =
          let g : room_for (length (book_text b)) 0 out ≡ true = le-leb (0 + length (book_text b)) (length out) (omega arith) in
          let p : r ≡ Some (0 + length (book_text b)) = rw g at h.place_is in
          let o : out' ≡ overwritten out 0 (book_text b) = rw g at h.out_is in
          rw (p, o, zero-add) (fits e l)
      go (no l) =
          let g : room_for (length (book_text b)) 0 out ≡ false = lt-leb (0 + length (book_text b)) (length out) (omega arith) in
          let p : r ≡ None = rw g at h.place_is in
          let o : out' ≡ out = rw g at h.out_is in
          rw (p, o) (too_short e (omega arith))

-- where it is accepted there is room
has_room :
    (text room : ℕ) (is_sound : Bool) → first_refusal (writing_rows is_sound text room) ≡ Ok tt → text ≤ room
unfolding writing_rows head_rows
has_room text room is_sound e = ltb-false room text (cleared (writing_rows is_sound text room) e).1.0

-- what a caller can lend on: the text stands at the buffer's start
pub written_front :
    (b : Book) (out : List ℕ) (n : ℕ) → wrote_of b out ≡ Ok n
    → (n ≤ length (buffer_after b out)) × (take n (buffer_after b out) ≡ book_text b)
unfolding writing
written_front b out n e = go (writing b out) refl e
  where
    go :
        (v : Verdict) → writing b out ≡ v → wrote_by v (book_text b) ≡ Ok n
        → (n ≤ length (buffer_by v (book_text b) out)) × (take n (buffer_by v (book_text b) out) ≡ book_text b)
    go (Err r) p e = let z : ◌≡◌ {A = ℕ} 0 1 = cc in absurd (omega arith)
    go (Ok u) p e =
        let l : length (book_text b) ≡ n = cc in
        let r : length (book_text b) ≤ length out = has_room (length (book_text b)) (length out) (sound b) p in (
          omega (arith, length-sets out 0 (book_text b)),
          at_front {text = book_text b} {out = out} {r = n} (record { end_is = omega arith; out_is = refl }) r,
        )
