-- A sound book written and read is the same book, an accepted text written again has the same bytes, and any text that is
-- no book's gets 22.
use Prim.Native.Nat.{ℕ, suc, ◌/◌, ◌%◌, ◌<◌}
use native.Mathlib.Omega.{arith}
use mathlib.Core.Bool.{Bool, true, false, cond}
use mathlib.Core.Logic.{◌⊎◌, inl, inr}
use mathlib.Core.Path.{◌≡◌, refl, sym, ap, subst, ◌∙◌}
use Rattle.std.proofs.Common.{Option, None, Some}
use mathlib.Core.List.{List, [], ◌∷◌}
use lib.ListN.{get_or}
use lib.IntN.{ℤ, pos, negsuc}
use borrow.Author.Tests.{le-leb}
use Rattle.book.specs.Sizes.{sets, families, all_parts}
use Rattle.book.specs.Soundness.{sound}
use Rattle.book.specs.Companions.{Sized}
use Rattle.book.specs.declared.ledger.Book.{Book}
use Rattle.book.specs.declared.answers.Refusal.{Refusal}
use Rattle.book.specs.declared.answers.Refusal.TheVariants.{UnsoundBook, NotABook}
use Rattle.book.proofs.SoundnessLaws.{sound_is}
use Rattle.text.specs.Gather.{gather}
use Rattle.text.specs.declared.entries.Entry.{Entry}
use Rattle.text.specs.Lines.{lines_from, lines_of}
use Rattle.text.specs.Rendered.{FewDigits}
use Rattle.text.specs.Loads.{Read, accepted, refused}
use Rattle.text.specs.Entries.{entries, rank, all_entries, enter, empty_at}
use Rattle.text.specs.BookText.{entry_figures, entry_line, entry_lines, open_line, book_text}
use Rattle.text.specs.BookReading.{book_digits, only_if, entered, book_in, ends_in_feed, all_ended, judged, read_book}
use Rattle.text.specs.RoundTrip.{Marks64, Writable, ReadSound, RoundTrip, Exact}
use Rattle.text.proofs.SessionLaws.{lines}
use Rattle.text.proofs.FeedLaws.{feed_then}
use Rattle.text.proofs.EntryLineLaws.{line_read, one_line, open_read, open_one}
use Rattle.text.proofs.EachEntryLaws.{family_of, has_each}
use Rattle.text.proofs.EntryOrderLaws.{Rising, Has, nothing, one, enter_all, gather_rises, collected_entered}
use Rattle.text.proofs.EntryFacts.{Inside, is_inside}
use Rattle.text.proofs.EntryLaws.{look, entries_are}
use Rattle.text.proofs.EntryLaws.{Neat, empty_neat, empty_look, stores}
use Rattle.text.proofs.SameBookLaws.{same_entries}
use Rattle.text.proofs.AcceptedTextLaws.{Fine, Lowℤ, open_year_lem, text_is}
use Rattle.text.proofs.WritableLaws.{sound_writable}

-- ---- the lines of entries that rise are read as those entries
lines_entered :
    (es : List Entry) (least : ℕ) (b : Book) → Rising Fine all_entries least es
    → entered least b (lines_of (entry_lines es)) ≡ Some (enter_all b es)
unfolding entered enter_all entry_lines lines_from
lines_entered [] least b h = refl
lines_entered (e ∷ es) least b h =
    let i = is_inside e h.0.0 in
    rw (
      lines.ended (entry_line e) (entry_lines es) (one_line e),
      line_read e h.0.1 i.1,
      i.0,
      le-leb least (rank e) h.1.0,
    ) (lines_entered es (suc (rank e)) (enter b e) h.1.1)

lines_end : (es : List Entry) → all_ended (entry_lines es) ≡ true
unfolding entry_lines ends_in_feed
lines_end [] = refl
lines_end (e ∷ es) = feed_then true (entry_line e) (entry_lines es) ∙ lines_end es

-- ---- the text of a book that a text can say
module _ (b : Book) (s : Writable b) where
  neat : Neat b
  neat = record { sized = s.sized; bits = s.bits; unmarked = s.unmarked }

  family_fine : (i : ℕ) → i < all_parts → Fine (family_of b i)
  family_fine i h = (omega arith, small (get_or b.parts i (pos 0)) (s.parts i))
    where
      small :
          (z : ℤ) → Lowℤ z
          → FewDigits book_digits (entry_figures (Entry.Family (i / families / sets) (i / families % sets) (i % families) z))
      small (pos z) l = (omega arith, (omega arith, (omega arith, (l, tt))))
      small (negsuc z) l = (omega arith, (omega arith, (omega arith, (l, tt))))

  has : (r : ℕ) → r < all_entries → Has Fine (look b r) r
  has =
      has_each Fine b (λ i h e. family_fine i h)
      (λ i h p. ((omega arith, p), (omega arith, (omega arith, (omega arith, (s.lots i, tt))))))
      (λ i h p. ((omega arith, p), (omega arith, (omega arith, (omega arith, (s.shortages i, tt))))))

  has_inside : (r : ℕ) → r < all_entries → Has Inside (look b r) r
  has_inside r h = go (has r h)
    where
      go : Has Fine (look b r) r → Has Inside (look b r) r
      go (nothing z) = nothing z
      go (one e z i m) = one e z i.0 m

  -- its entries, entered into an empty book, are the book
  again : enter_all (empty_at b.open_year) (entries b) ≡ b
  again =
      let y : ℕ = b.open_year in
      let k = collected_entered stores b (empty_at y) has_inside (empty_neat y) (empty_look y) all_entries (omega arith) in
      ap (enter_all (empty_at y)) (entries_are b)
      ∙ same_entries (enter_all (empty_at y) (gather all_entries (look b))) b k.good neat k.done
      (open_year_lem y (gather all_entries (look b)))

  rises : Rising Fine all_entries 0 (entries b)
  rises = rw (entries_are b) (gather_rises Fine (look b) all_entries has)

  text_ends : all_ended (book_text b) ≡ true
  unfolding book_text
  text_ends = feed_then true (open_line b.open_year) (entry_lines (entries b)) ∙ lines_end (entries b)

  text_opens : book_in (lines_of (book_text b)) ≡ Some b
  unfolding book_text book_in
  text_opens =
      rw (
        lines.ended (open_line b.open_year) (entry_lines (entries b)) (open_one b.open_year),
        open_read b.open_year s.year,
      ) (lines_entered (entries b) 0 (empty_at b.open_year) rises ∙ ap Some again)

-- ---- both ways
each : (b : Book) → Writable b → read_book (book_text b) ≡ cond (sound b) (accepted b) (refused UnsoundBook)
unfolding read_book
each b s = rw (text_ends b s, text_opens b s)

same_book : (b : Book) → Sized b → Marks64 b → sound b ≡ true → read_book (book_text b) ≡ accepted b
same_book b n w e = each b (sound_writable b n w (sound_is b e)) ∙ rw e

-- an accepted book is the one that the text's lines make, and is sound
record Judged (t : List ℕ) (b : Book) : Type 0 where
  lines_make : only_if (all_ended t) (book_in (lines_of t)) ≡ Some b
  is_sound : sound b ≡ true

accepted_is : (t : List ℕ) (b : Book) → read_book t ≡ accepted b → Judged t b
unfolding read_book
accepted_is t b q = go (only_if (all_ended t) (book_in (lines_of t))) refl q
  where
    judge :
        (c : Book) (e : Bool) → sound c ≡ e → only_if (all_ended t) (book_in (lines_of t)) ≡ Some c
        → ◌≡◌ {A = Read Book} (cond e (accepted c) (refused UnsoundBook)) (accepted b) → Judged t b
    judge c true e p q =
        let z : c ≡ b = cc in
        subst (Judged t) z (record { lines_make = p; is_sound = e })
    judge c false e p q = let z : ◌≡◌ {A = ℕ} 0 1 = cc in absurd (omega arith)

    go : (o : Option Book) → only_if (all_ended t) (book_in (lines_of t)) ≡ o → judged o ≡ accepted b → Judged t b
    go None p q = let z : ◌≡◌ {A = ℕ} 0 1 = cc in absurd (omega arith)
    go (Some c) p q = judge c (sound c) refl p q

same_bytes : (t : List ℕ) (b : Book) → read_book t ≡ accepted b → book_text b ≡ t
same_bytes t b q = (text_is t b (accepted_is t b q).lines_make).text

read_sound : (t : List ℕ) (b : Book) → read_book t ≡ accepted b → ReadSound b
read_sound t b q =
    let j = accepted_is t b q in
    let w = (text_is t b j.lines_make).writable in
    record { sized = w.sized; bits = w.bits; is_sound = j.is_sound }

pub else_22 : (t : List ℕ) → ((b : Book) → Writable b → book_text b ≡ t → ⊥) → read_book t ≡ refused NotABook
unfolding read_book
else_22 t h = go (only_if (all_ended t) (book_in (lines_of t))) refl
  where
    go : (o : Option Book) → only_if (all_ended t) (book_in (lines_of t)) ≡ o → judged o ≡ refused NotABook
    go None p = refl
    go (Some b) p = let w = text_is t b p in absurd (h b w.writable w.text)

refusals : (t : List ℕ) (r : Refusal) → read_book t ≡ refused r → (r ≡ NotABook) ⊎ (r ≡ UnsoundBook)
unfolding read_book
refusals t r q = go (only_if (all_ended t) (book_in (lines_of t))) q
  where
    judge :
        (c : Book) (e : Bool) → ◌≡◌ {A = Read Book} (cond e (accepted c) (refused UnsoundBook)) (refused r)
        → (r ≡ NotABook) ⊎ (r ≡ UnsoundBook)
    judge c true q = let z : ◌≡◌ {A = ℕ} 0 1 = cc in absurd (omega arith)
    judge c false q = let z : UnsoundBook ≡ r = cc in inr (sym z)

    go : (o : Option Book) → judged o ≡ refused r → (r ≡ NotABook) ⊎ (r ≡ UnsoundBook)
    go None q = let z : NotABook ≡ r = cc in inl (sym z)
    go (Some c) q = judge c (sound c) q

pub exact : Exact
exact = record { each = each; else_22 = else_22; refusals = refusals }

pub round_trip : RoundTrip
round_trip = record { same_book = same_book; same_bytes = same_bytes; read_sound = read_sound }
