-- A book's text as it is put, place after place; and how long it can be.
use Prim.Native.Nat.{ℕ, suc, ◌+◌, ◌*◌, ◌/◌, ◌%◌, ◌≤◌, ◌<◌}
use native.Mathlib.Decide.{dec_le}
use native.Mathlib.Omega.{arith}
use mathlib.Core.Bool.{Bool, true, false, cond}
use mathlib.Core.Path.{◌≡◌, refl, sym, ap, ap₂, ◌∙◌}
use mathlib.Core.List.{List, [], ◌∷◌, ◌++◌, append_assoc}
use lib.Dec.{ltb, lit≤}
use lib.IntN.{ℤ, pos, negsuc}
use lib.ListN.{length, get_or, take, length-append}
use lib.Seq.{take_all, length-take-le}
use Rattle.figuring.specs.Years.{first_year}
use Rattle.book.specs.Sizes.{sets, families, years, places, all_parts}
use Rattle.book.specs.declared.ledger.Book.{Book}
use Rattle.book.specs.declared.answers.Refusal.TheVariants.{NotABook}
use Rattle.text.specs.Gather.{gather}
use Rattle.text.specs.declared.entries.Entry.{Entry}
use Rattle.text.specs.Pattern.{filled, hashes}
use Rattle.text.specs.Desk.{line_feed}
use Rattle.text.specs.Listing.{entry_room}
use Rattle.text.specs.Loads.{refused}
use Rattle.text.specs.Entries.{entry_if, filed_at, family_at, mg_at, entries}
use Rattle.text.specs.BookText.{lot, short, entry_line, entry_lines, open_form, open_line, book_text, book_room}
use Rattle.text.specs.Writing.{family_line, mg_line}
use Rattle.text.specs.BookReading.{read_book}
use Rattle.text.specs.RoundTrip.{Room}
use Rattle.text.proofs.FillLaws.{filled_then, filled_length}
use Rattle.text.proofs.GatherLaws.{gather_through}
use Rattle.text.proofs.ListingLaws.{entry_length, gather_length}
use Rattle.text.proofs.RoundTripLaws.{else_22}

-- a line and its line feed, as one pattern
abbrev pub ended : List ℕ → List ℕ
ended p = p ++ (line_feed ∷ [])

pub filled_ended : (p ns : List ℕ) → filled (ended p) ns ≡ ended (filled p ns)
filled_ended p ns = filled_then p ns line_feed refl

-- ---- the text, place after place
lines_append : (xs ys : List Entry) → entry_lines (xs ++ ys) ≡ entry_lines xs ++ entry_lines ys
unfolding entry_lines
lines_append [] ys = refl
lines_append (x ∷ xs) ys =
    ap (λ (l : List ℕ). entry_line x ++ (line_feed ∷ l)) (lines_append xs ys)
    ∙ sym (append_assoc (entry_line x) (line_feed ∷ entry_lines xs) (entry_lines ys))

lines_gather :
    (n : ℕ) (f : ℕ → List Entry) (g : ℕ → List ℕ) → ((i : ℕ) → entry_lines (f i) ≡ g i)
    → entry_lines (gather n f) ≡ gather n g
unfolding entry_lines
lines_gather n f g h = gather_through entry_lines refl lines_append n f g (λ i l. h i)

-- the line of a lot or a shortage, by the pattern of its kind
mg_line_lem :
    (kind : ℕ → ℕ → ℕ → ℕ → Entry) (p : List ℕ)
    → ((m s y mg : ℕ) → entry_line (kind m s y mg) ≡ filled p (m ∷ s ∷ y ∷ mg ∷ []))
    → (l : List ℕ) (i : ℕ) → entry_lines (mg_at kind l i) ≡ mg_line (ended p) l i
unfolding mg_at mg_line entry_lines
mg_line_lem kind p h l i = go (ltb 0 (get_or l i 0))
  where
    go :
        (t : Bool)
        → entry_lines (entry_if t (kind (i / years / sets) (i / years % sets) (first_year + i % years) (get_or l i 0)))
        ≡ cond t
        (filled (ended p)
        (i / years / sets ∷ i / years % sets ∷ (first_year + i % years) ∷ get_or l i 0 ∷ [])) []
    go true = ap ended (h _ _ _ _) ∙ sym (filled_ended p _)
    go false = refl

-- the three groups, one after the other
abbrev pub groups : Book → List ℕ
groups b =
    gather all_parts (family_line b.marks b.parts)
    ++ (gather places (mg_line (ended lot.pattern) b.lots)
    ++ gather places (mg_line (ended short.pattern) b.shortages))

lines_are : (b : Book) → entry_lines (entries b) ≡ groups b
unfolding entries family_line
lines_are b =
    lines_append (gather all_parts (family_at b.marks b.parts))
    (gather places (mg_at Entry.Lot b.lots) ++ gather places (mg_at Entry.Shortage b.shortages))
    ∙ ap₂ ◌++◌
    (lines_gather all_parts (family_at b.marks b.parts) (family_line b.marks b.parts) (λ i. refl))
    (lines_append (gather places (mg_at Entry.Lot b.lots)) (gather places (mg_at Entry.Shortage b.shortages))
    ∙ ap₂ ◌++◌
    (lines_gather places (mg_at Entry.Lot b.lots) (mg_line (ended lot.pattern) b.lots)
    (mg_line_lem Entry.Lot lot.pattern (λ m s y mg. refl) b.lots))
    (lines_gather places (mg_at Entry.Shortage b.shortages) (mg_line (ended short.pattern) b.shortages)
    (mg_line_lem Entry.Shortage short.pattern (λ m s y mg. refl) b.shortages)))

pub text_is : (b : Book) → book_text b ≡ ended (open_line b.open_year) ++ groups b
unfolding book_text
text_is b =
    ap (λ (l : List ℕ). open_line b.open_year ++ (line_feed ∷ l)) (lines_are b)
    ∙ sym (append_assoc (open_line b.open_year) (line_feed ∷ []) (groups b))

-- ---- lengths: of a line whose pattern, line feed and all, is short enough
line_length :
    (p : List ℕ) (m s y n : ℕ) → m < 10 → s < 10 → y < 10000 → length (ended p) + 26 ≤ entry_room
    → length (ended (filled p (m ∷ s ∷ y ∷ n ∷ []))) ≤ entry_room
line_length p m s y n hm hs hy t =
    rw (← filled_ended p (m ∷ s ∷ y ∷ n ∷ [])) (entry_length (ended p) m s y n hm hs hy t)

pub family_fits : (marks : List ℕ) (parts : List ℤ) (i : ℕ) → i < all_parts → length (family_line marks parts i) ≤ entry_room
unfolding family_line family_at entry_lines
family_fits marks parts i h = go (filed_at marks i) (get_or parts i (pos 0))
  where
    go :
        (t : Bool) (z : ℤ)
        → length (entry_lines (entry_if t (Entry.Family (i / families / sets) (i / families % sets) (i % families) z)))
        ≤ entry_room
    go true (pos k) = line_length _ _ _ _ _ (omega arith) (omega arith) (omega arith) (lit≤ tt)
    go true (negsuc k) = line_length _ _ _ _ _ (omega arith) (omega arith) (omega arith) (lit≤ tt)
    go false z = omega arith

pub mg_fits :
    (p l : List ℕ) (i : ℕ) → i < places → length p + 26 ≤ entry_room → length (mg_line p l i) ≤ entry_room
unfolding mg_line
mg_fits p l i h t = go (ltb 0 (get_or l i 0))
  where
    go :
        (b : Bool)
        → length
        (cond b (filled p (i / years / sets ∷ i / years % sets ∷ (first_year + i % years) ∷ get_or l i 0 ∷ [])) [])
        ≤ entry_room
    go true = entry_length p _ _ _ _ (omega arith) (omega arith) (omega arith) t
    go false = omega arith

pub families_length :
    (marks : List ℕ) (parts : List ℤ) → length (gather all_parts (family_line marks parts)) ≤ all_parts * entry_room
families_length marks parts = gather_length (family_line marks parts) entry_room all_parts (family_fits marks parts)

pub mgs_length :
    (p l : List ℕ) → length p + 26 ≤ entry_room → length (gather places (mg_line p l)) ≤ places * entry_room
mgs_length p l t = gather_length (mg_line p l) entry_room places (λ i h. mg_fits p l i h t)

pub open_length : (y : ℕ) → length (ended (open_line y)) ≤ entry_room
unfolding hashes
open_length y = rw length-append (omega (arith, filled_length open_form (y ∷ [])))

pub longest : (b : Book) → length (book_text b) ≤ book_room
longest b =
    rw (text_is b)
    (omega (
      arith,
      length-append (ended (open_line b.open_year)) (groups b),
      length-append (gather all_parts (family_line b.marks b.parts))
          (gather places (mg_line (ended lot.pattern) b.lots)
          ++ gather places (mg_line (ended short.pattern) b.shortages)),
      length-append (gather places (mg_line (ended lot.pattern) b.lots))
          (gather places (mg_line (ended short.pattern) b.shortages)),
      open_length b.open_year,
      families_length b.marks b.parts,
      mgs_length (ended lot.pattern) b.lots (lit≤ tt),
      mgs_length (ended short.pattern) b.shortages (lit≤ tt),
    ))

-- ---- a text that is longer is no book's
longer : (t : List ℕ) → book_room < length t → read_book t ≡ refused NotABook
longer t h = else_22 t (λ b w e. omega (arith, longest b, ap length e))

first_bytes_lem : (t : List ℕ) → read_book (take (suc book_room) t) ≡ read_book t
first_bytes_lem t = go (dec_le (length t) book_room)
  where
    go : Dec (length t ≤ book_room) → read_book (take (suc book_room) t) ≡ read_book t
    go (yes h) = ap read_book (take_all (suc book_room) t (omega arith))
    go (no h) =
        longer (take (suc book_room) t) (omega (arith, length-take-le (suc book_room) t (omega arith)))
        ∙ sym (longer t (omega arith))

pub room : Room
room = record { longest = longest; longer = longer; first_bytes = first_bytes_lem }
