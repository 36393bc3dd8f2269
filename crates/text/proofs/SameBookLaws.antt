-- A book is its open year and its entries.
use Prim.Native.Nat.{ℕ, zero, suc, ◌+◌, ◌*◌, ◌/◌, ◌%◌, ◌^◌, ◌≤◌, ◌<◌}
use native.Mathlib.Omega.{arith}
use native.Mathlib.Decide.{dec_lt}
use native.Mathlib.Nat.{div-eq_of_lt, pow-le-pow_right}
use mathlib.Core.Bool.{Bool, true, false}
use mathlib.Core.Path.{◌≡◌, refl, sym, ap, ◌∙◌}
use mathlib.Core.List.{List, [], ◌∷◌}
use lib.Dec.{ltb}
use lib.ListN.{get_or}
use lib.Seq.{ext_get_or}
use lib.IntN.{ℤ, pos}
use borrow.Author.Tests.{lt-ltb}
use Rattle.figuring.specs.Years.{first_year}
use Rattle.book.specs.Sizes.{sets, cells, families, years, places, all_parts}
use Rattle.book.specs.Ledger.{marked}
use Rattle.book.specs.declared.ledger.Book.{Book}
use Rattle.book.proofs.MarkLaws.{same_mark}
use Rattle.text.specs.declared.entries.Entry.{Entry}
use Rattle.text.specs.Entries.{entry_if, filed_at, family_at, mg_at, all_entries}
use Rattle.text.proofs.EntryLaws.{look, look_family, look_lot, look_shortage, Neat}

-- a mark of 64 bits has none above them
no_more_bits : (mark f : ℕ) → mark < 2 ^ 64 → families ≤ f → marked mark f ≡ false
unfolding marked
no_more_bits mark f h l =
    let e : mark / 2 ^ f ≡ 0 = div-eq_of_lt (omega (arith, pow-le-pow_right {n = 2} (omega arith) {i = 64} {j = f} l)) in
    rw e

-- so two such marks are the same by their 64 bits
bits_are :
    (m n : ℕ) → m < 2 ^ 64 → n < 2 ^ 64 → ((f : ℕ) → f < families → marked m f ≡ marked n f) → m ≡ n
bits_are m n h l e = same_mark m n (λ f. go f (dec_lt f families))
  where
    go : (f : ℕ) → Dec (f < families) → marked m f ≡ marked n f
    go f (yes p) = e f p
    go f (no p) = no_more_bits m f h (omega arith) ∙ sym (no_more_bits n f l (omega arith))

-- what an entry says
abbrev mg_in : List Entry → ℕ
mg_in [] = 0
mg_in (Entry.Family m s n z ∷ l) = 0
mg_in (Entry.Lot m s y mg ∷ l) = mg
mg_in (Entry.Shortage m s y mg ∷ l) = mg

abbrev part_in : List Entry → ℤ
part_in [] = pos 0
part_in (Entry.Family m s n z ∷ l) = z
part_in (Entry.Lot m s y mg ∷ l) = pos 0
part_in (Entry.Shortage m s y mg ∷ l) = pos 0

abbrev is_in : List Entry → Bool
is_in [] = false
is_in (e ∷ l) = true

figure_is :
    (kind : ℕ → ℕ → ℕ → ℕ → Entry) → ((m s y mg : ℕ) → mg_in (kind m s y mg ∷ []) ≡ mg)
    → (l : List ℕ) (i : ℕ) → mg_in (mg_at kind l i) ≡ get_or l i 0
unfolding mg_at
figure_is kind e l i = go (get_or l i 0)
  where
    go : (v : ℕ) → mg_in (entry_if (ltb 0 v) (kind (i / years / sets) (i / years % sets) (first_year + i % years) v)) ≡ v
    go zero = refl
    go (suc v) = rw (lt-ltb 0 (suc v) (omega arith)) (e _ _ _ (suc v))

lot_is : (l : List ℕ) (i : ℕ) → mg_in (mg_at Entry.Lot l i) ≡ get_or l i 0
lot_is = figure_is Entry.Lot (λ m s y mg. refl)

shortage_is : (l : List ℕ) (i : ℕ) → mg_in (mg_at Entry.Shortage l i) ≡ get_or l i 0
shortage_is = figure_is Entry.Shortage (λ m s y mg. refl)

module _ (marks : List ℕ) (parts : List ℤ) (i : ℕ) where
  abbrev its_part : ℤ
  its_part = get_or parts i (pos 0)

  abbrev its_entry : Entry
  its_entry = Entry.Family (i / families / sets) (i / families % sets) (i % families) its_part

  mark_is : is_in (family_at marks parts i) ≡ filed_at marks i
  unfolding family_at
  mark_is = go (filed_at marks i)
    where
      go : (v : Bool) → is_in (entry_if v its_entry) ≡ v
      go true = refl
      go false = refl

  part_is : (filed_at marks i ≡ false → its_part ≡ pos 0) → part_in (family_at marks parts i) ≡ its_part
  unfolding family_at
  part_is h = go (filed_at marks i) h
    where
      go : (v : Bool) → (v ≡ false → its_part ≡ pos 0) → part_in (entry_if v its_entry) ≡ its_part
      go true h = refl
      go false h = sym (h refl)

module _ (b c : Book) (g : Neat b) (h : Neat c) (e : (r : ℕ) → r < all_entries → look b r ≡ look c r) where
  same_family : (i : ℕ) → i < all_parts → family_at b.marks b.parts i ≡ family_at c.marks c.parts i
  same_family i l = sym (look_family b i l) ∙ e i (omega arith) ∙ look_family c i l

  same_filed : (i : ℕ) → i < all_parts → filed_at b.marks i ≡ filed_at c.marks i
  same_filed i l =
      sym (mark_is b.marks b.parts i) ∙ ap is_in (same_family i l) ∙ mark_is c.marks c.parts i

  same_bit : (k f : ℕ) → k < cells → f < families → marked (get_or b.marks k 0) f ≡ marked (get_or c.marks k 0) f
  same_bit k f hk hf =
      let q : (k * families + f) / families ≡ k = omega arith in
      let w : (k * families + f) % families ≡ f = omega arith in
      rw (q, w) at (same_filed (k * families + f) (omega arith))

  same_marks : b.marks ≡ c.marks
  same_marks =
      ext_get_or 0 b.marks c.marks (g.sized.marks ∙ sym h.sized.marks)
      (λ k l.
      let m : k < cells = omega (arith, g.sized.marks) in
      bits_are _ _ (g.bits k m) (h.bits k m) (λ f n. same_bit k f m n))

  same_parts : b.parts ≡ c.parts
  same_parts =
      ext_get_or (pos 0) b.parts c.parts (g.sized.parts ∙ sym h.sized.parts)
      (λ i l.
      let m : i < all_parts = omega (arith, g.sized.parts) in
      sym (part_is b.marks b.parts i (g.unmarked i m)) ∙ ap part_in (same_family i m)
      ∙ part_is c.marks c.parts i (h.unmarked i m))

  same_lots : b.lots ≡ c.lots
  same_lots =
      ext_get_or 0 b.lots c.lots (g.sized.lots ∙ sym h.sized.lots)
      (λ i l.
      let m : i < places = omega (arith, g.sized.lots) in
      sym (lot_is b.lots i) ∙ ap mg_in (sym (look_lot b i m) ∙ e (all_parts + i) (omega arith) ∙ look_lot c i m)
      ∙ lot_is c.lots i)

  same_shortages : b.shortages ≡ c.shortages
  same_shortages =
      ext_get_or 0 b.shortages c.shortages (g.sized.shortages ∙ sym h.sized.shortages)
      (λ i l.
      let m : i < places = omega (arith, g.sized.shortages) in
      sym (shortage_is b.shortages i)
      ∙ ap mg_in (sym (look_shortage b i) ∙ e (all_parts + (places + i)) (omega arith) ∙ look_shortage c i)
      ∙ shortage_is c.shortages i)

  pub same_entries : b.open_year ≡ c.open_year → b ≡ c
  same_entries y =
      λ i. record {
        open_year = y i;
        marks = same_marks i;
        parts = same_parts i;
        lots = same_lots i;
        shortages = same_shortages i;
      }
