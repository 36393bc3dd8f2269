-- What stands at an entry's rank after an entry was entered, and of which books that holds.
use Prim.Native.Nat.{ℕ, zero, suc, ◌+◌, ◌-◌, ◌*◌, ◌/◌, ◌%◌, ◌^◌, ◌<◌}
use native.Mathlib.Omega.{arith}
use native.Mathlib.Nat.{div-eq_of_lt}
use native.Mathlib.Decide.{ℕ_discrete}
use mathlib.Core.Bool.{Bool, true, false, false≢true}
use mathlib.Core.Path.{◌≡◌, refl, sym, ap, ◌∙◌}
use mathlib.Core.List.{List, [], ◌∷◌}
use lib.Dec.{ltb, lit≤}
use lib.ListN.{length, get_or, set as store, replicate, length-set, length-replicate, get_or-replicate}
use lib.Seq.{get_or-set_same, get_or-set_other}
use lib.Bits.{or_lt}
use lib.Pow.{pow_pos, pow-lt}
use lib.IntN.{ℤ, pos}
use borrow.Author.Tests.{lt-ltb, le-ltb, ltb-false}
use Rattle.figuring.specs.Years.{first_year}
use Rattle.book.specs.Sizes.{sets, cells, families, years, places, all_parts}
use Rattle.book.specs.Ledger.{In, key, cell, place, marked, with_mark}
use Rattle.book.specs.Postings.{stored}
use Rattle.book.specs.Companions.{Sized}
use Rattle.book.specs.declared.ledger.Book.{Book}
use Rattle.book.proofs.MarkLaws.{marked_same, marked_other}
use Rattle.text.specs.Gather.{gather}
use Rattle.text.specs.declared.entries.Entry.{Entry}
use Rattle.text.specs.Entries.{filed_at, family_at, mg_at, entries, rank, all_entries, enter, empty_at}
use Rattle.text.specs.RoundTrip.{Marks64, ZeroUnmarked}
use Rattle.text.specs.EachEntry.{FamilyIn}
use Rattle.text.proofs.EntryFacts.{Inside}
use Rattle.text.proofs.GatherLaws.{gather_same, gather_append}
use Rattle.text.proofs.EntryOrderLaws.{Stores}

-- ---- families
module _ (marks : List ℕ) (parts : List ℤ) (m s n : ℕ) (z : ℤ) (lm : length marks ≡ cells) (lp : length parts ≡ all_parts)
    (i : FamilyIn m s n) where
  abbrev at : ℕ
  at = cell m s * families + n

  abbrev mark : ℕ
  mark = with_mark (get_or marks (cell m s) 0) n

  abbrev marks' : List ℕ
  marks' = store marks (cell m s) mark

  abbrev parts' : List ℤ
  parts' = store parts at z

  its_cell : at / families ≡ cell m s
  its_cell = omega arith

  its_number : at % families ≡ n
  its_number = omega arith

  mark_there : get_or marks' (cell m s) 0 ≡ mark
  mark_there = get_or-set_same marks (cell m s) mark 0 (omega arith)

  mark_same : filed_at marks' at ≡ true
  mark_same = rw (its_cell, its_number, mark_there) (marked_same (get_or marks (cell m s) 0) n)

  mark_other : (r : ℕ) → (r ≡ at → ⊥) → filed_at marks' r ≡ filed_at marks r
  mark_other r ne = go (ℕ_discrete (r / families) (cell m s))
    where
      go : Dec (r / families ≡ cell m s) → filed_at marks' r ≡ filed_at marks r
      go (yes q) =
          rw (q, mark_there) (marked_other (get_or marks (cell m s) 0) n (r % families) (λ w. ne (omega arith)))
      go (no q) = rw (get_or-set_other marks (cell m s) (r / families) mark 0 q)

  part_other : (r : ℕ) → (r ≡ at → ⊥) → get_or parts' r (pos 0) ≡ get_or parts r (pos 0)
  part_other r ne = get_or-set_other parts at r z (pos 0) ne

  pub family_same : family_at marks' parts' at ≡ Entry.Family m s n z ∷ []
  unfolding family_at
  family_same =
      let a : cell m s / sets ≡ m = omega arith in
      let b : cell m s % sets ≡ s = omega arith in
      rw (
        its_cell,
        its_number,
        mark_there,
        get_or-set_same parts at z (pos 0) (omega arith),
        marked_same (get_or marks (cell m s) 0) n,
        a,
        b,
      )

  pub family_other : (r : ℕ) → (r ≡ at → ⊥) → family_at marks' parts' r ≡ family_at marks parts r
  unfolding family_at
  family_other r ne = rw (mark_other r ne, part_other r ne)

  -- the marks keep their 64 bits, and the unfiled families their zeros
  pub marks_bits :
      ((c : ℕ) → c < cells → get_or marks c 0 < 2 ^ 64) → (c : ℕ) → c < cells → get_or marks' c 0 < 2 ^ 64
  unfolding with_mark
  marks_bits h c l = go (ℕ_discrete c (cell m s))
    where
      go : Dec (c ≡ cell m s) → get_or marks' c 0 < 2 ^ 64
      go (yes q) =
          rw (q, mark_there)
          (or_lt 64 (get_or marks (cell m s) 0) (2 ^ n) (h (cell m s) (omega arith)) (pow-lt {i = n} {j = 64} i.number))
      go (no q) = rw (get_or-set_other marks (cell m s) c mark 0 q) (h c l)

  pub still_zero :
      ((r : ℕ) → r < all_parts → filed_at marks r ≡ false → get_or parts r (pos 0) ≡ pos 0)
      → (r : ℕ) → r < all_parts → filed_at marks' r ≡ false → get_or parts' r (pos 0) ≡ pos 0
  still_zero h r l u = go (ℕ_discrete r at)
    where
      go : Dec (r ≡ at) → get_or parts' r (pos 0) ≡ pos 0
      go (yes q) = absurd (false≢true (sym u ∙ ap (filed_at marks') q ∙ mark_same))
      go (no q) = part_other r q ∙ h r l (sym (mark_other r q) ∙ u)

-- ---- lots and shortages
module _ (kind : ℕ → ℕ → ℕ → ℕ → Entry) (l : List ℕ) (m s y mg : ℕ) (ll : length l ≡ places) (i : In (key m s y)) where
  pub figure_same : 0 < mg → mg_at kind (store l (place (key m s y)) mg) (place (key m s y)) ≡ kind m s y mg ∷ []
  unfolding mg_at
  figure_same h =
      let c : place (key m s y) / years ≡ cell m s = omega arith in
      let k : first_year + place (key m s y) % years ≡ y = omega arith in
      let a : cell m s / sets ≡ m = omega arith in
      let b : cell m s % sets ≡ s = omega arith in
      rw (get_or-set_same l (place (key m s y)) mg 0 (omega arith), lt-ltb 0 mg h, c, k, a, b)

  pub figure_other :
      (r : ℕ) → (r ≡ place (key m s y) → ⊥) → mg_at kind (store l (place (key m s y)) mg) r ≡ mg_at kind l r
  unfolding mg_at
  figure_other r ne = rw (get_or-set_other l (place (key m s y)) r mg 0 ne)

-- ---- the entry at a rank
abbrev pick : Bool → Bool → List Entry → List Entry → List Entry → List Entry
pick true q a b c = a
pick false true a b c = b
pick false false a b c = c

pick_second :
    (p q : Bool) (a : List Entry) {b b' : List Entry} (c : List Entry) → (p ≡ false → b' ≡ b)
    → pick p q a b' c ≡ pick p q a b c
pick_second true q a c h = refl
pick_second false true a c h = h refl
pick_second false false a c h = refl

pick_third :
    (p q : Bool) (a b : List Entry) {c c' : List Entry} → (q ≡ false → c' ≡ c) → pick p q a b c' ≡ pick p q a b c
pick_third true q a b h = refl
pick_third false true a b h = refl
pick_third false false a b h = h refl

unfoldable pub look : Book → ℕ → List Entry
look b r =
    pick (ltb r all_parts) (ltb r (all_parts + places)) (family_at b.marks b.parts r)
    (mg_at Entry.Lot b.lots (r - all_parts)) (mg_at Entry.Shortage b.shortages (r - (all_parts + places)))

pub look_family : (b : Book) (r : ℕ) → r < all_parts → look b r ≡ family_at b.marks b.parts r
unfolding look
look_family b r h = rw (lt-ltb r all_parts h)

pub look_lot : (b : Book) (i : ℕ) → i < places → look b (all_parts + i) ≡ mg_at Entry.Lot b.lots i
unfolding look
look_lot b i h =
    let e : all_parts + i - all_parts ≡ i = omega arith in
    rw (le-ltb (all_parts + i) all_parts (omega arith), lt-ltb (all_parts + i) (all_parts + places) (omega arith), e)

pub look_shortage : (b : Book) (i : ℕ) → look b (all_parts + (places + i)) ≡ mg_at Entry.Shortage b.shortages i
unfolding look
look_shortage b i =
    let e : all_parts + (places + i) - (all_parts + places) ≡ i = omega arith in
    rw (
      le-ltb (all_parts + (places + i)) all_parts (omega arith),
      le-ltb (all_parts + (places + i)) (all_parts + places) (omega arith),
      e,
    )

pub entries_are : (b : Book) → entries b ≡ gather all_entries (look b)
unfolding entries
entries_are b = sym (
    gather_append (look b) all_parts (places + places)
    ∙ rw (
      gather_same (look b) (family_at b.marks b.parts) all_parts (look_family b),
      gather_append (λ i. look b (all_parts + i)) places places,
      gather_same (λ i. look b (all_parts + i)) (mg_at Entry.Lot b.lots) places (look_lot b),
      gather_same (λ i. look b (all_parts + (places + i))) (mg_at Entry.Shortage b.shortages) places
          (λ i h. look_shortage b i),
    ))

-- ---- books of the right sizes, with marks of 64 bits, and no part where there is no mark
pub record Neat (b : Book) : Type 0 where
  pub sized : Sized b
  pub bits : Marks64 b
  pub unmarked : ZeroUnmarked b

pub empty_neat : (y : ℕ) → Neat (empty_at y)
unfolding empty_at
empty_neat y =
    record {
      sized =
          record {
            marks = length-replicate {A = ℕ} cells 0;
            parts = length-replicate all_parts (pos 0);
            lots = length-replicate {A = ℕ} places 0;
            shortages = length-replicate {A = ℕ} places 0;
          };
      bits = λ c h. rw (get_or-replicate {A = ℕ} cells c 0 0 h) (lit≤ tt);
      unmarked = λ i h u. get_or-replicate all_parts i (pos 0) (pos 0) h;
    }

zero_mark : (f : ℕ) → marked 0 f ≡ false
unfolding marked
zero_mark f = let e : 0 / 2 ^ f ≡ 0 = div-eq_of_lt (pow_pos f) in rw e

zeros : (n i : ℕ) → ◌≡◌ {A = ℕ} (get_or (replicate n 0) i 0) 0
zeros zero i = refl
zeros (suc n) zero = refl
zeros (suc n) (suc i) = zeros n i

no_family : (n r : ℕ) (parts : List ℤ) → family_at (replicate n 0) parts r ≡ []
unfolding family_at
no_family n r parts = rw (zeros n (r / families), zero_mark (r % families))

no_figure : (kind : ℕ → ℕ → ℕ → ℕ → Entry) (n r : ℕ) → mg_at kind (replicate n 0) r ≡ []
unfolding mg_at
no_figure kind n r = rw (zeros n r)

pick_none : (p q : Bool) {a b c : List Entry} → a ≡ [] → b ≡ [] → c ≡ [] → pick p q a b c ≡ []
pick_none true q x y z = x
pick_none false true x y z = y
pick_none false false x y z = z

pub empty_look : (y r : ℕ) → look (empty_at y) r ≡ []
unfolding empty_at look
empty_look y r =
    pick_none (ltb r all_parts) (ltb r (all_parts + places)) (no_family cells r (empty_at y).parts)
    (no_figure Entry.Lot places (r - all_parts)) (no_figure Entry.Shortage places (r - (all_parts + places)))

keeps : (b : Book) (e : Entry) → Neat b → Inside e → Neat (enter b e)
unfolding enter stored
keeps b (Entry.Family m s n z) g i =
    record {
      sized =
          record {
            marks = simp length-set g.sized.marks;
            parts = simp length-set g.sized.parts;
            lots = g.sized.lots;
            shortages = g.sized.shortages;
          };
      bits = marks_bits b.marks b.parts m s n z g.sized.marks g.sized.parts i g.bits;
      unmarked = still_zero b.marks b.parts m s n z g.sized.marks g.sized.parts i g.unmarked;
    }
keeps b (Entry.Lot m s y mg) g i =
    record {
      sized =
          record {
            marks = g.sized.marks;
            parts = g.sized.parts;
            lots = simp length-set g.sized.lots;
            shortages = g.sized.shortages;
          };
      bits = g.bits;
      unmarked = g.unmarked;
    }
keeps b (Entry.Shortage m s y mg) g i =
    record {
      sized =
          record {
            marks = g.sized.marks;
            parts = g.sized.parts;
            lots = g.sized.lots;
            shortages = simp length-set g.sized.shortages;
          };
      bits = g.bits;
      unmarked = g.unmarked;
    }

same : (b : Book) (e : Entry) → Neat b → Inside e → look (enter b e) (rank e) ≡ e ∷ []
unfolding enter stored rank
same b (Entry.Family m s n z) g i =
    look_family _ (cell m s * families + n) (omega arith)
    ∙ family_same b.marks b.parts m s n z g.sized.marks g.sized.parts i
same b (Entry.Lot m s y mg) g i =
    look_lot _ (place (key m s y)) (omega arith)
    ∙ figure_same Entry.Lot b.lots m s y mg g.sized.lots i.0 i.1
same b (Entry.Shortage m s y mg) g i =
    look_shortage _ (place (key m s y))
    ∙ figure_same Entry.Shortage b.shortages m s y mg g.sized.shortages i.0 i.1

other : (b : Book) (e : Entry) (r : ℕ) → Neat b → Inside e → (r ≡ rank e → ⊥) → look (enter b e) r ≡ look b r
unfolding enter stored rank look
other b (Entry.Family m s n z) r g i ne =
    rw (family_other b.marks b.parts m s n z g.sized.marks g.sized.parts i r ne)
other b (Entry.Lot m s y mg) r g i ne =
    pick_second (ltb r all_parts) (ltb r (all_parts + places)) (family_at b.marks b.parts r)
    (mg_at Entry.Shortage b.shortages (r - (all_parts + places)))
    (λ p.
    figure_other Entry.Lot b.lots m s y mg g.sized.lots i.0 (r - all_parts)
    (λ w. ne (omega (arith, ltb-false r all_parts p))))
other b (Entry.Shortage m s y mg) r g i ne =
    pick_third (ltb r all_parts) (ltb r (all_parts + places)) (family_at b.marks b.parts r)
    (mg_at Entry.Lot b.lots (r - all_parts))
    (λ p.
    figure_other Entry.Shortage b.shortages m s y mg g.sized.shortages i.0 (r - (all_parts + places))
    (λ w. ne (omega (arith, ltb-false r (all_parts + places) p))))

pub stores : Stores Neat Inside look all_entries
stores = record { keeps = keeps; same = same; other = other }
