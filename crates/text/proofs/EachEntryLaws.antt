-- Every entry of a book, by its place; and that the entries are just what the book has, in the order of the lines.
use Prim.Native.Nat.{ℕ, suc, ◌+◌, ◌-◌, ◌*◌, ◌/◌, ◌%◌, ◌<◌}
use native.Mathlib.Omega.{arith}
use native.Mathlib.Decide.{dec_lt}
use mathlib.Core.Bool.{Bool, true, false}
use mathlib.Core.Path.{◌≡◌, refl, sym, ap, subst, ◌∙◌}
use mathlib.Core.List.{List, [], ◌∷◌, ◌++◌}
use lib.Dec.{ltb}
use lib.ListN.{get_or}
use lib.IntN.{ℤ, pos}
use borrow.Author.Tests.{lt-ltb, ltb-true}
use Rattle.figuring.specs.Years.{first_year}
use Rattle.book.specs.Sizes.{sets, families, years, places, all_parts}
use Rattle.book.specs.Ledger.{In, key, cell, place, figure_at, marked}
use Rattle.book.specs.Orders.{Among}
use Rattle.book.specs.declared.ledger.Book.{Book}
use Rattle.book.proofs.AmongLaws.{first, in_left, in_right}
use Rattle.text.specs.declared.entries.Entry.{Entry}
use Rattle.text.specs.Gather.{gather}
use Rattle.text.specs.Entries.{entry_if, filed_at, family_at, mg_at, entries, in_book, rank, all_entries}
use Rattle.text.specs.EachEntry.{Says, Rises, EachEntry}
use Rattle.text.proofs.GatherLaws.{in_gather}
use Rattle.text.proofs.EntryOrderLaws.{Rising, rising_among, Has, nothing, one, gather_rises}
use Rattle.text.proofs.EntryFacts.{in_family, in_figure}
use Rattle.text.proofs.EntryLaws.{look, look_family, look_lot, look_shortage, entries_are}
use Rattle.text.proofs.RankLaws.{rank_orders}

-- ---- what all entries of a book have that each place's entry has
abbrev pub family_of : Book → ℕ → Entry
family_of b i = Entry.Family (i / families / sets) (i / families % sets) (i % families) (get_or b.parts i (pos 0))

abbrev pub figure_of : (ℕ → ℕ → ℕ → ℕ → Entry) → List ℕ → ℕ → Entry
figure_of kind l i = kind (i / years / sets) (i / years % sets) (first_year + i % years) (get_or l i 0)

module _ (P : Entry → Type 0) where
  figure_has :
      (kind : ℕ → ℕ → ℕ → ℕ → Entry) (l : List ℕ) (i r : ℕ) → (0 < get_or l i 0 → P (figure_of kind l i))
      → rank (figure_of kind l i) ≡ r → Has P (mg_at kind l i) r
  unfolding mg_at
  figure_has kind l i r h k = go (ltb 0 (get_or l i 0)) refl
    where
      go : (t : Bool) → ltb 0 (get_or l i 0) ≡ t → Has P (entry_if t (figure_of kind l i)) r
      go true e = one _ refl (h (ltb-true 0 (get_or l i 0) e)) k
      go false e = nothing refl

  module _ (b : Book) (family : (i : ℕ) → i < all_parts → filed_at b.marks i ≡ true → P (family_of b i))
      (lot : (i : ℕ) → i < places → 0 < get_or b.lots i 0 → P (figure_of Entry.Lot b.lots i))
      (shortage : (i : ℕ) → i < places → 0 < get_or b.shortages i 0 → P (figure_of Entry.Shortage b.shortages i)) where
    lot_has : (i : ℕ) → i < places → Has P (look b (all_parts + i)) (all_parts + i)
    unfolding rank
    lot_has i h = rw (look_lot b i h) (figure_has Entry.Lot b.lots i (all_parts + i) (lot i h) (omega arith))

    shortage_has : (i : ℕ) → i < places → Has P (look b (all_parts + (places + i))) (all_parts + (places + i))
    unfolding rank
    shortage_has i h =
        rw (look_shortage b i)
        (figure_has Entry.Shortage b.shortages i (all_parts + (places + i)) (shortage i h) (omega arith))

    family_has : (i : ℕ) → i < all_parts → Has P (look b i) i
    unfolding rank family_at
    family_has i h = rw (look_family b i h) (go (filed_at b.marks i) refl)
      where
        go : (t : Bool) → filed_at b.marks i ≡ t → Has P (entry_if t (family_of b i)) i
        go true e = one _ refl (family i h e) (omega arith)
        go false e = nothing refl

    pub has_each : (r : ℕ) → r < all_entries → Has P (look b r) r
    has_each r h = go (dec_lt r all_parts) (dec_lt r (all_parts + places))
      where
        go : Dec (r < all_parts) → Dec (r < all_parts + places) → Has P (look b r) r
        go (yes p) q = family_has r p
        go (no p) (yes q) =
            let e : all_parts + (r - all_parts) ≡ r = omega arith in
            rw e at (lot_has (r - all_parts) (omega arith))
        go (no p) (no q) =
            let e : all_parts + (places + (r - (all_parts + places))) ≡ r = omega arith in
            rw e at (shortage_has (r - (all_parts + places)) (omega arith))

    pub each_rises : Rising P all_entries 0 (entries b)
    each_rises = rw (entries_are b) (gather_rises P (look b) all_entries has_each)

-- ---- the entries are just what the book has
module _ (b : Book) where
  family_said : (i : ℕ) → i < all_parts → filed_at b.marks i ≡ true → Says b (family_of b i)
  family_said i h e =
      let c : cell (i / families / sets) (i / families % sets) ≡ i / families = omega arith in
      let p : cell (i / families / sets) (i / families % sets) * families + i % families ≡ i = omega arith in (
        record { maker = omega arith; set = omega arith; number = omega arith },
        (
          ap (λ (j : ℕ). marked (get_or b.marks j 0) (i % families)) c ∙ e,
          ap (λ (j : ℕ). get_or b.parts j (pos 0)) p,
        ),
      )

  figure_said :
      (l : List ℕ) (i : ℕ) → i < places
      → In (key (i / years / sets) (i / years % sets) (first_year + i % years))
      × (figure_at l (key (i / years / sets) (i / years % sets) (first_year + i % years)) ≡ get_or l i 0)
  unfolding figure_at
  figure_said l i h =
      let p : place (key (i / years / sets) (i / years % sets) (first_year + i % years)) ≡ i = omega arith in
      (omega arith, ap (λ (j : ℕ). get_or l j 0) p)

  said : Rising (Says b) all_entries 0 (entries b)
  said =
      each_rises (Says b) b family_said
      (λ i h p. let f = figure_said b.lots i h in (f.0, (p, f.1)))
      (λ i h p. let f = figure_said b.shortages i h in (f.0, (p, f.1)))

  -- and what it has stands among them
  family_there :
      (m s n : ℕ) (z : ℤ) → Says b (Entry.Family m s n z)
      → family_at b.marks b.parts (cell m s * families + n) ≡ Entry.Family m s n z ∷ []
  unfolding family_at
  family_there m s n z h =
      let i = h.0 in
      let c : (cell m s * families + n) / families ≡ cell m s = omega (arith, i.number) in
      let k : (cell m s * families + n) % families ≡ n = omega (arith, i.number) in
      let d : cell m s / sets ≡ m = omega (arith, i.set) in
      let e : cell m s % sets ≡ s = omega (arith, i.set) in
      rw (c, k, h.1.0, d, e, h.1.1)

  figure_there :
      (kind : ℕ → ℕ → ℕ → ℕ → Entry) (l : List ℕ) (m s y mg : ℕ) → In (key m s y) → 0 < mg → figure_at l (key m s y) ≡ mg
      → mg_at kind l (place (key m s y)) ≡ kind m s y mg ∷ []
  unfolding figure_at mg_at
  figure_there kind l m s y mg i h v =
      let c : place (key m s y) / years ≡ cell m s = omega arith in
      let k : first_year + place (key m s y) % years ≡ y = omega arith in
      let d : cell m s / sets ≡ m = omega arith in
      let e : cell m s % sets ≡ s = omega arith in
      rw (v, lt-ltb 0 mg h, c, k, d, e)

  stands : {e : Entry} {l : List Entry} → l ≡ e ∷ [] → Among e l
  stands {e} q = subst (Among e) (sym q) (first e [])

  abbrev filed : List Entry
  filed = gather all_parts (family_at b.marks b.parts)

  abbrev lots : List Entry
  lots = gather places (mg_at Entry.Lot b.lots)

  abbrev shortages : List Entry
  shortages = gather places (mg_at Entry.Shortage b.shortages)

  there : (e : Entry) → Says b e → Among e (entries b)
  unfolding entries
  there (Entry.Family m s n z) h =
      in_left (lots ++ shortages)
      (in_gather all_parts (family_at b.marks b.parts) (cell m s * families + n) (omega (arith, h.0))
      (stands (family_there m s n z h)))
  there (Entry.Lot m s y mg) h =
      in_right filed (in_left shortages
      (in_gather places (mg_at Entry.Lot b.lots) (place (key m s y)) (omega (arith, h.0))
      (stands (figure_there Entry.Lot b.lots m s y mg h.0 h.1.0 h.1.1))))
  there (Entry.Shortage m s y mg) h =
      in_right filed (in_right lots
      (in_gather places (mg_at Entry.Shortage b.shortages) (place (key m s y)) (omega (arith, h.0))
      (stands (figure_there Entry.Shortage b.shortages m s y mg h.0 h.1.0 h.1.1))))

  -- ---- their order
  inside : (e : Entry) → Says b e → in_book e ≡ true
  unfolding in_book
  inside (Entry.Family m s n z) h = in_family h.0
  inside (Entry.Lot m s y mg) h = in_figure h.0
  inside (Entry.Shortage m s y mg) h = in_figure h.0

  ordered : (n least : ℕ) (es : List Entry) → Rising (Says b) n least es → Rises es
  ordered n least [] h = tt
  ordered n least (e ∷ []) h = tt
  ordered n least (e ∷ f ∷ es) h = (
    sym (rank_orders e f (inside e h.0) (inside f h.1.1.0)) ∙ lt-ltb (rank e) (rank f) h.1.1.1.0,
    ordered n (suc (rank e)) (f ∷ es) h.1.1,
  )

  pub each_entry : EachEntry b
  each_entry =
      record {
        exactly = λ e. (rising_among (Says b) all_entries 0 (entries b) e said, there e);
        rises = ordered all_entries 0 (entries b) said;
      }
