-- Laws of keys and places: what stands at a key after a lot or shortage was lowered or raised, after a close, and what
-- the parts are after one was stored.
use mathlib.Core.Bool.{Bool, true, false, cond, ◌&&◌}
use mathlib.Core.List.{List}
use mathlib.Core.Path.{◌≡◌, refl, sym, ◌∙◌, ap}
use mathlib.Core.Logic.{◌≢◌}
use Prim.Native.Nat.{ℕ, zero, suc, ◌+◌, ◌-◌, ◌*◌, ◌≤◌, ◌<◌}
use native.Mathlib.Omega.{arith}
use native.Mathlib.Decide.{ℕ_discrete}
use borrow.Author.Tests.{eqb-true, eq-eqb, ne_eqb}
use lib.Dec.{eqb}
use lib.ListN.{get_or, set, replicate, length, length-set}
use lib.Seq.{get_or-set_same, get_or-set_other}
use lib.IntN.{ℤ, pos}
use Rattle.figuring.specs.Years.{first_year, last_year}
use Rattle.figuring.proofs.BoolLaws.{both}
use Rattle.book.specs.Sizes.{sets, cells, families, years, places, all_parts}
use Rattle.book.specs.Below.{only}
use Rattle.book.specs.Ledger.{Key, key, In, place, figure_at, lower, raise, cell, part_at}
use Rattle.book.specs.Postings.{netted}
use Rattle.book.specs.Accounts.{same_key}

-- two keys in range are the same key or have other indices
same_false : (k j : Key) → In k → In j → same_key k j ≡ false → place j ≢ place k
unfolding same_key
same_false k j hk hj e = λ i.
    let m : k.maker ≡ j.maker = omega arith in
    let s : k.set ≡ j.set = omega arith in
    let y : k.year ≡ j.year = omega arith in
    let t : same_key k j ≡ true = simp (eq-eqb _ _ m, eq-eqb _ _ s, eq-eqb _ _ y) in
    let z : ◌≡◌ {A = ℕ} 0 1 = cc in omega arith

pub same_true : (k j : Key) → same_key k j ≡ true → k ≡ j
unfolding same_key
same_true k j e =
    let p = both _ _ e in
    let q = both _ _ p.1 in
    λ i. record {
      maker = eqb-true k.maker j.maker p.0 i;
      set = eqb-true k.set j.set q.0 i;
      year = eqb-true k.year j.year q.1 i;
    }

pub same_self : (k : Key) → same_key k k ≡ true
unfolding same_key
same_self k = rw (eq-eqb k.maker k.maker refl, eq-eqb k.set k.set refl, eq-eqb k.year k.year refl)

place_below : (k : Key) → In k → place k < places
place_below k h = omega arith

-- what stands at a key after one place was raised or lowered
set_at : (l : List ℕ) (k j : Key) (v : ℕ) (t : Bool) → same_key k j ≡ t → length l ≡ places → In k → In j → figure_at (set l (place k) v) j ≡ elim t [ true ↦ v | false ↦ figure_at l j ]
unfolding figure_at
set_at l k j v true e n hk hj =
    rw (← same_true k j e) (get_or-set_same l (place k) v 0 (omega (arith, place_below k hk)))
set_at l k j v false e n hk hj = get_or-set_other l (place k) (place j) v 0 (same_false k j hk hj e)

pub at_raise : (l : List ℕ) (k j : Key) (n : ℕ) → length l ≡ places → In k → In j → figure_at (raise l k n) j ≡ figure_at l j + only (same_key k j) n
unfolding raise only
at_raise l k j n h hk hj = go (same_key k j) refl
  where
    go : (t : Bool) → same_key k j ≡ t → figure_at (set l (place k) (figure_at l k + n)) j ≡ figure_at l j + only t n
    go true e = set_at l k j _ true e h hk hj ∙ rw (same_true k j e)
    go false e = set_at l k j _ false e h hk hj ∙ omega arith

pub at_lower : (l : List ℕ) (k j : Key) (n : ℕ) → length l ≡ places → In k → In j → n ≤ figure_at l k → figure_at (lower l k n) j + only (same_key k j) n ≡ figure_at l j
unfolding lower only
at_lower l k j n h hk hj b = go (same_key k j) refl
  where
    go : (t : Bool) → same_key k j ≡ t → figure_at (set l (place k) (figure_at l k - n)) j + only t n ≡ figure_at l j
    go true e = omega (arith, set_at l k j (figure_at l k - n) true e h hk hj, ap (figure_at l) (same_true k j e))
    go false e = omega (arith, set_at l k j (figure_at l k - n) false e h hk hj)

-- what stands at a key of another year is untouched, whatever the list's length
elsewhere : (l : List ℕ) (k j : Key) (v : ℕ) → In k → In j → k.year ≢ j.year → figure_at (set l (place k) v) j ≡ figure_at l j
unfolding figure_at
elsewhere l k j v hk hj h = get_or-set_other l (place k) (place j) v 0 (λ e. h (omega arith))

pub lower_elsewhere : (l : List ℕ) (k j : Key) (n : ℕ) → In k → In j → k.year ≢ j.year → figure_at (lower l k n) j ≡ figure_at l j
unfolding lower
lower_elsewhere l k j n = elsewhere l k j (figure_at l k - n)

pub raise_elsewhere : (l : List ℕ) (k j : Key) (n : ℕ) → In k → In j → k.year ≢ j.year → figure_at (raise l k n) j ≡ figure_at l j
unfolding raise
raise_elsewhere l k j n = elsewhere l k j (figure_at l k + n)

-- and so is what stands at any other place
pub lower_apart : (l : List ℕ) (k j : Key) (n : ℕ) → place j ≢ place k → figure_at (lower l k n) j ≡ figure_at l j
unfolding figure_at lower
lower_apart l k j n h = get_or-set_other l (place k) (place j) (get_or l (place k) 0 - n) 0 h

pub length_raise : (l : List ℕ) (k : Key) (n : ℕ) → length (raise l k n) ≡ length l
unfolding raise
length_raise l k n = simp length-set

pub length_lower : (l : List ℕ) (k : Key) (n : ℕ) → length (lower l k n) ≡ length l
unfolding lower
length_lower l k n = simp length-set

-- ── a close's writes
pub netted_length : (y : ℕ) (v : ℕ → ℕ) (n : ℕ) (l : List ℕ) → length (netted y v n l) ≡ length l
unfolding netted
netted_length y v zero l = refl
netted_length y v (suc n) l = simp length-set (netted_length y v n l)

pub netted_other : (y : ℕ) (v : ℕ → ℕ) (n : ℕ) (l : List ℕ) (i : ℕ) → ((c : ℕ) → c < n → i ≢ c * years + y) → get_or (netted y v n l) i 0 ≡ get_or l i 0
unfolding netted
netted_other y v zero l i a = refl
netted_other y v (suc n) l i a =
    get_or-set_other (netted y v n l) (n * years + y) i (v n) 0 (a n (omega arith)) ∙ netted_other y v n l i (λ c h. a c (omega arith))

pub netted_here : (y : ℕ) (v : ℕ → ℕ) (n : ℕ) (l : List ℕ) (c : ℕ) → c < n → n * years ≤ length l → y < years → get_or (netted y v n l) (c * years + y) 0 ≡ v c
unfolding netted
netted_here y v zero l c h d w = absurd (omega arith)
netted_here y v (suc n) l c h d w = go (ℕ_discrete c n) (λ m. netted_here y v n l c m (omega arith) w)
  where
    go : Dec (c ≡ n) → (c < n → get_or (netted y v n l) (c * years + y) 0 ≡ v c) → get_or (set (netted y v n l) (n * years + y) (v n)) (c * years + y) 0 ≡ v c
    go (yes p) ih = rw p (get_or-set_same (netted y v n l) (n * years + y) (v n) 0 (omega (arith, netted_length y v n l)))
    go (no p) ih = get_or-set_other (netted y v n l) (n * years + y) (c * years + y) (v n) 0 (omega arith) ∙ ih (omega arith)

pub bool_false : (t : Bool) → (t ≡ true → ⊥) → t ≡ false
bool_false true h = absurd (h refl)
bool_false false h = refl

-- ── keys of one year are the same where their cells are
pub same_cell : (m s n t y z : ℕ) → s < sets → t < sets → y ≡ z → same_key (key m s y) (key n t z) ≡ eqb (cell m s) (cell n t)
unfolding same_key
same_cell m s n t y z hs ht h = go (ℕ_discrete (cell m s) (cell n t))
  where
    go : Dec (cell m s ≡ cell n t) → same_key (key m s y) (key n t z) ≡ eqb (cell m s) (cell n t)
    go (yes p) =
        let em : m ≡ n = omega arith in
        let es : s ≡ t = omega arith in
        simp (eq-eqb _ _ em, eq-eqb _ _ es, eq-eqb _ _ h, eq-eqb _ _ p)
    go (no p) =
        bool_false _ (λ e.
        let q = same_true (key m s y) (key n t z) e in
        let em : m ≡ n = ap (λ (k : Key). k.maker) q in
        let es : s ≡ t = ap (λ (k : Key). k.set) q in
        omega arith) ∙ sym (ne_eqb _ _ p)

pub other_year : (k j : Key) → k.year ≢ j.year → same_key k j ≡ false
unfolding same_key
other_year k j h = bool_false _ (λ e. h (ap (λ (k : Key). k.year) (same_true k j e)))

-- ── the parts after one was stored, whatever stood there; and where there are none
pub part_stored : (l : List ℤ) (c f d g : ℕ) (z : ℤ) → f < families → g < families → c * families + f < length l → part_at (set l (c * families + f) z) d g ≡ cond (eqb c d && eqb f g) z (part_at l d g)
part_stored l c f d g z hf hg h = go (ℕ_discrete c d) (ℕ_discrete f g)
  where
    go : Dec (c ≡ d) → Dec (f ≡ g) → part_at (set l (c * families + f) z) d g ≡ cond (eqb c d && eqb f g) z (part_at l d g)
    go (yes p) (yes q) = rw (eq-eqb _ _ p, eq-eqb _ _ q, ← p, ← q) (get_or-set_same l (c * families + f) z (pos 0) h)
    go (yes p) (no q) = rw (eq-eqb _ _ p, ne_eqb _ _ q) (get_or-set_other l (c * families + f) (d * families + g) z (pos 0) (omega arith))
    go (no p) q = rw (ne_eqb _ _ p) (get_or-set_other l (c * families + f) (d * families + g) z (pos 0) (omega arith))

-- n times a is a at every place, past its end too, if a is what stands there
all_alike : {A : Type 0} (n i : ℕ) (a : A) → get_or (replicate n a) i a ≡ a
all_alike zero i a = refl
all_alike (suc n) zero a = refl
all_alike (suc n) (suc i) a = all_alike n i a

pub no_part : (c f : ℕ) → part_at (replicate all_parts (pos 0)) c f ≡ pos 0
no_part c f = all_alike all_parts (c * families + f) (pos 0)

-- ── a close at a key: of the year closed, and of another
pub netted_in : (y : ℕ) (v : ℕ → ℕ) (l : List ℕ) (k : Key) → length l ≡ places → In k → k.year ≡ y → figure_at (netted (y - first_year) v cells l) k ≡ v (cell k.maker k.set)
unfolding figure_at
netted_in y v l k n i e = rw (← e) (netted_here (k.year - first_year) v cells l (cell k.maker k.set) (omega arith) (omega arith) (omega arith))

pub netted_out : (y : ℕ) (v : ℕ → ℕ) (l : List ℕ) (k : Key) → In k → first_year ≤ y → y ≤ last_year → k.year ≢ y → figure_at (netted (y - first_year) v cells l) k ≡ figure_at l k
unfolding figure_at
netted_out y v l k i h j e = netted_other (y - first_year) v cells l (place k) (λ c d. omega arith)

pub at_zeros : (k : Key) → figure_at (replicate places 0) k ≡ 0
unfolding figure_at
at_zeros k = all_alike {A = ℕ} places (place k) 0
