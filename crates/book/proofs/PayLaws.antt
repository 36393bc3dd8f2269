-- What the loops of a cover need: turns paid one after the other are paid together, and a part of them comes to no more than all.
use Prim.Native.Nat.{ℕ, zero, suc, ◌+◌, ◌-◌, ◌≤◌, ◌<◌, ◌^◌}
use mathlib.Core.Bool.{false}
use mathlib.Core.List.{List, [], ◌∷◌, ◌++◌, map, append_assoc}
use mathlib.Core.Path.{◌≡◌, refl, sym, ◌∙◌, ap, ap₂, subst}
use native.Mathlib.Omega.{arith}
use lib.ListN.{length}
use Rattle.figuring.specs.Years.{first_year, last_year}
use Rattle.figuring.specs.Life.{open_short}
use Rattle.book.specs.Sizes.{years, places}
use Rattle.book.specs.Below.{only}
use Rattle.book.specs.Ledger.{Key, key, lower}
use Rattle.book.specs.Places.{key_of, cell_of}
use Rattle.book.specs.Coverage.{Standing, Turn, turn, Payment, amount, after, paying, payments, rising, turns, model_years, coverage, total}
use Rattle.book.specs.Covering.{application, in_lists, in_book, all_lowered, all_applied, moved_by}
use Rattle.book.specs.Postings.{moved, applied_lot, covered_shortage}
use Rattle.book.specs.Paying.{turns_of, all_turns, paid_in, Payable, Paid}
use Rattle.book.specs.Companions.{Sized}
use Rattle.book.specs.declared.ledger.Book.{Book}
use Rattle.book.specs.declared.kinds.Application.{Application}
use Rattle.book.specs.declared.kinds.Cover.{Cover}
use Rattle.book.specs.declared.places.Place.{Place}
use Rattle.book.proofs.PlaceLaws.{counted, counted_on}
use Rattle.book.proofs.SoundnessLaws.{sound_is}
use Rattle.book.proofs.TurnLaws.{still, left_after}
use Rattle.book.proofs.CoverTurns.{lower_none, turns_stand}
use Rattle.book.proofs.CoverLaws.{Coverable, length_lowered}

-- ---- turns after turns
payments_append :
    (ts us : List Turn) (h : Standing) → payments h (ts ++ us) ≡ payments h ts ++ payments (left_after h ts) us
unfolding payments left_after
payments_append [] us h = refl
payments_append (t ∷ ts) us h = ap (paying t (amount h t)) (payments_append ts us (after h t)) ∙ apart (amount h t)
  where
    apart :
        (n : ℕ) → paying t n (payments (after h t) ts ++ payments (left_after (after h t) ts) us)
        ≡ paying t n (payments (after h t) ts) ++ payments (left_after (after h t) ts) us
    apart zero = refl
    apart (suc n) = refl

total_append : (ps qs : List Payment) → total (ps ++ qs) ≡ total ps + total qs
unfolding total
total_append [] qs = omega arith
total_append (p ∷ ps) qs = omega (arith, total_append ps qs)

lowered_append :
    (which : Application → Key) (c : Cover) (ps qs : List Payment) (l : List ℕ)
    → all_lowered which (map (application c) (ps ++ qs)) l
    ≡ all_lowered which (map (application c) qs) (all_lowered which (map (application c) ps) l)
unfolding all_lowered
lowered_append which c [] qs l = refl
lowered_append which c (p ∷ ps) qs l = lowered_append which c ps qs _

-- applications after applications
applied_append :
    (b : Book) (c : Cover) (ps qs : List Payment)
    → all_applied b (map (application c) (ps ++ qs))
    ≡ all_applied (all_applied b (map (application c) ps)) (map (application c) qs)
applied_append b c ps qs =
    ap₂ (moved b) (lowered_append applied_lot c ps qs b.lots) (lowered_append covered_shortage c ps qs b.shortages)

paid_none : {b : Book} {c : Cover} → Paid b c [] b 0
unfolding payments all_lowered total
paid_none = record { book = refl; sum = refl }

-- some turns that were paid from a book, and others after them
module _ {b : Book} {c : Cover} {all ts : List Turn} {d : Book} {n : ℕ} (ok : Payable b c all) (p : Paid b c ts d n) where
  -- the lists are as long as they were
  lots_stay : length d.lots ≡ places
  lots_stay = ap (λ (x : Book). length x.lots) p.book ∙ length_lowered applied_lot _ b.lots ∙ ok.lots

  shortages_stay : length d.shortages ≡ places
  shortages_stay = ap (λ (x : Book). length x.shortages) p.book ∙ length_lowered covered_shortage _ b.shortages ∙ ok.shortages

  -- what is paid after them is paid from what now stands in the book
  after_them : (us : List Turn) → paid_in b c (ts ++ us) ≡ paid_in b c ts ++ paid_in d c us
  after_them us =
      let stands : in_book d c ≡ left_after (in_book b c) ts =
      ap (λ (x : Book). in_book x c) p.book
      ∙ turns_stand b.open_year c ok.maker ok.set ok.upto ts b.lots b.shortages ok.lots ok.shortages in
      payments_append ts us (in_book b c)
      ∙ ap (λ (g : Standing). payments (in_book b c) ts ++ payments g us) (sym stands)

  paid_more : {us : List Turn} {e : Book} {m : ℕ} → Paid d c us e m → Paid b c (ts ++ us) e (n + m)
  paid_more {us} q =
      let ps = paid_in b c ts in
      let qs = paid_in d c us in
      record {
        book =
            q.book ∙ ap (λ (x : Book). all_applied x (map (application c) qs)) p.book ∙ sym (applied_append b c ps qs)
            ∙ ap (λ (rs : List Payment). all_applied b (map (application c) rs)) (sym (after_them us));
        sum = ap₂ ◌+◌ p.sum q.sum ∙ sym (total_append ps qs) ∙ ap total (sym (after_them us));
      }

  -- all of them come to what these come to and the rest
  with_rest : (us : List Turn) → total (paid_in b c (ts ++ us)) ≡ n + total (paid_in d c us)
  with_rest us =
      ap total (after_them us) ∙ total_append (paid_in b c ts) (paid_in d c us)
      ∙ ap (λ (k : ℕ). k + total (paid_in d c us)) (sym p.sum)

  paid_small : (us : List Turn) → Payable b c (ts ++ us) → n < 2 ^ 64
  paid_small us h = omega (arith, h.small, with_rest us)

  payable_next : (us ws : List Turn) → Payable b c (ts ++ (us ++ ws)) → Payable d c us
  payable_next us ws h =
      record {
        maker = ok.maker;
        set = ok.set;
        upto = rw p.book ok.upto;
        lots = lots_stay;
        shortages = shortages_stay;
        small =
            omega (
              arith,
              h.small,
              with_rest (us ++ ws),
              ap total (payments_append us ws (in_book d c)),
              total_append (paid_in d c us) (payments (left_after (in_book d c) us) ws),
            );
      }

-- ---- one turn
module _ (c : Cover) (l s : List ℕ) (v y : ℕ) where
  abbrev one : ℕ → List Application
  one q = map (application c) (paying (turn y v) q [])

  -- of the figures that it lowers, the one at a key which does not hang on the Mg; 0 Mg are none
  one_lowered :
      (which : Application → Key) (k : Key)
      → ((q : ℕ) → which (application c (record { vintage = v; year = y; mg = q })) ≡ k)
      → (q : ℕ) (f : List ℕ) → all_lowered which (one q) f ≡ lower f k q
  unfolding all_lowered
  one_lowered which k at_k zero f = sym (lower_none f k)
  one_lowered which k at_k (suc q) f = ap (λ (j : Key). lower f j (suc q)) (at_k (suc q))

  total_one : (q : ℕ) → total (paying (turn y v) q []) ≡ q
  unfolding total
  total_one zero = refl
  total_one (suc q) = omega arith

  pub turn_paid :
      (Y : ℕ) {n : ℕ} {l' s' : List ℕ} → n ≡ amount (in_lists Y l s c) (turn y v)
      → l' ≡ lower l (key c.maker c.set v) n → s' ≡ lower s (key c.maker c.set y) n
      → (l' ≡ all_lowered applied_lot (map (application c) (payments (in_lists Y l s c) (turn y v ∷ []))) l)
      × (s' ≡ all_lowered covered_shortage (map (application c) (payments (in_lists Y l s c) (turn y v ∷ []))) s)
      × (n ≡ total (payments (in_lists Y l s c) (turn y v ∷ [])))
  unfolding payments
  turn_paid Y {n} e el es =
      let q = amount (in_lists Y l s c) (turn y v) in
      rw (el, es) (
        ap (lower l (key c.maker c.set v)) e ∙ sym (one_lowered applied_lot _ (λ n. refl) q l),
        ap (lower s (key c.maker c.set y)) e ∙ sym (one_lowered covered_shortage _ (λ n. refl) q s),
        e ∙ sym (total_one q),
      )

-- ---- a shortage that is not open asks for nothing
module _ (y : ℕ) where
  none_asked :
      (vs : List ℕ) (h : Standing) → h.shorts y ≡ 0
      → payments h (map (turn y) vs) ≡ []
  unfolding payments
  none_asked [] h e = refl
  none_asked (v ∷ vs) h e =
      let z : amount h (turn y v) ≡ 0 = omega arith in
      ap (λ (q : ℕ). paying (turn y v) q (payments (after h (turn y v)) (map (turn y) vs))) z
      ∙ ap (λ (g : Standing). payments g (map (turn y) vs)) (still h (turn y v) z) ∙ none_asked vs h e

  pub not_open_paid : {b : Book} {c : Cover} → open_short b.open_year y ≡ false → Paid b c (turns_of y) b 0
  unfolding all_lowered total only
  not_open_paid {b} {c} e =
      let z : (in_book b c).shorts y ≡ 0 = rw e in
      let r = none_asked model_years (in_book b c) z in
      record { book = rw r; sum = rw r }

-- ---- where a loop stands
rising_on : (a i : ℕ) → rising a (i + 1) ≡ rising a i ++ ((a + i) ∷ [])
unfolding rising
rising_on a zero = let e : a + 0 ≡ a = omega arith in rw e
rising_on a (suc i) =
    let e : suc i + 1 ≡ suc (i + 1) = omega arith in
    let f : a + 1 + i ≡ a + suc i = omega arith in
    rw (e, ← f) (ap (λ (ys : List ℕ). a ∷ ys) (rising_on (a + 1) i))

rising_split : (a i n : ℕ) → i < n → rising a n ≡ rising a i ++ ((a + i) ∷ rising (a + i + 1) (n - (i + 1)))
unfolding rising
rising_split a zero zero h = absurd (omega arith)
rising_split a zero (suc n) h =
    let e : a + 0 ≡ a = omega arith in
    let f : suc n - (0 + 1) ≡ n = omega arith in
    rw (e, f)
rising_split a (suc i) zero h = absurd (omega arith)
rising_split a (suc i) (suc n) h =
    let e : suc n - (suc i + 1) ≡ n - (i + 1) = omega arith in
    let f : a + suc i ≡ a + 1 + i = omega arith in
    rw (e, f) (ap (λ (ys : List ℕ). a ∷ ys) (rising_split (a + 1) i n (omega arith)))

map_on : (y : ℕ) (xs ys : List ℕ) → map (turn y) (xs ++ ys) ≡ map (turn y) xs ++ map (turn y) ys
map_on y [] ys = refl
map_on y (x ∷ xs) ys = ap (λ (ts : List Turn). turn y x ∷ ts) (map_on y xs ys)

turns_on : (vs xs ys : List ℕ) → turns (xs ++ ys) vs ≡ turns xs vs ++ turns ys vs
unfolding turns
turns_on vs [] ys = refl
turns_on vs (x ∷ xs) ys =
    ap (λ (ts : List Turn). map (turn x) vs ++ ts) (turns_on vs xs ys)
    ∙ sym (append_assoc (map (turn x) vs) (turns xs vs) (turns ys vs))

append_none : (ts : List Turn) → ts ++ [] ≡ ts
append_none [] = refl
append_none (t ∷ ts) = ap (λ (us : List Turn). t ∷ us) (append_none ts)

-- the turns of a shortage with i vintages passed, and of all shortages with i years passed
abbrev pub vintages_passed : ℕ → ℕ → List Turn
vintages_passed y i = map (turn y) (rising first_year i)

abbrev pub years_passed : ℕ → List Turn
years_passed i = turns (rising first_year i) model_years

vintages_on : (y i : ℕ) → vintages_passed y (i + 1) ≡ vintages_passed y i ++ (turn y (first_year + i) ∷ [])
vintages_on y i = ap (map (turn y)) (rising_on first_year i) ∙ map_on y (rising first_year i) ((first_year + i) ∷ [])

vintages_split :
    (y i : ℕ) → i < years
    → turns_of y
    ≡ vintages_passed y i ++ ((turn y (first_year + i) ∷ []) ++ map (turn y) (rising (first_year + i + 1) (years - (i + 1))))
vintages_split y i h =
    ap (map (turn y)) (rising_split first_year i years h)
    ∙ map_on y (rising first_year i) ((first_year + i) ∷ rising (first_year + i + 1) (years - (i + 1)))

years_on : (i : ℕ) → years_passed (i + 1) ≡ years_passed i ++ turns_of (first_year + i)
unfolding turns
years_on i =
    ap (λ (ys : List ℕ). turns ys model_years) (rising_on first_year i)
    ∙ turns_on model_years (rising first_year i) ((first_year + i) ∷ [])
    ∙ ap (λ (ts : List Turn). years_passed i ++ ts) (append_none (turns_of (first_year + i)))

years_split :
    (i : ℕ) → i < years
    → all_turns
    ≡ years_passed i ++ (turns_of (first_year + i) ++ turns (rising (first_year + i + 1) (years - (i + 1))) model_years)
unfolding turns
years_split i h =
    ap (λ (ys : List ℕ). turns ys model_years) (rising_split first_year i years h)
    ∙ turns_on model_years (rising first_year i) ((first_year + i) ∷ rising (first_year + i + 1) (years - (i + 1)))

-- ---- the two loops: b is the book at the start
pub record AtVintage (b : Book) (c : Cover) (y i : ℕ) (d : Book) (n : ℕ) : Type 0 where
  pub passed : i ≤ years
  pub ok : Payable b c (turns_of y)
  pub paid : Paid b c (vintages_passed y i) d n

pub record AtYear (b : Book) (c : Cover) (i : ℕ) (d : Book) (n : ℕ) : Type 0 where
  pub passed : i ≤ years
  pub ok : Payable b c all_turns
  pub paid : Paid b c (years_passed i) d n

module _ {b : Book} {c : Cover} where
  pub no_vintage : {y : ℕ} → Payable b c (turns_of y) → AtVintage b c y 0 b 0
  unfolding rising
  no_vintage h = record { passed = omega arith; ok = h; paid = paid_none }

  pub no_year : Payable b c all_turns → AtYear b c 0 b 0
  unfolding rising turns
  no_year h = record { passed = omega arith; ok = h; paid = paid_none }

  module _ {y v n m : ℕ} {d e : Book} (h : AtVintage b c y (v - first_year) d n) (f : first_year ≤ v) (t : v ≤ last_year) where
    pub next_vintage : Paid d c (turn y v ∷ []) e m → AtVintage b c y (v + 1 - first_year) e (n + m)
    next_vintage p =
        rw (counted_on v f)
        (record { passed = omega arith; ok = h.ok; paid = rw (vintages_on y (v - first_year), counted v f) (paid_more h.ok h.paid p) })

    pub vintage_fits : Paid d c (turn y v ∷ []) e m → n + m < 2 ^ 64
    vintage_fits p =
        let i = v - first_year in
        let later = λ (z : ℕ). map (turn y) (rising (z + 1) (years - (i + 1))) in
        let split : turns_of y ≡ vintages_passed y i ++ ((turn y v ∷ []) ++ later v) =
        subst (λ (z : ℕ). turns_of y ≡ vintages_passed y i ++ ((turn y z ∷ []) ++ later z)) (counted v f)
        (vintages_split y i (omega arith)) in
        paid_small h.ok (paid_more h.ok h.paid p) (later v)
        (subst (Payable b c) (split ∙ sym (append_assoc (vintages_passed y i) (turn y v ∷ []) (later v))) h.ok)

  module _ {y n : ℕ} {d : Book} (h : AtYear b c (y - first_year) d n) (f : first_year ≤ y) (t : y ≤ last_year) where
    abbrev later : ℕ → List Turn
    later z = turns (rising (z + 1) (years - (y - first_year + 1))) model_years

    split : all_turns ≡ years_passed (y - first_year) ++ (turns_of y ++ later y)
    split =
        subst (λ (z : ℕ). all_turns ≡ years_passed (y - first_year) ++ (turns_of z ++ later z)) (counted y f)
        (years_split (y - first_year) (omega arith))

    pub year_payable : Payable d c (turns_of y)
    year_payable = payable_next h.ok h.paid (turns_of y) (later y) (subst (Payable b c) split h.ok)

    pub next_year : {m : ℕ} {e : Book} → Paid d c (turns_of y) e m → AtYear b c (y + 1 - first_year) e (n + m)
    next_year p =
        rw (counted_on y f)
        (record { passed = omega arith; ok = h.ok; paid = rw (years_on (y - first_year), counted y f) (paid_more h.ok h.paid p) })

    pub year_fits : {m : ℕ} {e : Book} → Paid d c (turns_of y) e m → n + m < 2 ^ 64
    year_fits p =
        paid_small h.ok (paid_more h.ok h.paid p) (later y)
        (subst (Payable b c) (split ∙ sym (append_assoc (years_passed (y - first_year)) (turns_of y) (later y))) h.ok)

-- a place by its key: of the cover's cell, and of a year
pub named : (p : Place) (c : Cover) (y : ℕ) → key_of p ≡ key c.maker c.set y → (cell_of p ≡ c) × (p.year ≡ y)
named p c y e = (ap (λ (k : Key). record { maker = k.maker; set = k.set }) e, ap (λ (k : Key). k.year) e)

-- ---- a whole cover
pub cover_payable : (b : Book) (c : Cover) → Sized b → Coverable b c → moved_by b c < 2 ^ 64 → Payable b c all_turns
unfolding coverage
cover_payable b c z g h =
    record {
      maker = g.maker;
      set = g.set;
      upto = (sound_is b g.is_sound).high;
      lots = z.lots;
      shortages = z.shortages;
      small = h;
    }
