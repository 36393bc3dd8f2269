-- What a turn of a cover does by the rule it does in the book's lists; and the payments of turns are applications that are
-- taken, each where the one before left the book.
use Prim.Native.Nat.{ℕ, zero, suc, ◌+◌, ◌-◌, ◌≤◌, ◌<◌}
use mathlib.Core.Bool.{Bool, true, false, not}
use mathlib.Core.List.{List, [], ◌∷◌, map}
use mathlib.Core.Path.{◌≡◌, refl, sym, ◌∙◌, ap, subst}
use native.Mathlib.Omega.{arith}
use borrow.Author.Tests.{eq-eqb, le-ltb, lt-leb, ne_eqb}
use lib.Dec.{eqb}
use lib.ListN.{get_or, set as store, length}
use lib.Seq.{set-get_or}
use Rattle.figuring.specs.Life.{live, open_short}
use Rattle.book.specs.Sizes.{makers, sets, places, all_closed}
use Rattle.book.specs.Below.{only}
use Rattle.book.specs.Accounts.{same_key}
use Rattle.book.specs.Ledger.{Key, key, In, place, figure_at, lower}
use Rattle.book.specs.Soundness.{sound}
use Rattle.book.specs.Refusals.{first_refusal}
use Rattle.book.specs.Postings.{applied_lot, covered_shortage, application_done}
use Rattle.book.specs.Coverage.{Standing, Turn, turn, Payment, amount, after, paying, payments}
use Rattle.book.specs.Covering.{application, in_lists, in_book, all_lowered}
use Rattle.book.specs.Rules.{apply_rows}
use Rattle.book.specs.declared.ledger.Book.{Book}
use Rattle.book.specs.declared.kinds.Application.{Application}
use Rattle.book.specs.declared.kinds.Cover.{Cover}
use Rattle.std.specs.Prelude.{Ok}
use Rattle.book.proofs.BelowLaws.{only_most, only_some}
use Rattle.book.proofs.LedgerLaws.{at_lower, length_lower}
use Rattle.book.proofs.SoundnessLaws.{is_sound}
use Rattle.book.proofs.MoveFacts.{applicable, live_in, open_in}
use Rattle.book.proofs.MovingLaws.{apply_sound}
use Rattle.book.proofs.TurnLaws.{still, left_after}

-- ---- a figure of a cell lowered
same_year : (m s a v : ℕ) → same_key (key m s a) (key m s v) ≡ eqb a v
unfolding same_key
same_year m s a v = rw (eq-eqb m m refl, eq-eqb s s refl)

pub cell_lower :
    (l : List ℕ) (m s a v q : ℕ) → length l ≡ places → In (key m s a) → In (key m s v) → q ≤ figure_at l (key m s a)
    → figure_at (lower l (key m s a) q) (key m s v) + only (eqb a v) q ≡ figure_at l (key m s v)
cell_lower l m s a v q size i j b = rw (same_year m s a v) at (at_lower l (key m s a) (key m s v) q size i j b)

pub lower_none : (l : List ℕ) (k : Key) → lower l k 0 ≡ l
unfolding lower figure_at
lower_none l k =
    let e : get_or l (place k) 0 - 0 ≡ get_or l (place k) 0 = omega arith in
    ap (λ (n : ℕ). store l (place k) n) e ∙ set-get_or l (place k) 0

-- the same by the rule and in the list, where the figure counts
lowered :
    (m s : ℕ) (l : List ℕ) (a q v f : ℕ) (t : Bool) → length l ≡ places → In (key m s a) → q ≤ figure_at l (key m s a)
    → (t ≡ true → In (key m s v)) → f ≡ only t (figure_at l (key m s v))
    → f - only (eqb a v) q ≡ only t (figure_at (lower l (key m s a) q) (key m s v))
unfolding only
lowered m s l a q v f true size i b j e = omega (arith, cell_lower l m s a v q size i (j refl) b)
lowered m s l a q v f false size i b j e = omega arith

-- ---- a turn pays no more than the lot and the shortage have
module _ (Y : ℕ) (c : Cover) (l s : List ℕ) (v y n : ℕ) (e : n ≡ amount (in_lists Y l s c) (turn y v)) where
  pub from_lot : n ≤ figure_at l (key c.maker c.set v)
  from_lot = omega (arith, only_most (live Y v) (figure_at l (key c.maker c.set v)))

  pub from_shortage : n ≤ figure_at s (key c.maker c.set y)
  from_shortage = omega (arith, only_most (open_short Y y) (figure_at s (key c.maker c.set y)))

module _ (Y : ℕ) (c : Cover) (l s : List ℕ) (hm : c.maker < makers) (hs : c.set < sets) (upto : Y ≤ all_closed) where
  module _
      (v y n : ℕ) (iv : In (key c.maker c.set v)) (iy : In (key c.maker c.set y))
      (e : n ≡ amount (in_lists Y l s c) (turn y v))
    where
      -- what stands after it is what stands in the lists after it
      pub turn_stands :
          length l ≡ places → length s ≡ places
          → after (in_lists Y l s c) (turn y v)
          ≡ in_lists Y (lower l (key c.maker c.set v) n) (lower s (key c.maker c.set y) n) c
      unfolding after
      turn_stands hl ht = rw (← e) (λ i. record { lots = λ w. lots w i; shorts = λ w. shorts w i })
        where
          lots :
              (w : ℕ)
              → only (live Y w) (figure_at l (key c.maker c.set w)) - only (eqb v w) n
              ≡ only (live Y w) (figure_at (lower l (key c.maker c.set v) n) (key c.maker c.set w))
          lots w =
              lowered c.maker c.set l v n w _ (live Y w) hl iv (from_lot Y c l s v y n e)
              (λ t. live_in Y (key c.maker c.set w) upto hm hs (ap not t)) refl

          shorts :
              (w : ℕ)
              → only (open_short Y w) (figure_at s (key c.maker c.set w)) - only (eqb y w) n
              ≡ only (open_short Y w) (figure_at (lower s (key c.maker c.set y) n) (key c.maker c.set w))
          shorts w =
              lowered c.maker c.set s y n w _ (open_short Y w) ht iy (from_shortage Y c l s v y n e)
              (λ t. open_in Y (key c.maker c.set w) upto hm hs (ap not t)) refl

-- ---- turns one after the other: what stands after them is what stands in the lists once their payments are made
module _ (Y : ℕ) (c : Cover) (hm : c.maker < makers) (hs : c.set < sets) (upto : Y ≤ all_closed) where
  pub turns_stand :
      (ts : List Turn) (l s : List ℕ) → length l ≡ places → length s ≡ places
      → in_lists Y (all_lowered applied_lot (map (application c) (payments (in_lists Y l s c) ts)) l)
      (all_lowered covered_shortage (map (application c) (payments (in_lists Y l s c) ts)) s) c
      ≡ left_after (in_lists Y l s c) ts
  unfolding payments left_after all_lowered
  turns_stand [] l s zl zs = refl
  turns_stand (t ∷ ts) l s zl zs = go (amount h t) refl (turns_stand ts)
    where
      h : Standing
      h = in_lists Y l s c

      -- the payments that follow, made in these lists, leave what stands after the turns
      Stand : List ℕ → List ℕ → Standing → Type 0
      Stand l s h =
          in_lists Y (all_lowered applied_lot (map (application c) (payments h ts)) l)
          (all_lowered covered_shortage (map (application c) (payments h ts)) s) c
          ≡ left_after h ts

      go :
          (n : ℕ) → amount h t ≡ n
          → ((l s : List ℕ) → length l ≡ places → length s ≡ places → Stand l s (in_lists Y l s c))
          → in_lists Y (all_lowered applied_lot (map (application c) (paying t n (payments (after h t) ts))) l)
          (all_lowered covered_shortage (map (application c) (paying t n (payments (after h t) ts))) s) c
          ≡ left_after (after h t) ts
      go zero e r = subst (Stand l s) (sym (still h t e)) (r l s zl zs)
      go (suc n) e r =
          let kv = key c.maker c.set t.vintage in
          let ky = key c.maker c.set t.year in
          let lv = only_some (live Y t.vintage) (figure_at l kv) n (omega arith) in
          let oy = only_some (open_short Y t.year) (figure_at s ky) n (omega arith) in
          let w =
          turn_stands Y c l s hm hs upto t.vintage t.year (suc n) (live_in Y kv upto hm hs (ap not lv.0))
          (open_in Y ky upto hm hs (ap not oy.0)) (sym e) zl zs in
          subst (Stand (lower l kv (suc n)) (lower s ky (suc n))) (sym w)
          (r (lower l kv (suc n)) (lower s ky (suc n)) (length_lower _ _ _ ∙ zl) (length_lower _ _ _ ∙ zs))

-- ---- applications that are taken, each where the one before left the book
abbrev pub AllTaken : Book → List Application → Type 0
AllTaken b [] = Unit {0}
AllTaken b (p ∷ ps) =
    (sound b ≡ true)
    × (first_refusal (apply_rows b.open_year b.lots b.shortages p) ≡ Ok tt)
    × AllTaken (application_done b p).book ps

module _ (c : Cover) (hm : c.maker < makers) (hs : c.set < sets) where
  abbrev paid : Turn → ℕ → Application
  paid t n = application c (record { vintage = t.vintage; year = t.year; mg = n })

  -- a turn's amount above 0 is accepted as an application
  accepts :
      (b : Book) (t : Turn) (n : ℕ) → amount (in_book b c) t ≡ suc n
      → first_refusal (apply_rows b.open_year b.lots b.shortages (paid t (suc n))) ≡ Ok tt
  unfolding apply_rows
  accepts b t n e =
      let lot = figure_at b.lots (key c.maker c.set t.vintage) in
      let short = figure_at b.shortages (key c.maker c.set t.year) in
      let l = only_some (live b.open_year t.vintage) lot n (omega arith) in
      let o = only_some (open_short b.open_year t.year) short n (omega arith) in
      rw (
        lt-leb makers c.maker hm,
        lt-leb sets c.set hs,
        l.0,
        ne_eqb (suc n) 0 (omega arith),
        o.0,
        ne_eqb short 0 (omega arith),
        le-ltb lot (suc n) (omega arith),
        le-ltb short (suc n) (omega arith),
      )

  pub all_taken :
      (ts : List Turn) (b : Book) → length b.lots ≡ places → length b.shortages ≡ places → sound b ≡ true
      → AllTaken b (map (application c) (payments (in_book b c) ts))
  unfolding payments application_done
  all_taken [] b zl zs so = tt
  all_taken (t ∷ ts) b zl zs so = go (amount (in_book b c) t) refl (all_taken ts)
    where
      go :
          (n : ℕ) → amount (in_book b c) t ≡ n
          → ((d : Book) → length d.lots ≡ places → length d.shortages ≡ places → sound d ≡ true
          → AllTaken d (map (application c) (payments (in_book d c) ts)))
          → AllTaken b (map (application c) (paying t n (payments (after (in_book b c) t) ts)))
      go zero e r =
          subst (λ (h : Standing). AllTaken b (map (application c) (payments h ts))) (sym (still (in_book b c) t e))
          (r b zl zs so)
      go (suc n) e r =
          let p = paid t (suc n) in
          let a = accepts b t n e in
          let g = applicable b p so a in
          let d = (application_done b p).book in
          let w : after (in_book b c) t ≡ in_book d c =
          turn_stands b.open_year c b.lots b.shortages hm hs g.payer.sound.high t.vintage t.year
          (suc n) g.payer.lot g.covered (sym e) zl zs in (
            so,
            a,
            subst (λ (h : Standing). AllTaken d (map (application c) (payments h ts))) (sym w)
                (r d (length_lower _ _ _ ∙ zl) (length_lower _ _ _ ∙ zs) (is_sound d (apply_sound b p zl zs g))),
          )

-- ---- no payment is of another than a live vintage and an open shortage
pub record Alive (Y : ℕ) (h : Standing) : Type 0 where
  pub lot : (v : ℕ) → 0 < h.lots v → live Y v ≡ true
  pub short : (y : ℕ) → 0 < h.shorts y → open_short Y y ≡ true

abbrev pub IsAlive : ℕ → Payment → Type 0
IsAlive Y p = (live Y p.vintage ≡ true) × (open_short Y p.year ≡ true)

abbrev pub AllAlive : ℕ → List Payment → Type 0
AllAlive Y [] = Unit {0}
AllAlive Y (p ∷ ps) = IsAlive Y p × AllAlive Y ps

alive_after : (Y : ℕ) (h : Standing) (t : Turn) → Alive Y h → Alive Y (after h t)
unfolding after
alive_after Y h t a = record { lot = λ v o. a.lot v (omega arith); short = λ y o. a.short y (omega arith) }

pub payments_alive : (Y : ℕ) (ts : List Turn) (h : Standing) → Alive Y h → AllAlive Y (payments h ts)
unfolding payments
payments_alive Y [] h a = tt
payments_alive Y (t ∷ ts) h a = go (amount h t) refl (payments_alive Y ts (after h t) (alive_after Y h t a))
  where
    go : (n : ℕ) → amount h t ≡ n → AllAlive Y (payments (after h t) ts) → AllAlive Y (paying t n (payments (after h t) ts))
    go zero e r = r
    go (suc n) e r = ((a.lot t.vintage (omega arith), a.short t.year (omega arith)), r)

pub lists_alive : (Y : ℕ) (l s : List ℕ) (c : Cover) → Alive Y (in_lists Y l s c)
lists_alive Y l s c =
    record {
      lot = λ v o. (only_some (live Y v) _ 0 o).0;
      short = λ y o. (only_some (open_short Y y) _ 0 o).0;
    }
