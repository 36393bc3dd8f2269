-- A cell's figures added over the years that have a property, and what a list of its applications, accepted or not, does to such
-- a sum. Of an application only what it lowers is used, not what it was meant for: so a cover's own list is one of them.
use Prim.Native.Nat.{ℕ, ◌+◌, ◌-◌, ◌*◌, ◌≤◌, ◌<◌}
use mathlib.Core.Bool.{Bool, true}
use mathlib.Core.List.{List, [], ◌∷◌, map}
use mathlib.Core.Logic.{◌≢◌}
use mathlib.Core.Path.{◌≡◌, refl, ap}
use native.Mathlib.Omega.{arith}
use lib.ListN.{length}
use Rattle.figuring.specs.Years.{first_year}
use Rattle.figuring.specs.Life.{open_short}
use Rattle.figuring.specs.Tables.{Table}
use Rattle.figuring.proofs.LifeLaws.{Live, OpenShort}
use Rattle.book.specs.Refusals.{Answered}
use Rattle.book.specs.Sizes.{makers, sets, years, places, shortage_most}
use Rattle.book.specs.Below.{only}
use Rattle.book.specs.Ledger.{key, In, figure_at, lower}
use Rattle.book.specs.Postings.{application_done}
use Rattle.book.specs.Coverage.{Payment}
use Rattle.book.specs.Covering.{application, in_book}
use Rattle.book.specs.Rules.{Request, own_rows, posted, done}
use Rattle.book.specs.Demand3.{is_accepted, book_after}
use Rattle.book.specs.Companions.{Sized}
use Rattle.book.specs.OldestFirst.{sum_over, open_shortages, as_calls, covered_by}
use Rattle.book.specs.declared.ledger.Book.{Book}
use Rattle.book.specs.declared.kinds.Call.{Call}
use Rattle.book.specs.declared.kinds.Cover.{Cover}
use Rattle.book.proofs.BelowLaws.{only_most, only_same, only_other, only_less}
use Rattle.book.proofs.TotalLaws.{sum_falls, sum_small, sum_change}
use Rattle.book.proofs.TableLaws.{by_verdict}
use Rattle.book.proofs.SoundnessLaws.{Sound}
use Rattle.book.proofs.MoveFacts.{applicable}
use Rattle.book.proofs.KeptSound.{keeps_sized}
use Rattle.book.proofs.CoverTurns.{cell_lower}

-- ---- one figure lowered: where it counts, the sum falls by as much
module _ (has : ℕ → Bool) (l : List ℕ) (c : Cover) (a q : ℕ) where
  abbrev term : List ℕ → ℕ → ℕ
  term f i = only (has (first_year + i)) (figure_at f (key c.maker c.set (first_year + i)))

  abbrev lowered : List ℕ
  lowered = lower l (key c.maker c.set a) q

  sum_lower :
      length l ≡ places → In (key c.maker c.set a) → q ≤ figure_at l (key c.maker c.set a)
      → sum_over has lowered c + only (has a) q ≡ sum_over has l c
  unfolding sum_over
  sum_lower size i b =
      let e : first_year + (a - first_year) ≡ a = omega arith in
      omega (arith, sum_change (term l) (term lowered) years (a - first_year) (omega arith) elsewhere, here e)
    where
      elsewhere : (x : ℕ) → x < years → x ≢ a - first_year → term lowered x ≡ term l x
      elsewhere x hx ne =
          ap (only (has (first_year + x)))
          (omega (
            arith,
            cell_lower l c.maker c.set a (first_year + x) q size i (omega arith) b,
            only_other a (first_year + x) q (omega arith),
          ))

      here : first_year + (a - first_year) ≡ a → term lowered (a - first_year) + only (has a) q ≡ term l (a - first_year)
      here e =
          rw e
          (only_less (has a) (figure_at lowered (key c.maker c.set a)) q (figure_at l (key c.maker c.set a))
          (omega (arith, cell_lower l c.maker c.set a a q size i i b, only_same a a q refl)))

-- ---- one sum is at most another where each of its terms is
pub sum_most :
    (has has' : ℕ → Bool) (l l' : List ℕ) (c : Cover)
    → ((y : ℕ) → first_year ≤ y → y < first_year + years
    → only (has y) (figure_at l (key c.maker c.set y)) ≤ only (has' y) (figure_at l' (key c.maker c.set y)))
    → sum_over has l c ≤ sum_over has' l' c
unfolding sum_over
sum_most has has' l l' c h =
    sum_falls (λ i. only (has' (first_year + i)) (figure_at l' (key c.maker c.set (first_year + i))))
    (λ i. only (has (first_year + i)) (figure_at l (key c.maker c.set (first_year + i)))) years
    (λ i hi. h (first_year + i) (omega arith) (omega arith))

-- a cell's open shortages in a sound book
pub shortages_small :
    (b : Book) (c : Cover) → c.maker < makers → c.set < sets → Sound b → open_shortages b c ≤ years * shortage_most
unfolding sum_over
shortages_small b c hm hs h =
    sum_small (λ i. (in_book b c).shorts (first_year + i)) years shortage_most
    (λ i hi.
    let k = key c.maker c.set (first_year + i) in
    omega (
      arith,
      only_most (open_short b.open_year (first_year + i)) (figure_at b.shortages k),
      h.shortage k (omega arith),
    ))

-- ---- one application, accepted or not
module _ (t : Table) (b : Book) (c : Cover) (x : Payment) where
  abbrev call : Call
  call = Call.Apply (application c x)

  -- its Mg, under a condition, if the answer accepts it
  abbrev taken : Answered → Bool → ℕ
  taken a h = only (is_accepted a) (only h x.mg)

  lots_step :
      (has : ℕ → Bool) → Sized b
      → sum_over has (posted t b call).book.lots c + taken (posted t b call).answer (has x.vintage)
      ≡ sum_over has b.lots c
  unfolding is_accepted only own_rows done application_done
  lots_step has z =
      by_verdict t b call
      (λ q. sum_over has q.book.lots c + taken q.answer (has x.vintage) ≡ sum_over has b.lots c)
      (λ r. omega arith)
      (λ s e.
      let g = applicable b (application c x) s e in
      sum_lower has b.lots c x.vintage x.mg z.lots g.payer.lot g.payer.enough)

  shortages_step :
      (has : ℕ → Bool) → Sized b
      → sum_over has (posted t b call).book.shortages c + taken (posted t b call).answer (has x.year)
      ≡ sum_over has b.shortages c
  unfolding is_accepted only own_rows done application_done
  shortages_step has z =
      by_verdict t b call
      (λ q. sum_over has q.book.shortages c + taken q.answer (has x.year) ≡ sum_over has b.shortages c)
      (λ r. omega arith)
      (λ s e.
      let g = applicable b (application c x) s e in
      sum_lower has b.shortages c x.year x.mg z.shortages g.covered g.enough)

  -- an accepted one is of a live vintage, so two tests that live vintages pass alike count it alike
  accepted_live :
      (has has' : ℕ → Bool) → ((v : ℕ) → Live b.open_year v → has v ≡ has' v)
      → taken (posted t b call).answer (has x.vintage) ≡ taken (posted t b call).answer (has' x.vintage)
  unfolding is_accepted only own_rows
  accepted_live has has' h =
      by_verdict t b call (λ q. taken q.answer (has x.vintage) ≡ taken q.answer (has' x.vintage)) (λ r. refl)
      (λ s e. rw (h x.vintage (applicable b (application c x) s e).payer.live))

  -- and of the year of an open shortage
  accepted_open :
      (has : ℕ → Bool) → ((y : ℕ) → OpenShort b.open_year y → has y ≡ true)
      → taken (posted t b call).answer (has x.year) ≡ taken (posted t b call).answer true
  unfolding is_accepted only own_rows
  accepted_open has h =
      by_verdict t b call (λ q. taken q.answer (has x.year) ≡ taken q.answer true) (λ r. refl)
      (λ s e. rw (h x.year (applicable b (application c x) s e).open_year))

  year_stays : (posted t b call).book.open_year ≡ b.open_year
  unfolding done application_done
  year_stays = by_verdict t b call (λ q. q.book.open_year ≡ b.open_year) (λ r. refl) (λ s e. refl)

-- ---- a list of them
module _ (t : Table) (c : Cover) where
  abbrev calls : List Payment → List Request
  calls xs = as_calls t (map (application c) xs)

  abbrev next : Book → Payment → Book
  next b x = (posted t b (Call.Apply (application c x))).book

  next_sized : (b : Book) (x : Payment) → Sized b → Sized (next b x)
  next_sized b x = keeps_sized t b (Call.Apply (application c x))

  -- a sum of lots only falls
  pub lots_fall :
      (has : ℕ → Bool) (xs : List Payment) (b : Book) → Sized b
      → sum_over has (book_after b (calls xs)).lots c ≤ sum_over has b.lots c
  unfolding book_after
  lots_fall has [] b z = omega arith
  lots_fall has (x ∷ xs) b z =
      omega (arith, lots_fall has xs (next b x) (next_sized b x z), lots_step t b c x has z)

  -- a sum that counts every live lot falls by just what the accepted ones cover
  pub lots_conserved :
      (has : ℕ → Bool) (xs : List Payment) (b : Book) → Sized b
      → ((v : ℕ) → Live b.open_year v → has v ≡ true)
      → sum_over has (book_after b (calls xs)).lots c + covered_by t b (map (application c) xs) ≡ sum_over has b.lots c
  unfolding book_after covered_by only
  lots_conserved has [] b z h = omega arith
  lots_conserved has (x ∷ xs) b z h =
      omega (
        arith,
        lots_conserved has xs (next b x) (next_sized b x z) (rw (year_stays t b c x) h),
        lots_step t b c x has z,
        accepted_live t b c x has (λ v. true) h,
      )

  -- two sums that count the same live lots fall alike
  pub lots_alike :
      (has has' : ℕ → Bool) (xs : List Payment) (b : Book) → Sized b
      → ((v : ℕ) → Live b.open_year v → has v ≡ has' v)
      → sum_over has (book_after b (calls xs)).lots c + sum_over has' b.lots c
      ≡ sum_over has b.lots c + sum_over has' (book_after b (calls xs)).lots c
  unfolding book_after
  lots_alike has has' [] b z h = refl
  lots_alike has has' (x ∷ xs) b z h =
      omega (
        arith,
        lots_alike has has' xs (next b x) (next_sized b x z) (rw (year_stays t b c x) h),
        lots_step t b c x has z,
        lots_step t b c x has' z,
        accepted_live t b c x has has' h,
      )

  -- a sum that counts every open shortage falls by as much
  pub shortages_conserved :
      (has : ℕ → Bool) (xs : List Payment) (b : Book) → Sized b
      → ((y : ℕ) → OpenShort b.open_year y → has y ≡ true)
      → sum_over has (book_after b (calls xs)).shortages c + covered_by t b (map (application c) xs)
      ≡ sum_over has b.shortages c
  unfolding book_after covered_by only
  shortages_conserved has [] b z h = omega arith
  shortages_conserved has (x ∷ xs) b z h =
      omega (
        arith,
        shortages_conserved has xs (next b x) (next_sized b x z) (rw (year_stays t b c x) h),
        shortages_step t b c x has z,
        accepted_open t b c x has h,
      )
