-- `Agree`, the relation between a book and accounts that demand 3 rests on. It is ties, each over just the list of the book and
-- the columns of the accounts that it holds together; here too is what each movement does to a tie.
use Prim.Native.Nat.{ℕ, ◌+◌, ◌-◌, ◌*◌, ◌≤◌, ◌<◌}
use mathlib.Core.List.{List}
use mathlib.Core.Path.{◌≡◌, sym, ◌∙◌, ap}
use native.Mathlib.Omega.{arith}
use native.Mathlib.Decide.{ℕ_discrete}
use borrow.Author.Tests.{eq-eqb, ne_eqb}
use lib.ListN.{set as store, length, replicate, length-set, length-replicate}
use lib.IntN.{ℤ, pos}
use Rattle.figuring.specs.Years.{first_year, last_year}
use Rattle.book.specs.Sizes.{makers, sets, cells, families, places, all_parts}
use Rattle.book.specs.Below.{only, sum_below_ℤ}
use Rattle.book.specs.Ledger.{Key, key, In, cell, figure_at, lower, raise, part_at, cell_sum}
use Rattle.book.specs.Postings.{netted, moved}
use Rattle.book.specs.Accounts.{Accounts, Column, bought, sold, applied, retired, covered}
use Rattle.book.specs.Accounts.{same_key, put, in_year, with_mg}
use Rattle.book.specs.Demand3.{Reconciled}
use Rattle.book.specs.declared.ledger.Book.{Book}
use Rattle.book.proofs.LedgerLaws.{at_raise, at_lower, length_raise, length_lower, netted_length, netted_in, netted_out, same_cell, other_year, part_stored, no_part}
use Rattle.book.proofs.BelowLaws.{sum_ℤ_same}

-- n more at k, and the rest as before
abbrev plus : Key → ℕ → (Key → ℕ) → Key → ℕ
plus k n f j = f j + only (same_key k j) n

-- What stands at each key is what was netted there and what came, less what went. Stated as a sum, so that no difference is
-- needed. What a list begins with counts as what came, so from the open year Y on nothing was netted yet, whatever the book.
pub record Tied (Y : ℕ) (l : List ℕ) (net came went : Key → ℕ) : Type 0 where
  pub size : length l ≡ places
  pub balance : (k : Key) → In k → figure_at l k + went k ≡ net k + came k
  pub ahead : (k : Key) → In k → Y ≤ k.year → net k ≡ 0

module _ {Y : ℕ} {l : List ℕ} {net came went : Key → ℕ} (h : Tied Y l net came went) where
  -- the columns may be written otherwise
  pub tied_as :
      (came' went' : Key → ℕ) → ((k : Key) → came' k ≡ came k) → ((k : Key) → went' k ≡ went k)
      → Tied Y l net came' went'
  tied_as came' went' p q =
      record { size = h.size; balance = λ k i. omega (arith, h.balance k i, p k, q k); ahead = h.ahead }

  pub tied_out : (k : Key) (n : ℕ) → In k → n ≤ figure_at l k → Tied Y (lower l k n) net came (plus k n went)
  tied_out k n i b =
      record {
        size = simp length_lower h.size;
        balance = λ j ij. omega (arith, h.balance j ij, at_lower l k j n h.size i ij b);
        ahead = h.ahead;
      }

  pub tied_in : (k : Key) (n : ℕ) → In k → Tied Y (raise l k n) net (plus k n came) went
  tied_in k n i =
      record {
        size = simp length_raise h.size;
        balance = λ j ij. omega (arith, h.balance j ij, at_raise l k j n h.size i ij);
        ahead = h.ahead;
      }

  -- the open year closes: the book writes v at each cell, the accounts u at each key, over a figure that was 0
  pub tied_net :
      (v : ℕ → ℕ) (u : Key → ℕ) → first_year ≤ Y → Y ≤ last_year
      → ((k : Key) → In k → k.year ≡ Y → u k ≡ v (cell k.maker k.set))
      → ((k : Key) → In k → k.year ≡ Y → figure_at l k ≡ 0)
      → Tied (Y + 1) (netted (Y - first_year) v cells l) (in_year Y u net) came went
  tied_net v u low high same zero =
      record {
        size = netted_length (Y - first_year) v cells l ∙ h.size;
        balance = λ k i. go k i (ℕ_discrete k.year Y);
        ahead = λ k i b. rw (ne_eqb k.year Y (omega arith)) (h.ahead k i (omega arith));
      }
    where
      go :
          (k : Key) → In k → Dec (k.year ≡ Y)
          → figure_at (netted (Y - first_year) v cells l) k + went k ≡ in_year Y u net k + came k
      go k i (yes p) =
          rw (eq-eqb k.year Y p, same k i p, netted_in Y v l k h.size i p)
          (omega (arith, h.balance k i, h.ahead k i (omega arith), zero k i p))
      go k i (no p) = rw (ne_eqb k.year Y p, netted_out Y v l k i low high p) (h.balance k i)

-- the families' parts of the open year Y, as the book and the accounts have them; no later year has one
pub record Families (Y : ℕ) (parts : List ℤ) (last : Key → ℕ → ℤ) : Type 0 where
  pub size : length parts ≡ all_parts
  pub current :
      (m s f : ℕ) → m < makers → s < sets → f < families → last (key m s Y) f ≡ part_at parts (cell m s) f
  pub later : (k : Key) (f : ℕ) → Y < k.year → last k f ≡ pos 0

module _ {Y : ℕ} {parts : List ℤ} {last : Key → ℕ → ℤ} (h : Families Y parts last) where
  -- a filing or an amendment: whatever stood there
  pub families_put :
      (m s f y : ℕ) (z : ℤ) → m < makers → s < sets → f < families → y ≡ Y
      → Families Y (store parts (cell m s * families + f) z) (put (key m s y) f z last)
  families_put m s f y z hm hs hf e =
      record {
        size = simp length-set h.size;
        current = λ n t g hn ht hg.
            rw (h.current n t g hn ht hg, same_cell m s n t y Y hs ht e)
            (sym (part_stored parts (cell m s) f (cell n t) g z hf hg (omega (arith, h.size))));
        later = λ k g b. rw (other_year (key m s y) k (omega arith)) (h.later k g b);
      }

  -- the next year begins with no parts
  pub families_clear : Families (Y + 1) (replicate all_parts (pos 0)) last
  families_clear =
      record {
        size = length-replicate all_parts (pos 0);
        current = λ m s f hm hs hf. h.later (key m s (Y + 1)) f (omega arith) ∙ sym (no_part (cell m s) f);
        later = λ k f b. h.later k f (omega arith);
      }

  -- the sum of any key of the open year
  pub families_sum : (k : Key) → In k → k.year ≡ Y → sum_below_ℤ families (last k) ≡ cell_sum parts (cell k.maker k.set)
  unfolding cell_sum
  families_sum k i e =
      let q : k ≡ key k.maker k.set Y = λ j. record { maker = k.maker; set = k.set; year = e j } in
      sum_ℤ_same (part_at parts (cell k.maker k.set)) (last k) families (λ f hf.
      ap (λ (j : Key). last j f) q ∙ h.current k.maker k.set f i.maker i.set hf)

-- ---- a book and accounts that agree. Soundness is no part of it: an accepted call shows it by the head.
pub record Agree (b : Book) (a : Accounts) : Type 0 where
  pub year : a.open_year ≡ b.open_year
  pub families : Families b.open_year b.parts a.last
  pub lots :
      Tied b.open_year b.lots a.earned (λ k. a.opening.lot k + a.mg bought k)
      (λ k. a.mg sold k + a.mg applied k + a.mg retired k)
  pub shortages : Tied b.open_year b.shortages a.shortfall a.opening.shortage (a.mg covered)

-- a call that moves Mg leaves the parts, what was netted and what the list began with
pub agree_moved :
    {b : Book} {a : Accounts} {l s : List ℕ} (g : Column → Key → ℕ) → Agree b a
    → Tied b.open_year l a.earned (λ k. a.opening.lot k + g bought k)
    (λ k. g sold k + g applied k + g retired k)
    → Tied b.open_year s a.shortfall a.opening.shortage (g covered)
    → Agree (moved b l s) (with_mg a g)
agree_moved g h lots shortages =
    record { year = h.year; families = h.families; lots = lots; shortages = shortages }

pub agree_reconciled : (b : Book) (a : Accounts) → Agree b a → (k : Key) → In k → Reconciled b a k
agree_reconciled b a h k i =
    record { lot = omega (arith, h.lots.balance k i); shortage = omega (arith, h.shortages.balance k i) }
