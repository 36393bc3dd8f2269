-- The longest text of a filing or an amendment that some book accepts: its figures are within their limits, so they have few digits.
use Prim.Native.Nat.{ℕ, suc, ◌^◌, ◌<◌, ◌≤◌}
use mathlib.Core.Bool.{Bool, true, false, cond}
use mathlib.Core.Path.{◌≡◌, refl, sym, ap}
use native.Mathlib.Omega.{arith}
use lib.ListN.{length}
use Rattle.figuring.proofs.TableLaws.{use_known}
use Rattle.figuring.proofs.EditionLaws.{edition_known}
use Rattle.figuring.proofs.PartLaws.{Limited, limited}
use Rattle.figuring.specs.Tables.{Table}
use Rattle.book.specs.declared.ledger.Book.{Book}
use Rattle.book.specs.declared.kinds.Call.{Call}
use Rattle.book.specs.declared.kinds.Filing.{Filing}
use Rattle.book.specs.declared.kinds.Purpose.{Purpose}
use Rattle.book.specs.Limits.{large_limits, small_limits, limits_of}
use Rattle.book.specs.Filings.{with_purpose}
use Rattle.book.specs.declared.kinds.Limits.{Limits}
use Rattle.book.proofs.FileFacts.{Fileable, accepted_filing}
use Rattle.text.specs.Numeral.{numeral}
use Rattle.text.specs.Line.{file, small, amend, longest_line}
use Rattle.text.specs.Rendered.{HasLine, WhichHaveLines, CanBeTyped, figures_in, same_limits, filing_form, rendered}
use Rattle.text.proofs.NumeralLaws.{numeral_short}
use Rattle.text.proofs.FillLaws.{filled_digits}

-- what holds of a figure, and of those after it
infixr 20 ◌and◌
◌and◌ : {A B : Type 0} → A → B → A × B
◌and◌ p q = (p, q)

digits : (k n : ℕ) → n < 10 ^ suc k → length (numeral n) ≤ suc k
digits k n h = numeral_short k 20 n h

form_length : (p : Purpose) → length (filing_form p).pattern ≤ 100
form_length (Purpose.File l) = go (same_limits l small_limits)
  where
    go : (is_small : Bool) → length (cond is_small small file).pattern ≤ 100
    go true = let p : length small.pattern ≡ 100 = refl in omega (arith, p)
    go false = let p : length file.pattern ≡ 99 = refl in omega (arith, p)
form_length Purpose.Amend = let p : length amend.pattern ≡ 100 = refl in omega (arith, p)

module _ (t : Table) (b : Book) (f : Filing) (h : Fileable t b f) where
  limits : Limited f.fcl f.cf f.volume f.life
  limits = limited f.fcl f.cf f.volume f.life h.limits

  used : f.vehicle_use < 2
  used = use_known t f.set f.vehicle_use f.year h.standard

  edited : f.edition ≤ 2
  edited = edition_known f.edition f.set f.year h.edition

  short : length (rendered (Call.File f)) ≤ longest_line
  short =
      omega (
        arith,
        form_length f.purpose,
        filled_digits (filing_form f.purpose).pattern (figures_in (Call.File f)),
        digits 0 f.maker (omega (arith, h.maker)),
        digits 0 f.set (omega (arith, h.set)),
        digits 3 f.year (omega (arith, h.year, h.upto)),
        digits 0 f.vehicle_use (omega (arith, used)),
        digits 0 f.edition (omega (arith, edited)),
        digits 1 f.family (omega (arith, h.family)),
        digits 3 f.fcl (omega (arith, limits)),
        digits 6 f.cf (omega (arith, limits)),
        digits 5 f.volume (omega (arith, limits)),
        digits 2 f.life (omega (arith, limits)),
      )

-- the limits that a call is held to, if it is a filing
limits_in : Call → Limits
limits_in (Call.File x) = limits_of x.purpose
limits_in (Call.Close x) = large_limits
limits_in (Call.Trade x) = large_limits
limits_in (Call.Apply x) = large_limits
limits_in (Call.Retire x) = large_limits
limits_in (Call.Cover x) = large_limits

-- a filing under other limits than the entries' is not what its form makes
no_other :
    (x : Filing) (l : Limits) → (l ≡ large_limits → ⊥) → (l ≡ small_limits → ⊥)
    → HasLine (Call.File (with_purpose (Purpose.File l) x)) → ⊥
unfolding limits_in
no_other x l n m h = go (same_limits l small_limits) (sym (ap limits_in h))
  where
    go : (is_small : Bool) → l ≡ limits_in ((cond is_small small file).call (figures_in (Call.File x))) → ⊥
    go true e = m e
    go false e = n e

pub which_have_lines : WhichHaveLines
which_have_lines =
    record {
      file = λ x. refl;
      small = λ x. refl;
      amend = λ x. refl;
      no_other_filing = no_other;
      close = λ x. refl;
      trade = λ x. refl;
      apply = λ x. refl;
      retire = λ x. refl;
      cover = λ x. refl;
    }

pub can_be_typed : (t : Table) (b : Book) (f : Filing) → CanBeTyped t b f
can_be_typed t b f e a =
    let h = accepted_filing t b f a in
    let l = limits t b f h in
    record {
      has_line = e;
      text = refl;
      short = short t b f h;
      digits =
          omega (arith, h.maker)
          and omega (arith, h.set)
          and omega (arith, h.year, h.upto)
          and omega (arith, used t b f h)
          and omega (arith, edited t b f h)
          and omega (arith, h.family)
          and omega (arith, l)
          and omega (arith, l)
          and omega (arith, l)
          and omega (arith, l)
          and tt;
    }
