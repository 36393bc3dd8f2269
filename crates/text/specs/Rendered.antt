-- The line that a call is written as, and what reading has to do with it.
use Rattle.std.specs.Prelude.{ℕ, ◌^◌, ◌<◌, ◌≤◌, Bool, true, cond, ◌&&◌, eqb, ◌≡◌, List, [], ◌∷◌, length, Some, None}
use Rattle.figuring.specs.Tables.{Table}
use Rattle.book.specs.Rules.{posted}
use Rattle.book.specs.Limits.{large_limits, small_limits, large_entry, small_entry}
use Rattle.book.specs.Filings.{with_purpose}
use Rattle.book.specs.Demand3.{is_accepted}
use Rattle.book.specs.declared.ledger.Book.{Book}
use Rattle.book.specs.declared.kinds.Call.{Call}
use Rattle.book.specs.declared.kinds.Filing.{Filing}
use Rattle.book.specs.declared.kinds.Trade.{Trade}
use Rattle.book.specs.declared.kinds.Application.{Application}
use Rattle.book.specs.declared.kinds.Retirement.{Retirement}
use Rattle.book.specs.declared.kinds.Cover.{Cover}
use Rattle.book.specs.declared.kinds.Limits.{Limits}
use Rattle.book.specs.declared.kinds.Purpose.{Purpose}
use Rattle.text.specs.Pattern.{filled}
use Rattle.text.specs.Line.{Form, file, small, amend, close, trade, apply, retire, cover, line_of, longest_line, most_digits}

abbrev pub same_limits : Limits → Limits → Bool
same_limits l m = eqb l.number m.number && eqb l.volume m.volume

-- The form of a filing by its limits, or of an amendment; `file` also where neither entry has these limits: such a call has
-- no line.
abbrev pub filing_form : Purpose → Form
filing_form (Purpose.File l) = cond (same_limits l small_limits) small file
filing_form Purpose.Amend = amend

abbrev pub form_of : Call → Form
form_of (Call.File x) = filing_form x.purpose
form_of (Call.Close x) = close
form_of (Call.Trade x) = trade
form_of (Call.Apply x) = apply
form_of (Call.Retire x) = retire
form_of (Call.Cover x) = cover

abbrev pub figures_in : Call → List ℕ
figures_in (Call.File x) =
    x.maker
    ∷ x.set
    ∷ x.year
    ∷ x.vehicle_use
    ∷ x.edition
    ∷ x.family
    ∷ x.fcl
    ∷ x.cf
    ∷ x.volume
    ∷ x.life
    ∷ []
figures_in (Call.Close x) = x ∷ []
figures_in (Call.Trade x) = x.from ∷ x.to ∷ x.set ∷ x.vintage ∷ x.mg ∷ []
figures_in (Call.Apply x) = x.maker ∷ x.set ∷ x.vintage ∷ x.year ∷ x.mg ∷ []
figures_in (Call.Retire x) = x.maker ∷ x.set ∷ x.vintage ∷ x.mg ∷ []
figures_in (Call.Cover x) = x.maker ∷ x.set ∷ []

-- A call has a line if its form makes it of its figures.
abbrev pub HasLine : Call → Type 0
HasLine c = (form_of c).call (figures_in c) ≡ c

-- Every call has one but a filing under another pair of limits than the two entries'.
pub record WhichHaveLines : Type 0 where
  pub file : (x : Filing) → HasLine (Call.File (with_purpose large_entry x))
  pub small : (x : Filing) → HasLine (Call.File (with_purpose small_entry x))
  pub amend : (x : Filing) → HasLine (Call.File (with_purpose Purpose.Amend x))
  pub no_other_filing :
      (x : Filing) (l : Limits) → (l ≡ large_limits → ⊥) → (l ≡ small_limits → ⊥)
      → HasLine (Call.File (with_purpose (Purpose.File l) x)) → ⊥
  pub close : (x : ℕ) → HasLine (Call.Close x)
  pub trade : (x : Trade) → HasLine (Call.Trade x)
  pub apply : (x : Application) → HasLine (Call.Apply x)
  pub retire : (x : Retirement) → HasLine (Call.Retire x)
  pub cover : (x : Cover) → HasLine (Call.Cover x)

-- a call's text: its form, with its figures in the places
abbrev pub rendered : Call → List ℕ
rendered c = filled (form_of c).pattern (figures_in c)

-- every figure has at most k digits
abbrev pub FewDigits : ℕ → List ℕ → Type 0
FewDigits k [] = Unit {0}
FewDigits k (n ∷ ns) = (n < 10 ^ k) × FewDigits k ns

-- a line is the text of a call that has one, short enough, with figures of at most 12 digits
pub record IsText (s : List ℕ) (c : Call) : Type 0 where
  pub has_line : HasLine c
  pub text : s ≡ rendered c
  pub short : length s ≤ longest_line
  pub digits : FewDigits most_digits (figures_in c)

-- A filing of either entry or an amendment that some book accepts with some table, so one with every figure within its
-- limits, can be typed: its text is short enough.
abbrev pub CanBeTyped : Table → Book → Filing → Type 0
CanBeTyped t b f =
    HasLine (Call.File f)
    → is_accepted (posted t b (Call.File f)).answer ≡ true → IsText (rendered (Call.File f)) (Call.File f)

-- a line is no call's text
abbrev pub NoText : List ℕ → Type 0
NoText s = (c : Call) → IsText s c → ⊥

-- A line is read as a call exactly when it is that call's text in this sense, and as no form when it is no call's text.
pub record Reads : Type 0 where
  pub only : (s : List ℕ) (c : Call) → line_of s ≡ Some c → IsText s c
  pub each : (s : List ℕ) (c : Call) → IsText s c → line_of s ≡ Some c
  pub else_none : (s : List ℕ) → NoText s → line_of s ≡ None
