-- Document 01, "Terminal text": which line is which call.
use Rattle.std.specs.Prelude.{ℕ, cond, List, [], ◌∷◌, ◌++◌, ltb, length, drop, Option, None, option_map}
use Rattle.std.specs.Option.{option_or}
pub use Rattle.book.specs.Calls.{figure}
use Rattle.book.specs.Calls.{filing_of, trade_of, application_of, retirement_of, cover_of}
use Rattle.book.specs.Limits.{large_entry, small_entry}
use Rattle.book.specs.declared.kinds.Call.{Call}
use Rattle.book.specs.declared.kinds.Purpose.{Purpose}
use Rattle.text.specs.Ascii.{ascii}
use Rattle.text.specs.Pattern.{fit}

-- "at most 160 bytes before its line feed"
abbrev pub longest_line : ℕ
longest_line = 160

-- "decimal numbers of 1 to 12 digits"
abbrev pub most_digits : ℕ
most_digits = 12

-- a form: its pattern, and the call that its figures make
pub record Form : Type 0 where
  pub pattern : List ℕ
  pub call : List ℕ → Call

-- a filing's fields
abbrev pub filing_fields : List ℕ
filing_fields =
    ascii "(maker #) (set #) (year #) (use #) (edition #) (family #) (fcl #) (cf #) (volume #) (life #)"

abbrev pub filing_call : Purpose → List ℕ → Call
filing_call purpose n = Call.File (filing_of purpose n)

abbrev pub file : Form
file =
    record {
      pattern = ascii "(file " ++ filing_fields ++ ascii ")";
      call = filing_call large_entry;
    }

-- Card 10: "lines led by `small` in place of `file`"
abbrev pub small : Form
small =
    record {
      pattern = ascii "(small " ++ filing_fields ++ ascii ")";
      call = filing_call small_entry;
    }

-- Card 6: "An `(amend ..)` line takes a filing's fields"
abbrev pub amend : Form
amend = record { pattern = ascii "(amend " ++ filing_fields ++ ascii ")"; call = filing_call Purpose.Amend }

abbrev pub close : Form
close = record { pattern = ascii "(close (year #))"; call = λ n. Call.Close (figure n 0) }

abbrev pub trade : Form
trade =
    record {
      pattern = ascii "(trade (from #) (to #) (set #) (vintage #) (mg #))";
      call = λ n. Call.Trade (trade_of n);
    }

abbrev pub apply : Form
apply =
    record {
      pattern = ascii "(apply (maker #) (set #) (vintage #) (year #) (mg #))";
      call = λ n. Call.Apply (application_of n);
    }

abbrev pub retire : Form
retire =
    record {
      pattern = ascii "(retire (maker #) (set #) (vintage #) (mg #))";
      call = λ n. Call.Retire (retirement_of n);
    }

-- Card 9
abbrev pub cover : Form
cover = record { pattern = ascii "(cover (maker #) (set #))"; call = λ n. Call.Cover (cover_of n) }

-- the forms, in the order in which they are tried
abbrev pub forms : List Form
forms = file ∷ small ∷ amend ∷ close ∷ trade ∷ apply ∷ retire ∷ cover ∷ []

-- the call that a text is by a form, if it fits it
abbrev pub call_in : Form → List ℕ → Option Call
call_in f s = option_map f.call (fit most_digits f.pattern s)

-- by the first of some forms that it fits
abbrev pub first_form : List Form → List ℕ → Option Call
first_form [] s = None
first_form (f ∷ fs) s = option_or (call_in f s) (first_form fs s)

-- what stands from a place of a line on, to the line's end. The limit is the line's: a longer one is no form
-- "as a whole", wherever it is read from
unfoldable pub line_at : List ℕ → ℕ → Option Call
line_at s place = cond (ltb longest_line (length s)) None (first_form forms (drop place s))

-- what a line is read as, for any bytes: the call, or none where it is no form
unfoldable pub line_of : List ℕ → Option Call
line_of s = line_at s 0
