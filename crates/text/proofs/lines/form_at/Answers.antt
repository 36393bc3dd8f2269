use Rattle.std.proofs.Common.{◌≡◌, refl, ap, ◌∙◌, [], None, arith}
use borrow.Author.Tests.{lt-ltb, le-ltb}
use lib.ListN.{drop_of_length-le}
use Rattle.text.specs.Line.{line_at, first_form, forms}
use Rattle.text.specs.Pattern.{fit}
use Rattle.std.proofs.lemmas.List.{take_rest}
use Rattle.text.proofs.lines.form_at.Goals as goal

-- A longer line is no form; of any other, a part that starts past its end is empty, which no form is.

empty_rest : first_form forms [] ≡ None
unfolding fit
empty_rest = refl

pub returns-then-line-gt-LONGEST_LINE : goal.returns-then-line-gt-LONGEST_LINE
unfolding line_at
returns-then-line-gt-LONGEST_LINE c = rw (lt-ltb _ _ c.if-line-gt-LONGEST_LINE.true)

pub returns-in_err-get : goal.returns-in_err-get
unfolding line_at
returns-in_err-get c =
    rw (
      c.from_residual.ensures,
      le-ltb _ _ c.if-line-gt-LONGEST_LINE.false,
      drop_of_length-le c.args.line.now {i = c.args.at} (omega (arith, c.in_err-get.ensures.lookup)),
      empty_rest,
    )

pub returns : goal.returns
unfolding line_at
returns c =
    c.first_form.ensures
    ∙ rw (le-ltb _ _ c.if-line-gt-LONGEST_LINE.false)
    (ap (first_form forms) (c.in_ok-get.ensures.lookup.0.2 ∙ take_rest c.args.line.now c.args.at))
