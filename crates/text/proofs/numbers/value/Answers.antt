use native.Mathlib.Omega.{arith}
use Rattle.std.proofs.Common.{◌+◌}
use mathlib.Core.Path.{ap, ◌∙◌}
use lib.Seq.{take_all}
use Rattle.text.specs.Numeral.{value}
use Rattle.text.proofs.DigitLaws.{nothing_yet, one_more, fits_18, all_digits}
use Rattle.text.proofs.numbers.value.Goals as goal

pub loop-digit-init : goal.loop-digit-init
loop-digit-init c = nothing_yet c.args.digits.now

pub overflow_mul-worth : goal.overflow_mul-worth
overflow_mul-worth c = omega (arith, c.loop-digit.invariant.below, c.requires.few, c.loop-digit-test.true, fits_18 c.loop-digit.digit-index)

pub overflow_sub-digit : goal.overflow_sub-digit
overflow_sub-digit c = (all_digits c.loop-digit.digit-index c.requires.digits c.loop-digit-test.true).0

pub overflow_add-worth : goal.overflow_add-worth
overflow_add-worth c =
    omega (
      arith,
      c.from.ensures,
      (one_more c.requires.digits c.loop-digit-test.true c.loop-digit.invariant).below,
      fits_18 (c.loop-digit.digit-index + 1) (omega (arith, c.requires.few, c.loop-digit-test.true)),
    )

pub loop-digit-preserved : goal.loop-digit-preserved
loop-digit-preserved c =
    rw c.from.ensures (one_more c.requires.digits c.loop-digit-test.true c.loop-digit.invariant)

pub returns : goal.returns
returns c =
    c.loop-digit.invariant.value_is
    ∙ ap value (take_all c.loop-digit.digit-index c.args.digits.now (omega (arith, c.loop-digit-test.false)))
