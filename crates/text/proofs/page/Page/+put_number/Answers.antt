use native.Mathlib.Omega.{arith}
use mathlib.Core.Path.{ap}
use lib.ListN.{length}
use Rattle.text.proofs.NumeralLaws.{numeral_small, numeral_more, more_length}
use Rattle.text.proofs.StoreLaws.{adds_then, same_long}
use Rattle.text.proofs.page.Page.+put_number.Goals as goal

-- The digits before the last are put first, where there are any.

pub put_number-requires : goal.put_number-requires
put_number-requires t c = (
  omega (arith, c.decreases),
  omega (arith, more_length c.args.n c.if-n-lt10.false c.ranges.n.fits),
)

pub put_byte-requires : goal.put_byte-requires
put_byte-requires t c = omega (arith, ap length (numeral_small c.args.n c.if-n-lt10.true))

pub put_byte-requires-2 : goal.put_byte-requires-2
put_byte-requires-2 t c =
    omega (arith, more_length c.args.n c.if-n-lt10.false c.ranges.n.fits, c.put_number.ensures.stands.end_is, same_long c.put_number.ensures.stands)

pub returns-then-n-lt10 : goal.returns-then-n-lt10
returns-then-n-lt10 t c = rw (numeral_small c.args.n c.if-n-lt10.true) c.put_byte.ensures

pub returns : goal.returns
returns t c =
    rw (numeral_more c.args.n c.if-n-lt10.false c.ranges.n.fits) (adds_then c.put_number.ensures c.put_byte-2.ensures)
