use Rattle.std.proofs.Common.{w64, ◌∙◌}
use mir.Facts.{to_z-of_z}
use Rattle.book.proofs.CloseFacts.{sum_is, sum_fits}
use Rattle.book.proofs.closing.sum_of.Goals as goal

pub sum-requires-clause-fits : goal.sum-requires-clause-fits
sum-requires-clause-fits c = sum_fits c.args.parts.now c.requires.0 c.requires.1 c.iter.ensures.rest

pub returns : goal.returns
returns c =
    to_z-of_z {w = w64} (record { sfits = c.sum.type_inv }) ∙ sum_is c.args.parts.now c.iter.ensures.rest c.sum.ensures.ran
