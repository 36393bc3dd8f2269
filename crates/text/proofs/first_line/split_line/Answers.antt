use Rattle.std.proofs.Common.{refl}
use Rattle.text.proofs.FirstLineLaws.{first_or_last}
use Rattle.text.proofs.first_line.split_line.Goals as goal

pub returns : goal.returns
returns c = rw c.unwrap_or.ensures (first_or_last c.args.text.now c.split_once.result _ c.split_once.ensures refl refl)
