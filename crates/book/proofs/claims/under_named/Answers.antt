-- The theorem, cited.
use mathlib.Core.Path.{refl}
use Rattle.book.proofs.NamedStandard as laws
use Rattle.book.proofs.claims.under_named.Goals as goal

pub returns : goal.returns
returns c = (refl, laws.under_named, laws.six_then_seventeen, laws.else_the_same)
