-- The theorem, cited.
use mathlib.Core.Path.{refl}
use Rattle.book.proofs.KeptSound as laws
use Rattle.book.proofs.claims.keeps_sound.Goals as goal

pub returns : goal.returns
returns c = (refl, laws.keeps)
