use mathlib.Core.Path.{refl}
use Rattle.text.proofs.ExampleLaws as laws
use Rattle.text.proofs.claims.run_of_the_paper.Goals as goal

-- The theorem, cited.

pub returns : goal.returns
returns c = (refl, laws.run, laws.fields)
