use mathlib.Core.Path.{refl}
use Rattle.text.proofs.ExampleLaws as laws
use Rattle.text.proofs.claims.edges_of_the_forms.Goals as goal

-- The theorem, cited.

pub returns : goal.returns
returns c = (refl, laws.edges)
