use mathlib.Core.Path.{refl}
use Rattle.text.proofs.TableTextLaws as laws
use Rattle.text.proofs.claims.tables_by_their_text.Goals as goal

-- The theorem, cited.

pub returns : goal.returns
returns c = (refl, laws.table_texts)
