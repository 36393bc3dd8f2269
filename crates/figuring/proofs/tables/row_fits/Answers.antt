use Rattle.std.proofs.Common.{rules, ◌∙◌}
use Rattle.std.proofs.lemmas.Iterator.{YieldsList-from_slice, YieldsList-from_zip}
use Rattle.std.proofs.lemmas.Iterator.Search.{all_from_yields_List}
use Rattle.figuring.specs.Grid.{grid_columns}
use Rattle.figuring.specs.Tables.{entry_fits, fits_at, row_fits}
use Rattle.figuring.proofs.BelowLaws.{all_zipped}
use Rattle.figuring.proofs.tables.row_fits.Goals as goal

pub returns : goal.returns
unfolding row_fits fits_at
returns c =
    all_from_yields_List (λ q. entry_fits q.0 q.1) c.all.new.self _ _ c.all.ensures.ran
    (YieldsList-from_zip (YieldsList-from_slice c.args.before cc) (YieldsList-from_slice c.args.row cc))
    (λ x b q k. search rules)
    ∙ all_zipped entry_fits c.args.before c.args.row grid_columns (search rules) (search rules)
