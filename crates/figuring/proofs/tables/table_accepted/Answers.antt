use Rattle.std.proofs.Common.{rules, sym, ◌∙◌}
use Rattle.std.proofs.lemmas.List.Sorted.{answers_always}
use Rattle.figuring.specs.Tables.{row_fits}
use Rattle.figuring.proofs.TableLaws.{fit_in_turn, first_unfit}
use Rattle.figuring.proofs.tables.table_accepted.Goals as goal

pub returns-then-row_fits : goal.returns-then-row_fits
returns-then-row_fits c =
    fit_in_turn c.args.table (search rules) (sym c.row_fits.ensures ∙ c.if-row_fits.true)
    (c.is_sorted_by.ensures.cases row_fits (answers_always _ _ _ (λ f a r g k. search rules)))

pub returns-else-row_fits : goal.returns-else-row_fits
returns-else-row_fits c =
    c.if-row_fits.false ∙ first_unfit c.args.table (sym c.row_fits.ensures ∙ c.if-row_fits.false)
