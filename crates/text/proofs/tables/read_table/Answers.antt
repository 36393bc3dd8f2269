use Rattle.std.proofs.Common.{arith, sym, ap, ◌∙◌}
use Rattle.std.proofs.lemmas.Grind.{common_steps}
use Rattle.std.specs.Result.{result_ok}
use Rattle.text.proofs.LoadLaws.{no_line, unfit, one_more}
use Rattle.text.proofs.tables.read_table.Goals as goal

-- The invariant is `Loaded`; each way out of the loop is a law of LoadLaws.

pub returns-in_err-row : goal.returns-in_err-row
returns-in_err-row c =
    let h = no_line c.loop-i.invariant c.loop-i-test.true c.split_line.ensures.0 c.split_line.ensures.1 c.year_row.ensures in
    grind (arith, common_steps, h)

pub returns-then-not-row_fits : goal.returns-then-not-row_fits
returns-then-not-row_fits c =
    sym (unfit c.loop-i.invariant c.loop-i-test.true c.split_line.ensures.0 c.split_line.ensures.1
    c.year_row.ensures (c.ok_or.ensures.ok_part ∙ ap result_ok c.in_ok-row.was)
    (sym c.row_fits.ensures ∙ c.if-not-row_fits.true))

pub loop-i-preserved : goal.loop-i-preserved
loop-i-preserved c =
    one_more c.loop-i.invariant c.loop-i-test.true c.split_line.ensures.0 c.split_line.ensures.1
    c.year_row.ensures (c.ok_or.ensures.ok_part ∙ ap result_ok c.in_ok-row.was)
    (sym c.row_fits.ensures ∙ c.if-not-row_fits.false)
