use Prim.Native.Nat.{◌-◌}
use borrow.Author.Rules.{rules}
use mathlib.Core.Path.{sym, ap, ◌∙◌}
use native.Mathlib.Omega.{arith}
use Rattle.figuring.specs.Years.{first_year}
use Rattle.book.specs.Sizes.{sets, years}
use Rattle.book.specs.Ledger.{figure_at}
use Rattle.book.specs.Soundness.{set_sound, totals_sound}
use Rattle.figuring.proofs.BelowLaws.{all_more, all_done}
use Rattle.book.proofs.PlaceLaws.{counted_on, total_more, total_done, total_fault}
use Rattle.book.proofs.soundness.totals_sound.Goals as goal

pub loop-maker-preserved : goal.loop-maker-preserved
loop-maker-preserved c = (
  search rules,
  (
    search rules,
    omega (arith, total_more c.args.lots.now c.walk.set c.loop-year.year c.loop-maker.maker c.loop-year.auto.year, c.figure_at-lot.ensures ∙ ap (figure_at c.args.lots.now) c.at.ensures),
  ),
)

pub loop-year-preserved : goal.loop-year-preserved
loop-year-preserved c = (
  search rules,
  rw (counted_on _ c.loop-year.auto.year)
      (all_more _ _ c.loop-year.invariant.1
      (total_done _ c.walk.set _ c.loop-maker.maker c.loop-maker.invariant.0 c.loop-maker-test.false (omega arith))),
)

pub walk-preserved : goal.walk-preserved
unfolding set_sound
walk-preserved c =
    let l = c.loop-year in (
      search rules,
      (
        search rules,
        all_more _ _ c.walk.invariant.1.1
            (all_done _ years (l.year - first_year) (omega (arith, l.auto.year-end (omega arith))) (omega arith) l.invariant.1),
      ),
    )

pub returns-after-walk : goal.returns-after-walk
unfolding totals_sound
returns-after-walk c =
    let w = c.walk in
    w.invariant.1.0 ∙ sym (all_done _ sets w.set w.invariant.0 c.walk-test.false w.invariant.1.1)

pub returns-then-lot-sum : goal.returns-then-lot-sum
returns-then-lot-sum c =
    sym (total_fault _ c.walk.set c.loop-year.year c.loop-maker.maker c.loop-year.auto.year (search rules) (omega arith) (search rules) (omega (arith, c.figure_at-lot.ensures ∙ ap (figure_at c.args.lots.now) c.at.ensures)))
