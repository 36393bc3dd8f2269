use Prim.Native.Nat.{◌-◌}
use native.Mathlib.Omega.{arith}
use borrow.Author.Rules.{rules}
use mathlib.Core.Path.{sym, ap₂, ◌∙◌}
use Rattle.figuring.proofs.BoolLaws.{denied, granted, and_intro}
use Rattle.figuring.specs.Years.{first_year}
use Rattle.book.specs.Sizes.{makers, sets, families, years}
use Rattle.book.specs.Soundness.{figures_sound, cell_sound, maker_sound, cells_sound}
use Rattle.figuring.proofs.BelowLaws.{all_more, all_done}
use Rattle.book.proofs.PlaceLaws.{counted_on, heard_family, heard_year, family_fault, year_fault}
use Rattle.book.proofs.soundness.cells_sound.Goals as goal

pub loop-number-preserved : goal.loop-number-preserved
loop-number-preserved c = (
  search rules,
  (
    search rules,
    all_more _ _ c.loop-number.invariant.1.1
        (granted (heard_family _ _ _ (rw c.index-in-loop-number.ensures.at at c.part-1.given) (rw (c.index.ensures.at, c.index-in-loop-number.ensures.at) at c.part_sound.ensures)) c.if-not-part_sound.false-raw),
  ),
)

pub loop-year-preserved : goal.loop-year-preserved
loop-year-preserved c = (
  search rules,
  rw (counted_on _ c.loop-year.auto.year)
      (all_more _ _ c.loop-year.invariant.1
      (granted (heard_year _ _ _ _ c.loop-year.auto.year (c.figures_sound.ensures ∙ ap₂ (figures_sound _ _) c.figure_at-lot.ensures c.figure_at-shortage.ensures)) c.if-not-figures_sound.false-raw)),
)

pub loop-set-preserved : goal.loop-set-preserved
unfolding cell_sound
loop-set-preserved c =
    let l = c.loop-year in
    let k = c.loop-number in (
      search rules,
      (
        search rules,
        all_more _ _ c.loop-set.invariant.1.1
            (and_intro
            (all_done _ families k.number k.invariant.0 c.loop-number-test.false k.invariant.1.1)
            (all_done _ years (l.year - first_year) (omega (arith, l.auto.year-end (omega arith))) (omega arith) l.invariant.1)),
      ),
    )

pub walk-preserved : goal.walk-preserved
unfolding maker_sound
walk-preserved c =
    let l = c.loop-set in (
      search rules,
      (
        search rules,
        all_more _ _ c.walk.invariant.1.1
            (all_done _ sets l.set l.invariant.0 c.loop-set-test.false l.invariant.1.1),
      ),
    )

pub returns-after-walk : goal.returns-after-walk
unfolding cells_sound
returns-after-walk c =
    let w = c.walk in
    w.invariant.1.0 ∙ sym (all_done _ makers w.maker w.invariant.0 c.walk-test.false w.invariant.1.1)

pub returns-then-not-part_sound : goal.returns-then-not-part_sound
returns-then-not-part_sound c =
    sym
    (family_fault _ c.walk.maker c.loop-set.set c.loop-number.number (search rules) (search rules)
    (search rules)
    (denied (heard_family _ _ _ (rw c.index-in-loop-number.ensures.at at c.part-1.given) (rw (c.index.ensures.at, c.index-in-loop-number.ensures.at) at c.part_sound.ensures)) c.if-not-part_sound.true-raw))

pub returns-then-not-figures_sound : goal.returns-then-not-figures_sound
returns-then-not-figures_sound c =
    sym
    (year_fault _ c.walk.maker c.loop-set.set (c.loop-year.year - first_year) (search rules) (search rules)
    (omega arith) (denied (heard_year _ _ _ _ c.loop-year.auto.year (c.figures_sound.ensures ∙ ap₂ (figures_sound _ _) c.figure_at-lot.ensures c.figure_at-shortage.ensures)) c.if-not-figures_sound.true-raw))
