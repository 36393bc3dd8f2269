use mathlib.Core.Path.{sym}
use mir.Facts.{to_z-of_z}
use Rattle.text.proofs.StoreLaws.{adds_nothing, adds_text}
use Rattle.text.proofs.WritingLaws.{no_family, family_text}
use Rattle.text.proofs.writing.put_family.Goals as goal

-- Nothing is put where the family is not filed, and else its line.

pub returns-then-not-is_marked : goal.returns-then-not-is_marked
returns-then-not-is_marked c = adds_nothing (no_family _ _ _ _ _ (sym c.if-not-is_marked.ensures))

pub returns : goal.returns
returns c =
    adds_text
    (family_text _ _ _ _ _ (sym c.if-not-is_marked.ensures) (to_z-of_z c.ranges.part) c.unsigned_abs.ensures.value)
    c.fill_by_sign.ensures
