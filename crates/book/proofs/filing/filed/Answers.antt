use mathlib.Core.Path.{◌≡◌, sym, ap, ◌∙◌}
use Rattle.std.specs.Result.{result_ok}
use Rattle.std.proofs.lemmas.Option.{none-some}
use Rattle.figuring.proofs.PartLaws.{figured}
use Rattle.book.specs.Postings.{part_for, part_beside}
use Rattle.book.specs.Rules.{own_rows, done}
use Rattle.book.specs.declared.kinds.Call.{Call}
use Rattle.book.proofs.TableLaws.{done_so, sound_so, own_so}
use Rattle.book.proofs.FileFacts.{Fileable, fileable, part_is}
use Rattle.book.proofs.filing.filed.Goals as goal
use Rattle.book.proofs.filing.filed.Goals.{In_ok-file_verdict}

-- An accepted filing is within its limits (facts), so that the arm without a part is never reached and the part that is
-- stored is the filing's own (figure).

facts : (c : In_ok-file_verdict) → Fileable c.args.table.now c.args.book.now c.args.f
unfolding own_rows
facts c =
    let said = c.file_verdict.ensures in
    let h = c.in_ok-file_verdict.was in
    fileable _ _ _ (sound_so _ _ (Call.File _) said h) (own_so _ _ (Call.File _) said h)

pub at-family-requires : goal.at-family-requires
at-family-requires c =
    let w = facts (goal.at.at-family-requires c).In_ok-file_verdict in
    (w.maker, w.set, w.family)

pub returns-in_err-part : goal.returns-in_err-part
returns-in_err-part c =
    let w = facts (goal.at.returns-in_err-part c).In_ok-file_verdict in
    absurd
    (none-some _
    (sym (ap result_ok c.in_err-part.was) ∙ sym c.ok_or.ensures.ok_part ∙ c.part_of.ensures ∙ figured _ _ _ _ _ w.limits))

pub returns : goal.returns
unfolding done part_beside
returns c =
    let w = facts (goal.at.returns c).In_ok-file_verdict in
    let at = c.at-family.ensures in
    let figure : c.in_ok-part.part.0 ≡ part_for c.args.table.now c.args.f =
    part_is _ _ _ _ _ w.limits c.part_of.ensures (c.ok_or.ensures.ok_part ∙ ap result_ok c.in_ok-part.was) in
    rw (at.0, at.1, at.2, figure) at c.store.ensures ∙ done_so _ _ (Call.File _) c.file_verdict.ensures c.in_ok-file_verdict.was
