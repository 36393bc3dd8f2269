use Rattle.std.specs.Prelude.{Some}
use Rattle.std.proofs.Common.{arith, length-take-le, sym, ap, ◌∙◌}
use Rattle.credit_book.proofs.SavingLaws.{saves_nothing, saves_text, text_in}
use Rattle.credit_book.proofs.saving.save_book.Goals as goal

pub returns-in_err-handed : goal.returns-in_err-handed
returns-in_err-handed c =
    rw c.from_residual.ensures
    (saves_nothing _ _ c.write_book.ensures c.ok.ensures.value (omega (arith, c.requires)) c.in_err-handed.was)

pub slice_bounds-save_named-end : goal.slice_bounds-save_named-end
slice_bounds-save_named-end c = text_in _ _ c.write_book.ensures c.ok.ensures.value c.in_ok-handed.was

pub slice_bounds-save_named-end-2 : goal.slice_bounds-save_named-end-2
slice_bounds-save_named-end-2 c =
    sym (length-take-le _ _ (text_in _ _ c.write_book.ensures c.ok.ensures.value c.in_ok-handed.was))

pub returns : goal.returns
returns c =
    saves_text _ _ c.write_book.ensures c.ok.ensures.value (omega (arith, c.requires)) (c.in_ok-handed.was ∙ ap Some (sym c.told.ensures.0))
