use Rattle.std.proofs.Common.{arith, sym, ap, ◌∙◌}
use Rattle.std.specs.Prelude.{length}
use Rattle.text.proofs.WritingLaws.{written_front}
use Rattle.stored_sessions.proofs.sessions.say_stored.Goals as goal

pub say_first-requires-in-Ok : goal.say_first-requires-in-Ok
say_first-requires-in-Ok c =
    omega (arith, (written_front _ _ _ (sym c.write_book.ensures.0 ∙ c.in-Ok.is)).0, ap length c.write_book.ensures.1)
