use native.Mathlib.Omega.{arith}
use Rattle.book.proofs.MoveFacts.{live_place}
use Rattle.book.proofs.retiring.retire_verdict.Goals as goal

pub at-lot-requires : goal.at-lot-requires
at-lot-requires c = live_place _ _ c.in_ok-head_verdict.was c.head_verdict.ensures c.is_sound.ensures (omega arith) (omega arith) c.if-not-is_live.false c.is_live.ensures
