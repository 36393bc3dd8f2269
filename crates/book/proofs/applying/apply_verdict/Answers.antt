use native.Mathlib.Omega.{arith}
use Rattle.book.proofs.MoveFacts.{live_place, open_place}
use Rattle.book.proofs.applying.apply_verdict.Goals as goal

pub at-shortage-requires : goal.at-shortage-requires
at-shortage-requires c = open_place _ _ c.in_ok-head_verdict.was c.head_verdict.ensures c.is_sound.ensures (omega arith) (omega arith) c.if-not-is_open.false c.is_open.ensures

pub at-lot-requires : goal.at-lot-requires
at-lot-requires c = live_place _ _ c.in_ok-head_verdict.was c.head_verdict.ensures c.is_sound.ensures (omega arith) (omega arith) c.if-not-is_live.false c.is_live.ensures
