use native.Mathlib.Omega.{arith}
use Rattle.book.proofs.MoveFacts.{live_place}
use Rattle.book.proofs.trading.trade_verdict.Goals as goal

pub at-seller-requires : goal.at-seller-requires
at-seller-requires c = live_place _ _ c.in_ok-head_verdict.was c.head_verdict.ensures c.is_sound.ensures (omega arith) (omega arith) c.if-not-is_live.false c.is_live.ensures
