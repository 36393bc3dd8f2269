-- Demand 1 of a call, for any table, any book and any figures: its result, or one numbered refusal. The proof is `demand1` of
-- proofs/RefusalLaws.antt.
use Rattle.std.specs.Prelude.{ℕ, ◌<◌, true, false, ◌≡◌, pos}
use Rattle.figuring.specs.Tables.{Table}
use Rattle.book.specs.Refusals.{refusal_in, result_in}
use Rattle.book.specs.Rules.{posted}
use Rattle.book.specs.Demand3.{is_accepted}
use Rattle.book.specs.declared.ledger.Book.{Book}
use Rattle.book.specs.declared.kinds.Call.{Call}

-- "A refusal gives its number, zero for the other results, and the book unchanged."
pub record Demand1 (t : Table) (b : Book) (c : Call) : Type 0 where
  pub accepted : is_accepted (posted t b c).answer ≡ true → refusal_in (posted t b c).answer ≡ 0
  pub numbered : is_accepted (posted t b c).answer ≡ false → 0 < refusal_in (posted t b c).answer
  pub zeros : is_accepted (posted t b c).answer ≡ false → (i : ℕ) → result_in (posted t b c).answer i ≡ pos 0
  pub unchanged : is_accepted (posted t b c).answer ≡ false → (posted t b c).book ≡ b
