-- What the theorems need of an accepted call, as one record. Each call proves its own (FilingLaws, ClosingLaws, MovingLaws,
-- CoverLaws), and CallLaws finds it by the call: so kept soundness and the figures that stay name no call, nor does demand 3 but for
-- what it says of applications and covers alone.
use Prim.Native.Nat.{◌≤◌}
use mathlib.Core.Bool.{true}
use mathlib.Core.Path.{◌≡◌}
use Rattle.figuring.specs.Tables.{Table}
use Rattle.book.specs.Ledger.{Key, In, figure_at}
use Rattle.book.specs.Rules.{done}
use Rattle.book.specs.Accounts.{Accounts, move}
use Rattle.book.specs.Demand3.{is_accepted}
use Rattle.book.specs.Companions.{Sized}
use Rattle.book.specs.declared.ledger.Book.{Book}
use Rattle.book.specs.declared.kinds.Call.{Call}
use Rattle.book.proofs.SoundnessLaws.{Sound}
use Rattle.figuring.proofs.LifeLaws.{Old}
use Rattle.book.proofs.Balances.{Agree}

pub record Lawful (t : Table) (b : Book) (c : Call) : Type 0 where
  pub answered : is_accepted (done t b c).answer ≡ true
  -- the open year never falls
  pub onward : b.open_year ≤ (done t b c).book.open_year
  pub sized : Sized b → Sized (done t b c).book
  pub sound : Sized b → Sound (done t b c).book
  pub agrees : (a : Accounts) → Agree b a → Agree (done t b c).book (move t a c)
  -- an expired lot and an overdue shortage stay
  pub lot : (k : Key) → In k → Old 6 b.open_year k.year → figure_at (done t b c).book.lots k ≡ figure_at b.lots k
  pub shortage :
      (k : Key) → In k → Old 4 b.open_year k.year
      → figure_at (done t b c).book.shortages k ≡ figure_at b.shortages k
