-- The claims about the program's terminal, which begins with the fresh book: a sound one, whose opening figures are 0.
use Prim.Native.Nat.{ℕ}
use native.Mathlib.Omega.{arith}
use mathlib.Core.List.{List, ◌++◌}
use mathlib.Core.Logic.{◌⊎◌, inl, inr}
use mathlib.Core.Path.{◌∙◌, ap, subst}
use Rattle.figuring.specs.Tables.{Table}
use Rattle.book.specs.Postings.{fresh_book}
use Rattle.book.specs.Accounts.{Opening, zero_opening}
use Rattle.book.specs.Rules.{Request}
use Rattle.book.proofs.FreshSound.{fresh_sound, fresh_sized}
use Rattle.book.proofs.BegunAnew.{fresh_at_zero}
use Rattle.shown.specs.Calls.{texts, answers, postings}
use Rattle.shown.specs.Statement.{Item, lot, short, statement}
use Rattle.shown.specs.Shown.{Opens, Tells, OnScreen, FromFresh}
use Rattle.shown.proofs.ShownLaws.{demands, on_screen}

module _ (t : Table) (input : List ℕ) where
  abbrev ps : List Request
  ps = postings t fresh_book input

  fresh_screen : OnScreen t fresh_book input
  fresh_screen = on_screen t fresh_book input fresh_sized fresh_sound

  fresh_tells : Tells zero_opening ps
  fresh_tells = subst (λ (o : Opening). Tells o ps) fresh_at_zero fresh_screen.tells

  pub from_fresh : FromFresh t input
  from_fresh =
      record {
        demands = demands t fresh_book input fresh_sized fresh_sound;
        shows = fresh_screen.shows ∙ ap (λ (o : Opening). texts (answers t fresh_book input) ++ statement o ps) fresh_at_zero;
        tells = fresh_tells;
        behind = λ x m. posted_behind x (fresh_tells.behind x m);
      }
    where
      posted_behind : (x : Item) {X : Type 0} → Opens zero_opening x ⊎ X → X
      posted_behind (lot k n) (inl l) = absurd (omega arith)
      posted_behind (short k n) (inl l) = absurd (omega arith)
      posted_behind x (inr o) = o
