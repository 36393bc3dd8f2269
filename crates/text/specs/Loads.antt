-- What a lent text comes to for a reader that takes it whole, or refuses it: cards 7 and 8.
use Rattle.std.specs.Prelude.{Result}
pub use Rattle.std.specs.Prelude.{Ok as accepted, Err as refused}
use Rattle.book.specs.declared.answers.Refusal.{Refusal}

-- what the text says, or the refusal
abbrev pub Read : Type 0 → Type 0
Read A = Result A Refusal

-- what the reader answers that puts it in the place of what was lent
abbrev pub loading_of : {A : Type 0} → Read A → Read (Unit {0})
loading_of (accepted x) = accepted tt
loading_of (refused r) = refused r

-- what stands in the place of what was lent: the one read, or the one that was there
abbrev pub kept : {A : Type 0} → Read A → A → A
kept (accepted x) old = x
kept (refused r) old = old
