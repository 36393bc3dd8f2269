-- Card 8: no line is the line of two forms, so the order in which they are tried decides nothing.
use Rattle.std.specs.Prelude.{ℕ, ◌≤◌, ◌≡◌, List, Contains, count_by, is_some, Option, Some}
use Rattle.text.specs.BookText.{EntryForm, entry_forms}
use Rattle.text.specs.Pattern.{fit}
use Rattle.text.specs.BookReading.{book_digits, entry_by, entry_of}

-- the figures of a line by a form, if it fits it
abbrev pub by_form : List ℕ → EntryForm → Option (List ℕ)
by_form s f = fit book_digits f.pattern s

pub record OneForm : Type 0 where
  -- a line fits one form at most
  pub at_most_one : (s : List ℕ) → count_by (λ f. is_some (by_form s f)) entry_forms ≤ 1
  -- and its entry is that of whichever it fits
  pub of_it :
      (f : EntryForm) → Contains entry_forms f → (s n : List ℕ) → by_form s f ≡ Some n → entry_of s ≡ entry_by f n
