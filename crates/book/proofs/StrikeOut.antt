-- The refused calls of a list may be struck out: a refusal leaves the very book that came in.
use mathlib.Core.Bool.{Bool, true, false}
use mathlib.Core.List.{List, [], ◌∷◌}
use mathlib.Core.Path.{◌≡◌, refl, ◌∙◌}
use Rattle.book.specs.Rules.{Request, posted_to}
use Rattle.book.specs.Demand3.{is_accepted, book_after}
use Rattle.book.specs.Companions.{keep_if, accepted_only, StrikeOut}
use Rattle.book.specs.declared.ledger.Book.{Book}
use Rattle.book.proofs.RefusalLaws.{demand1}

-- a call put to a book, or left out where it was refused, and then the rest
struck :
    (b : Book) (r : Request) (rest : List Request) (t : Bool) → is_accepted (posted_to b r).answer ≡ t
    → book_after b (keep_if t r rest) ≡ book_after (posted_to b r).book rest
unfolding book_after
struck b r rest true e = refl
struck b r rest false e = rw ((demand1 r.table b r.call).unchanged e)

pub strike_out : (b : Book) (rs : List Request) → StrikeOut b rs
unfolding book_after accepted_only
strike_out b [] = refl
strike_out b (r ∷ rs) = struck b r (accepted_only (posted_to b r).book rs) _ refl ∙ strike_out (posted_to b r).book rs
