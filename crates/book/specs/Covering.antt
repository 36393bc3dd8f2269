-- Card 9, "Oldest credits first": the posting `(cover (maker N) (set N))`, what an accepted one does to the book and what
-- it returns. Its refusals are in Rules, what the accounts make of it in Accounts.
use Rattle.std.specs.Prelude.{ℕ, List, [], ◌∷◌, map, Ok}
use Rattle.book.specs.Ledger.{Key, key, figure_at, lower}
use Rattle.book.specs.Postings.{moved, applied_lot, covered_shortage}
use Rattle.book.specs.Coverage.{Standing, standing, Payment, coverage, total}
use Rattle.book.specs.declared.ledger.Book.{Book}
use Rattle.book.specs.declared.kinds.Application.{Application}
use Rattle.book.specs.declared.kinds.Cover.{Cover}
use Rattle.book.specs.declared.answers.Answer.{Answer}
use Rattle.book.specs.declared.answers.Posted.{Posted}

-- a payment is an application of the maker and the set
abbrev pub application : Cover → Payment → Application
application c p = record { maker = c.maker; set = c.set; vintage = p.vintage; year = p.year; mg = p.mg }

-- the applications that a cover makes of what stands
abbrev pub applications_of : Cover → Standing → List Application
applications_of c h = map (application c) (coverage h)

-- what stands in a cover's cell, by the figures of each key: Y is the open year
abbrev pub in_cell : ℕ → (Key → ℕ) → (Key → ℕ) → Cover → Standing
in_cell Y lot shortage c = standing Y (λ v. lot (key c.maker c.set v)) (λ y. shortage (key c.maker c.set y))

-- and by a book's
abbrev pub in_lists : ℕ → List ℕ → List ℕ → Cover → Standing
in_lists Y lots shortages c = in_cell Y (figure_at lots) (figure_at shortages) c

abbrev pub in_book : Book → Cover → Standing
in_book b c = in_lists b.open_year b.lots b.shortages c

-- figures that applications lower, each the one at its key
unfoldable pub all_lowered : (Application → Key) → List Application → List ℕ → List ℕ
all_lowered which [] l = l
all_lowered which (p ∷ ps) l = all_lowered which ps (lower l (which p) p.mg)

-- each "lowers the lot and the shortage of that year"
abbrev pub all_applied : Book → List Application → Book
all_applied b ps = moved b (all_lowered applied_lot ps b.lots) (all_lowered covered_shortage ps b.shortages)

-- "It returns the Mg moved, .. 0 included."
abbrev pub moved_by : Book → Cover → ℕ
moved_by b c = total (coverage (in_book b c))

-- the Mg that its applications cover, and the book after them
unfoldable pub cover_done : Book → Cover → Posted
cover_done b c =
    record {
      answer = Ok (Answer.Covered (record { 0 = moved_by b c }));
      book = all_applied b (applications_of c (in_book b c));
    }
