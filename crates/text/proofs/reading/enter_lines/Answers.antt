use Rattle.std.proofs.Common.{sym, ◌∙◌}
use Rattle.book.specs.Postings.{fresh_book}
use Rattle.text.specs.Entries.{empty_at}
use Rattle.text.proofs.ReadingLaws.{too_low}
use Rattle.text.proofs.reading.enter_lines.Goals as goal

-- The invariant: what the text comes to is what the rest of it makes of the book so far.

pub loop-rest-init : goal.loop-rest-init
unfolding empty_at fresh_book
loop-rest-init c = rw c.fresh.ensures

pub returns-then-rank-least : goal.returns-then-rank-least
returns-then-rank-least c =
    sym (c.loop-rest.invariant
    ∙ too_low c.in_ok-line.ensures _ _ (sym c.entry_of.ensures ∙ c.in_ok-entry.was) c.rank_of.ensures.rank c.in_ok-rank.was
    c.if-rank-least.true)
