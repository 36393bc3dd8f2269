use mathlib.Core.Path.{◌≡◌}
use lib.ListN.{length}
use Rattle.text.specs.Entries.{empty_at}
use Rattle.text.specs.EntryReading.{entered_text}
use Rattle.text.proofs.reading.enter_lines.Given as goal

abbrev pub invariant-loop-rest : goal.invariant-loop-rest
invariant-loop-rest l = entered_text 0 (empty_at l.year) l.text ≡ entered_text l.least l.book l.rest

abbrev pub decreases-loop-rest : goal.decreases-loop-rest
decreases-loop-rest l = length l.rest
