-- What a desk holds of a line that has not ended yet.
use Rattle.std.specs.Prelude.{ℕ, List, take, replicate}
use Rattle.text.specs.declared.held.Held.{Held}

-- a line is held up to 161 bytes, one more than the longest form has: they stand for any longer line
abbrev pub most_held : ℕ
most_held = 161

-- its first len bytes, whatever lies past them
abbrev pub held_in : Held → List ℕ
held_in h = take h.len h.bytes

abbrev pub nothing_held : Held
nothing_held = record { bytes = replicate most_held 0; len = 0 }
