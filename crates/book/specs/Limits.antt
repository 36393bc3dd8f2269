-- What a filing does with its family, and the limits that it is held to. Card 10, "Small makers' entry": a filing is made
-- under a pair of limits, the largest number and the largest volume, and the two entries are two pairs.
use Rattle.std.specs.Prelude.{◌-◌, Bool, true, false}
use Rattle.figuring.specs.Parts.{volume_most}
use Rattle.book.specs.Sizes.{families}
use Rattle.book.specs.declared.kinds.Limits.{Limits}
use Rattle.book.specs.declared.kinds.Purpose.{Purpose}

-- "The large entry keeps 63 and 100,000"
abbrev pub large_limits : Limits
large_limits = record { number = families - 1; volume = volume_most }

-- "family numbers 0 to 15, volume at most 5,000"
abbrev pub small_limits : Limits
small_limits = record { number = 15; volume = 5000 }

-- the two entries
abbrev pub large_entry : Purpose
large_entry = Purpose.File large_limits

abbrev pub small_entry : Purpose
small_entry = Purpose.File small_limits

-- An amendment is held to the large limits, whoever filed: the book does not keep the entry.
abbrev pub limits_of : Purpose → Limits
limits_of (Purpose.File l) = l
limits_of Purpose.Amend = large_limits

abbrev pub amends : Purpose → Bool
amends (Purpose.File l) = false
amends Purpose.Amend = true

-- the same purpose under the large limits, whatever the pair was
abbrev pub in_large_entry : Purpose → Purpose
in_large_entry (Purpose.File l) = large_entry
in_large_entry Purpose.Amend = Purpose.Amend
