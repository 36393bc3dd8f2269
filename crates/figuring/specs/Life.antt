-- Document 01: how long a lot is live and a shortage open. Y is the open year.
use Rattle.std.specs.Prelude.{ℕ, ◌+◌, ◌-◌, Bool, ◌&&◌, cond, ltb, leb, Option, Some, None}
use Rattle.figuring.specs.Years.{first_year}

-- a year that is closed: "2014 to Y - 1"
unfoldable pub closed_year : ℕ → ℕ → Bool
closed_year Y y = leb first_year y && ltb y Y

-- how many years ago a closed year is, which the code compares; a year that is not closed has none
unfoldable pub age : ℕ → ℕ → Option ℕ
age Y y = cond (closed_year Y y) (Some (Y - y)) None

-- "A lot of vintage v, 2014 to Y - 1, is live while Y is at most v + 6, then expired."
unfoldable pub live : ℕ → ℕ → Bool
live Y v = closed_year Y v && leb Y (v + 6)

unfoldable pub expired : ℕ → ℕ → Bool
expired Y v = closed_year Y v && ltb (v + 6) Y

-- "A shortage of year y, 2014 to Y - 1, is open while Y is at most y + 4, then overdue."
unfoldable pub open_short : ℕ → ℕ → Bool
open_short Y y = closed_year Y y && leb Y (y + 4)

unfoldable pub overdue : ℕ → ℕ → Bool
overdue Y y = closed_year Y y && ltb (y + 4) Y
