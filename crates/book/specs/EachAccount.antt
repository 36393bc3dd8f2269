-- Each account by itself, on a history that a reader can add up by hand. Demand 3 holds the accounts together, as a
-- sum: it would hold as well if a sale were entered under applied. Here each stands alone.
use Rattle.std.specs.Prelude.{ℕ, ◌+◌, ◌*◌, false, List, [], ◌∷◌, ◌≡◌, replicate, set as store, pos}
use Rattle.figuring.specs.Tables.{Table, built_in}
use Rattle.book.specs.Sizes.{cells, families, places, all_parts}
use Rattle.book.specs.Ledger.{Key, key, cell, raise}
use Rattle.book.specs.Accounts.{Accounts, Entry, as_accepted as acceptedWith, accounts_from, accounts_of}
use Rattle.book.specs.Accounts.{bought, sold, applied, retired, covered}
use Rattle.book.specs.Demand3.{opening_of}
use Rattle.book.specs.Limits.{large_entry}
use Rattle.book.specs.Marked.{filing_with}
use Rattle.book.specs.declared.ledger.Book.{Book}
use Rattle.book.specs.declared.kinds.Call.{Call}
use Rattle.book.specs.declared.kinds.Purpose.{Purpose}

-- with the built-in table
abbrev pub as_accepted : Call → Entry
as_accepted c = acceptedWith built_in c

abbrev pub turned_down : Call → Entry
turned_down c = record { table = built_in; call = c; accepted = false }

-- the run's first filing and its close; a trade; an application to the shortage of a later year; a retirement; and a
-- trade that was refused
abbrev pub example : List Entry
example =
    as_accepted (filing_with 0 465)
    ∷ as_accepted (Call.Close 2014)
    ∷ as_accepted (Call.Trade (record { from = 0; to = 1; set = 3; vintage = 2014; mg = 200 }))
    ∷ as_accepted (Call.Apply (record { maker = 1; set = 3; vintage = 2014; year = 2016; mg = 30 }))
    ∷ as_accepted (Call.Retire (record { maker = 0; set = 3; vintage = 2014; mg = 5 }))
    ∷ turned_down (Call.Trade (record { from = 0; to = 1; set = 3; vintage = 2014; mg = 1000 }))
    ∷ []

-- heavy families with figures by which 1 g/hp-hr is 1 Mg
abbrev pub heavy_call : Purpose → ℕ → ℕ → ℕ → ℕ → ℕ → ℕ → Call
heavy_call purpose maker year vehicleUse edition family fcl =
    Call.File (record {
      purpose = purpose;
      maker = maker;
      set = 3;
      year = year;
      vehicle_use = vehicleUse;
      edition = edition;
      family = family;
      fcl = fcl;
      cf = 100000;
      volume = 1000;
      life = 1;
    })

abbrev pub heavy : Purpose → ℕ → ℕ → ℕ → ℕ → ℕ → ℕ → Entry
heavy purpose maker year vehicleUse edition family fcl =
    as_accepted (heavy_call purpose maker year vehicleUse edition family fcl)

-- Card 5: families of 2025 that are alike but for maker, use and edition, each 1 g/hp-hr below the ordinary standard;
-- and the close
abbrev pub heavy_with : ℕ → ℕ → ℕ → ℕ → Entry
heavy_with maker vehicleUse edition fcl = heavy large_entry maker 2025 vehicleUse edition 0 fcl

abbrev pub editions : List Entry
editions =
    heavy_with 0 0 1 505
    ∷ heavy_with 1 0 2 505
    ∷ heavy_with 2 1 0 435
    ∷ heavy_with 3 1 2 435
    ∷ as_accepted (Call.Close 2025)
    ∷ []

-- Card 6: vocational families, whose standard in 2025 and 2026 is 506, filed and amended
abbrev pub files : ℕ → ℕ → ℕ → ℕ → Entry
files maker year family fcl = heavy large_entry maker year 0 0 family fcl

abbrev pub amends : ℕ → ℕ → ℕ → ℕ → Entry
amends maker year family fcl = heavy Purpose.Amend maker year 0 0 family fcl

abbrev pub amendments : List Entry
amendments =
    files 0 2025 0 501
    ∷ files 0 2025 1 503
    ∷ files 0 2025 2 499
    -- 5 Mg fall to 0, 3 become -2, and 7, amended three times, 4 in the end
    ∷ amends 0 2025 0 506
    ∷ amends 0 2025 2 500
    ∷ amends 0 2025 1 508
    ∷ amends 0 2025 2 511
    ∷ amends 0 2025 2 502
    -- alone in its cell: 6 Mg become -3, and 6 fall to 0
    ∷ files 1 2025 0 500
    ∷ amends 1 2025 0 509
    ∷ files 2 2025 0 500
    ∷ amends 2 2025 0 506
    -- an amendment that was refused; the same family a year later, and its own amendment
    ∷ files 3 2025 0 500
    ∷ turned_down (amends 3 2025 0 506).call
    ∷ as_accepted (Call.Close 2025)
    ∷ files 3 2026 0 504
    ∷ amends 3 2026 0 505
    ∷ as_accepted (Call.Close 2026)
    ∷ []

-- Card 7: an office's own table, whose one standard is 510 for heavy vocational families. The same family with it and
-- with the built-in one, whose standard is 506; and filed with the one, amended with the other, both ways
abbrev pub office : Table
office = replicate 24 (0 ∷ 0 ∷ 0 ∷ 510 ∷ 0 ∷ 0 ∷ [])

abbrev pub own_tables : List Entry
own_tables =
    acceptedWith office (heavy_call large_entry 0 2025 0 0 0 505)
    ∷ acceptedWith built_in (heavy_call large_entry 1 2025 0 0 0 505)
    ∷ acceptedWith office (heavy_call large_entry 2 2025 0 0 0 505)
    ∷ acceptedWith built_in (heavy_call Purpose.Amend 2 2025 0 0 0 503)
    ∷ acceptedWith built_in (heavy_call large_entry 3 2025 0 0 0 505)
    ∷ acceptedWith office (heavy_call Purpose.Amend 3 2025 0 0 0 503)
    ∷ as_accepted (Call.Close 2025)
    ∷ []

-- Card 8: a book read in, whose open year is 2025. Of heavy families maker 0 has a lot of 500 Mg and two filed ones of 5
-- and 3 Mg, maker 1 a shortage of 80 Mg and a filed one of 6 Mg.
abbrev pub read_in : Book
read_in =
    record {
      open_year = 2025;
      marks = store (store (replicate cells 0) (cell 0 3) 3) (cell 1 3) 1;
      parts =
          store
          (store (store (replicate all_parts (pos 0)) (cell 0 3 * families) (pos 500000000)) (cell 0 3 * families + 1)
          (pos 300000000)) (cell 1 3 * families) (pos 600000000);
      lots = raise (replicate places 0) (key 0 3 2024) 500;
      shortages = raise (replicate places 0) (key 1 3 2023) 80;
    }

-- The lot is traded from and retired, and the shortage covered; the 5 Mg, amended, become -2, the 3 stay, and a family
-- filed brings 4; maker 1's 6 stay: their amendment was refused
abbrev pub begun_on_it : List Entry
begun_on_it =
    as_accepted (Call.Trade (record { from = 0; to = 1; set = 3; vintage = 2024; mg = 200 }))
    ∷ as_accepted (Call.Retire (record { maker = 0; set = 3; vintage = 2024; mg = 5 }))
    ∷ as_accepted (Call.Apply (record { maker = 1; set = 3; vintage = 2024; year = 2023; mg = 30 }))
    ∷ amends 0 2025 0 508
    ∷ files 0 2025 2 502
    ∷ turned_down (amends 1 2025 0 506).call
    ∷ as_accepted (Call.Close 2025)
    ∷ []

abbrev pub after_reading : Accounts
after_reading = accounts_from (opening_of read_in) begun_on_it

-- Card 9: a book read in, whose open year is 2025. Of heavy families maker 0 has lots of 2018, which is expired, of 2019
-- and of 2022, and shortages of 2020, which is overdue, of 2021 and of 2024; maker 1 lots of 2019 and 2020, and shortages
-- of 2021, 2022 and 2023. Maker 0's live lots are more than its open shortages, maker 1's in 2026 less.
abbrev pub many_years : Book
many_years =
    record {
      open_year = 2025;
      marks = replicate cells 0;
      parts = replicate all_parts (pos 0);
      lots =
          raise
          (raise (raise (raise (raise (replicate places 0) (key 0 3 2018) 30) (key 0 3 2019) 50) (key 0 3 2022) 100)
          (key 1 3 2019) 50) (key 1 3 2020) 8;
      shortages =
          raise
          (raise
          (raise (raise (raise (raise (replicate places 0) (key 0 3 2020) 40) (key 0 3 2021) 70) (key 0 3 2024) 60)
          (key 1 3 2021) 5) (key 1 3 2022) 6) (key 1 3 2023) 7;
    }

abbrev pub cover_call : ℕ → ℕ → Call
cover_call maker set = Call.Cover (record { maker = maker; set = set })

-- A cover of maker 1 that was refused, and maker 0's; maker 1's comes after the close, when its lot of 2019 is expired and
-- its shortage of 2021 overdue
abbrev pub covers : List Entry
covers =
    turned_down (cover_call 1 3)
    ∷ as_accepted (cover_call 0 3)
    ∷ as_accepted (Call.Close 2025)
    ∷ as_accepted (cover_call 1 3)
    ∷ []

abbrev pub after_covers : Accounts
after_covers = accounts_from (opening_of many_years) covers

-- the Mg at a key in document 01's order: "earned, shortfall, bought, sold, applied, retired and covered"
abbrev pub mg_at : Accounts → Key → List ℕ
mg_at a k =
    a.earned k
    ∷ a.shortfall k
    ∷ a.mg bought k
    ∷ a.mg sold k
    ∷ a.mg applied k
    ∷ a.mg retired k
    ∷ a.mg covered k
    ∷ []

-- the same after the opening lot and the opening shortage
abbrev pub from_opening : Accounts → Key → List ℕ
from_opening a k = a.opening.lot k ∷ a.opening.shortage k ∷ mg_at a k

pub record EachAccount : Type 0 where
  pub seller : mg_at (accounts_of example) (key 0 3 2014) ≡ 12180 ∷ 0 ∷ 0 ∷ 200 ∷ 0 ∷ 5 ∷ 0 ∷ []
  pub buyer : mg_at (accounts_of example) (key 1 3 2014) ≡ 0 ∷ 0 ∷ 200 ∷ 0 ∷ 30 ∷ 0 ∷ 0 ∷ []
  pub shortage : mg_at (accounts_of example) (key 1 3 2016) ≡ 0 ∷ 0 ∷ 0 ∷ 0 ∷ 0 ∷ 0 ∷ 30 ∷ []
  -- by 506, 510, 436 and 442
  pub named :
      ((accounts_of editions).earned (key 0 3 2025) ≡ 1)
      × ((accounts_of editions).earned (key 1 3 2025) ≡ 5)
      × ((accounts_of editions).earned (key 2 3 2025) ≡ 1)
      × ((accounts_of editions).earned (key 3 3 2025) ≡ 7)
  pub last_figures :
      (mg_at (accounts_of amendments) (key 0 3 2025) ≡ 2 ∷ 0 ∷ 0 ∷ 0 ∷ 0 ∷ 0 ∷ 0 ∷ [])
      × (mg_at (accounts_of amendments) (key 1 3 2025) ≡ 0 ∷ 3 ∷ 0 ∷ 0 ∷ 0 ∷ 0 ∷ 0 ∷ [])
      × (mg_at (accounts_of amendments) (key 2 3 2025) ≡ 0 ∷ 0 ∷ 0 ∷ 0 ∷ 0 ∷ 0 ∷ 0 ∷ [])
      × (mg_at (accounts_of amendments) (key 3 3 2025) ≡ 6 ∷ 0 ∷ 0 ∷ 0 ∷ 0 ∷ 0 ∷ 0 ∷ [])
      × (mg_at (accounts_of amendments) (key 3 3 2026) ≡ 1 ∷ 0 ∷ 0 ∷ 0 ∷ 0 ∷ 0 ∷ 0 ∷ [])
  -- by 510, by 506, by 506 after 510, and by 510 after 506
  pub own_standards :
      ((accounts_of own_tables).earned (key 0 3 2025) ≡ 5)
      × ((accounts_of own_tables).earned (key 1 3 2025) ≡ 1)
      × ((accounts_of own_tables).earned (key 2 3 2025) ≡ 3)
      × ((accounts_of own_tables).earned (key 3 3 2025) ≡ 7)
  -- the lot and the shortage opened with, the buyer's lot, and what each maker earned in the open year
  pub opening_figures :
      (from_opening after_reading (key 0 3 2024) ≡ 500 ∷ 0 ∷ 0 ∷ 0 ∷ 0 ∷ 200 ∷ 0 ∷ 5 ∷ 0 ∷ [])
      × (from_opening after_reading (key 1 3 2023) ≡ 0 ∷ 80 ∷ 0 ∷ 0 ∷ 0 ∷ 0 ∷ 0 ∷ 0 ∷ 30 ∷ [])
      × (from_opening after_reading (key 1 3 2024) ≡ 0 ∷ 0 ∷ 0 ∷ 0 ∷ 200 ∷ 0 ∷ 30 ∷ 0 ∷ 0 ∷ [])
      × (from_opening after_reading (key 0 3 2025) ≡ 0 ∷ 0 ∷ 5 ∷ 0 ∷ 0 ∷ 0 ∷ 0 ∷ 0 ∷ 0 ∷ [])
      × (from_opening after_reading (key 1 3 2025) ≡ 0 ∷ 0 ∷ 6 ∷ 0 ∷ 0 ∷ 0 ∷ 0 ∷ 0 ∷ 0 ∷ [])
  -- maker 0's shortage of 2021 is covered from all of 2019 and some of 2022, then that of 2024 from more of 2022; maker 1's
  -- of 2022 and some of 2023 from 2020, in the accounts' own open year, 2026; expired lots and overdue shortages stay
  pub oldest_first :
      (from_opening after_covers (key 0 3 2018) ≡ 30 ∷ 0 ∷ 0 ∷ 0 ∷ 0 ∷ 0 ∷ 0 ∷ 0 ∷ 0 ∷ [])
      × (from_opening after_covers (key 0 3 2019) ≡ 50 ∷ 0 ∷ 0 ∷ 0 ∷ 0 ∷ 0 ∷ 50 ∷ 0 ∷ 0 ∷ [])
      × (from_opening after_covers (key 0 3 2020) ≡ 0 ∷ 40 ∷ 0 ∷ 0 ∷ 0 ∷ 0 ∷ 0 ∷ 0 ∷ 0 ∷ [])
      × (from_opening after_covers (key 0 3 2021) ≡ 0 ∷ 70 ∷ 0 ∷ 0 ∷ 0 ∷ 0 ∷ 0 ∷ 0 ∷ 70 ∷ [])
      × (from_opening after_covers (key 0 3 2022) ≡ 100 ∷ 0 ∷ 0 ∷ 0 ∷ 0 ∷ 0 ∷ 80 ∷ 0 ∷ 0 ∷ [])
      × (from_opening after_covers (key 0 3 2024) ≡ 0 ∷ 60 ∷ 0 ∷ 0 ∷ 0 ∷ 0 ∷ 0 ∷ 0 ∷ 60 ∷ [])
      × (from_opening after_covers (key 1 3 2019) ≡ 50 ∷ 0 ∷ 0 ∷ 0 ∷ 0 ∷ 0 ∷ 0 ∷ 0 ∷ 0 ∷ [])
      × (from_opening after_covers (key 1 3 2020) ≡ 8 ∷ 0 ∷ 0 ∷ 0 ∷ 0 ∷ 0 ∷ 8 ∷ 0 ∷ 0 ∷ [])
      × (from_opening after_covers (key 1 3 2021) ≡ 0 ∷ 5 ∷ 0 ∷ 0 ∷ 0 ∷ 0 ∷ 0 ∷ 0 ∷ 0 ∷ [])
      × (from_opening after_covers (key 1 3 2022) ≡ 0 ∷ 6 ∷ 0 ∷ 0 ∷ 0 ∷ 0 ∷ 0 ∷ 0 ∷ 6 ∷ [])
      × (from_opening after_covers (key 1 3 2023) ≡ 0 ∷ 7 ∷ 0 ∷ 0 ∷ 0 ∷ 0 ∷ 0 ∷ 0 ∷ 2 ∷ [])
  pub other_set : mg_at (accounts_of example) (key 0 2 2014) ≡ 0 ∷ 0 ∷ 0 ∷ 0 ∷ 0 ∷ 0 ∷ 0 ∷ []
