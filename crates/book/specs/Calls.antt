-- The calls by their figures, in the papers' order of their arguments.
use Rattle.std.specs.Prelude.{ℕ, List, get_or}
use Rattle.book.specs.declared.kinds.Purpose.{Purpose}
use Rattle.book.specs.declared.kinds.Filing.{Filing}
use Rattle.book.specs.declared.kinds.Trade.{Trade}
use Rattle.book.specs.declared.kinds.Application.{Application}
use Rattle.book.specs.declared.kinds.Retirement.{Retirement}
use Rattle.book.specs.declared.kinds.Cover.{Cover}

abbrev pub figure : List ℕ → ℕ → ℕ
figure n i = get_or n i 0

-- Card 6: "An `(amend ..)` line takes a filing's fields"; card 10: so do "lines led by `small` in place of `file`"
abbrev pub filing_of : Purpose → List ℕ → Filing
filing_of purpose n =
    record {
      purpose = purpose;
      maker = figure n 0;
      set = figure n 1;
      year = figure n 2;
      vehicle_use = figure n 3;
      edition = figure n 4;
      family = figure n 5;
      fcl = figure n 6;
      cf = figure n 7;
      volume = figure n 8;
      life = figure n 9;
    }

abbrev pub trade_of : List ℕ → Trade
trade_of n =
    record { from = figure n 0; to = figure n 1; set = figure n 2; vintage = figure n 3; mg = figure n 4 }

abbrev pub application_of : List ℕ → Application
application_of n =
    record { maker = figure n 0; set = figure n 1; vintage = figure n 2; year = figure n 3; mg = figure n 4 }

abbrev pub retirement_of : List ℕ → Retirement
retirement_of n = record { maker = figure n 0; set = figure n 1; vintage = figure n 2; mg = figure n 3 }

-- card 9
abbrev pub cover_of : List ℕ → Cover
cover_of n = record { maker = figure n 0; set = figure n 1 }
