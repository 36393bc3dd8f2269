-- Document 01, "Postings": what each accepted call does to the book, and what it returns.
use Rattle.std.specs.Prelude.{ℕ, zero, suc, ◌+◌, ◌-◌, ◌*◌, List, ltb, get_or, set as store, replicate, ℤ, pos}
use Rattle.std.specs.Prelude.{Ok}
use Rattle.figuring.specs.Years.{first_year}
use Rattle.figuring.specs.Units.{engine_unit}
use Rattle.figuring.specs.Standards.{Standard, grams_of}
use Rattle.figuring.specs.Tables.{Table, ordinary_in}
use Rattle.figuring.specs.Editions.{standard_under}
use Rattle.figuring.specs.Parts.{part_of}
use Rattle.figuring.specs.Netting.{net_of, earned_of, shortfall_of}
use Rattle.figuring.specs.declared.netting.Net.{Net}
use Rattle.book.specs.Refusals.{Answered}
use Rattle.book.specs.Sizes.{cells, families, years, places, all_parts}
use Rattle.book.specs.Below.{count_below}
use Rattle.book.specs.Ledger.{Key, key, cell, figure_at, lower, raise, with_mark, filed_in, cell_sum}
use Rattle.book.specs.declared.ledger.Book.{Book}
use Rattle.book.specs.declared.kinds.Filing.{Filing}
use Rattle.book.specs.declared.kinds.Trade.{Trade}
use Rattle.book.specs.declared.kinds.Application.{Application}
use Rattle.book.specs.declared.kinds.Retirement.{Retirement}
use Rattle.book.specs.declared.answers.Answer.{Answer}
use Rattle.book.specs.declared.answers.Posted.{Posted}

-- a book with nothing in it
abbrev pub empty_in : ℕ → Book
empty_in open_year =
    record {
      open_year = open_year;
      marks = replicate cells 0;
      parts = replicate all_parts (pos 0);
      lots = replicate places 0;
      shortages = replicate places 0;
    }

-- "Fresh: year 2014, all else zero."
unfoldable pub fresh_book : Book
fresh_book = empty_in first_year

-- ---- File: "sets the mark and the part. Returns the part and how many families of that cell are now filed."

-- Card 6: an amendment "replaces the part of a family already filed" and "returns the new part and the unchanged count".
-- So its family's bit is set, and setting it changes nothing: it is posted as a filing is. `Amended` says it in the card's
-- words.

-- Card 7: "edition 0 then means this table". The ordinary standard that a filing finds in the table that it is handed
abbrev pub ordinary_for : Table → Filing → Standard
ordinary_for t f = ordinary_in t f.set f.vehicle_use f.year

-- a filing's part beside an ordinary standard. Card 5: "under the standard they named"
unfoldable pub part_beside : Standard → Filing → ℤ
part_beside ordinary f =
    part_of (grams_of (standard_under ordinary f.edition f.set f.vehicle_use f.year)) f.fcl f.cf
    f.volume f.life

-- a filing's part, figured from its own arguments, of which the table is one
abbrev pub part_for : Table → Filing → ℤ
part_for t f = part_beside (ordinary_for t f) f

abbrev pub filing_cell : Filing → ℕ
filing_cell f = cell f.maker f.set

abbrev pub filing_key : Filing → Key
filing_key f = key f.maker f.set f.year

-- the book with these marks and parts: what a filing writes, and all else as it was
abbrev pub with_families : Book → List ℕ → List ℤ → Book
with_families b m p =
    record {
      open_year = b.open_year;
      marks = m;
      parts = p;
      lots = b.lots;
      shortages = b.shortages;
    }

-- a part stored in a cell, with its family's bit set
unfoldable pub stored : Book → ℕ → ℕ → ℤ → Posted
stored b c family z =
    let mark = with_mark (get_or b.marks c 0) family in
    record {
      answer = Ok (Answer.Filed (record { 0 = z }) (filed_in mark));
      book = with_families b (store b.marks c mark) (store b.parts (c * families + family) z);
    }

abbrev pub filing_done : Table → Book → Filing → Posted
filing_done t b f = stored b (filing_cell f) f.family (part_for t f)

-- ---- Close: "for each cell the parts are added exactly, then rounded once"; what comes out becomes the lot or the
-- shortage of that year, both written, 0 where there is nothing

-- what a cell's parts, counted in a unit, come to
abbrev pub cell_net : ℕ → Book → ℕ → Net
cell_net unit b c = net_of unit (cell_sum b.parts c)

abbrev pub earned_by : Book → ℕ → ℕ
earned_by b c = earned_of (cell_net engine_unit b c)

abbrev pub short_by : Book → ℕ → ℕ
short_by b c = shortfall_of (cell_net engine_unit b c)

-- the figures v of the cells below n, written in the year that is i years after the first
unfoldable pub netted : ℕ → (ℕ → ℕ) → ℕ → List ℕ → List ℕ
netted i v zero l = l
netted i v (suc n) l = store (netted i v n l) (n * years + i) (v n)

-- "Marks and parts are cleared; the open year rises by one. Returns the number of cells that closed short."
abbrev pub closed_in : ℕ → Book → Posted
closed_in unit b =
    record {
      answer = Ok (Answer.Closed (count_below cells (λ c. ltb 0 (shortfall_of (cell_net unit b c)))));
      book =
          record {
            open_year = b.open_year + 1;
            marks = replicate cells 0;
            parts = replicate all_parts (pos 0);
            lots = netted (b.open_year - first_year) (λ c. earned_of (cell_net unit b c)) cells b.lots;
            shortages = netted (b.open_year - first_year) (λ c. shortfall_of (cell_net unit b c)) cells b.shortages;
          };
    }

unfoldable pub close_done : Book → Posted
close_done b = closed_in engine_unit b

-- ---- Trade, Apply, Retire: "Each returns what is left in the paying lot."

abbrev pub moved : Book → List ℕ → List ℕ → Book
moved b l s =
    record {
      open_year = b.open_year;
      marks = b.marks;
      parts = b.parts;
      lots = l;
      shortages = s;
    }

abbrev pub leaving : Book → Key → ℕ → Answered
leaving b k n = Ok (Answer.Left (record { 0 = figure_at b.lots k - n }))

-- "Trade (from, to, set, vintage, Mg): moves between two lots."
abbrev pub seller_lot : Trade → Key
seller_lot t = key t.from t.set t.vintage

abbrev pub buyer_lot : Trade → Key
buyer_lot t = key t.to t.set t.vintage

unfoldable pub trade_done : Book → Trade → Posted
trade_done b t =
    record {
      answer = leaving b (seller_lot t) t.mg;
      book = moved b (raise (lower b.lots (seller_lot t) t.mg) (buyer_lot t) t.mg) b.shortages;
    }

-- "Apply (maker, set, vintage, year, Mg): lowers the lot and the shortage of that year."
abbrev pub applied_lot : Application → Key
applied_lot p = key p.maker p.set p.vintage

abbrev pub covered_shortage : Application → Key
covered_shortage p = key p.maker p.set p.year

unfoldable pub application_done : Book → Application → Posted
application_done b p =
    record {
      answer = leaving b (applied_lot p) p.mg;
      book = moved b (lower b.lots (applied_lot p) p.mg) (lower b.shortages (covered_shortage p) p.mg);
    }

-- "Retire (maker, set, vintage, Mg): lowers the lot."
abbrev pub retired_lot : Retirement → Key
retired_lot p = key p.maker p.set p.vintage

unfoldable pub retirement_done : Book → Retirement → Posted
retirement_done b p =
    record {
      answer = leaving b (retired_lot p) p.mg;
      book = moved b (lower b.lots (retired_lot p) p.mg) b.shortages;
    }
