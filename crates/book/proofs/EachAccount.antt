-- Each account by itself, by computing.
use mathlib.Core.Path.{refl}
use Rattle.figuring.specs.Standards.{standard_for, tractor, vocational, printed_for}
use Rattle.figuring.specs.Grid.{column_of, grid_row, grid_from, printed_grid}
use Rattle.figuring.specs.Tables.{is_standard, standard_of, ordinary_in}
use Rattle.figuring.specs.Editions.{alternative_years, in_table, alternative_for, standard_under}
use Rattle.figuring.specs.Parts.{between, part_of}
use Rattle.figuring.specs.Netting.{net_of, nearest, earned_of, shortfall_of}
use Rattle.book.specs.Below.{only, sum_below_ℤ}
use Rattle.book.specs.Ledger.{figure_at, raise}
use Rattle.book.specs.Postings.{part_beside}
use Rattle.book.specs.Coverage.{after, payments, rising, turns, coverage}
use Rattle.figuring.specs.Life.{closed_year, live, open_short}
use Rattle.book.specs.Accounts.{same_key, add_all, feed, feed_all, accounts_from}
use Rattle.book.specs.EachAccount.{EachAccount}

pub each_account : EachAccount
unfolding accounts_from feed_all feed add_all coverage turns rising payments after live open_short closed_year figure_at raise same_key only sum_below_ℤ part_beside ordinary_in column_of standard_of is_standard between printed_grid grid_from grid_row standard_under alternative_for alternative_years in_table standard_for tractor vocational printed_for part_of net_of nearest earned_of shortfall_of
each_account =
    record {
      seller = refl;
      buyer = refl;
      shortage = refl;
      named = (refl, refl, refl, refl);
      last_figures = (refl, refl, refl, refl, refl);
      own_standards = (refl, refl, refl, refl);
      opening_figures = (refl, refl, refl, refl, refl);
      oldest_first = (refl, refl, refl, refl, refl, refl, refl, refl, refl, refl, refl);
      other_set = refl;
    }
