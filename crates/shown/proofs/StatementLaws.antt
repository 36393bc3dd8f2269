-- The listing of a book that agrees with accounts is the accounts' statement.
use Prim.Native.Nat.{ℕ, zero, suc, ◌+◌, ◌≤◌, ◌<◌}
use native.Mathlib.Decide.{dec_le}
use native.Mathlib.Omega.{arith}
use mathlib.Core.Bool.{Bool, true, false, cond, ◌&&◌}
use mathlib.Core.List.{List, [], ◌∷◌, ◌++◌, map, append_assoc}
use mathlib.Core.Path.{◌≡◌, refl, sym, ◌∙◌, ap, ap₂}
use borrow.Author.Tests.{lt-ltb, le-leb, lt-leb}
use lib.Dec.{ltb, eqb}
use lib.ListN.{get_or, drop}
use Rattle.std.specs.Prelude.{Option, Some, None}
use Rattle.figuring.specs.Years.{first_year, last_year}
use Rattle.book.specs.Sizes.{makers, sets, years}
use Rattle.book.specs.Ledger.{Key, key, In, figure_at}
use Rattle.figuring.specs.Life.{closed_year, live, expired, open_short, overdue}
use Rattle.book.specs.Listing.{is_cell_year, lot_entry, shortage_entry}
use Rattle.book.specs.Accounts.{Accounts, move, feed, feed_all, lot_by, shortage_by}
use Rattle.book.specs.Rules.{Request, posted_to}
use Rattle.book.specs.Demand3.{is_accepted, history, Reconciled}
use Rattle.book.specs.Companions.{keep_if, accepted_only}
use Rattle.book.specs.declared.ledger.Book.{Book}
use Rattle.book.specs.declared.listing.LotEntry.{LotEntry}
use Rattle.book.specs.declared.listing.ShortageEntry.{ShortageEntry}
use Rattle.book.proofs.SoundnessLaws.{Sound}
use Rattle.text.specs.Gather.{gather}
use Rattle.text.specs.Ascii.{ascii}
use Rattle.text.specs.Numeral.{numeral}
use Rattle.text.specs.Pattern.{filled, hash, choose}
use Rattle.text.specs.Desk.{line_feed}
use Rattle.text.specs.Listing.{lot_text, shortage_text, lot_line, shortage_line, cell_text, maker_text, listing}
use Rattle.text.proofs.GatherLaws.{gather_through}
use Rattle.shown.specs.Statement.{as_posting, Item, lot, short, above0, lot_item, short_item, cell_items, items, item_line, item_lines}

-- ---- the accounts see the accepted calls alone
pub accounts_same :
    (a : Accounts) (b : Book) (rs : List Request) → feed_all a (history b rs) ≡ feed_all a (map as_posting (accepted_only b rs))
unfolding feed_all history accepted_only feed
accounts_same a b [] = refl
accounts_same a b (r ∷ rs) = go (is_accepted (posted_to b r).answer) (λ x. accounts_same x (posted_to b r).book rs)
  where
    go :
        (e : Bool)
        → ((x : Accounts) → feed_all x (history (posted_to b r).book rs) ≡ feed_all x (map as_posting (accepted_only (posted_to b r).book rs)))
        → feed_all (feed a (record { table = r.table; call = r.call; accepted = e })) (history (posted_to b r).book rs)
        ≡ feed_all a (map as_posting (keep_if e r (accepted_only (posted_to b r).book rs)))
    go true ih = ih (move r.table a r.call)
    go false ih = ih a

-- ---- one line
filled_end : (p ns : List ℕ) → filled (p ++ line_feed ∷ []) ns ≡ filled p ns ++ line_feed ∷ []
unfolding filled
filled_end [] ns = refl
filled_end (c ∷ p) ns = go (eqb c hash) (filled_end p)
  where
    go :
        (b : Bool) → ((ms : List ℕ) → filled (p ++ line_feed ∷ []) ms ≡ filled p ms ++ line_feed ∷ [])
        → choose b (λ u. numeral (get_or ns 0 0) ++ filled (p ++ line_feed ∷ []) (drop 1 ns)) (λ u. c ∷ filled (p ++ line_feed ∷ []) ns)
        ≡ choose b (λ u. numeral (get_or ns 0 0) ++ filled p (drop 1 ns)) (λ u. c ∷ filled p ns) ++ line_feed ∷ []
    go true ih = rw (ih (drop 1 ns)) (sym (append_assoc (numeral (get_or ns 0 0)) (filled p (drop 1 ns)) (line_feed ∷ [])))
    go false ih = rw (ih ns)

in_cell : (m s v : ℕ) → m < makers → s < sets → first_year ≤ v → v ≤ last_year → is_cell_year m s v ≡ true
unfolding is_cell_year
in_cell m s v hm hs hl hh = rw (lt-ltb m makers hm, lt-ltb s sets hs, le-leb first_year v hl, le-leb v last_year hh)

module _ (o m s v : ℕ) (hm : m < makers) (hs : s < sets) (hl : first_year ≤ v) (hh : v ≤ last_year) where
  -- what the listing shows of a lot of n Mg, and of a shortage
  abbrev lot_of : ℕ → Option LotEntry
  lot_of n =
      cond (is_cell_year m s v && ltb 0 n)
      (cond (live o v) (Some (LotEntry.Live (record { 0 = n })))
      (cond (expired o v) (Some (LotEntry.Expired (record { 0 = n }))) None))
      None

  abbrev shortage_of : ℕ → Option ShortageEntry
  shortage_of n =
      cond (is_cell_year m s v && ltb 0 n)
      (cond (open_short o v) (Some (ShortageEntry.Open (record { 0 = n })))
      (cond (overdue o v) (Some (ShortageEntry.Overdue (record { 0 = n }))) None))
      None

  lot_shown :
      (n : ℕ) → (0 < n → v < o)
      → lot_text m s v (lot_of n)
      ≡ item_lines o (above0 n (lot (key m s v) n))
  unfolding live expired closed_year item_lines item_line
  lot_shown zero h = rw (in_cell m s v hm hs hl hh)
  lot_shown (suc n) h = go (dec_le o (v + 6))
    where
      go :
          Dec (o ≤ v + 6)
          → lot_text m s v (lot_of (suc n))
          ≡ item_lines o (above0 (suc n) (lot (key m s v) (suc n)))
      go (yes d) =
          rw (in_cell m s v hm hs hl hh, lt-ltb 0 (suc n) (omega arith), le-leb first_year v hl, lt-ltb v o (h (omega arith)), le-leb o (v + 6) d) (filled_end (ascii "(lot # # # live #)") _)
      go (no d) =
          rw (in_cell m s v hm hs hl hh, lt-ltb 0 (suc n) (omega arith), le-leb first_year v hl, lt-ltb v o (h (omega arith)), lt-leb o (v + 6) (omega arith), lt-ltb (v + 6) o (omega arith)) (filled_end (ascii "(lot # # # expired #)") _)

  shortage_shown :
      (n : ℕ) → (0 < n → v < o)
      → shortage_text m s v (shortage_of n)
      ≡ item_lines o (above0 n (short (key m s v) n))
  unfolding open_short overdue closed_year item_lines item_line
  shortage_shown zero h = rw (in_cell m s v hm hs hl hh)
  shortage_shown (suc n) h = go (dec_le o (v + 4))
    where
      go :
          Dec (o ≤ v + 4)
          → shortage_text m s v (shortage_of (suc n))
          ≡ item_lines o (above0 (suc n) (short (key m s v) (suc n)))
      go (yes d) =
          rw (in_cell m s v hm hs hl hh, lt-ltb 0 (suc n) (omega arith), le-leb first_year v hl, lt-ltb v o (h (omega arith)), le-leb o (v + 4) d) (filled_end (ascii "(short # # # open #)") _)
      go (no d) =
          rw (in_cell m s v hm hs hl hh, lt-ltb 0 (suc n) (omega arith), le-leb first_year v hl, lt-ltb v o (h (omega arith)), lt-leb o (v + 4) (omega arith), lt-ltb (v + 4) o (omega arith)) (filled_end (ascii "(short # # # overdue #)") _)

-- ---- all lines
item_lines_append : (o : ℕ) (xs ys : List Item) → item_lines o (xs ++ ys) ≡ item_lines o xs ++ item_lines o ys
unfolding item_lines
item_lines_append o [] ys = refl
item_lines_append o (x ∷ xs) ys = rw (item_lines_append o xs ys) (sym (append_assoc (item_line o x) (line_feed ∷ item_lines o xs) (item_lines o ys)))

-- what is gathered line by line is what is collected, printed
gather_lines :
    (o n : ℕ) (f : ℕ → List ℕ) (g : ℕ → List Item) → ((i : ℕ) → i < n → f i ≡ item_lines o (g i))
    → gather n f ≡ item_lines o (gather n g)
unfolding item_lines
gather_lines o n f g h = sym (gather_through (item_lines o) refl (item_lines_append o) n g f (λ i l. sym (h i l)))

-- a figure above 0 is of a closed year, if those of the open year and later are 0
closed_year_lem : (Y y n : ℕ) → (Y ≤ y → n ≡ 0) → 0 < n → y < Y
closed_year_lem Y y n zeros h = go (dec_le Y y)
  where
    go : Dec (Y ≤ y) → y < Y
    go (yes l) = absurd (omega (arith, zeros l))
    go (no l) = omega arith

module _ (b : Book) (a : Accounts) (w : Sound b) (r : (k : Key) → In k → Reconciled b a k) where
  module _ (m s : ℕ) (hm : m < makers) (hs : s < sets) where
    lot_line_lem : (i : ℕ) → i < years → lot_line b.open_year b.lots m s i ≡ item_lines b.open_year (lot_item a m s i)
    unfolding lot_line lot_entry
    lot_line_lem i hi =
        let k : Key = key m s (first_year + i) in
        let j : In k = omega arith in
        let e : figure_at b.lots k ≡ lot_by a k = omega (arith, (r k j).lot) in
        lot_shown b.open_year m s (first_year + i) hm hs (omega arith) (omega arith) (figure_at b.lots k) (closed_year_lem _ _ _ (λ l. (w.ahead k j l).0))
        ∙ ap (λ (n : ℕ). item_lines b.open_year (above0 n (lot k n))) e

    shortage_line_lem : (i : ℕ) → i < years → shortage_line b.open_year b.shortages m s i ≡ item_lines b.open_year (short_item a m s i)
    unfolding shortage_line shortage_entry
    shortage_line_lem i hi =
        let k : Key = key m s (first_year + i) in
        let j : In k = omega arith in
        let e : figure_at b.shortages k ≡ shortage_by a k = omega (arith, (r k j).shortage) in
        shortage_shown b.open_year m s (first_year + i) hm hs (omega arith) (omega arith) (figure_at b.shortages k) (closed_year_lem _ _ _ (λ l. (w.ahead k j l).1))
        ∙ ap (λ (n : ℕ). item_lines b.open_year (above0 n (short k n))) e

    cell_same : cell_text b m s ≡ item_lines b.open_year (cell_items a m s)
    unfolding cell_text cell_items
    cell_same =
        ap₂ ◌++◌ (gather_lines _ years _ (lot_item a m s) lot_line_lem) (gather_lines _ years _ (short_item a m s) shortage_line_lem)
        ∙ sym (item_lines_append b.open_year (gather years (lot_item a m s)) (gather years (short_item a m s)))

  pub listing_is : listing b ≡ item_lines b.open_year (items a)
  unfolding listing maker_text items
  listing_is =
      gather_lines _ makers _ (λ m. gather sets (cell_items a m))
      (λ m hm. gather_lines _ sets _ (cell_items a m) (λ s hs. cell_same m s hm hs))
