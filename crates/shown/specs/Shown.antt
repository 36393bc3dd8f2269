-- Claims about every table, accepted or not, every book b that the terminal begins with, and every input, any bytes
-- whatever, of the terminal that text/specs/Program defines (the last about every two inputs). The second and the third
-- are of sound books, `FromFresh` says them of the fresh one; Moving has those of two terminals. src/claims.rt holds
-- each to its proof.
use Rattle.std.specs.Prelude.{ℕ, suc, ◌+◌, ◌<◌, ◌≤◌, true, List, [], ◌∷◌, ◌++◌, map, ◌↔◌, ◌⊎◌, ◌≡◌, length, take, Some, Ok}
use Rattle.figuring.specs.Tables.{Table}
use Rattle.book.specs.Ledger.{Key, In}
use Rattle.book.specs.Soundness.{sound}
use Rattle.book.specs.Refusals.{Answered, refusal_in}
use Rattle.book.specs.Postings.{fresh_book, seller_lot, buyer_lot, applied_lot, retired_lot}
use Rattle.book.specs.Rules.{Request, posted_to}
use Rattle.book.specs.Companions.{Sized, accepted_only}
use Rattle.book.specs.Orders.{Among, Reordered}
use Rattle.book.specs.FilingOrder.{Lodged, filings, NoTwoAlike}
use Rattle.book.specs.Coverage.{coverage, total}
use Rattle.book.specs.Accounts.{Opening, zero_opening, Accounts, in_accounts}
use Rattle.book.specs.Accounts.{bought, sold, applied, retired, covered}
use Rattle.book.specs.Demand3 as D
use Rattle.book.specs.Demand3.{is_accepted, opening_of, accounts_after, Reconciled, Demand3}
use Rattle.book.specs.declared.ledger.Book.{Book}
use Rattle.book.specs.declared.kinds.Call.{Call}
use Rattle.book.specs.declared.answers.Answer.{Answer}
use Rattle.text.specs.Pattern.{fit}
use Rattle.text.specs.Line.{most_digits}
use Rattle.text.specs.Desk.{line_feed}
use Rattle.text.specs.Lines.{lines_of, answers_to}
use Rattle.text.specs.Listing.{listing}
use Rattle.text.specs.Program.{terminal}
use Rattle.shown.specs.Calls.{calls, answers, answers_of, texts, postings, final_book}
use Rattle.shown.specs.Statement.{accounts_by, Item, lot, short, items, rank}
use Rattle.shown.specs.Statement.{item_pattern, item_figures, item_line, statement}
use Rattle.shown.specs.Journal.{journal_of, journal}

-- what a call is answered after some calls
abbrev pub answer_after : Book → List Request → Request → Answered
answer_after b before r = (posted_to (D.book_after b before) r).answer

-- 1, lines are calls: the book is the calls', and the answers are the calls', with refusal 1 where a line is no form.
pub record ByCalls (t : Table) (b : Book) (input : List ℕ) : Type 0 where
  pub book : final_book t b input ≡ D.book_after b (calls t input)
  pub answered : answers_to t b (lines_of input) ≡ texts (answers t b input)
  -- an answer to each line
  pub each : length (answers t b input) ≡ length (lines_of input)
  -- and to each call the one that the calls before it lead to
  pub in_place :
      (before : List Request) (r : Request) (after : List Request) → calls t input ≡ before ++ r ∷ after
      → answers_of b (calls t input)
      ≡ answers_of b before ++ answer_after b before r ∷ answers_of (D.book_after b (before ++ r ∷ [])) after

-- every one of a list has p
abbrev pub Every : {A : Type 0} → (A → Type 0) → List A → Type 0
Every p [] = Unit {0}
Every p (x ∷ xs) = p x × Every p xs

abbrev pub NotTwo : Answered → Type 0
NotTwo a = refusal_in a ≡ 2 → ⊥

abbrev pub Accepts : Answered → Type 0
Accepts a = is_accepted a ≡ true

-- 2, the demands: no answer is refusal 2, and demand 3 holds of the calls, so of the terminal's book, which can begin
-- another terminal.
pub record Demands (t : Table) (b : Book) (input : List ℕ) : Type 0 where
  pub never_two : Every NotTwo (answers t b input)
  pub stays_sized : Sized (final_book t b input)
  pub stays_sound : sound (final_book t b input) ≡ true
  pub demand3 : Demand3 b (calls t input)
  pub reconciled : (k : Key) → In k → Reconciled (final_book t b input) (accounts_after b (calls t input)) k

-- n Mg are what the accounts leave in a lot of the book, as a sum, so that no difference below zero can hide
abbrev pub LeftInLot : Accounts → Key → ℕ → Type 0
LeftInLot a k n =
    In k
    × (n + a.mg sold k + a.mg applied k + a.mg retired k ≡ a.opening.lot k + a.earned k + a.mg bought k)

abbrev pub LeftShort : Accounts → Key → ℕ → Type 0
LeftShort a k n = In k × (n + a.mg covered k ≡ a.opening.shortage k + a.shortfall k)

-- what a line of the statement says: its Mg are above 0, and they are the accounts' balance
abbrev pub Says : Accounts → Item → Type 0
Says a (lot k n) = (0 < n) × LeftInLot a k n
Says a (short k n) = (0 < n) × LeftShort a k n

-- what the answer to a call says by its Mg: they are what the accounts leave in the lot that the call pays from
abbrev pub Leaves : Accounts → Call → ℕ → Type 0
Leaves a (Call.Trade t) n = LeftInLot a (seller_lot t) n
Leaves a (Call.Apply p) n = LeftInLot a (applied_lot p) n
Leaves a (Call.Retire p) n = LeftInLot a (retired_lot p) n
Leaves a (Call.File f) n = ⊥
Leaves a (Call.Close y) n = ⊥
Leaves a (Call.Cover c) n = ⊥

-- what the answer to a cover says by its Mg: card 9's "Mg moved", those of the applications (`made_by`) that the accounts
-- just before it figure for it
abbrev pub Moves : Accounts → Call → ℕ → Type 0
Moves a (Call.Cover c) n = n ≡ total (coverage (in_accounts a c))
Moves a (Call.File f) n = ⊥
Moves a (Call.Close y) n = ⊥
Moves a (Call.Trade t) n = ⊥
Moves a (Call.Apply p) n = ⊥
Moves a (Call.Retire p) n = ⊥

-- a posting that brought Mg into a line: the close of its year, which earned or lacked some there; or, for a lot, a
-- trade to it
abbrev pub Brings : Accounts → Item → Call → Type 0
Brings a (lot k n) (Call.Close y) = (y ≡ k.year) × (0 < a.earned k)
Brings a (lot k n) (Call.Trade t) = (buyer_lot t ≡ k) × (0 < t.mg)
Brings a (lot k n) (Call.File f) = ⊥
Brings a (lot k n) (Call.Apply p) = ⊥
Brings a (lot k n) (Call.Retire p) = ⊥
Brings a (lot k n) (Call.Cover c) = ⊥
Brings a (short k n) (Call.Close y) = (y ≡ k.year) × (0 < a.shortfall k)
Brings a (short k n) (Call.Trade t) = ⊥
Brings a (short k n) (Call.File f) = ⊥
Brings a (short k n) (Call.Apply p) = ⊥
Brings a (short k n) (Call.Retire p) = ⊥
Brings a (short k n) (Call.Cover c) = ⊥

-- Mg that a line began with: an opening figure of its key is above 0
abbrev pub Opens : Opening → Item → Type 0
Opens o (lot k n) = 0 < o.lot k
Opens o (short k n) = 0 < o.shortage k

-- the call of one of some postings has p
pub record One (p : Call → Type 0) (ps : List Request) : Type 0 where
  pub posting : Request
  pub among : Among posting ps
  pub has : p posting.call

-- items in rising order from a place on, each once
abbrev pub Rising : ℕ → List Item → Type 0
Rising n [] = Unit {0}
Rising n (x ∷ xs) = (n ≤ rank x) × Rising (suc (rank x)) xs

-- what the statement of postings, begun with the opening figures o, tells by their accounts: a line stands in it exactly
-- where they say so, so that each line shown has its balance, and each balance above 0 is shown; and each line has an
-- opening figure or a posting behind it
pub record Tells (o : Opening) (ps : List Request) : Type 0 where
  -- what the accounts count from
  pub opening : (accounts_by o ps).opening ≡ o
  pub exactly : (x : Item) → Among x (items (accounts_by o ps)) ↔ Says (accounts_by o ps) x
  pub rises : Rising 0 (items (accounts_by o ps))
  -- and no other items do both
  pub only :
      (xs : List Item) → ((x : Item) → Among x xs ↔ Says (accounts_by o ps) x) → Rising 0 xs
      → xs ≡ items (accounts_by o ps)
  pub behind : (x : Item) → Among x (items (accounts_by o ps)) → Opens o x ⊎ One (Brings (accounts_by o ps) x) ps
  -- the items are the text's lines, and the figures in a line, read back as a form's are read, are the item's
  pub lines : lines_of (statement o ps) ≡ map (item_line (accounts_by o ps).open_year) (items (accounts_by o ps))
  pub figures :
      (x : Item) → Among x (items (accounts_by o ps))
      → let Y = (accounts_by o ps).open_year in
      fit most_digits (item_pattern Y x) (item_line Y x) ≡ Some (item_figures x)

-- 3, the sentence on the screen: what is shown is the answers, then the statement of the postings, counted from the
-- opening figures of the book, and nothing else.
pub record OnScreen (t : Table) (b : Book) (input : List ℕ) : Type 0 where
  pub shows :
      terminal t b input
      ≡ texts (answers t b input) ++ statement (opening_of b) (postings t b input)
  pub listed : listing (final_book t b input) ≡ statement (opening_of b) (postings t b input)
  pub tells : Tells (opening_of b) (postings t b input)
  -- the Mg that an answer says are left, by the accounts of the postings up to its own
  pub left :
      (before : List Request) (r : Request) (after : List Request) (n : ℕ) → calls t input ≡ before ++ r ∷ after
      → answer_after b before r ≡ Ok (Answer.Left (record { 0 = n }))
      → Leaves (accounts_by (opening_of b) (accepted_only b (before ++ r ∷ []))) r.call n
  -- the Mg that a cover's answer says it moved, by the accounts of the postings before it
  pub moved :
      (before : List Request) (r : Request) (after : List Request) (n : ℕ) → calls t input ≡ before ++ r ∷ after
      → answer_after b before r ≡ Ok (Answer.Covered (record { 0 = n }))
      → Moves (accounts_by (opening_of b) (accepted_only b before)) r.call n

-- of the program's terminal, which "starts from a fresh book": its statement is counted from 2014 and from zero, so that
-- each of its lines has a posting behind it.
pub record FromFresh (t : Table) (input : List ℕ) : Type 0 where
  pub demands : Demands t fresh_book input
  pub shows :
      terminal t fresh_book input
      ≡ texts (answers t fresh_book input) ++ statement zero_opening (postings t fresh_book input)
  pub tells : Tells zero_opening (postings t fresh_book input)
  pub behind :
      (x : Item) → Among x (items (accounts_by zero_opening (postings t fresh_book input)))
      → One (Brings (accounts_by zero_opening (postings t fresh_book input)) x) (postings t fresh_book input)

-- 4, the journal: put to a terminal that begins with the same table and the same book it gives the book again, and so
-- the listing, with no line refused.
pub record JournalKept (t : Table) (b : Book) (input : List ℕ) : Type 0 where
  pub calls_are : calls t (journal t b input) ≡ postings t b input
  pub book : final_book t b (journal t b input) ≡ final_book t b input
  pub list : listing (final_book t b (journal t b input)) ≡ listing (final_book t b input)
  pub accepted : Every Accepts (answers t b (journal t b input))
  pub again : journal t b (journal t b input) ≡ journal t b input
  -- cut anywhere, between lines or within one: its calls are the first so many postings, so the book is theirs
  pub torn : (p q : List ℕ) → journal t b input ≡ p ++ q → (n : ℕ) × (calls t p ≡ take n (postings t b input))
  pub torn_book :
      (p q : List ℕ) → journal t b input ≡ p ++ q
      → (n : ℕ) × (final_book t b p ≡ D.book_after b (take n (postings t b input)))
  -- cut after a line feed: besides, every line is accepted
  pub cut :
      (p q : List ℕ) → journal t b input ≡ p ++ line_feed ∷ q
      → (n : ℕ) × (p ++ line_feed ∷ [] ≡ journal_of (take n (postings t b input)))
      × Every Accepts (answers t b (p ++ line_feed ∷ []))

-- 5, filing order: where the calls of two inputs, with one table and one book, differ only in the order of some filings,
-- no two of which name the same maker, set and number, the books are equal, and with them what is listed.
abbrev pub FiledInAnyOrder : Table → Book → List ℕ → List ℕ → Type 0
FiledInAnyOrder t b input other =
    (before after : List Request) (fs gs : List Lodged)
    → calls t input ≡ before ++ filings fs ++ after → calls t other ≡ before ++ filings gs ++ after
    → Reordered fs gs → NoTwoAlike fs → final_book t b input ≡ final_book t b other
