-- The claims, for any table, any book to begin with and any input.
use Prim.Native.Nat.{ℕ}
use native.Mathlib.Omega.{arith}
use mathlib.Core.Bool.{true}
use mathlib.Core.List.{List, [], ◌∷◌, ◌++◌}
use mathlib.Core.Logic.{◌↔◌}
use mathlib.Core.Path.{◌≡◌, sym, ◌∙◌, ap, ap₂, subst}
use lib.ListN.{take}
use Rattle.std.specs.Prelude.{Ok}
use Rattle.figuring.specs.Tables.{Table}
use Rattle.book.specs.Ledger.{Key, In}
use Rattle.book.specs.Soundness.{sound}
use Rattle.book.specs.Accounts.{Accounts, begun_with, accounts_from}
use Rattle.book.specs.Rules.{Request}
use Rattle.book.specs.Demand3 as D
use Rattle.book.specs.Demand3.{opening_of, accounts_after, Reconciled}
use Rattle.book.specs.Companions.{Sized, accepted_only}
use Rattle.book.specs.Orders.{Among}
use Rattle.book.specs.FilingOrder.{Lodged, filings, after_filings}
use Rattle.book.specs.declared.answers.Answer.{Answer}
use Rattle.book.specs.declared.ledger.Book.{Book}
use Rattle.book.proofs.SoundnessLaws.{sound_is, sound_lot}
use Rattle.book.proofs.KeptSound.{sized_after}
use Rattle.book.proofs.NeverUnsound.{never_unsound}
use Rattle.book.proofs.Reconciliation.{begins, keeps_all, demand3}
use Rattle.book.proofs.StrikeOut.{strike_out}
use Rattle.book.proofs.FilingOrder.{filing_order}
use Rattle.text.specs.Line.{most_digits}
use Rattle.text.specs.Desk.{line_feed}
use Rattle.text.specs.Lines.{lines_of}
use Rattle.text.specs.Listing.{listing}
use Rattle.text.specs.Program.{terminal}
use Rattle.text.specs.Rendered.{FewDigits}
use Rattle.shown.specs.Calls.{answers_of, calls, answers, postings, final_book}
use Rattle.shown.specs.Statement.{accounts_by, Item, lot, short, items, item_figures, item_lines, statement}
use Rattle.shown.specs.Journal.{journal_of, journal}
use Rattle.shown.specs.Shown.{answer_after, Every, Accepts, Says, Leaves, Moves, Tells, ByCalls, Demands, OnScreen, JournalKept, FiledInAnyOrder}
use Rattle.shown.proofs.CallLaws.{book_by_calls, answers_by_calls, an_answer_each, book_append, answers_in_place, no_two}
use Rattle.shown.proofs.LeftLaws.{left_by, moved_by}
use Rattle.shown.proofs.OrderLaws.{items_rise, only_items}
use Rattle.shown.proofs.StatementLaws.{accounts_same, listing_is}
use Rattle.shown.proofs.LineLaws.{item_lines_lem, item_read}
use Rattle.shown.proofs.ItemLaws.{Exact, by_opening, each_says, says_each, says_behind}
use Rattle.shown.proofs.JournalLaws.{Written, written_calls, written_kept, written_take, journal_read, answers_accepted, first_accepted, lines_accepted, accepted_again, cut_journal}
use Rattle.shown.proofs.TornLaws.{torn_calls}

accounts_are : (b : Book) (rs : List Request) → accounts_after b rs ≡ accounts_by (opening_of b) (accepted_only b rs)
unfolding accounts_from accounts_by
accounts_are b rs = accounts_same (begun_with (opening_of b)) b rs

-- the Mg of an answer
left_says :
    (b : Book) → Sized b → (before : List Request) (r : Request) (n : ℕ)
    → answer_after b before r ≡ Ok (Answer.Left (record { 0 = n }))
    → Leaves (accounts_by (opening_of b) (accepted_only b (before ++ r ∷ []))) r.call n
unfolding D.book_after
left_says b z before r n e =
    subst (λ (a : Accounts). Leaves a r.call n) (accounts_are b (before ++ r ∷ []))
    (left_by r.table (D.book_after b before) r.call n (sized_after b before z) e (accounts_after b (before ++ r ∷ []))
    (λ k i. subst (λ (c : Book). Reconciled c (accounts_after b (before ++ r ∷ [])) k) (book_append before (r ∷ []) b) ((demand3 b z (before ++ r ∷ [])).reconciled k i)))

moved_says :
    (b : Book) → Sized b → (before : List Request) (r : Request) (n : ℕ)
    → answer_after b before r ≡ Ok (Answer.Covered (record { 0 = n }))
    → Moves (accounts_by (opening_of b) (accepted_only b before)) r.call n
unfolding accounts_from
moved_says b z before r n e =
    subst (λ (a : Accounts). Moves a r.call n) (accounts_are b before)
    (moved_by r.table (D.book_after b before) r.call n e (accounts_after b before)
    (keeps_all before b (begun_with (opening_of b)) (begins b z)))

module _ (t : Table) (b : Book) (input : List ℕ) where
  pub by_calls : ByCalls t b input
  by_calls =
      record {
        book = book_by_calls t b (lines_of input);
        answered = answers_by_calls t b (lines_of input);
        each = an_answer_each t b (lines_of input);
        in_place = λ before r after e. ap (answers_of b) e ∙ answers_in_place before r after b;
      }

  -- ---- begun with a sound book
  module _ (z : Sized b) (s : sound b ≡ true) where
    is_sound : sound (final_book t b input) ≡ true
    is_sound = ap sound by_calls.book ∙ (never_unsound b z s (calls t input)).stays_sound

    reconciled : (k : Key) → In k → Reconciled (final_book t b input) (accounts_after b (calls t input)) k
    reconciled k i =
        subst (λ (c : Book). Reconciled c (accounts_after b (calls t input)) k) (sym by_calls.book) ((demand3 b z (calls t input)).reconciled k i)

    pub demands : Demands t b input
    demands =
        record {
          never_two = no_two t b (lines_of input) z s;
          stays_sized = subst Sized (sym by_calls.book) (sized_after b (calls t input) z);
          stays_sound = is_sound;
          demand3 = demand3 b z (calls t input);
          reconciled = reconciled;
        }

    -- the accounts of the postings
    abbrev A : Accounts
    A = accounts_by (opening_of b) (postings t b input)

    year_is : (final_book t b input).open_year ≡ A.open_year
    year_is =
        ap (λ (c : Book). c.open_year) by_calls.book ∙ sym (demand3 b z (calls t input)).year
        ∙ ap (λ (a : Accounts). a.open_year) (accounts_are b (calls t input))

    by_postings : (k : Key) → In k → Reconciled (final_book t b input) A k
    by_postings k i = subst (λ (a : Accounts). Reconciled (final_book t b input) a k) (accounts_are b (calls t input)) (reconciled k i)

    listed : listing (final_book t b input) ≡ statement (opening_of b) (postings t b input)
    listed =
        listing_is (final_book t b input) A (sound_is (final_book t b input) is_sound) by_postings
        ∙ ap (λ (y : ℕ). item_lines y (items A)) year_is

    exact : (k : Key) → In k → Exact A k
    exact k i =
        record { lot = omega (arith, (by_postings k i).lot); shortage = omega (arith, (by_postings k i).shortage) }

    says : (x : Item) → Among x (items A) → Says A x
    says = each_says A exact

    -- a balance of a sound book has at most 12 digits
    small : (x : Item) → Says A x → FewDigits most_digits (item_figures x)
    small (lot k n) h =
        let w = sound_is (final_book t b input) is_sound in
        let i = h.1.0 in
        (omega arith, (omega arith, (omega arith, (omega (arith, h.1.1, (by_postings k i).lot, sound_lot (final_book t b input) w k i), tt))))
    small (short k n) h =
        let w = sound_is (final_book t b input) is_sound in
        let i = h.1.0 in
        (omega arith, (omega arith, (omega arith, (omega (arith, h.1.1, (by_postings k i).shortage, w.shortage k i), tt))))

    exactly : (x : Item) → Among x (items A) ↔ Says A x
    exactly x = (says x, says_each A exact x)

    tells : Tells (opening_of b) (postings t b input)
    tells =
        record {
          opening = by_opening (opening_of b) (postings t b input);
          exactly = exactly;
          rises = items_rise A;
          only = λ xs h k. only_items (Says A) xs (items A) h exactly k (items_rise A);
          behind = λ x m. says_behind (opening_of b) (postings t b input) x (says x m);
          lines = item_lines_lem A.open_year (items A);
          figures = λ x m. item_read A.open_year x (small x (says x m));
        }

    pub on_screen : OnScreen t b input
    unfolding terminal
    on_screen =
        record {
          shows = ap₂ ◌++◌ by_calls.answered listed;
          listed = listed;
          tells = tells;
          left = λ before r after n e f. left_says b z before r n f;
          moved = λ before r after n e f. moved_says b z before r n f;
        }

  -- ---- the journal
  written : Written t (postings t b input)
  written = written_kept t b (calls t input) (written_calls t input)

  calls_are : calls t (journal t b input) ≡ postings t b input
  calls_are = journal_read t (postings t b input) written

  book_kept : final_book t b (journal t b input) ≡ final_book t b input
  book_kept =
      book_by_calls t b (lines_of (journal t b input)) ∙ ap (D.book_after b) calls_are ∙ strike_out b (calls t input)
      ∙ sym by_calls.book

  accepts : Every Accepts (answers_of b (postings t b input))
  accepts = answers_accepted b (calls t input)

  torn : (p q : List ℕ) → journal t b input ≡ p ++ q → (n : ℕ) × (calls t p ≡ take n (postings t b input))
  torn p q e = torn_calls t (postings t b input) written p q e

  cut_after :
      (p q : List ℕ) → journal t b input ≡ p ++ line_feed ∷ q
      → (n : ℕ) × (p ++ line_feed ∷ [] ≡ journal_of (take n (postings t b input))) × Every Accepts (answers t b (p ++ line_feed ∷ []))
  cut_after p q e =
      let h = cut_journal t (postings t b input) written p q e in (
        h.0,
        h.1,
        subst (λ (s : List ℕ). Every Accepts (answers t b s)) (sym h.1)
            (lines_accepted t b (take h.0 (postings t b input)) (written_take t h.0 (postings t b input) written)
            (first_accepted b (postings t b input) h.0 accepts)),
      )

  pub journal_kept : JournalKept t b input
  journal_kept =
      record {
        calls_are = calls_are;
        book = book_kept;
        list = ap listing book_kept;
        accepted = lines_accepted t b (postings t b input) written accepts;
        again = ap journal_of (ap (accepted_only b) calls_are ∙ accepted_again b (calls t input));
        torn = torn;
        torn_book = λ p q e. let h = torn p q e in (h.0, book_by_calls t b (lines_of p) ∙ ap (D.book_after b) h.1);
        cut = cut_after;
      }

-- ---- filing order
-- the book of an input in which filings stand between other calls
filed_between :
    (t : Table) (b : Book) (input : List ℕ) (before after : List Request) (fs : List Lodged)
    → calls t input ≡ before ++ filings fs ++ after
    → final_book t b input ≡ D.book_after (after_filings (D.book_after b before) fs) after
filed_between t b input before after fs e =
    (by_calls t b input).book
    ∙ ap (D.book_after b) e
    ∙ book_append (before ++ filings fs) after b
    ∙ ap (λ (c : Book). D.book_after c after) (book_append before (filings fs) b)

pub filed_in_any_order : (t : Table) (b : Book) (input other : List ℕ) → Sized b → FiledInAnyOrder t b input other
filed_in_any_order t b input other z before after fs gs e d r n =
    let start = D.book_after b before in
    let same = filing_order start fs gs (sized_after b before z) r n in
    filed_between t b input before after fs e
    ∙ ap (λ (c : Book). D.book_after c after) same.books
    ∙ sym (filed_between t b other before after gs d)
