-- Card 9's claims of a cover. Its own applications lower a cell's sums as any other list does (CellSums), so two facts of the rule
-- are left: after it no live lot stands beside an open shortage, and a lot fell only if every older live one is at 0.
use Prim.Native.Nat.{ℕ, ◌+◌, ◌^◌, ◌≤◌, ◌<◌, min}
use mathlib.Core.Bool.{Bool, true, not, ◌&&◌, ◌||◌, and-true, or-true}
use mathlib.Core.List.{List, [], ◌∷◌, map}
use mathlib.Core.Path.{◌≡◌, refl, sym, ◌∙◌, ap}
use native.Mathlib.Omega.{arith}
use native.Mathlib.Decide.{dec_le}
use borrow.Author.Tests.{leb-true, leb-false}
use lib.Dec.{leb}
use lib.IntN.{pos, nat_abs}
use Rattle.figuring.specs.Years.{first_year}
use Rattle.figuring.specs.Life.{live, open_short}
use Rattle.figuring.specs.Tables.{Table, built_in}
use Rattle.figuring.proofs.BoolLaws.{both}
use Rattle.figuring.proofs.LifeLaws.{Live, live_is, open_is, is_live, is_open}
use Rattle.book.specs.Sizes.{years}
use Rattle.book.specs.Below.{only}
use Rattle.book.specs.Ledger.{key, figure_at}
use Rattle.book.specs.Soundness.{sound}
use Rattle.book.specs.Refusals.{first_refusal, values_in, result_in}
use Rattle.book.specs.Postings.{application_done}
use Rattle.book.specs.Coverage.{Standing, Payment, coverage, total}
use Rattle.book.specs.Covering.{application, applications_of, in_book, all_lowered}
use Rattle.book.specs.Covering.{all_applied, moved_by, cover_done}
use Rattle.book.specs.Paying.{all_turns}
use Rattle.book.specs.Rules.{own_rows, apply_rows, posted, done}
use Rattle.book.specs.Accounts.{Entry, as_accepted}
use Rattle.book.specs.Demand3.{is_accepted, history, book_after}
use Rattle.book.specs.Companions.{Sized}
use Rattle.book.specs.OldestFirst.{WordForWord, sum_over, live_lots, open_shortages, lots_from, as_calls, as_entries, covered_by}
use Rattle.book.specs.OldestFirst.{AcceptedExactly, PaysOldest, OldestFirst, NoneBetter}
use Rattle.book.specs.declared.ledger.Book.{Book}
use Rattle.book.specs.declared.kinds.Call.{Call}
use Rattle.book.specs.declared.kinds.Application.{Application}
use Rattle.book.specs.declared.kinds.Cover.{Cover}
use Rattle.book.specs.declared.answers.Posted.{Posted}
use Rattle.std.specs.Prelude.{Ok}
use Rattle.book.proofs.BelowLaws.{only_never, only_falls, only_first, only_either, either_zero}
use Rattle.book.proofs.TableLaws.{sound_head, own_decide, by_verdict}
use Rattle.book.proofs.SoundnessLaws.{Sound, sound_is}
use Rattle.book.proofs.TurnLaws.{left_after, used, kept}
use Rattle.book.proofs.WordLaws.{word_for_word_lem, only_one}
use Rattle.book.proofs.CoverTurns.{turns_stand, AllTaken}
use Rattle.book.proofs.CoverLaws.{Coverable, coverable, accepted_cover, posted_cover, cover_taken}
use Rattle.book.proofs.CellSums.{sum_most, shortages_small, lots_fall, lots_conserved, lots_alike, shortages_conserved}

-- ---- applications that are all taken, put to the book one by one
module _ (t : Table) where
  taken_posted :
      (b : Book) (p : Application) → sound b ≡ true
      → first_refusal (apply_rows b.open_year b.lots b.shortages p) ≡ Ok tt
      → posted t b (Call.Apply p) ≡ application_done b p
  unfolding own_rows done
  taken_posted b p s e = own_decide t b (Call.Apply p) (sound_head b [] s) e

  taken_book : (ps : List Application) (b : Book) → AllTaken b ps → book_after b (as_calls t ps) ≡ all_applied b ps
  unfolding book_after all_lowered application_done
  taken_book [] b h = refl
  taken_book (p ∷ ps) b h =
      ap (λ (q : Posted). book_after q.book (as_calls t ps)) (taken_posted b p h.0 h.1)
      ∙ taken_book ps (application_done b p).book h.2

  taken_history : (ps : List Application) (b : Book) → AllTaken b ps → history b (as_calls t ps) ≡ as_entries t ps
  unfolding history is_accepted application_done
  taken_history [] b h = refl
  taken_history (p ∷ ps) b h =
      rw (taken_posted b p h.0 h.1)
      (ap (λ (es : List Entry). as_accepted t (Call.Apply p) ∷ es) (taken_history ps (application_done b p).book h.2))

  taken_total :
      (c : Cover) (xs : List Payment) (b : Book) → AllTaken b (map (application c) xs)
      → covered_by t b (map (application c) xs) ≡ total xs
  unfolding covered_by total is_accepted application_done only
  taken_total c [] b h = refl
  taken_total c (x ∷ xs) b h =
      rw (taken_posted b (application c x) h.0 h.1)
      (ap (λ (n : ℕ). x.mg + n) (taken_total c xs (application_done b (application c x)).book h.2))

-- ---- a cover that is accepted
module _ (t : Table) (b : Book) (c : Cover) (z : Sized b) (g : Coverable b c) where
  abbrev Y : ℕ
  Y = b.open_year

  abbrev lot : Book → ℕ → ℕ
  lot d v = figure_at d.lots (key c.maker c.set v)

  -- its applications, the book that they leave, and what stands by the rule
  abbrev own : List Application
  own = applications_of c (in_book b c)

  abbrev end : Book
  end = all_applied b own

  abbrev rest : Standing
  rest = left_after (in_book b c) all_turns

  soundly : Sound b
  soundly = sound_is b g.is_sound

  taken : AllTaken b own
  taken = cover_taken b c g z.lots z.shortages

  own_book : book_after b (as_calls t own) ≡ end
  own_book = taken_book t own b taken

  own_total : covered_by t b own ≡ moved_by b c
  own_total = taken_total t c (coverage (in_book b c)) b taken

  -- the book has what stands by the rule
  stands : in_book end c ≡ rest
  unfolding coverage
  stands = turns_stand Y c g.maker g.set soundly.high all_turns b.lots b.shortages z.lots z.shortages

  -- ---- the smaller of the two totals
  one_used : min (live_lots end c) (open_shortages end c) ≡ 0
  unfolding sum_over
  one_used =
      either_zero (λ i. (in_book end c).lots (first_year + i)) (λ i. (in_book end c).shorts (first_year + i)) years
      (λ i j hi hj.
      ap (λ (h : Standing). min (h.lots (first_year + i)) (h.shorts (first_year + j))) stands
      ∙ used first_year years years first_year (first_year + j) (first_year + i) (in_book b c) (omega arith) (omega arith)
      (omega arith) (omega arith))

  -- what its own list leaves of a sum that counts every live lot, and of the open shortages
  left_lots :
      (has : ℕ → Bool) → ((v : ℕ) → Live Y v → has v ≡ true)
      → sum_over has end.lots c + moved_by b c ≡ sum_over has b.lots c
  left_lots has h = rw (own_book, own_total) at (lots_conserved t c has (coverage (in_book b c)) b z h)

  left_shortages : open_shortages end c + moved_by b c ≡ open_shortages b c
  left_shortages =
      rw (own_book, own_total) at (shortages_conserved t c (open_short Y) (coverage (in_book b c)) b z (is_open Y))

  smaller_total : moved_by b c ≡ min (live_lots b c) (open_shortages b c)
  smaller_total = omega (arith, left_lots (live Y) (is_live Y), left_shortages, one_used)

  -- ---- every vintage
  module _ (v : ℕ) where
    -- the lots of vintage v or younger, those of them that are live, and with them the older ones that are live
    abbrev younger : ℕ → Bool
    younger y = leb v y

    abbrev youngerLive : ℕ → Bool
    youngerLive y = leb v y && live Y y

    abbrev counted : ℕ → Bool
    counted y = leb v y || live Y y

    all_counted : (y : ℕ) → Live Y y → counted y ≡ true
    all_counted y l = rw (is_live Y y l) (or-true (leb v y))

    same_live : (y : ℕ) → Live Y y → younger y ≡ youngerLive y
    same_live y l = rw (is_live Y y l) (sym (and-true (leb v y)))

    -- where a live lot of vintage v or younger fell, every older live one is at 0
    older_used :
        (w : ℕ) → v ≤ w → live Y w ≡ true → lot end w < lot b w
        → sum_over counted end.lots c ≤ sum_over younger end.lots c
    unfolding only
    older_used w o l f =
        sum_most counted younger end.lots end.lots c (λ u from upto.
        only_first (younger u) (live Y u) (lot end u) (λ p q.
        let older : u < v = leb-false v u p in
        let eu : lot end u ≡ rest.lots u = rw q at (ap (λ (h : Standing). h.lots u) stands) in
        let ew : lot end w ≡ rest.lots w = rw l at (ap (λ (h : Standing). h.lots w) stands) in
        let eb : (in_book b c).lots w ≡ lot b w = rw l in
        omega (arith, kept first_year years years first_year u w (lot b w) (in_book b c) from upto (omega arith) (omega arith))))

    -- so where they are not all at 0, the live ones of vintage v or younger are as they were
    untouched :
        (sum_over counted end.lots c ≤ sum_over younger end.lots c → ⊥)
        → sum_over youngerLive b.lots c ≤ sum_over youngerLive end.lots c
    untouched n =
        sum_most youngerLive youngerLive b.lots end.lots c (λ w from upto.
        only_falls (youngerLive w) _ _ (λ e. go w (both _ _ e) (dec_le _ _)))
      where
        go : (w : ℕ) → (leb v w ≡ true) × (live Y w ≡ true) → Dec (lot b w ≤ lot end w) → lot b w ≤ lot end w
        go w e (yes p) = p
        go w e (no p) = absurd (n (older_used w (leb-true v w e.0) e.1 (omega arith)))

    -- what its own list leaves of them, as of any list
    left_alike :
        sum_over younger end.lots c + sum_over youngerLive b.lots c
        ≡ sum_over younger b.lots c + sum_over youngerLive end.lots c
    left_alike = rw own_book at (lots_alike t c younger youngerLive (coverage (in_book b c)) b z same_live)

    at_least :
        (others : List Payment) → moved_by b c ≤ covered_by t b (map (application c) others)
        → lots_from v (book_after b (as_calls t (map (application c) others))) c ≤ lots_from v end c
    at_least others h = go (dec_le (sum_over counted end.lots c) (sum_over younger end.lots c))
      where
        theirs : Book
        theirs = book_after b (as_calls t (map (application c) others))

        part : sum_over younger theirs.lots c ≤ sum_over counted theirs.lots c
        part =
            sum_most younger counted theirs.lots theirs.lots c (λ y from upto. only_either (younger y) (live Y y) _)

        go :
            Dec (sum_over counted end.lots c ≤ sum_over younger end.lots c)
            → lots_from v theirs c ≤ lots_from v end c
        go (yes used_up) =
            omega (arith, part, left_lots counted all_counted, lots_conserved t c counted others b z all_counted)
        go (no n) = omega (arith, untouched n, left_alike, lots_fall t c younger others b z)

  -- ---- the rule, word for word
  words : WordForWord (in_book b c) (coverage (in_book b c))
  unfolding coverage
  words =
      word_for_word_lem (in_book b c) (record {
        early = λ u h. (
          only_never (live Y u) _ (λ e. omega (arith, live_is Y u (ap not e))),
          only_never (open_short Y u) _ (λ e. omega (arith, open_is Y u (ap not e))),
        );
        late = λ u h. (
          only_never (live Y u) _ (λ e. omega (arith, live_is Y u (ap not e), soundly.high)),
          only_never (open_short Y u) _ (λ e. omega (arith, open_is Y u (ap not e), soundly.high)),
        );
      })

  pays_oldest : PaysOldest t b c
  unfolding cover_done values_in
  pays_oldest =
      record {
        word_for_word = words;
        only_one = λ ps w. only_one ps (coverage (in_book b c)) (in_book b c) w words;
        all_accepted = taken_history t own b taken;
        same_book = rw (posted_cover t b c g) own_book;
        answers = rw (posted_cover t b c g, own_total);
        smaller = own_total ∙ smaller_total;
      }

pub accepted_exactly : (t : Table) (b : Book) (c : Cover) → AcceptedExactly t b c
unfolding cover_done is_accepted
accepted_exactly t b c = (
  λ a. let g = accepted_cover t b c a in (g.is_sound, g.maker, g.set),
  λ h. rw (posted_cover t b c (record { is_sound = h.0; maker = h.1; set = h.2 })) refl,
)

pub oldest_first : (t : Table) (b : Book) (c : Cover) → OldestFirst t b c
oldest_first t b c z a = pays_oldest t b c z (accepted_cover t b c a)

-- a refused one leaves the book as it was, and lots only fall
pub none_better : (t : Table) (b : Book) (c : Cover) → NoneBetter t b c
unfolding own_rows done cover_done values_in
none_better t b c z v n others =
    by_verdict t b (Call.Cover c)
    (λ q. result_in q.answer 0 ≡ pos n → n ≤ covered_by t b (map (application c) others)
    → lots_from v (book_after b (as_calls t (map (application c) others))) c ≤ lots_from v q.book c)
    (λ r e h. lots_fall t c (leb v) others b z)
    (λ s e m h. at_least t b c z (coverable b c s e) v others (omega (arith, h, moved_is m)))
  where
    moved_is : pos (moved_by b c) ≡ pos n → moved_by b c ≡ n
    moved_is m = ap nat_abs m

-- ---- what a cover moves is far below 2 ^ 64; applications read no table, so any one will do here
pub moved_small : (b : Book) (c : Cover) → Sized b → Coverable b c → moved_by b c < 2 ^ 64
moved_small b c z g =
    omega (
      arith,
      left_shortages built_in b c z g,
      shortages_small b c g.maker g.set (sound_is b g.is_sound),
    )
