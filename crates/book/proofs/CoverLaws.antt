-- What an accepted cover keeps: what its applications keep, one after the other. The accounts figure the same applications, since
-- their balances and their open year are the book's.
use Prim.Native.Nat.{ℕ, ◌≤◌, ◌<◌}
use mathlib.Core.Bool.{true, not, false≢true}
use mathlib.Core.List.{List, [], ◌∷◌, map}
use mathlib.Core.Logic.{◌≢◌}
use mathlib.Core.Path.{◌≡◌, refl, ◌∙◌, ap}
use native.Mathlib.Omega.{arith}
use borrow.Author.Tests.{leb-false, lt-leb}
use lib.ListN.{length}
use Rattle.figuring.specs.Life.{live, open_short}
use Rattle.figuring.specs.Tables.{Table}
use Rattle.figuring.proofs.LifeLaws.{Old, live_is, open_is}
use Rattle.book.specs.Sizes.{makers, sets, places, all_closed}
use Rattle.book.specs.Below.{only}
use Rattle.book.specs.Ledger.{Key, key, In, figure_at}
use Rattle.book.specs.Soundness.{sound}
use Rattle.book.specs.Refusals.{first_refusal}
use Rattle.book.specs.Postings.{applied_lot, covered_shortage, application_done}
use Rattle.book.specs.Coverage.{Payment, coverage}
use Rattle.book.specs.Covering.{application, applications_of, in_book, all_lowered, all_applied, cover_done}
use Rattle.book.specs.Rules.{cover_rows, own_rows, posted, done}
use Rattle.book.specs.Accounts.{Accounts, with_mg, add_all, lot_by, shortage_by, in_accounts, move}
use Rattle.book.specs.Demand3.{is_accepted}
use Rattle.book.specs.declared.ledger.Book.{Book}
use Rattle.book.specs.declared.kinds.Call.{Call}
use Rattle.book.specs.declared.kinds.Application.{Application}
use Rattle.book.specs.declared.kinds.Cover.{Cover}
use Rattle.std.specs.Prelude.{Ok}
use Rattle.book.proofs.TableLaws.{cleared, sound_head, own_decide, by_verdict}
use Rattle.book.proofs.BelowLaws.{only_alike}
use Rattle.book.proofs.LedgerLaws.{length_lower, lower_elsewhere}
use Rattle.book.proofs.SoundnessLaws.{Sound, sound_is}
use Rattle.book.proofs.MoveFacts.{applicable, live_in, open_in}
use Rattle.book.proofs.MovingLaws.{apply_sound, apply_agrees}
use Rattle.book.proofs.Balances.{Agree}
use Rattle.book.proofs.Lawful.{Lawful}
use Rattle.book.proofs.CoverTurns.{AllTaken, all_taken, IsAlive, AllAlive, payments_alive, lists_alive}

-- ---- what an accepted cover says
pub record Coverable (b : Book) (c : Cover) : Type 0 where
  pub is_sound : sound b ≡ true
  pub maker : c.maker < makers
  pub set : c.set < sets

pub coverable : (b : Book) (c : Cover) → sound b ≡ true → first_refusal (cover_rows c) ≡ Ok tt → Coverable b c
unfolding cover_rows
coverable b c s e =
    let h = cleared (cover_rows c) e in
    record { is_sound = s; maker = leb-false makers _ (search h); set = leb-false sets _ (search h) }

pub accepted_cover :
    (t : Table) (b : Book) (c : Cover) → is_accepted (posted t b (Call.Cover c)).answer ≡ true → Coverable b c
unfolding own_rows is_accepted
accepted_cover t b c =
    by_verdict t b (Call.Cover c) (λ p. is_accepted p.answer ≡ true → Coverable b c) (λ r a. absurd (false≢true a))
    (λ s e a. coverable b c s e)

-- and where it says so, the cover is accepted
pub posted_cover : (t : Table) (b : Book) (c : Cover) → Coverable b c → posted t b (Call.Cover c) ≡ cover_done b c
unfolding own_rows cover_rows done
posted_cover t b c g =
    own_decide t b (Call.Cover c) {v = Ok tt} (sound_head b [] g.is_sound)
    (rw (lt-leb makers c.maker g.maker, lt-leb sets c.set g.set))

-- ---- lists of applications
pub length_lowered :
    (which : Application → Key) (ps : List Application) (l : List ℕ) → length (all_lowered which ps l) ≡ length l
unfolding all_lowered
length_lowered which [] l = refl
length_lowered which (p ∷ ps) l = length_lowered which ps _ ∙ length_lower l _ _

taken_sound :
    (ps : List Application) (b : Book) → length b.lots ≡ places → length b.shortages ≡ places → AllTaken b ps
    → Sound b → Sound (all_applied b ps)
unfolding all_lowered application_done
taken_sound [] b zl zs h s = s
taken_sound (p ∷ ps) b zl zs h s =
    taken_sound ps (application_done b p).book (length_lower b.lots _ _ ∙ zl) (length_lower b.shortages _ _ ∙ zs) h.2
    (apply_sound b p zl zs (applicable b p h.0 h.1))

taken_agrees :
    (t : Table) (ps : List Application) (b : Book) (a : Accounts) → AllTaken b ps → Agree b a
    → Agree (all_applied b ps) (with_mg a (add_all ps a.mg))
unfolding all_lowered add_all application_done
taken_agrees t [] b a h g = g
taken_agrees t (p ∷ ps) b a h g =
    taken_agrees t ps (application_done b p).book (move t a (Call.Apply p)) h.2
    (apply_agrees t b a p g (applicable b p h.0 h.1))

-- figures of other years than theirs stay
module _ (Y : ℕ) (c : Cover) (hm : c.maker < makers) (hs : c.set < sets) (upto : Y ≤ all_closed) (k : Key) (i : In k) where
  elsewhere :
      (which : Application → Key)
      → ((p : Payment) → IsAlive Y p → In (which (application c p)) × ((which (application c p)).year ≢ k.year))
      → (ps : List Payment) (l : List ℕ) → AllAlive Y ps
      → figure_at (all_lowered which (map (application c) ps) l) k ≡ figure_at l k
  unfolding all_lowered
  elsewhere which f [] l a = refl
  elsewhere which f (p ∷ ps) l a =
      let w = f p a.0 in
      elsewhere which f ps _ a.1 ∙ lower_elsewhere l (which (application c p)) k p.mg w.0 i w.1

  lots_stay :
      Old 6 Y k.year → (ps : List Payment) (l : List ℕ) → AllAlive Y ps
      → figure_at (all_lowered applied_lot (map (application c) ps) l) k ≡ figure_at l k
  lots_stay o =
      elsewhere applied_lot (λ p a. (
        live_in Y (key c.maker c.set p.vintage) upto hm hs (ap not a.0),
        omega (arith, o, live_is Y p.vintage (ap not a.0)),
      ))

  shortages_stay :
      Old 4 Y k.year → (ps : List Payment) (l : List ℕ) → AllAlive Y ps
      → figure_at (all_lowered covered_shortage (map (application c) ps) l) k ≡ figure_at l k
  shortages_stay o =
      elsewhere covered_shortage (λ p a. (
        open_in Y (key c.maker c.set p.year) upto hm hs (ap not a.1),
        omega (arith, o, open_is Y p.year (ap not a.1)),
      ))

-- ---- a cover
module _ (b : Book) (c : Cover) (g : Coverable b c) where
  abbrev soundly : Sound b
  soundly = sound_is b g.is_sound

  pub cover_taken :
      length b.lots ≡ places → length b.shortages ≡ places → AllTaken b (applications_of c (in_book b c))
  unfolding coverage
  cover_taken zl zs = all_taken c g.maker g.set _ b zl zs g.is_sound

  cover_alive : AllAlive b.open_year (coverage (in_book b c))
  unfolding coverage
  cover_alive = payments_alive b.open_year _ (in_book b c) (lists_alive b.open_year b.lots b.shortages c)

  -- the same figures, so the same applications
  pub same_standing : (a : Accounts) → Agree b a → in_accounts a c ≡ in_book b c
  same_standing a h = rw h.year (λ i. record { lots = λ v. lots v i; shorts = λ y. shorts y i })
    where
      lots :
          (v : ℕ)
          → only (live b.open_year v) (lot_by a (key c.maker c.set v))
          ≡ only (live b.open_year v) (figure_at b.lots (key c.maker c.set v))
      lots v =
          only_alike (live b.open_year v) _ _ (λ e.
          omega (arith, h.lots.balance (key c.maker c.set v) (live_in _ (key c.maker c.set v) soundly.high g.maker g.set (ap not e))))

      shorts :
          (y : ℕ)
          → only (open_short b.open_year y) (shortage_by a (key c.maker c.set y))
          ≡ only (open_short b.open_year y) (figure_at b.shortages (key c.maker c.set y))
      shorts y =
          only_alike (open_short b.open_year y) _ _ (λ e.
          omega (arith, h.shortages.balance (key c.maker c.set y) (open_in _ (key c.maker c.set y) soundly.high g.maker g.set (ap not e))))

  cover_agrees : (t : Table) (a : Accounts) → Agree b a → Agree (cover_done b c).book (move t a (Call.Cover c))
  unfolding cover_done
  cover_agrees t a h =
      rw (same_standing a h)
      (taken_agrees t (applications_of c (in_book b c)) b a (cover_taken h.lots.size h.shortages.size) h)

  pub cover_lawful : (t : Table) → Lawful t b (Call.Cover c)
  unfolding done cover_done is_accepted
  cover_lawful t =
      record {
        answered = refl;
        onward = omega arith;
        sized = λ z. record {
          marks = z.marks;
          parts = z.parts;
          lots = length_lowered applied_lot _ b.lots ∙ z.lots;
          shortages = length_lowered covered_shortage _ b.shortages ∙ z.shortages;
        };
        sound = λ z.
            taken_sound (applications_of c (in_book b c)) b z.lots z.shortages (cover_taken z.lots z.shortages) soundly;
        agrees = cover_agrees t;
        lot = λ k i o. lots_stay _ c g.maker g.set soundly.high k i o (coverage (in_book b c)) b.lots cover_alive;
        shortage = λ k i o.
            shortages_stay _ c g.maker g.set soundly.high k i o (coverage (in_book b c)) b.shortages cover_alive;
      }
