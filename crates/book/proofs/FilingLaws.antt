-- What an accepted filing or amendment keeps: a sound book sound, since its part is within the bound and its family marked; and
-- the accounts' part of its family. Nothing else changes.
use Prim.Native.Nat.{ℕ, ◌+◌, ◌*◌, ◌≤◌, ◌<◌}
use mathlib.Core.Bool.{true, false, true≢false}
use mathlib.Core.List.{List}
use mathlib.Core.Path.{◌≡◌, refl, sym, ◌∙◌}
use native.Mathlib.Omega.{arith}
use native.Mathlib.Decide.{ℕ_discrete}
use lib.ListN.{get_or, set as store, length-set}
use lib.Seq.{get_or-set_same, get_or-set_other}
use lib.IntN.{ℤ, pos, nat_abs}
use Rattle.figuring.specs.Standards.{grams_of}
use Rattle.figuring.specs.Tables.{Table}
use Rattle.figuring.specs.Editions.{standard_under}
use Rattle.figuring.specs.Parts.{part_most}
use Rattle.figuring.proofs.EditionLaws.{named_range}
use Rattle.figuring.proofs.PartLaws.{part_bound}
use Rattle.book.specs.Sizes.{cells, families}
use Rattle.book.specs.Ledger.{marked, with_mark, part_at}
use Rattle.book.specs.Soundness.{sound}
use Rattle.book.specs.Postings.{filing_done, filing_cell, stored, ordinary_for, part_for, part_beside}
use Rattle.book.specs.Rules.{done}
use Rattle.book.specs.Accounts.{Accounts, move}
use Rattle.book.specs.Demand3.{is_accepted}
use Rattle.book.specs.Companions.{Sized}
use Rattle.book.specs.declared.ledger.Book.{Book}
use Rattle.book.specs.declared.kinds.Call.{Call}
use Rattle.book.specs.declared.kinds.Filing.{Filing}
use Rattle.book.proofs.FileFacts.{Fileable}
use Rattle.book.proofs.MarkLaws.{marked_same, marked_other}
use Rattle.book.proofs.SoundnessLaws.{Sound, sound_is, is_sound}
use Rattle.book.proofs.Balances.{Agree, families_put}
use Rattle.book.proofs.Lawful.{Lawful}

-- a place is the one that was written, or it is not
abbrev pub Here : ℕ → ℕ → ℕ → ℕ → Type 0
Here c f d g = (d ≡ c) × (g ≡ f)

here : (c f d g : ℕ) → Dec (Here c f d g)
here c f d g = go (ℕ_discrete d c) (ℕ_discrete g f)
  where
    go : Dec (d ≡ c) → Dec (g ≡ f) → Dec (Here c f d g)
    go (yes p) (yes q) = yes (p, q)
    go (yes p) (no q) = no (λ h. q h.1)
    go (no p) q = no (λ h. p h.0)

-- a part stored anywhere leaves the lists as long as they were
pub stored_sized : (b : Book) (c f : ℕ) (z : ℤ) → Sized b → Sized (stored b c f z).book
unfolding stored
stored_sized b c f z h =
    record {
      marks = simp length-set h.marks;
      parts = simp length-set h.parts;
      lots = h.lots;
      shortages = h.shortages;
    }

-- a part within the bound, stored in a cell of the book
module _ (b : Book) (c f : ℕ) (z : ℤ) (sized : Sized b) (hc : c < cells) (hf : f < families) where
  abbrev mark_before : ℕ
  mark_before = get_or b.marks c 0

  abbrev marks_after : List ℕ
  marks_after = store b.marks c (with_mark mark_before f)

  abbrev parts_after : List ℤ
  parts_after = store b.parts (c * families + f) z

  pub part_here : (d g : ℕ) → Here c f d g → part_at parts_after d g ≡ z
  part_here d g w = rw (w.0, w.1) (get_or-set_same b.parts (c * families + f) z (pos 0) (omega arith))

  pub part_there : (d g : ℕ) → g < families → (Here c f d g → ⊥) → part_at parts_after d g ≡ part_at b.parts d g
  part_there d g hg n =
      get_or-set_other b.parts (c * families + f) (d * families + g) z (pos 0) (λ e. n (omega arith, omega arith))

  mark_of : get_or marks_after c 0 ≡ with_mark mark_before f
  mark_of = get_or-set_same b.marks c (with_mark mark_before f) 0 (omega arith)

  pub mark_here : (d g : ℕ) → Here c f d g → marked (get_or marks_after d 0) g ≡ true
  mark_here d g w = rw (w.0, w.1, mark_of) (marked_same mark_before f)

  pub mark_there : (d g : ℕ) → (Here c f d g → ⊥) → marked (get_or marks_after d 0) g ≡ marked (get_or b.marks d 0) g
  mark_there d g n = go (ℕ_discrete d c)
    where
      go : Dec (d ≡ c) → marked (get_or marks_after d 0) g ≡ marked (get_or b.marks d 0) g
      go (yes p) = rw (p, mark_of) (marked_other mark_before f g (λ q. n (p, q)))
      go (no p) = rw (get_or-set_other b.marks c d (with_mark mark_before f) 0 p)

  pub stored_sound : Sound b → nat_abs z ≤ part_most → Sound (stored b c f z).book
  unfolding stored
  stored_sound s fits =
      record {
        low = s.low;
        high = s.high;
        bounded = λ d g hd hg. within d g hd hg (here c f d g);
        unmarked = λ d g hd hg m. nothing d g hd hg m (here c f d g);
        shortage = s.shortage;
        ahead = s.ahead;
        total = s.total;
      }
    where
      within : (d g : ℕ) → d < cells → g < families → Dec (Here c f d g) → nat_abs (part_at parts_after d g) ≤ part_most
      within d g hd hg (yes w) = rw (part_here d g w) fits
      within d g hd hg (no n) = rw (part_there d g hg n) (s.bounded d g hd hg)

      nothing :
          (d g : ℕ) → d < cells → g < families → marked (get_or marks_after d 0) g ≡ false
          → Dec (Here c f d g) → part_at parts_after d g ≡ pos 0
      nothing d g hd hg m (yes w) = absurd (true≢false (sym (mark_here d g w) ∙ m))
      nothing d g hd hg m (no n) = part_there d g hg n ∙ s.unmarked d g hd hg (sym (mark_there d g n) ∙ m)

pub filed_part : (t : Table) (b : Book) (f : Filing) → Fileable t b f → nat_abs (part_for t f) ≤ part_most
unfolding part_beside
filed_part t b f h =
    let g = named_range t f.edition f.set f.vehicle_use f.year h.standard h.edition in
    part_bound (grams_of (standard_under (ordinary_for t f) f.edition f.set f.vehicle_use f.year)) f.fcl f.cf
    f.volume f.life g.0 g.1 h.limits

file_sound : (t : Table) (b : Book) (f : Filing) → Sized b → Fileable t b f → Sound (filing_done t b f).book
file_sound t b f z h =
    stored_sound b (filing_cell f) f.family (part_for t f) z (omega (arith, h.maker, h.set)) h.family
    (sound_is b h.sound) (filed_part t b f h)

file_agrees :
    (t : Table) (b : Book) (a : Accounts) (f : Filing) → Agree b a → Fileable t b f
    → Agree (filing_done t b f).book (move t a (Call.File f))
unfolding stored
file_agrees t b a f h g =
    record {
      year = h.year;
      families =
          families_put h.families f.maker f.set f.family f.year (part_for t f) g.maker g.set g.family
          g.year;
      lots = h.lots;
      shortages = h.shortages;
    }

pub file_lawful : (t : Table) (b : Book) (f : Filing) → Fileable t b f → Lawful t b (Call.File f)
unfolding done stored is_accepted
file_lawful t b f g =
    record {
      answered = refl;
      onward = omega arith;
      sized = stored_sized b (filing_cell f) f.family (part_for t f);
      sound = λ z. file_sound t b f z g;
      agrees = λ a h. file_agrees t b a f h g;
      lot = λ k i o. refl;
      shortage = λ k i o. refl;
    }

-- soundness is what it was
pub still_sound :
    (t : Table) (b : Book) (f : Filing) → Sized b → Fileable t b f → sound (done t b (Call.File f)).book ≡ sound b
still_sound t b f z h = is_sound (done t b (Call.File f)).book ((file_lawful t b f h).sound z) ∙ sym h.sound
