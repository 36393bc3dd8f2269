-- Filings that name different families do not meet: each gets what it gets alone, and the book after them is what they make of
-- the first.
use Prim.Native.Nat.{ℕ, ◌<◌}
use mathlib.Core.Bool.{Bool, true, false, true≢false}
use mathlib.Core.List.{List, [], ◌∷◌, ◌++◌}
use mathlib.Core.Path.{◌≡◌, refl, sym, ◌∙◌, ap, subst}
use native.Mathlib.Omega.{arith}
use borrow.Author.Tests.{leb-false}
use lib.Dec.{leb}
use lib.ListN.{get_or}
use lib.IntN.{ℤ}
use Rattle.figuring.specs.Standards.{Standard}
use Rattle.figuring.specs.Tables.{Table}
use Rattle.figuring.specs.declared.units.Part.{Part}
use Rattle.book.specs.Sizes.{makers, sets, cells, families}
use Rattle.book.specs.Ledger.{cell, marked}
use Rattle.book.specs.Soundness.{sound}
use Rattle.book.specs.Refusals.{Answered, Verdict, first_refusal}
use Rattle.book.specs.Postings.{filing_cell, ordinary_for, part_for, with_families, stored}
use Rattle.book.specs.Rules.{head_rows, table_rows, file_rows, own_rows, rows_for, done, outcome, posted}
use Rattle.book.specs.Demand3.{is_accepted, book_after}
use Rattle.book.specs.Companions.{Sized}
use Rattle.book.specs.Orders.{Among, without}
use Rattle.book.specs.FilingOrder.{Family, Lodged, named_by, lodged, NoTwoAlike, after_filings, count_aside, gets_after}
use Rattle.book.specs.FilingOrder.{Holds, SameOf, Taken, MadeBy}
use Rattle.book.specs.declared.ledger.Book.{Book}
use Rattle.book.specs.declared.kinds.Call.{Call}
use Rattle.book.specs.declared.kinds.Filing.{Filing}
use Rattle.book.specs.declared.answers.Answer.{Answer}
use Rattle.std.specs.Prelude.{Ok}
use Rattle.book.proofs.TableLaws.{alike, same_after, by_verdict}
use Rattle.book.proofs.FileFacts.{Fileable, fileable}
use Rattle.book.proofs.FilingLaws.{Here, part_here, part_there, mark_here, mark_there, still_sound}
use Rattle.book.proofs.KeptSound.{keeps_sized}
use Rattle.book.proofs.AmongLaws.{first, later, none_among, Stands, is_first, in_rest, stands}

-- ---- one filing put to a book: what it changes, and what it leaves
abbrev next : Book → Lodged → Book
next b f = (lodged b f).book

abbrev takes : Book → Lodged → Bool
takes b f = is_accepted (lodged b f).answer

-- its cell, its number and its part
abbrev at : Lodged → ℕ
at f = filing_cell f.filing

abbrev number : Lodged → ℕ
number f = f.filing.family

abbrev part : Lodged → ℤ
part f = part_for f.table f.filing

abbrev Fits : Book → Lodged → Type 0
Fits b f = Fileable f.table b f.filing

cell_of : (b : Book) (f : Lodged) → Fits b f → at f < cells
cell_of b f h = omega (arith, h.maker, h.set)

-- an accepted filing: its family is one of the book's, and is filed, with its part
record Own (f : Lodged) (after : Book) : Type 0 where
  maker : f.filing.maker < makers
  set : f.filing.set < sets
  family : number f < families
  holds : Holds after f

its_own : (b : Book) (f : Lodged) → Sized b → takes b f ≡ true → Own f (next b f)
unfolding done stored own_rows is_accepted
its_own b f z =
    by_verdict f.table b (Call.File f.filing) (λ p. is_accepted p.answer ≡ true → Own f p.book)
    (λ r a. absurd (true≢false (sym a)))
    (λ s e a.
    let h = fileable f.table b f.filing s e in
    let c = cell_of b f h in
    record {
      maker = h.maker;
      set = h.set;
      family = h.family;
      holds = (
        mark_here b (at f) (number f) (part f) z c h.family (at f) (number f) (refl, refl),
        part_here b (at f) (number f) (part f) z c h.family (at f) (number f) (refl, refl),
      );
    })

-- a family that no accepted filing names is as it was
elsewhere :
    (b : Book) (f : Lodged) → Sized b → (k : Family) → k.set < sets → (takes b f ≡ true → named_by f ≡ k → ⊥)
    → SameOf (next b f) b k
unfolding done stored own_rows is_accepted
elsewhere b f z k hs =
    by_verdict f.table b (Call.File f.filing)
    (λ p. (is_accepted p.answer ≡ true → named_by f ≡ k → ⊥) → SameOf p.book b k)
    (λ r n. (refl, λ h. refl))
    (λ s e n.
    let h = fileable f.table b f.filing s e in
    let c = cell_of b f h in
    let d = cell k.maker k.set in
    let out : Here (at f) (number f) d k.number → ⊥ = λ w. n refl (named h w.0 w.1) in (
      mark_there b (at f) (number f) (part f) z c h.family d k.number out,
      λ i. part_there b (at f) (number f) (part f) z c h.family d k.number i out,
    ))
  where
    named : Fits b f → cell k.maker k.set ≡ at f → k.number ≡ number f → named_by f ≡ k
    named h c e =
        let m : f.filing.maker ≡ k.maker = omega (arith, h.set) in
        let s : f.filing.set ≡ k.set = omega (arith, h.set) in
        λ i. record { maker = m i; set = s i; number = sym e i }

-- and so is all else in the book
else_same : (b : Book) (f : Lodged) → next b f ≡ with_families b (next b f).marks (next b f).parts
unfolding done stored
else_same b f =
    by_verdict f.table b (Call.File f.filing) (λ p. p.book ≡ with_families b p.book.marks p.book.parts) (λ r. refl)
    (λ s e. refl)

-- ---- another filing after it
-- A filing's rows read of the marks whether its own family is filed. One whose set the book has not is refused before that
-- row: its cell number may be that of another maker.
rows_by :
    (x : Standard) (Y : ℕ) (m n : List ℕ) (g : Filing)
    → (g.set < sets → marked (get_or m (filing_cell g) 0) g.family ≡ marked (get_or n (filing_cell g) 0) g.family)
    → first_refusal (file_rows x Y m g) ≡ first_refusal (file_rows x Y n g)
unfolding file_rows
rows_by x Y m n g same = go (leb sets g.set) refl
  where
    go : (t : Bool) → leb sets g.set ≡ t → first_refusal (file_rows x Y m g) ≡ first_refusal (file_rows x Y n g)
    go true e = rw e
    go false e = rw (same (leb-false sets g.set e))

same_sound : (b : Book) (f : Lodged) → Sized b → sound (next b f) ≡ sound b
unfolding own_rows
same_sound b f z =
    by_verdict f.table b (Call.File f.filing) (λ p. sound p.book ≡ sound b) (λ r. refl)
    (λ s e. still_sound f.table b f.filing z (fileable f.table b f.filing s e))

module _ (b : Book) (f g : Lodged) (z : Sized b) (apart : named_by f ≡ named_by g → ⊥) where
  abbrev t : Table
  t = g.table

  abbrev call : Call
  call = Call.File g.filing

  verdict_same : first_refusal (rows_for t (next b f) call) ≡ first_refusal (rows_for t b call)
  unfolding rows_for own_rows
  verdict_same =
      ap (λ (x : Bool). first_refusal (head_rows x (table_rows t call) ++ own_rows t (next b f) call)) (same_sound b f z)
      ∙ same_after (head_rows (sound b) (table_rows t call)) _ _
      (ap (λ (d : Book). first_refusal (file_rows (ordinary_for t g.filing) d.open_year (next b f).marks g.filing))
      (else_same b f)
      ∙ rows_by (ordinary_for t g.filing) b.open_year (next b f).marks b.marks g.filing
      (λ h. (elsewhere b f z (named_by g) h (λ a. apart)).0))

  -- what does not read the count
  answer_same :
      {X : Type 0} (read : Answered → X)
      → ((p : Part) (m n : ℕ) → read (Ok (Answer.Filed p m)) ≡ read (Ok (Answer.Filed p n)))
      → read (posted t (next b f) call).answer ≡ read (posted t b call).answer
  unfolding posted done stored
  answer_same read same =
      ap (λ (v : Verdict). read (outcome v (next b f) (done t (next b f) call)).answer) verdict_same
      ∙ alike (λ p q. read p.answer ≡ read q.answer) (first_refusal (rows_for t b call)) _ _ _ _ (λ r. refl)
      (same (record { 0 = part g }) _ _)

  gets_same : gets_after (next b f) [] g ≡ gets_after b [] g
  unfolding book_after
  gets_same = answer_same count_aside (λ p m n. refl)

  takes_same : takes (next b f) g ≡ takes b g
  unfolding is_accepted
  takes_same = answer_same is_accepted (λ p m n. refl)

-- ---- lists
pub gets_alone :
    (b : Book) (fs : List Lodged) (g : Lodged) → Sized b
    → ((f : Lodged) → Among f fs → named_by f ≡ named_by g → ⊥) → gets_after b fs g ≡ gets_after b [] g
unfolding book_after
gets_alone b [] g z n = refl
gets_alone b (f ∷ fs) g z n =
    gets_alone (next b f) fs g (keeps_sized f.table b (Call.File f.filing) z) (λ h p. n h (later f p))
    ∙ gets_same b f g z (n f (first f fs))

-- one filing, and then the rest of the list
module _ (b : Book) (f : Lodged) (fs : List Lodged) (z : Sized b) (n : NoTwoAlike (f ∷ fs)) where
  -- a filing of the rest is taken after f exactly when it is taken alone
  taken_before : (g : Lodged) → Taken (next b f) fs g → Taken b (f ∷ fs) g
  taken_before g t =
      record {
        among = later f t.among;
        accepted = sym (takes_same b f g z (n f g (first f fs) t.among)) ∙ t.accepted;
      }

  taken_after : (g : Lodged) → Among g fs → takes b g ≡ true → Taken (next b f) fs g
  taken_after g p a = record { among = p; accepted = takes_same b f g z (n f g (first f fs) p) ∙ a }

  -- f is taken, and no filing of the rest names its family
  first_filed : (after : Book) → MadeBy (next b f) fs after → takes b f ≡ true → Holds after f
  first_filed after rest a =
      let o = its_own b f z a in
      let k = rest.others (named_by f) o.maker o.set (λ g t e. n f g (first f fs) t.among (sym e)) in
      (k.0 ∙ o.holds.0, k.1 o.family ∙ o.holds.1)

  each_filed :
      (after : Book) → MadeBy (next b f) fs after → (g : Lodged) (p : Among g (f ∷ fs)) → takes b g ≡ true
      → Stands g f fs (without p) → Holds after g
  each_filed after rest g p a (is_first e h) =
      subst (Holds after) (sym e) (first_filed after rest (subst (λ (x : Lodged). takes b x ≡ true) e a))
  each_filed after rest g p a (in_rest q h) = rest.filed g (taken_after g q a)

  made_next : (after : Book) → MadeBy (next b f) fs after → MadeBy b (f ∷ fs) after
  made_next after rest =
      record {
        filed = λ g t. each_filed after rest g t.among t.accepted (stands t.among);
        others = λ k hm hs h.
            let r = rest.others k hm hs (λ g t. h g (taken_before g t)) in
            let o = elsewhere b f z k hs (λ a. h f (record { among = first f fs; accepted = a })) in
            (r.0 ∙ o.0, λ i. r.1 i ∙ o.1 i);
        else = rest.else ∙ ap (λ (d : Book). with_families d after.marks after.parts) (else_same b f);
      }

pub made_by : (b : Book) (fs : List Lodged) → Sized b → NoTwoAlike fs → MadeBy b fs (after_filings b fs)
unfolding book_after
made_by b [] z n =
    record {
      filed = λ f t. absurd (none_among refl t.among);
      others = λ k hm hs h. (refl, λ i. refl);
      else = refl;
    }
made_by b (f ∷ fs) z n =
    made_next b f fs z n (after_filings (next b f) fs)
    (made_by (next b f) fs (keeps_sized f.table b (Call.File f.filing) z) (λ g h p q. n g h (later f p) (later f q)))
