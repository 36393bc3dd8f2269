-- What a list of filings makes of a book is one book.
use Prim.Native.Nat.{ℕ, ◌+◌, ◌*◌, ◌/◌, ◌%◌, ◌<◌}
use mathlib.Core.Bool.{true, Bool-discrete}
use mathlib.Core.List.{List, [], ◌∷◌}
use mathlib.Core.Path.{◌≡◌, refl, sym, ◌∙◌, ap, ap₂, subst}
use native.Mathlib.Omega.{arith}
use native.Mathlib.Decide.{ℕ_discrete}
use lib.ListN.{get_or}
use lib.Seq.{ext_get_or}
use lib.IntN.{pos}
use Rattle.book.specs.Sizes.{makers, sets, families}
use Rattle.book.specs.Ledger.{marked}
use Rattle.book.specs.Postings.{with_families}
use Rattle.book.specs.Demand3.{is_accepted}
use Rattle.book.specs.Companions.{Sized}
use Rattle.book.specs.Orders.{without}
use Rattle.book.specs.FilingOrder.{Family, Lodged, named_by, lodged, SameOf, Taken, MadeBy}
use Rattle.book.specs.declared.ledger.Book.{Book}
use Rattle.book.proofs.MarkLaws.{same_mark}
use Rattle.book.proofs.AmongLaws.{first, later, none_among, Stands, is_first, in_rest, stands}

family_same : (j k : Family) → Dec (j ≡ k)
family_same j k = go (ℕ_discrete j.maker k.maker) (ℕ_discrete j.set k.set) (ℕ_discrete j.number k.number)
  where
    go : Dec (j.maker ≡ k.maker) → Dec (j.set ≡ k.set) → Dec (j.number ≡ k.number) → Dec (j ≡ k)
    go (yes m) (yes s) (yes n) = yes (λ i. record { maker = m i; set = s i; number = n i })
    go (yes m) (yes s) (no n) = no (λ e. n (ap (λ (x : Family). x.number) e))
    go (yes m) (no s) n = no (λ e. s (ap (λ (x : Family). x.set) e))
    go (no m) s n = no (λ e. m (ap (λ (x : Family). x.maker) e))

-- a filing of the list that is taken and names a family: there is one, or there is none
abbrev Named : Book → List Lodged → Family → Type 0
Named b fs k = (f : Lodged) × Taken b fs f × (named_by f ≡ k)

named : (b : Book) (fs : List Lodged) (k : Family) → Dec (Named b fs k)
named b [] k = no (λ h. none_among refl h.1.among)
named b (f ∷ fs) k = go (Bool-discrete (is_accepted (lodged b f).answer) true) (family_same (named_by f) k) (named b fs k)
  where
    -- a filing that names k is f, or one of the rest
    neither : (Taken b (f ∷ fs) f → named_by f ≡ k → ⊥) → (Named b fs k → ⊥) → Named b (f ∷ fs) k → ⊥
    neither m n h = at (stands h.1.among)
      where
        at : Stands h.0 f fs (without h.1.among) → ⊥
        at (is_first e w) = m (subst (Taken b (f ∷ fs)) e h.1) (sym (ap named_by e) ∙ h.2)
        at (in_rest q w) = n (h.0, record { among = q; accepted = h.1.accepted }, h.2)

    go :
        Dec (is_accepted (lodged b f).answer ≡ true) → Dec (named_by f ≡ k) → Dec (Named b fs k)
        → Dec (Named b (f ∷ fs) k)
    go a s (yes h) = yes (h.0, record { among = later f h.1.among; accepted = h.1.accepted }, h.2)
    go (yes a) (yes s) (no n) = yes (f, record { among = first f fs; accepted = a }, s)
    go (yes a) (no s) (no n) = no (neither (λ t e. s e) n)
    go (no a) s (no n) = no (neither (λ t e. a t.accepted) n)

-- two books that the same filings make of one
module _ (b : Book) (fs : List Lodged) (x y : Book) (sx : Sized x) (sy : Sized y) (mx : MadeBy b fs x) (my : MadeBy b fs y) where
  same_family : (k : Family) → k.maker < makers → k.set < sets → SameOf x y k
  same_family k hm hs = go (named b fs k)
    where
      go : Dec (Named b fs k) → SameOf x y k
      go (yes h) =
          let u = mx.filed h.0 h.1 in
          let v = my.filed h.0 h.1 in
          subst (SameOf x y) h.2 (u.0 ∙ sym v.0, λ i. u.1 ∙ sym v.1)
      go (no n) =
          let u = mx.others k hm hs (λ f t e. n (f, t, e)) in
          let v = my.others k hm hs (λ f t e. n (f, t, e)) in
          (u.0 ∙ sym v.0, λ i. u.1 i ∙ sym (v.1 i))

  -- the family that stands in a cell under a number
  abbrev at : ℕ → ℕ → Family
  at c n = record { maker = c / sets; set = c % sets; number = n }

  same_marks : x.marks ≡ y.marks
  same_marks =
      ext_get_or 0 x.marks y.marks (sx.marks ∙ sym sy.marks) (λ c h.
      same_mark (get_or x.marks c 0) (get_or y.marks c 0) (λ n.
      let e : c / sets * sets + c % sets ≡ c = omega arith in
      subst (λ (d : ℕ). marked (get_or x.marks d 0) n ≡ marked (get_or y.marks d 0) n) e
      (same_family (at c n) (omega (arith, sx.marks)) (omega arith)).0))

  same_parts : x.parts ≡ y.parts
  same_parts =
      ext_get_or (pos 0) x.parts y.parts (sx.parts ∙ sym sy.parts) (λ i h.
      let c = i / families in
      let e : (c / sets * sets + c % sets) * families + i % families ≡ i = omega arith in
      subst (λ (d : ℕ). get_or x.parts d (pos 0) ≡ get_or y.parts d (pos 0)) e
      ((same_family (at c (i % families)) (omega (arith, sx.parts)) (omega arith)).1 (omega arith)))

  pub one_book : x ≡ y
  one_book = mx.else ∙ ap₂ (with_families b) same_marks same_parts ∙ sym my.else
