-- The list of payments is the card's sentence, word for word: each is of the oldest lot above 0 and the oldest shortage above
-- 0 as they then stand.
use Prim.Native.Nat.{ℕ, zero, suc, ◌+◌, ◌≤◌, ◌<◌, min}
use mathlib.Core.List.{List, [], ◌∷◌, ◌++◌, map}
use mathlib.Core.Path.{◌≡◌, refl, sym, ◌∙◌, ap, ap₂, subst}
use native.Mathlib.Omega.{arith}
use native.Mathlib.Decide.{ℕ_discrete, dec_le}
use Rattle.figuring.specs.Years.{first_year}
use Rattle.book.specs.Sizes.{years}
use Rattle.book.specs.Coverage.{Standing, Turn, Payment, amount, after, paying, payments, rising, turn, turns}
use Rattle.book.specs.OldestFirst.{Oldest, WordForWord}
use Rattle.book.proofs.TurnLaws.{still, used_here}

abbrev pub end : ℕ
end = first_year + years

-- nothing stands outside the years of the book
pub record Outside (h : Standing) : Type 0 where
  pub early : (u : ℕ) → u < first_year → (h.lots u ≡ 0) × (h.shorts u ≡ 0)
  pub late : (u : ℕ) → end ≤ u → (h.lots u ≡ 0) × (h.shorts u ≡ 0)

-- the turns of the years before y are over, and in y those of the vintages before v
record Over (y v : ℕ) (h : Standing) : Type 0 where
  older : (x u : ℕ) → x < y → min (h.lots u) (h.shorts x) ≡ 0
  here : (u : ℕ) → u < v → min (h.lots u) (h.shorts y) ≡ 0
  outside : Outside h

over_turn : (y v : ℕ) (h : Standing) → Over y v h → Over y (v + 1) (after h (turn y v))
unfolding after
over_turn y v h o =
    record {
      older = λ x u l. omega (arith, o.older x u l);
      here = λ u l. go u l (ℕ_discrete v u);
      outside =
          record {
            early = λ u l. omega (arith, o.outside.early u l);
            late = λ u l. omega (arith, o.outside.late u l);
          };
    }
  where
    go :
        (u : ℕ) → u < v + 1 → Dec (v ≡ u) → min ((after h (turn y v)).lots u) ((after h (turn y v)).shorts y) ≡ 0
    go u l (yes e) = used_here h y v u e
    go u l (no e) = omega (arith, o.here u (omega arith))

-- one shortage, and then the rest
word_row :
    (n a y : ℕ) (rest : List Turn) (h : Standing) → a + n ≡ end → Over y a h
    → ((g : Standing) → Over y end g → WordForWord g (payments g rest))
    → WordForWord h (payments h (map (turn y) (rising a n) ++ rest))
unfolding rising payments
word_row zero a y rest h e o k = let z : a ≡ end = omega arith in k h (rw z at o)
word_row (suc n) a y rest h e o k =
    go (amount h t) refl (word_row n (a + 1) y rest (after h t) (omega arith) (over_turn y a h o) k)
  where
    t : Turn
    t = turn y a

    ps : List Payment
    ps = payments (after h t) (map (turn y) (rising (a + 1) n) ++ rest)

    go : (q : ℕ) → amount h t ≡ q → WordForWord (after h t) ps → WordForWord h (paying t q ps)
    go zero z w = subst (λ (g : Standing). WordForWord g ps) (still h t z) w
    go (suc q) z w = (
      (omega arith, λ u l. omega (arith, o.here u l)),
      (omega arith, λ x l. omega (arith, o.older x a l)),
      sym z,
      w,
    )

-- all of them
over_year : (y : ℕ) (h : Standing) → Over y end h → Over (y + 1) first_year h
over_year y h o =
    record {
      older = λ x u l. go x u l (ℕ_discrete x y) (dec_le end u);
      here = λ u l. omega (arith, o.outside.early u l);
      outside = o.outside;
    }
  where
    go : (x u : ℕ) → x < y + 1 → Dec (x ≡ y) → Dec (end ≤ u) → min (h.lots u) (h.shorts x) ≡ 0
    go x u l (yes e) (yes q) = omega (arith, o.outside.late u q)
    go x u l (yes e) (no q) = omega (arith, o.here u (omega arith), ap h.shorts e)
    go x u l (no e) q = o.older x u (omega arith)

word_all :
    (k c : ℕ) (h : Standing) → c + k ≡ end → Over c first_year h
    → WordForWord h (payments h (turns (rising c k) (rising first_year years)))
unfolding turns rising payments
word_all zero c h e o = λ v y. go v y (dec_le end y)
  where
    go : (v y : ℕ) → Dec (end ≤ y) → min (h.lots v) (h.shorts y) ≡ 0
    go v y (yes q) = omega (arith, o.outside.late y q)
    go v y (no q) = o.older y v (omega arith)
word_all (suc k) c h e o =
    word_row years first_year c (turns (rising (c + 1) k) (rising first_year years)) h refl o
    (λ g p. word_all k (c + 1) g (omega arith) (over_year c g p))

pub word_for_word_lem :
    (h : Standing) → Outside h
    → WordForWord h (payments h (turns (rising first_year years) (rising first_year years)))
word_for_word_lem h o =
    word_all years first_year h refl (record {
      older = λ x u l. omega (arith, o.early x l);
      here = λ u l. omega (arith, o.early u l);
      outside = o;
    })

-- ---- the sentence leaves no choice
same_oldest : (f : ℕ → ℕ) (x y : ℕ) → Oldest f x → Oldest f y → x ≡ y
same_oldest f x y p q = go (ℕ_discrete x y) (dec_le x y)
  where
    go : Dec (x ≡ y) → Dec (x ≤ y) → x ≡ y
    go (yes e) d = e
    go (no e) (yes l) = absurd (omega (arith, p.0, q.1 x (omega (arith, e))))
    go (no e) (no l) = absurd (omega (arith, q.0, p.1 y (omega arith)))

pub only_one : (ps qs : List Payment) (h : Standing) → WordForWord h ps → WordForWord h qs → ps ≡ qs
only_one [] [] h v w = refl
only_one [] (q ∷ qs) h v w = absurd (omega (arith, v q.vintage q.year, w.0.0, w.1.0))
only_one (p ∷ ps) [] h v w = absurd (omega (arith, w p.vintage p.year, v.0.0, v.1.0))
only_one (p ∷ ps) (q ∷ qs) h v w =
    let ev : p.vintage ≡ q.vintage = same_oldest h.lots p.vintage q.vintage v.0 w.0 in
    let ey : p.year ≡ q.year = same_oldest h.shorts p.year q.year v.1 w.1 in
    let em : p.mg ≡ q.mg = v.2 ∙ ap₂ (λ (a b : ℕ). min (h.lots a) (h.shorts b)) ev ey ∙ sym w.2 in
    let e : p ≡ q = λ i. record { vintage = ev i; year = ey i; mg = em i } in
    ap₂ ◌∷◌ e
    (only_one ps qs (after h (turn q.year q.vintage))
    (subst (λ (x : Payment). WordForWord (after h (turn x.year x.vintage)) ps) e v.3) w.3)
