-- Laws of lists and their orders: what is among a list, and what an order of it keeps.
use mathlib.Core.List.{List, [], ◌∷◌, ◌++◌, append_assoc, nil≢cons, head-eq_of_cons-eq, tail-eq_of_cons-eq}
use mathlib.Core.Path.{◌≡◌, refl, sym, ◌∙◌, ap, subst}
use Rattle.book.specs.Orders.{Among, without, Reordered, EveryOrder}

module _ {A : Type 0} where
  abbrev pub first : (x : A) (xs : List A) → Among x (x ∷ xs)
  first x xs = record { before = []; after = xs; here = refl }

  abbrev pub later : (y : A) {x : A} {xs : List A} → Among x xs → Among x (y ∷ xs)
  later y p = record { before = y ∷ p.before; after = p.after; here = ap (λ (l : List A). y ∷ l) p.here }

  pub none_among : {x : A} {ys : List A} → ys ≡ [] → Among x ys → ⊥
  none_among {x} {ys} e p = go p.before (sym e ∙ p.here)
    where
      go : (bs : List A) → [] ≡ bs ++ x ∷ p.after → ⊥
      go [] h = nil≢cons h
      go (b ∷ bs) h = nil≢cons h

  -- with the same before and after
  abbrev by : {x y : A} {xs ys : List A} → x ≡ y → xs ≡ ys → Among y ys → Among x xs
  by {x} {y} e h p =
      record {
        before = p.before;
        after = p.after;
        here = h ∙ p.here ∙ ap (λ (z : A). p.before ++ z ∷ p.after) (sym e);
      }

  -- what is among y ∷ ys is y, or is among ys
  pub data Stands (x y : A) (ys others : List A) : Type 0 where
    is_first : x ≡ y → others ≡ ys → Stands x y ys others
    in_rest : (q : Among x ys) → others ≡ y ∷ without q → Stands x y ys others

  pub stands : {x y : A} {ys : List A} (p : Among x (y ∷ ys)) → Stands x y ys (without p)
  stands {x} {y} {ys} p = go p.before p.after p.here
    where
      go : (bs cs : List A) → y ∷ ys ≡ bs ++ x ∷ cs → Stands x y ys (bs ++ cs)
      go [] cs e = is_first (sym (head-eq_of_cons-eq e)) (sym (tail-eq_of_cons-eq e))
      go (b ∷ bs) cs e =
          in_rest (record { before = bs; after = cs; here = tail-eq_of_cons-eq e })
          (ap (λ (z : A). z ∷ (bs ++ cs)) (sym (head-eq_of_cons-eq e)))

  pub in_left : {x : A} {xs : List A} (ys : List A) → Among x xs → Among x (xs ++ ys)
  in_left {x} ys p =
      record {
        before = p.before;
        after = p.after ++ ys;
        here = ap (λ (l : List A). l ++ ys) p.here ∙ append_assoc p.before (x ∷ p.after) ys;
      }

  pub in_right : {x : A} (xs : List A) {ys : List A} → Among x ys → Among x (xs ++ ys)
  in_right {x} xs p =
      record {
        before = xs ++ p.before;
        after = p.after;
        here = ap (λ (l : List A). xs ++ l) p.here ∙ sym (append_assoc xs p.before (x ∷ p.after));
      }

  -- two things of one list: they are one, or each is among the others of the other, and then the rest is the same
  data Two {x y : A} {zs : List A} (p : Among x zs) (q : Among y zs) : Type 0 where
    one : x ≡ y → without p ≡ without q → Two p q
    two : (r : Among x (without q)) (s : Among y (without p)) → without r ≡ without s → Two p q

  both_of : {x y : A} (zs : List A) (p : Among x zs) (q : Among y zs) → Two p q
  both_of [] p q = absurd (none_among refl p)
  both_of {x} {y} (z ∷ zs) p q = go (stands p) (stands q) (both_of zs)
    where
      go :
          Stands x z zs (without p) → Stands y z zs (without q)
          → ((r : Among x zs) (s : Among y zs) → Two r s) → Two p q
      go (is_first e h) (is_first d k) ih = one (e ∙ sym d) (h ∙ sym k)
      go (is_first e h) (in_rest s k) ih = two (by e k (first z (without s))) (by refl h s) refl
      go (in_rest r h) (is_first d k) ih = two (by refl k r) (by d h (first z (without r))) refl
      go (in_rest r h) (in_rest s k) ih = deeper (ih r s)
        where
          deeper : Two r s → Two p q
          deeper (one e w) = one e (h ∙ ap (λ (l : List A). z ∷ l) w ∙ sym k)
          deeper (two t u w) = two (by refl k (later z t)) (by refl h (later z u)) (ap (λ (l : List A). z ∷ l) w)

  -- an order of a list, each without one thing
  pub both_without :
      {x : A} (xs ys : List A) → Reordered xs ys → (p : Among x ys)
      → (q : Among x xs) × Reordered (without q) (without p)
  both_without [] ys e p = absurd (none_among e p)
  both_without {x} (z ∷ zs) ys r p = go (both_of ys p r.0) (both_without zs (without r.0) r.1)
    where
      go :
          Two p r.0
          → ((s : Among x (without r.0)) → (q : Among x zs) × Reordered (without q) (without s))
          → (q : Among x (z ∷ zs)) × Reordered (without q) (without p)
      go (one e w) ih = (by e refl (first z zs), subst (Reordered zs) (sym w) r.1)
      go (two s t w) ih =
          (later z (ih s).0, (t, subst (Reordered (without (ih s).0)) w (ih s).1))

  -- ---- orders
  pub back : (xs ys : List A) → Reordered xs ys → Reordered ys xs
  back [] [] e = refl
  back (x ∷ xs) [] r = absurd (none_among refl r.0)
  back xs (y ∷ ys) r =
      let o = both_without xs (y ∷ ys) r (first y ys) in
      (o.0, back (without o.0) ys o.1)

  same : (xs : List A) → Reordered xs xs
  same [] = refl
  same (x ∷ xs) = (first x xs, same xs)

  exchanged : (x y : A) (before after : List A) → Reordered (before ++ x ∷ y ∷ after) (before ++ y ∷ x ∷ after)
  exchanged x y [] after = (later y (first x after), same (y ∷ after))
  exchanged x y (z ∷ zs) after = (first z (zs ++ y ∷ x ∷ after), exchanged x y zs after)

  onward : (xs ys zs : List A) → Reordered xs ys → Reordered ys zs → Reordered xs zs
  onward [] ys zs e r = subst (λ (l : List A). Reordered l zs) e r
  onward (x ∷ xs) ys zs p r =
      let o = both_without zs ys (back ys zs r) p.0 in
      (o.0, onward xs (without p.0) (without o.0) p.1 (back (without o.0) (without p.0) o.1))

pub every_order : (A : Type 0) → EveryOrder A
every_order A = record { same = same; exchanged = exchanged; onward = onward }
