-- What "another order" of a list is.
use Rattle.std.specs.Prelude.{List, [], ◌∷◌, ◌++◌, ◌≡◌}

-- x is among xs, at a place: what stands before it, and what after it
pub record Among {A : Type 0} (x : A) (xs : List A) : Type 0 where
  pub before : List A
  pub after : List A
  pub here : xs ≡ before ++ x ∷ after

-- the others of the list
abbrev pub without : {A : Type 0} {x : A} {xs : List A} → Among x xs → List A
without p = p.before ++ p.after

-- ys is xs in another order: the first of xs is among ys, and the others of ys are the rest of xs in another order
abbrev pub Reordered : {A : Type 0} → List A → List A → Type 0
Reordered [] ys = ys ≡ []
Reordered (x ∷ xs) ys = (p : Among x ys) × Reordered xs (without p)

-- No order is left out: any two neighbours may be exchanged, and so on from there.
pub record EveryOrder (A : Type 0) : Type 0 where
  pub same : (xs : List A) → Reordered xs xs
  pub exchanged : (x y : A) (before after : List A) → Reordered (before ++ x ∷ y ∷ after) (before ++ y ∷ x ∷ after)
  pub onward : (xs ys zs : List A) → Reordered xs ys → Reordered ys zs → Reordered xs zs
