-- A pattern is a text in which # stands for a number, and every other byte for itself.
use Rattle.std.specs.Prelude.{ℕ, suc, Bool, true, false, cond, ◌≡◌, ◌⊎◌, List, [], ◌∷◌, ◌++◌, eqb, get_or, drop, Option, Some, None, option_map}
use Rattle.std.specs.Borrow.{Bor}
use Rattle.text.specs.Numeral.{number, numeral}

-- the code of #
abbrev pub hash : ℕ
hash = 35

-- ---- reading
abbrev pub on_number : Option (ℕ × ℕ) → (ℕ → ℕ → Option (List ℕ)) → Option (List ℕ)
on_number None f = None
on_number (Some r) f = f r.0 r.1

abbrev pub on_byte : ℕ → List ℕ → (List ℕ → Option (List ℕ)) → Option (List ℕ)
on_byte p [] f = None
on_byte p (c ∷ s) f = cond (eqb c p) (f s) None

abbrev pub prepended : List ℕ → Option (List ℕ) → Option (List ℕ)
prepended ns o = option_map (λ ms. ns ++ ms) o

-- the numbers, of at most `most` digits, that stand in a text where a pattern has #, if the text fits the pattern whole
unfoldable pub fit : ℕ → List ℕ → List ℕ → Option (List ℕ)
fit most [] [] = Some []
fit most [] (c ∷ s) = None
fit most (p ∷ ps) s =
    cond (eqb p hash) (on_number (number most s) (λ v k. prepended (v ∷ []) (fit most ps (drop k s))))
    (on_byte p s (λ r. fit most ps r))

-- how many # a pattern has
unfoldable pub hashes : List ℕ → ℕ
hashes [] = 0
hashes (p ∷ ps) = cond (eqb p hash) (suc (hashes ps)) (hashes ps)

-- what a reader comes to that goes on to a pattern's next #: behind it the pattern and the text are left; none where the
-- pattern has none, or the text does not fit it
abbrev pub ToNumber : List ℕ → List ℕ → Option (Bor (List ℕ) × Bor (List ℕ)) → Type 0
ToNumber form s None = (hashes form ≡ 0) ⊎ ((most : ℕ) → fit most form s ≡ None)
ToNumber form s (Some (after, here)) =
    (hashes form ≡ suc (hashes after.now))
    × ((most : ℕ)
    → fit most form s
    ≡ on_number (number most here.now) (λ v k. prepended (v ∷ []) (fit most after.now (drop k here.now))))

-- ---- writing
-- one of two texts, of which only that one is computed
abbrev pub choose : Bool → (Unit {0} → List ℕ) → (Unit {0} → List ℕ) → List ℕ
choose true a b = a tt
choose false a b = b tt

-- a pattern with numbers in the places of its #, 0 where there are too few
unfoldable pub filled : List ℕ → List ℕ → List ℕ
filled [] ns = []
filled (p ∷ ps) ns =
    choose (eqb p hash) (λ u. numeral (get_or ns 0 0) ++ filled ps (drop 1 ns)) (λ u. p ∷ filled ps ns)
