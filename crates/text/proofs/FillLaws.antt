-- Laws of putting a pattern into a buffer, a step at a time.
use Prim.Native.Nat.{ℕ, zero, suc, ◌+◌, ◌*◌, ◌/◌, ◌%◌, ◌≤◌, ◌<◌}
use native.Mathlib.Numerals.{add-one}
use native.Mathlib.Omega.{arith}
use mathlib.Core.Bool.{Bool, true, false, cond}
use mathlib.Core.Path.{◌≡◌, refl, sym, ap}
use mathlib.Core.List.{List, [], ◌∷◌, ◌++◌, append_assoc, append-nil}
use lib.Dec.{eqb, ltb, lit≤}
use lib.ListN.{length, get_or, drop, length-append, drop_of_length-le}
use lib.Seq.{drop-cons}
use borrow.Author.Tests.{eq-eqb, ne_eqb}
use Rattle.text.specs.Numeral.{numeral, numeral_of}
use Rattle.text.specs.Pattern.{hashes, filled, choose, hash}
use Rattle.text.proofs.NumeralLaws.{numeral_small}
use Rattle.text.specs.declared.page.Page.{Page}
use Rattle.text.specs.Placing.{HasRoom, Adds}
use Rattle.text.proofs.StoreLaws.{adds_nothing, adds_text, adds_then, after_adds}

-- up to place i of a pattern p, the numbers ns but for `left` are put: page a has come to b
pub record Filling (p ns : List ℕ) (a b : Page) (left : List ℕ) (i : ℕ) : Type 0 where
  pub as_many : length left ≡ hashes (drop i p)
  pub done : List ℕ
  pub adds : Adds done a b
  pub rest : filled p ns ≡ done ++ filled (drop i p) left

pub start : (p ns : List ℕ) (a : Page) → length ns ≡ hashes p → Filling p ns a a ns 0
start p ns a h = record { as_many = h; done = []; adds = adds_nothing refl; rest = refl }

module _ {p ns left : List ℕ} {a b : Page} {i : ℕ} (f : Filling p ns a b left i) where
  module _ (here : i < length p) where
    module _ (is-hash : get_or p i 0 ≡ hash) where
      fewer : hashes (drop i p) ≡ suc (hashes (drop (suc i) p))
      unfolding hashes
      fewer = rw (drop-cons p i 0 here, eq-eqb _ hash is-hash)

      pub one_left : length left ≡ 0 → ⊥
      one_left e = absurd (omega (arith, f.as_many, fewer))

      module _ {n : ℕ} {rest : List ℕ} (next : left ≡ n ∷ rest) where
        step : filled (drop i p) left ≡ numeral n ++ filled (drop (suc i) p) rest
        unfolding filled
        step = rw (drop-cons p i 0 here, eq-eqb _ hash is-hash, next)

        pub number_room : HasRoom (length (filled p ns)) a → HasRoom (length (numeral n)) b
        number_room h =
            let k : length (filled p ns)
            ≡ length f.done + (length (numeral n) + length (filled (drop (suc i) p) rest)) =
            rw (f.rest, step) (simp length-append) in
            omega (arith, h, after_adds f.adds)

        pub put_number : {c : Page} → Adds (numeral n) b c → Filling p ns a c rest (i + 1)
        put_number h =
            record {
              as_many = rw add-one (omega (arith, f.as_many, fewer, ap length next));
              done = f.done ++ numeral n;
              adds = adds_then f.adds h;
              rest = rw (f.rest, step, add-one i, append_assoc);
            }

    module _ (other : get_or p i 0 ≡ hash → ⊥) where
      same : hashes (drop i p) ≡ hashes (drop (suc i) p)
      unfolding hashes
      same = rw (drop-cons p i 0 here, ne_eqb _ hash other)

      step_byte : filled (drop i p) left ≡ get_or p i 0 ∷ filled (drop (suc i) p) left
      unfolding filled
      step_byte = rw (drop-cons p i 0 here, ne_eqb _ hash other)

      pub byte_room : HasRoom (length (filled p ns)) a → HasRoom 1 b
      byte_room h =
          let n : length (filled p ns) ≡ length f.done + suc (length (filled (drop (suc i) p) left)) =
          rw (f.rest, step_byte) (simp length-append) in
          omega (arith, h, after_adds f.adds)

      pub put_byte : {c : Page} → Adds (get_or p i 0 ∷ []) b c → Filling p ns a c left (i + 1)
      put_byte h =
          record {
            as_many = rw add-one (omega (arith, f.as_many, same));
            done = f.done ++ (get_or p i 0 ∷ []);
            adds = adds_then f.adds h;
            rest = rw (f.rest, step_byte, add-one i, append_assoc);
          }

  pub all : length p ≤ i → Adds (filled p ns) a b
  unfolding filled
  all over = adds_text (sym (rw (f.rest, drop_of_length-le p over, append-nil))) f.adds

-- the length of a number's digits, and of a filled pattern
pub numeral_length : (k n : ℕ) → length (numeral_of k n) ≤ k
unfolding numeral_of
numeral_length zero n = omega arith
numeral_length (suc k) n = go (ltb n 10) (numeral_length k (n / 10))
  where
    go :
        (b : Bool)
        → length (numeral_of k (n / 10)) ≤ k → length
        (cond b ((48 + n) ∷ []) (numeral_of k (n / 10) ++ ((48 + n % 10) ∷ []))) ≤ suc k
    go true ih = omega arith
    go false ih = rw length-append (omega arith)

pub filled_length : (p ns : List ℕ) → length (filled p ns) ≤ length p + 20 * hashes p
unfolding filled hashes
filled_length [] ns = omega arith
filled_length (p ∷ ps) ns = go (eqb p hash) (filled_length ps (drop 1 ns)) (filled_length ps ns)
  where
    go :
        (b : Bool) → length (filled ps (drop 1 ns)) ≤ length ps + 20 * hashes ps
        → length (filled ps ns) ≤ length ps + 20 * hashes ps →
        length (choose b (λ u. numeral (get_or ns 0 0) ++ filled ps (drop 1 ns)) (λ u. p ∷ filled ps ns)) ≤ suc
        (length ps) + 20 * cond b (suc (hashes ps)) (hashes ps)
    go true a b = rw length-append (omega (arith, numeral_length 20 (get_or ns 0 0)))
    go false a b = omega arith

-- a byte after a pattern
pub filled_then : (p ns : List ℕ) (c : ℕ) → eqb c hash ≡ false → filled (p ++ (c ∷ [])) ns ≡ filled p ns ++ (c ∷ [])
unfolding filled
filled_then [] ns c e = rw e
filled_then (p ∷ ps) ns c e = go (eqb p hash) (filled_then ps (drop 1 ns) c e) (filled_then ps ns c e)
  where
    go :
        (b : Bool) → filled (ps ++ (c ∷ [])) (drop 1 ns) ≡ filled ps (drop 1 ns) ++ (c ∷ [])
        → filled (ps ++ (c ∷ [])) ns ≡ filled ps ns ++ (c ∷ [])
        → choose b (λ u. numeral (get_or ns 0 0) ++ filled (ps ++ (c ∷ [])) (drop 1 ns)) (λ u. p ∷ filled (ps ++ (c ∷ [])) ns)
        ≡ choose b (λ u. numeral (get_or ns 0 0) ++ filled ps (drop 1 ns)) (λ u. p ∷ filled ps ns) ++ (c ∷ [])
    go true a b = rw a (sym (append_assoc (numeral (get_or ns 0 0)) (filled ps (drop 1 ns)) (c ∷ [])))
    go false a b = rw b

-- ---- a bound by the numbers' own digits
abbrev pub digits_in : List ℕ → ℕ
digits_in [] = 0
digits_in (n ∷ ns) = length (numeral n) + digits_in ns

pub filled_digits : (p ns : List ℕ) → length (filled p ns) ≤ length p + digits_in ns
unfolding filled
filled_digits [] ns = omega arith
filled_digits (p ∷ ps) ns = go (eqb p hash) ns (filled_digits ps)
  where
    go : (b : Bool) (ns : List ℕ) → ((ns : List ℕ) → length (filled ps ns) ≤ length ps + digits_in ns)
        → length (choose b (λ u. numeral (get_or ns 0 0) ++ filled ps (drop 1 ns)) (λ u. p ∷ filled ps ns)) ≤ suc
        (length ps) + digits_in ns
    go true [] ih = rw length-append (omega (arith, ih [], ap length (numeral_small 0 (lit≤ tt))))
    go true (n ∷ ns) ih = rw length-append (omega (arith, ih ns))
    go false ns ih = omega (arith, ih ns)
