-- Entries collected by rank, and entered by rank: over any way to look an entry up in a book.
use Prim.Native.Nat.{ℕ, zero, suc, ◌+◌, ◌-◌, ◌≤◌, ◌<◌}
use native.Mathlib.Omega.{arith}
use native.Mathlib.Decide.{ℕ_discrete}
use mathlib.Core.Path.{◌≡◌, refl, sym, ap, subst, ◌∙◌}
use mathlib.Core.List.{List, [], ◌∷◌, ◌++◌, append_assoc, append-nil}
use Rattle.book.specs.Orders.{Among}
use Rattle.book.specs.declared.ledger.Book.{Book}
use Rattle.text.specs.Gather.{gather}
use Rattle.text.specs.declared.entries.Entry.{Entry}
use Rattle.text.specs.Entries.{rank, enter}
use Rattle.text.proofs.GatherLaws.{gather_same, gather_rest}

unfoldable pub enter_all : Book → List Entry → Book
enter_all b [] = b
enter_all b (e ∷ es) = enter_all (enter b e) es

pub enter_append : (b : Book) (xs ys : List Entry) → enter_all b (xs ++ ys) ≡ enter_all (enter_all b xs) ys
unfolding enter_all
enter_append b [] ys = refl
enter_append b (x ∷ xs) ys = enter_append (enter b x) xs ys

-- entries of ranks that rise, from `least` on, up to the one before n
abbrev pub Rising : (Entry → Type 0) → ℕ → ℕ → List Entry → Type 0
Rising In n least [] = least ≤ n
Rising In n least (e ∷ es) = In e × ((least ≤ rank e) × Rising In n (suc (rank e)) es)

pub rising_more : (In : Entry → Type 0) (n least : ℕ) (es : List Entry) → Rising In n least es → Rising In (suc n) least es
rising_more In n least [] h = omega arith
rising_more In n least (e ∷ es) h = (h.0, (h.1.0, rising_more In n (suc (rank e)) es h.1.1))

pub rising_map :
    {In Also : Entry → Type 0} → ((e : Entry) → In e → Also e) → (n least : ℕ) (es : List Entry)
    → Rising In n least es → Rising Also n least es
rising_map f n least [] h = h
rising_map f n least (e ∷ es) h = (f e h.0, (h.1.0, rising_map f n (suc (rank e)) es h.1.1))

pub rising_last :
    (In : Entry → Type 0) (n least : ℕ) (es : List Entry) (e : Entry)
    → Rising In n least es → In e → rank e ≡ n → Rising In (suc n) least (es ++ (e ∷ []))
rising_last In n least [] e h i m = (i, (omega arith, omega arith))
rising_last In n least (x ∷ es) e h i m = (h.0, (h.1.0, rising_last In n (suc (rank x)) es e h.1.1 i m))

-- what is among them is one of them
pub rising_among :
    (In : Entry → Type 0) (n least : ℕ) (es : List Entry) (e : Entry) → Rising In n least es → Among e es → In e
rising_among In n least es e h p = go p.before least (subst (Rising In n least) p.here h)
  where
    go : (bs : List Entry) (l : ℕ) → Rising In n l (bs ++ e ∷ p.after) → In e
    go [] l h = h.0
    go (b ∷ bs) l h = go bs (suc (rank b)) h.1.1

-- at a rank a book has no entry, or one of that rank
pub data Has (In : Entry → Type 0) (l : List Entry) (r : ℕ) : Type 0 where
  nothing : l ≡ [] → Has In l r
  one : (e : Entry) → l ≡ e ∷ [] → In e → rank e ≡ r → Has In l r

pub gather_rises :
    (In : Entry → Type 0) (f : ℕ → List Entry) (n : ℕ) → ((r : ℕ) → r < n → Has In (f r) r) → Rising In n 0 (gather n f)
unfolding gather
gather_rises In f zero h = omega arith
gather_rises In f (suc n) h = go (h n (omega arith)) (gather_rises In f n (λ r l. h r (omega arith)))
  where
    go : Has In (f n) n → Rising In n 0 (gather n f) → Rising In (suc n) 0 (gather n f ++ f n)
    go (nothing z) ih = rw (z, append-nil) (rising_more In n 0 (gather n f) ih)
    go (one e z i m) ih = rw z (rising_last In n 0 (gather n f) e ih i m)

-- what is to be shown of books: what is looked up at a rank after an entry was entered
pub record Stores (Good : Book → Type 0) (In : Entry → Type 0) (look : Book → ℕ → List Entry) (total : ℕ) : Type 1 where
  pub keeps : (b : Book) (e : Entry) → Good b → In e → Good (enter b e)
  pub same : (b : Book) (e : Entry) → Good b → In e → look (enter b e) (rank e) ≡ e ∷ []
  pub other : (b : Book) (e : Entry) (r : ℕ) → Good b → In e → (r ≡ rank e → ⊥) → look (enter b e) r ≡ look b r

module _ {Good : Book → Type 0} {In : Entry → Type 0} {look : Book → ℕ → List Entry} {total : ℕ}
    (S : Stores Good In look total) where
  -- rising entries, entered, are what is collected
  pub entered_collected :
      (least : ℕ) (b : Book) (es : List Entry)
      → Good b → ((r : ℕ) → least ≤ r → look b r ≡ []) → Rising In total least es
      → gather total (look (enter_all b es)) ≡ gather least (look b) ++ es
  unfolding enter_all gather
  entered_collected least b [] g h u =
      let e : total ≡ (total - least) + least = omega arith in
      ap (λ (n : ℕ). gather n (look b)) e ∙ gather_rest (look b) least (total - least) h
      ∙ sym (append-nil (gather least (look b)))
  entered_collected least b (e ∷ es) g h u =
      let b' : Book = enter b e in
      let r : ℕ = rank e in
      let ih = entered_collected (suc r) b' es (S.keeps b e g u.0)
      (λ i m. S.other b e i g u.0 (λ q. omega arith) ∙ h i (omega (arith, u.1.0))) u.1.1 in
      let k : r ≡ (r - least) + least = omega (arith, u.1.0) in
      let front : gather r (look b') ≡ gather least (look b) =
      gather_same (look b') (look b) r (λ i m. S.other b e i g u.0 (λ q. omega arith))
      ∙ ap (λ (n : ℕ). gather n (look b)) k ∙ gather_rest (look b) least (r - least) h in
      ih ∙ rw (front, S.same b e g u.0) (append_assoc (gather least (look b)) (e ∷ []) es)

  -- what is collected of a book c below n, entered into a book b that has nothing
  pub record Copied (c b : Book) (n : ℕ) : Type 0 where
    pub good : Good b
    pub done : (r : ℕ) → r < n → look b r ≡ look c r
    pub rest : (r : ℕ) → n ≤ r → look b r ≡ []

  one_more : (c b : Book) (n : ℕ) → Has In (look c n) n → Copied c b n → Copied c (enter_all b (look c n)) (suc n)
  unfolding enter_all
  one_more c b n (nothing z) k =
      rw z (record {
        good = k.good;
        done = λ r h. go r h (ℕ_discrete r n);
        rest = λ r h. k.rest r (omega arith);
      })
    where
      go : (r : ℕ) → r < suc n → Dec (r ≡ n) → look b r ≡ look c r
      go r h (yes q) = k.rest r (omega arith) ∙ sym (ap (look c) q ∙ z)
      go r h (no q) = k.done r (omega (arith, q))
  one_more c b n (one e z i m) k =
      rw z (record {
        good = S.keeps b e k.good i;
        done = λ r h. go r h (ℕ_discrete r n);
        rest = λ r h. S.other b e r k.good i (λ q. omega arith) ∙ k.rest r (omega arith);
      })
    where
      go : (r : ℕ) → r < suc n → Dec (r ≡ n) → look (enter b e) r ≡ look c r
      go r h (yes q) = ap (look (enter b e)) (q ∙ sym m) ∙ S.same b e k.good i ∙ sym (ap (look c) q ∙ z)
      go r h (no q) = S.other b e r k.good i (λ w. q (w ∙ m)) ∙ k.done r (omega (arith, q))

  pub collected_entered :
      (c b : Book) → ((r : ℕ) → r < total → Has In (look c r) r)
      → Good b → ((r : ℕ) → look b r ≡ []) → (n : ℕ) → n ≤ total → Copied c (enter_all b (gather n (look c))) n
  unfolding gather enter_all
  collected_entered c b f g z zero l = record { good = g; done = λ r h. absurd (omega arith); rest = λ r h. z r }
  collected_entered c b f g z (suc n) l =
      rw (enter_append b (gather n (look c)) (look c n))
      (one_more c (enter_all b (gather n (look c))) n (f n l) (collected_entered c b f g z n (omega arith)))
