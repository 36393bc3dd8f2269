-- Card 6, of the accounts: a family's part is that of the last accepted filing or amendment of it, or the opening one.
use Prim.Native.Nat.{ℕ}
use mathlib.Core.Bool.{Bool, true, false, cond, ◌&&◌}
use mathlib.Core.List.{List, [], ◌∷◌, ◌++◌}
use mathlib.Core.Path.{◌≡◌, refl, sym, ◌∙◌, ap}
use borrow.Author.Tests.{eqb-true, eq-eqb}
use lib.Dec.{eqb}
use Rattle.figuring.specs.Tables.{Table}
use Rattle.book.specs.Ledger.{Key}
use Rattle.book.specs.Postings.{part_for, filing_key}
use Rattle.book.specs.Accounts.{Opening, Accounts, Entry, as_accepted, begun_with, same_key, move, when_accepted, feed, feed_all, accounts_from}
use Rattle.book.specs.Amendments.{NoneOf, CountsLast}
use Rattle.book.specs.declared.kinds.Call.{Call}
use Rattle.book.specs.declared.kinds.Filing.{Filing}
use Rattle.book.proofs.LedgerLaws.{same_self, same_true}
use Rattle.book.proofs.AmongLaws.{later}

module _ (k : Key) (family : ℕ) where
  -- a call that is no accepted filing or amendment of the family leaves its part
  leaves :
      (t : Table) (a : Accounts) (c : Call) (accepted : Bool)
      → ((f : Filing) → c ≡ Call.File f → accepted ≡ true → filing_key f ≡ k → f.family ≡ family → ⊥)
      → (when_accepted accepted (move t a c) a).last k family ≡ a.last k family
  leaves t a c false n = refl
  leaves t a (Call.File f) true n = go (same_key (filing_key f) k) (eqb f.family family) refl refl
    where
      go :
          (s d : Bool) → same_key (filing_key f) k ≡ s → eqb f.family family ≡ d
          → cond (s && d) (part_for t f) (a.last k family) ≡ a.last k family
      go true true p q = absurd (n f refl refl (same_true (filing_key f) k p) (eqb-true f.family family q))
      go true false p q = refl
      go false d p q = refl
  leaves t a (Call.Close y) true n = refl
  leaves t a (Call.Trade x) true n = refl
  leaves t a (Call.Apply p) true n = refl
  leaves t a (Call.Retire p) true n = refl
  leaves t a (Call.Cover c) true n = refl

  leaves_all : (es : List Entry) (a : Accounts) → NoneOf es k family → (feed_all a es).last k family ≡ a.last k family
  unfolding feed_all feed
  leaves_all [] a n = refl
  leaves_all (e ∷ es) a n =
      leaves_all es (feed a e) (λ t f p. n t f (later e p))
      ∙ leaves e.table a e.call e.accepted (λ f c d.
      let q : as_accepted e.table (Call.File f) ≡ e = λ i. record { table = e.table; call = sym c i; accepted = sym d i } in
      n e.table f (record { before = []; after = es; here = ap (λ (x : Entry). x ∷ es) (sym q) }))

  -- one that is sets it
  sets :
      (a : Accounts) (t : Table) (f : Filing) → filing_key f ≡ k → f.family ≡ family
      → (feed a (as_accepted t (Call.File f))).last k family ≡ part_for t f
  unfolding feed
  sets a t f p q = rw (p, q, same_self k, eq-eqb family family refl)

  counts :
      (before after : List Entry) (a : Accounts) (t : Table) (f : Filing)
      → filing_key f ≡ k → f.family ≡ family → NoneOf after k family
      → (feed_all a (before ++ as_accepted t (Call.File f) ∷ after)).last k family ≡ part_for t f
  unfolding feed_all
  counts [] after a t f p q n = leaves_all after (feed a (as_accepted t (Call.File f))) n ∙ sets a t f p q
  counts (e ∷ before) after a t f p q n = counts before after (feed a e) t f p q n

pub counts_last : (o : Opening) (es : List Entry) (k : Key) (family : ℕ) → CountsLast o es k family
unfolding accounts_from
counts_last o es k family =
    record {
      last = λ before after t f e p q n. rw e (counts k family before after (begun_with o) t f p q n);
      none = λ n. leaves_all k family es (begun_with o) n;
    }
