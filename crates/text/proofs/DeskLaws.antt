-- Laws of a desk: how much a terminal says, what a call replies, and desks compared by what they hold.
use Rattle.std.specs.Prelude.{Option, Some, None, MatchOption, is_some}
use Prim.Native.Nat.{ℕ, ◌+◌, ◌*◌, ◌≤◌}
use native.Mathlib.Omega.{arith}
use mathlib.Core.Bool.{Bool, true, false, cond, true≢false}
use mathlib.Core.Path.{◌≡◌, refl, sym, ap, ◌∙◌}
use mathlib.Core.List.{List, [], ◌∷◌}
use lib.Dec.{eqb, ltb}
use lib.ListN.{length, length-append}
use lib.Seq.{length-take-le}
use Rattle.figuring.specs.Tables.{Table}
use Rattle.text.specs.declared.desk.Desk.{Desk}
use Rattle.text.specs.declared.page.Page.{Page}
use Rattle.text.specs.Answers.{answer_to, answer_room}
use Rattle.text.specs.Desk.{Terminal, answering, holding, takes, takes_all, ends, terminal_if, at_desk, line_feed}
use Rattle.text.specs.Desk.{Serves, RepliedBy, ServedBy, SameReply, ByWhatIsHeld}
use Rattle.text.proofs.AnswerLaws.{text_length}
use Rattle.text.proofs.StoreLaws.{after_adds}

-- ---- the room that answers take
module _ (t : Table) where
  said_more : (x : Terminal) (c : ℕ) → length (takes t x c).said ≤ length x.said + answer_room
  said_more x c = go (eqb c line_feed)
    where
      go : (e : Bool) → length (cond e (answering t x) (holding x c)).said ≤ length x.said + answer_room
      go true = rw length-append (omega (arith, text_length (answer_to t x.book x.held).answer))
      go false = omega arith

  pub said_length :
      (x : Terminal) (s : List ℕ) → length (takes_all t x s).said ≤ length x.said + answer_room * length s
  unfolding takes_all
  said_length x [] = omega arith
  said_length x (c ∷ s) = omega (arith, said_length (takes t x c) s, said_more x c)

  pub ends_length : (x : Terminal) → length (ends t x).said ≤ length x.said + answer_room
  ends_length x = go (ltb 0 (length x.held))
    where
      go : (e : Bool) → length (terminal_if e (answering t x) x).said ≤ length x.said + answer_room
      go true = rw length-append (omega (arith, text_length (answer_to t x.book x.held).answer))
      go false = omega arith

-- ---- what a call replies, where page p, begun on the buffer, has come to q
pub replied :
    {room : Bool} {d d' : Desk} {x : Terminal} {p q : Page} {out out' : List ℕ}
    → room ≡ true → ServedBy x d' p q → p.at ≡ 0 → p.out.now ≡ out → out' ≡ q.out.now → length x.said ≤ length out
    → RepliedBy room d x out (Some q.at) d' out'
replied {x = x} {q = q} {out = out} {out' = out'} e s z o n l =
    let b : q.at ≤ length out' = omega (arith, after_adds s.adds, z, ap length o, ap length n) in
    record {
      fits_is = sym e;
      serves =
          record {
            book_is = s.book_is;
            held_is = s.held_is;
            at_is = omega (arith, after_adds s.adds, z);
            out_is = n ∙ rw (z, o) at s.adds.stands.out_is;
            at_in = b;
            at_counts = sym (length-take-le q.at out' b);
          };
    }

-- ---- desks compared by what they hold
pub by_what_is_held : ByWhatIsHeld
by_what_is_held room f d e out r d₁ out₁ s e₁ out₂ h k l =
    go r s (k.fits_is ∙ sym l.fits_is) k.serves (rw (← h) at l.serves)
  where
    go :
        (r s : Option ℕ) → is_some r ≡ is_some s
        → MatchOption r ((d₁ ≡ d) × (out₁ ≡ out)) (λ n. Serves (f (at_desk d)) out n d₁ out₁)
        → MatchOption s ((e₁ ≡ e) × (out₂ ≡ out)) (λ n. Serves (f (at_desk d)) out n e₁ out₂)
        → SameReply r d₁ out₁ s e₁ out₂
    go None None q a b =
        record { same_at = refl; same_out = a.1 ∙ sym b.1; same_held = rw (a.0, b.0) h }
    go (Some m) (Some n) q a b =
        record {
          same_at = ap {B = Option ℕ} Some (a.at_is ∙ sym b.at_is);
          same_out = a.out_is ∙ sym b.out_is;
          same_held = rw (a.book_is, a.held_is, b.book_is, b.held_is);
        }
    go None (Some n) q a b = absurd (true≢false (sym q))
    go (Some m) None q a b = absurd (true≢false q)
