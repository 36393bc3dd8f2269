-- A run of stores after a run of stores.
use Rattle.std.specs.Prelude.{Some}
use Prim.Native.Nat.{ℕ, suc, ◌+◌, ◌-◌, ◌≤◌}
use native.Mathlib.Nat.{add-zero}
use native.Mathlib.Omega.{arith}
use mathlib.Core.Bool.{Bool, true}
use mathlib.Core.Path.{◌≡◌, refl, sym, ap, ◌∙◌}
use mathlib.Core.List.{List, [], ◌∷◌, ◌++◌, append_assoc}
use lib.ListN.{length, set, take, drop, length-append}
use lib.Seq.{sets as overwritten, sets-eq, take_at, length-sets, length-take-le}
use borrow.Rule.Slice.PartMut.{put_mid, Post-is}
use Rattle.text.specs.declared.page.Page.{Page}
use Rattle.text.specs.Placing.{Stands, Puts, HasRoom, Adds}

pub overwritten_append :
    (a b l : List ℕ) (i : ℕ) → overwritten (overwritten l i a) (i + length a) b ≡ overwritten l i (a ++ b)
overwritten_append [] b l i = rw add-zero
overwritten_append (x ∷ a) b l i =
    let e : i + suc (length a) ≡ suc i + length a = omega arith in
    rw e (overwritten_append a b (set l i x) (suc i))

pub take_overwritten :
    (vs l : List ℕ) (i : ℕ) → i + length vs ≤ length l → take (i + length vs) (overwritten l i vs) ≡ take i l ++ vs
take_overwritten vs l i h =
    let e : length (take i l ++ vs) ≡ i + length vs =
    length-append (take i l) vs ∙ ap (λ (n : ℕ). n + length vs) (length-take-le i l (omega arith)) in
    rw (sets-eq vs l i h) (take_at (take i l ++ vs) (drop (i + length vs) l) (i + length vs) e)

-- two texts, one after the other
pub after_text :
    {a b l out out' : List ℕ} {at r r' : ℕ} → Stands a at l r out → Stands b r out r' out'
    → Stands (a ++ b) at l r' out'
after_text {a} {b} {l} {out} {out'} {at} h k =
    record {
      end_is = rw length-append (omega (arith, h.end_is, k.end_is));
      out_is = k.out_is ∙ rw (h.out_is, h.end_is) (overwritten_append a b l at);
    }

-- what stands at a buffer's start
pub at_front :
    {text out out' : List ℕ} {r : ℕ} → Stands text 0 out r out' → length text ≤ length out → take r out' ≡ text
at_front {text} {out} h l = rw (h.out_is, h.end_is) (take_overwritten text out 0 (omega arith))

pub same_long : {text out out' : List ℕ} {at r : ℕ} → Stands text at out r out' → length out' ≡ length out
same_long {text} {out} {out'} {at} h = rw h.out_is (length-sets out at text)

-- a text copied over a part of a buffer
pub copied :
    {text l part : List ℕ} {at end : ℕ} → end ≡ at + length text → end ≤ length l → part ≡ text
    → Stands text at l end (put_mid at (end - at) l part)
copied {text} {l} {part} {at} {end} e h same =
    record {
      end_is = e;
      out_is =
          rw (same, Post-is at end l (omega arith), e)
          (sym (sets-eq text l at (omega arith) ∙ append_assoc (take at l) text (drop (at + length text) l)));
    }

-- ---- with room and without
pub put_whole :
    {room : Bool} {text out out' : List ℕ} {at r : ℕ} → room ≡ true → Stands text at out r out'
    → Puts room text at out (Some r) out'
put_whole e h = record { place_is = rw (e, h.end_is); out_is = rw e h.out_is }

-- ---- on a page
pub adds_nothing : {p : Page} {text : List ℕ} → text ≡ [] → Adds text p p
adds_nothing e = rw e (record { same_buffer = refl; stands = record { end_is = omega arith; out_is = refl } })

-- a text by another name
pub adds_text : {text text' : List ℕ} {p q : Page} → text ≡ text' → Adds text p q → Adds text' p q
adds_text e h = rw (← e) h

-- two texts, one after the other
pub adds_then : {a b : List ℕ} {p q r : Page} → Adds a p q → Adds b q r → Adds (a ++ b) p r
adds_then h k = record { same_buffer = k.same_buffer ∙ h.same_buffer; stands = after_text h.stands k.stands }

-- what of a page's room is left
pub after_adds :
    {text : List ℕ} {p q : Page} → Adds text p q
    → (q.at ≡ p.at + length text) × (length q.out.now ≡ length p.out.now)
after_adds h = (h.stands.end_is, same_long h.stands)

-- a place within a buffer is the length of what stands before it
pub in_bounds : (r : ℕ) (out : List ℕ) → r ≤ length out → (r ≤ length out) × (r ≡ length (take r out))
in_bounds r out h = (h, sym (length-take-le r out h))

-- a page's front, where it was begun at its start
pub front :
    {text : List ℕ} {p q : Page} → Adds text p q → p.at ≡ 0 → HasRoom (length text) p → take q.at q.out.now ≡ text
front h z l = at_front (rw z at h.stands) (omega arith)

pub written_room :
    {text : List ℕ} {p q : Page} → Adds text p q → p.at ≡ 0 → HasRoom (length text) p → HasRoom 0 q
written_room h z l = omega (arith, after_adds h)
