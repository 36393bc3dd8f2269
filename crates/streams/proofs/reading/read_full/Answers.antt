use Rattle.std.proofs.Common.{◌≡◌, ℕ, ◌+◌, ◌-◌, ◌≤◌, List, ◌++◌, rules, length, take, drop, sym, ap, ◌∙◌, subst, le_refl, drop_at, length-take-le}
use Rattle.std.proofs.lemmas.Slice.{take-put_mid_below}
use Rattle.std.specs.Io.KnownBytes.{Consumes}
use Rattle.std.proofs.KnownBytes.{Consumes-trans}
use borrow.Rule.Slice.PartMut.{put_mid, post_of}
use lib.Seq.{take-add, take-append-le}
use Rattle.streams.proofs.reading.read_full.Goals as goal

-- what a read put behind the first `at` bytes, and those
joined :
    (at k n : ℕ) (xs ys : List ℕ) → at ≤ length xs → n ≤ length ys
    → take at xs ++ take n ys ≡ take (at + n) (put_mid at k xs ys)
joined at k n xs ys within fits =
    let front : take at (put_mid at k xs ys) ≡ take at xs = take-put_mid_below _ _ _ _ _ (le_refl _) within in
    let behind : take n (drop at (put_mid at k xs ys)) ≡ take n ys =
    ap (take n) (drop_at (take at xs) (ys ++ post_of at k xs) at (length-take-le at xs within))
    ∙ take-append-le n ys (post_of at k xs) fits in
    sym (take-add at n (put_mid at k xs ys) ∙ ap (λ (p : List ℕ). p ++ take n (drop at (put_mid at k xs ys))) front
    ∙ ap (λ (p : List ℕ). take at xs ++ p) behind)

pub loop-done-preserved : goal.loop-done-preserved
loop-done-preserved g c =
    let within = c.loop-done.invariant.in_bounds in
    let room = length c.loop-done.buffer - c.loop-done.done in
    let all = joined c.loop-done.done room c.in-Ok.n c.loop-done.buffer c.read.new.buf within c.in-Ok.ensures.bound.0 in
    record {
      long = search rules;
      in_bounds = search rules;
      bytes =
          subst (Consumes _ _) all
          (Consumes-trans _ _ _ _ _ c.loop-done.invariant.bytes c.in-Ok.ensures.bytes.0);
    }
