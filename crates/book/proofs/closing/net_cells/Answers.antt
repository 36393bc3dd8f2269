use Rattle.std.proofs.Common.{◌≡◌, ◌∙◌, rules, arith, length, ap, refl, ltb}
use Rattle.figuring.specs.Netting.{earned_of, shortfall_of}
use Rattle.book.specs.Sizes.{families, all_parts}
use Rattle.book.proofs.BelowLaws.{one_if_small}
use Rattle.book.proofs.SoundnessLaws.{sound_is}
use Rattle.book.proofs.CloseFacts.{none_netted, one_more, next_in, part_here, byte_is, all_netted, all_short}
use Rattle.book.proofs.closing.net_cells.Goals as goal

-- `Netted` is the loop's invariant: the cells passed are netted. One turn is the law `one_more`.

pub overflow_sub-i : goal.overflow_sub-i
overflow_sub-i c = omega (arith, (sound_is _ c.requires.0).low)

pub loop-cell-init : goal.loop-cell-init
loop-cell-init c =
    let e = c.enumerate-cell-items.ensures in
    let p = c.chunks_exact.ensures in
    rw (c.into_iter-cell-iterator.ensures.into_iter_gives, e.source, e.count, p.rest, p.size) (none_netted _ _, refl)

pub sum_of-requires : goal.sum_of-requires
sum_of-requires c =
    let (h, size) = c.loop-cell.invariant in
    let s = c.in-Some.ensures.steps in
    let z : length c.args.book.now.parts ≡ all_parts = search rules in
    let long : length c.in-Some.parts.now ≡ families = s.0.1.1 ∙ size in (
      omega (arith, long),
      λ f k.
          rw (part_here h z _ _ s.0.1.0 long f k) ((sound_is _ c.requires.0).bounded _ f (next_in h z _ _ s.0.1.0 long) k),
    )

pub overflow_add-short : goal.overflow_add-short
overflow_add-short c =
    let (h, size) = c.loop-cell.invariant in
    let s = c.in-Some.ensures.steps in
    omega (
      arith,
      h.few,
      next_in h (search rules) _ _ s.0.1.0 (s.0.1.1 ∙ size),
      c.from-short.ensures ∙ byte_is _,
      one_if_small (ltb 0 c.shortfall-lacks.result.0),
    )

pub loop-cell-preserved : goal.loop-cell-preserved
loop-cell-preserved c =
    let (h, size) = c.loop-cell.invariant in
    let s = c.in-Some.ensures.steps in
    rw (s.1, s.2) (
      one_more h (search rules) _ _ s.0.1.0 (s.0.1.1 ∙ size) c.sum_of.ensures
          (c.earned.ensures ∙ ap earned_of c.net_of-net.ensures)
          (c.shortfall-lacks.ensures ∙ ap shortfall_of c.net_of-net.ensures)
          (c.from-short.ensures ∙ byte_is _),
      s.0.0 ∙ size,
    )

pub returns-clause-book : goal.returns-clause-book
returns-clause-book c =
    let (h, size) = c.loop-cell.invariant in
    all_netted h (search rules) (rw size at c.in-None.ensures.steps.0.1.0)

pub returns-clause-short : goal.returns-clause-short
returns-clause-short c =
    let (h, size) = c.loop-cell.invariant in
    all_short h (search rules) (rw size at c.in-None.ensures.steps.0.1.0)
