use native.Mathlib.Omega.{arith}
use borrow.Author.Rules.{rules}
use Rattle.book.specs.Sizes.{all_parts}
use Rattle.text.proofs.ListingLaws.{none_yet, room_left, one_more}
use Rattle.text.proofs.BookRoomLaws.{family_fits}
use Rattle.text.proofs.WritingLaws.{family_adds}
use Rattle.text.proofs.writing.put_families.Goals.{in-Some, in_default}
use Rattle.text.proofs.writing.put_families.Goals as goal

-- The invariant: the lines of the parts before this one stand on the page.

pub loop-index-init : goal.loop-index-init
loop-index-init c = none_yet

pub put_family-requires : goal.put_family-requires
put_family-requires c = room_left c.loop-index.invariant all_parts c.loop-index-test.true c.requires

pub loop-index-preserved : goal.loop-index-preserved
loop-index-preserved c =
    let marks = c.args.book.now.marks in
    let parts = c.args.book.now.parts in
    elim c.match-nth.branch [
      | in-Some w ↦
          rw w.page-is
          (one_more c.loop-index.invariant
          (family_fits marks parts c.loop-index.index c.loop-index-test.true)
          (family_adds marks parts c.loop-index.index w.in-Some.family w.in-Some.ensures (search rules) (rw w.index.ensures.at at w.put_family.ensures)))
      | in_default w ↦ absurd (omega (arith, w.in_default.ensures))
    ]
