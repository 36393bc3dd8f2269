use Rattle.text.proofs.WritingLaws.{open_adds, families_room, lots_room, shortages_room, whole}
use Rattle.text.proofs.writing.put_book.Goals as goal

-- The first line, and then the three groups, each after the one before.

pub put_families-requires : goal.put_families-requires
put_families-requires c = families_room c.args.book.now c.requires (open_adds _ c.fill.ensures)

pub put_mgs-requires-clause-room : goal.put_mgs-requires-clause-room
put_mgs-requires-clause-room c =
    lots_room c.args.book.now c.requires (open_adds _ c.fill.ensures) c.put_families.ensures

pub put_mgs-requires-2-clause-room : goal.put_mgs-requires-2-clause-room
put_mgs-requires-2-clause-room c =
    shortages_room c.args.book.now c.requires (open_adds _ c.fill.ensures) c.put_families.ensures c.put_mgs.ensures

pub returns : goal.returns
returns c =
    whole c.args.book.now c.requires (open_adds _ c.fill.ensures) c.put_families.ensures c.put_mgs.ensures
    c.put_mgs-2.ensures
