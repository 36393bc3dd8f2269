use Rattle.text.proofs.WholeLaws.{last_room, cells_room, whole}
use Rattle.text.proofs.session.put_session.Goals as goal

-- Three texts in a row: the answers, the last line's answer, the listing (WholeLaws).

pub take_end-requires : goal.take_end-requires
take_end-requires c =
    last_room c.args.table c.args.book c.args.input.now c.requires c.open-desk.ensures c.take_chunk.ensures

pub list_cells-requires : goal.list_cells-requires
list_cells-requires c =
    cells_room c.args.table c.args.book c.args.input.now c.requires c.open-desk.ensures c.take_chunk.ensures
    c.take_end.ensures

pub returns : goal.returns
returns c =
    whole c.args.table c.args.book c.args.input.now c.requires c.open-desk.ensures c.take_chunk.ensures
    c.take_end.ensures c.list_cells.ensures
