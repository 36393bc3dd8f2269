-- A place of the book as the rules name it: by its maker, its set and its year; and its cell, as a cover names it.
use Rattle.book.specs.Ledger.{Key, key}
use Rattle.book.specs.declared.places.Place.{Place}
use Rattle.book.specs.declared.kinds.Cover.{Cover}

abbrev pub key_of : Place → Key
key_of p = key p.cell.maker p.cell.set p.year

abbrev pub cell_of : Place → Cover
cell_of p = record { maker = p.cell.maker; set = p.cell.set }
