use Rattle.std.proofs.Common.{rules, tests}
use Rattle.std.proofs.lemmas.Iterator.Search.{position_from_yields_List}
use Rattle.streams.proofs.MessageLaws.{windows_are, is_numbered, words_by_place}
use Rattle.streams.proofs.telling.words_end.Goals as goal

pub returns-clause-words : goal.returns-clause-words
returns-clause-words c =
    let found =
    position_from_yields_List is_numbered _ _ c.position.result c.position.ensures.ran
    (windows_are c.args.text.now c.windows.ensures.rest c.windows.ensures.size) (λ x b q k. search (rules, tests)) in
    rw (c.unwrap_or.ensures, found) (words_by_place c.args.text.now)
