use Rattle.std.proofs.Common.{◌∙◌, sym}
use Rattle.std.proofs.lemmas.Result.{err_from_is_err_and}
use Rattle.text.proofs.TableTextLaws.{table_texts}
use Rattle.credit_book.proofs.FileLaws.{comes_to}
use Rattle.credit_book.proofs.std_file.load_file.Goals as goal

pub returns-in_err-read_table : goal.returns-in_err-read_table
returns-in_err-read_table c =
    let p = err_from_is_err_and c.from_residual-in_err-read_table.result c.from_residual-in_err-read_table.ensures.1 in
    rw (p.1, p.2)
    (comes_to table_texts.first_bytes c.read_text.auto.text c.in_ok-read.ensures
    (sym c.read_table.ensures ∙ c.in_err-read_table.was))

pub returns : goal.returns
returns c =
    comes_to table_texts.first_bytes c.read_text.auto.text c.in_ok-read.ensures
    (sym c.read_table.ensures ∙ c.in_ok-read_table.was)
