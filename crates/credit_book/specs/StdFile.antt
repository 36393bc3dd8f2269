-- Card 7: "The file `std.txt` (built-in table where it is absent)": what the functions that read it hold to.
use Rattle.std.specs.Prelude.{◌≡◌, ◌≢◌, ◌⊎◌, Option, None, Some, Result, Ok, Err}
use Rattle.std.specs.IoError.{error_kind}
use Rattle.std.specs.declared.fs.File.{File}
use Rattle.std.specs.declared.io.Error.{Error}
use Rattle.std.specs.declared.io.ErrorKind.{ErrorKind}
use Rattle.figuring.specs.Tables.{Table}
use Rattle.text.specs.Loads.{Read}
use Rattle.text.specs.TableText.{table_of, table_room}
use Rattle.credit_book.specs.declared.files.Unusable.{Unusable}
use Rattle.credit_book.specs.Files.{ComesTo, FileGives}

-- its text comes to v
abbrev pub TextComesTo : Read Table → Type 0
TextComesTo v = ComesTo table_room table_of v

-- what became of a file that was opened
abbrev pub FromFile : Result Table Unusable → Type 0
FromFile r = FileGives table_room table_of r

-- the same, of a table that there may be
abbrev pub FoundIn : Result (Option Table) Unusable → Type 0
FoundIn (Ok None) = ⊥
FoundIn (Ok (Some t)) = FromFile (Ok t)
FoundIn (Err why) = FromFile (Err why)

-- by what the opening answered, a file or an error: there is none only where the error says so by its kind
abbrev pub Opened : Result File Error → Result (Option Table) Unusable → Type 0
Opened (Ok file) r = FoundIn r
Opened (Err why) r =
    ((error_kind why ≡ ErrorKind.NotFound) × (r ≡ Ok None))
    ⊎ ((error_kind why ≢ ErrorKind.NotFound) × (r ≡ Err Unusable.Unreadable))

-- what became of std.txt: there is such an answer
pub record StdFileBy (r : Result (Option Table) Unusable) : Type 0 where
  pub opening : Result File Error
  pub opened : Opened opening r
