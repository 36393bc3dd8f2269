-- An argument that was asked for into a buffer, as a path: the bytes that the answer counts, where they are UTF-8.
use Rattle.std.specs.Prelude.{ℕ, List, ◌≡◌, take, Result, Ok, Err}
use Rattle.std.specs.Str.{IsUtf8}
use Rattle.std.specs.declared.env.FillError.{FillError}
use Rattle.std.specs.declared.env.FillError.TheVariants.{NotPresent, TooLong}
use Rattle.std.specs.declared.io.ErrorKind.{ErrorKind}

abbrev pub IsPath : Result ℕ FillError → List ℕ → List ℕ → Type 0
IsPath (Ok n) buffer path = path ≡ take n buffer
IsPath (Err why) buffer path = ⊥

-- what kind of error there is in its place
abbrev pub IsNoPath : Result ℕ FillError → List ℕ → ErrorKind → Type 0
IsNoPath (Ok n) buffer kind = (IsUtf8 (take n buffer) → ⊥) × (kind ≡ ErrorKind.InvalidInput)
IsNoPath (Err TooLong) buffer kind = kind ≡ ErrorKind.InvalidFilename
IsNoPath (Err NotPresent) buffer kind = kind ≡ ErrorKind.NotFound
