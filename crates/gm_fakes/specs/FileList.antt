-- What a list of stored files means: from each name to the bytes of the first file of that name.
use Rattle.std.specs.Prelude.{ℕ, Bool, List, map, string_bytes, bytes_eq}
use Rattle.std.specs.FinMap.{from_entries}
use Rattle.gm_outside.specs.Files.{Files}
use Rattle.gm_fakes.specs.declared.file_list.StoredFile.{StoredFile}

-- the name and the bytes of a stored file
abbrev pub entry_of : StoredFile → List ℕ × List ℕ
entry_of file = (string_bytes file.name, file.bytes.items)

abbrev pub files_of : List StoredFile → Files
files_of stored = from_entries (map entry_of stored)

-- whether the file has this name
abbrev pub has_name : List ℕ → StoredFile → Bool
has_name name file = bytes_eq name (string_bytes file.name)
