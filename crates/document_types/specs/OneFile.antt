-- A source of one file.
use Rattle.std.specs.Prelude.{ℕ, List, Some, None, if◌then◌else◌, bytes_eq}
use Rattle.io_edge.specs.Told.{Content, known}

-- under this name stands this text, and there is no other file
abbrev pub file_alone : List ℕ → List ℕ → Content
file_alone file text name = known (if bytes_eq name file then Some text else None)
