-- The files that are kept are within the limit of a file.
use Rattle.std.specs.Prelude.{◌≡◌, ◌≤◌, ℕ, List, length, Some, bytes_eq}
use Rattle.std.specs.Map.{lookup}
use Rattle.text_base.specs.declared.limits.TheConstants.{FILE_LIMIT}
use Rattle.site_check.specs.declared.kept_files.KeptFile.TheVariants.{Found}
use Rattle.site_check.specs.Kept.{NamedFiles}

-- each file that is found has at most so many bytes
abbrev pub AreShort : NamedFiles → Type 0
AreShort files = (name bytes : List ℕ) → lookup (bytes_eq name) files ≡ Some (Found bytes) → length bytes ≤ FILE_LIMIT
