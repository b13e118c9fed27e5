-- The one file with the built-in text is told of, and within the limit of a file.
use Rattle.std.proofs.Common.{◌≡◌, ◌≤◌, ℕ, List, true, false, Bool, Option, Some, None, length, refl, subst}
use Rattle.std.specs.Prelude.{if◌then◌else◌, bytes_eq}
use Rattle.text_base.specs.declared.limits.TheConstants.{FILE_LIMIT}
use Rattle.io_edge.specs.Told.{known}
use Rattle.dtd_reader.specs.Certain.{AreTold, AreShort}
use Rattle.document_types.specs.Strict.{file_name, file_root, only_file, strict_bytes}
use Rattle.document_types.proofs.Length.{is_short}

pub only_told : (text : List ℕ) → AreTold (only_file text) file_root file_name
only_told text path asked = (_, refl)

known_some : {a : Option (List ℕ)} {b : List ℕ} → known a ≡ known (Some b) → a ≡ Some b
known_some e = cc

of_some : {a b : List ℕ} → Some a ≡ Some b → a ≡ b
of_some e = cc

short_by : (here : Bool) (bytes : List ℕ) → (if here then Some strict_bytes else None) ≡ Some bytes → length bytes ≤ FILE_LIMIT
short_by true bytes e = subst (λ (x : List ℕ). length x ≤ FILE_LIMIT) (of_some e) is_short
short_by false bytes e = absurd cc

pub only_short : AreShort (only_file strict_bytes) file_root file_name
only_short path bytes asked e = short_by (bytes_eq path file_name) bytes (known_some e)
