-- What a step answers.
use Rattle.std.specs.Prelude.{Option, Some, None}
use Rattle.page_model.specs.OpenValues as value
use Rattle.open_pieces.specs.declared.value.OpenReference.{OpenReference}
use Rattle.open_pieces.specs.Views.{plain_reference}

-- the open reference of the definition, or none
abbrev pub plain_next : Option OpenReference → Option value.OpenReference
plain_next None = None
plain_next (Some r) = Some (plain_reference r)
