-- Open references by number, in memory: the least number of its kind stands for each.
use Rattle.number_kinds.specs.Kinds.{decimal_kind, hexadecimal_kind}
use Rattle.open_pieces.specs.declared.value.OpenReference.{OpenReference}
use Rattle.open_pieces.specs.declared.value.OpenReference.TheVariants.{Entity, Number, Decimal, HexadecimalBegin, Hexadecimal}
use Rattle.open_pieces.specs.declared.value.OpenValue.{OpenValue}
use Rattle.open_pieces.specs.declared.value.OpenValue.TheVariants as value
use Rattle.open_pieces.specs.declared.attribute.OpenAttribute.{OpenAttribute}
use Rattle.open_pieces.specs.declared.attribute.OpenAttribute.TheVariants as attribute
use Rattle.open_pieces.specs.declared.open.OpenPiece.{OpenPiece}
use Rattle.open_pieces.specs.declared.open.OpenPiece.TheVariants as piece

-- behind `&`
abbrev pub merged_reference : OpenReference → OpenReference
merged_reference (Entity name) = Entity name
merged_reference Number = Number
merged_reference (Decimal n) = Decimal (decimal_kind n)
merged_reference HexadecimalBegin = HexadecimalBegin
merged_reference (Hexadecimal n) = Hexadecimal (hexadecimal_kind n)

-- in the quotes of a value
abbrev pub merged_value : OpenValue → OpenValue
merged_value value.Text = value.Text
merged_value (value.Reference r) = value.Reference (merged_reference r)
merged_value (value.Fixed text) = value.Fixed text
merged_value (value.Choice word spaced) = value.Choice word spaced
merged_value (value.Words inside one) = value.Words inside one

-- among attributes
abbrev pub merged_attribute : OpenAttribute → OpenAttribute
merged_attribute (attribute.Between spaced) = attribute.Between spaced
merged_attribute (attribute.Name name) = attribute.Name name
merged_attribute (attribute.BehindName name) = attribute.BehindName name
merged_attribute (attribute.BehindEquals name) = attribute.BehindEquals name
merged_attribute (attribute.Value name quote v) = attribute.Value name quote (merged_value v)

-- what is open
abbrev pub merged_open : OpenPiece → OpenPiece
merged_open piece.Nothing = piece.Nothing
merged_open (piece.Reference r) = piece.Reference (merged_reference r)
merged_open (piece.Opener begun) = piece.Opener begun
merged_open (piece.TagName name) = piece.TagName name
merged_open (piece.Tag name names o) = piece.Tag name names (merged_attribute o)
merged_open (piece.EmptyEnd name names) = piece.EmptyEnd name names
merged_open (piece.EndTag name spaced) = piece.EndTag name spaced
merged_open (piece.Comment dashes) = piece.Comment dashes
merged_open (piece.Section brackets) = piece.Section brackets
merged_open (piece.Target target) = piece.Target target
merged_open piece.OtherTarget = piece.OtherTarget
merged_open piece.BehindTarget = piece.BehindTarget
merged_open (piece.Instruction asked) = piece.Instruction asked
merged_open (piece.Declaration names o) = piece.Declaration names o
merged_open piece.DeclarationEnd = piece.DeclarationEnd
merged_open (piece.Doctype o) = piece.Doctype o
