use Rattle.std.proofs.Common.{◌↔◌, map, drop}
use Rattle.text_base.specs.declared.letter.Letter.TheVariants.{OfByte}
use Rattle.fst_core.specs.Layers.{SomeGives, TableGives}
use Rattle.fst_core.proofs.layers.applies.Given as goal

abbrev pub invariant-loop-byte : goal.invariant-loop-byte
invariant-loop-byte l =
    SomeGives l.table l.layer.keys (drop l.byte-index l.input) l.output ↔ TableGives l.table l.table.start l.input (map OfByte l.output)
