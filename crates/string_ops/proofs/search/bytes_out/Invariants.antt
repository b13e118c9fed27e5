use Rattle.std.proofs.Common.{◌≡◌, map, take}
use Rattle.fst_core.specs.declared.out.Out.TheVariants.{Byte}
use Rattle.string_ops.proofs.search.bytes_out.Given as goal

abbrev pub invariant-loop-byte : goal.invariant-loop-byte
invariant-loop-byte l = l.out.items ≡ map Byte (take l.byte-index l.bytes)
