use Rattle.std.proofs.Common.{inl, inr}
use Rattle.php_values.specs.View.{plain_of, plain_key}
use Rattle.plain_values.specs.Members.{put_pair}
use Rattle.request_reading.proofs.ArrayLemmas.{deepest_put, never_long}
use Rattle.request_reading.proofs.arrays.put.Goals as goal

pub unreachable-requires : goal.unreachable-requires
unreachable-requires c =
    let made = put_pair c.args.array.now (plain_key c.args.key) (plain_of c.args.value) in
    elim c.in-Err.ensures.err [
      | inl memory ↦ c.in_default-fault.not-Memory memory
      | inr long ↦ never_long made c.in-Err.fault (deepest_put 126 c.args.array.now (plain_key c.args.key) (plain_of c.args.value) c.requires.array c.requires.value) long
    ]
