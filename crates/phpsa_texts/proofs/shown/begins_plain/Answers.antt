use Rattle.std.proofs.Common.{rules, ◌≡◌, ◌+◌, ◌∙◌, Some, take}
use Rattle.std.specs.Prelude.{slice_index}
use Rattle.character_steps.specs.Bytes.{decoded}
use Rattle.phpsa_texts.specs.Shown.{more_of}
use Rattle.phpsa_texts.proofs.Printing.{begins_at}
use Rattle.phpsa_texts.proofs.shown.begins_plain.Goals as goal

pub returns-in-Some : goal.returns-in-Some
returns-in-Some c =
    let found : decoded (take (1 + more_of (slice_index c.args.bytes.now 0)) c.args.bytes.now) ≡ Some c.in-Some.c = search rules in
    c.is_plain.ensures ∙ begins_at c.args.bytes.now c.in-len1-up.len_at_least (Some c.in-Some.c) found
