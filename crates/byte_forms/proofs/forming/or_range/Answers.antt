use Rattle.derivatives.proofs.BehindLemmas.{grows_on}
use Rattle.byte_forms.proofs.RunLemmas.{or_range_made}
use Rattle.byte_forms.proofs.forming.or_range.Goals as goal

pub returns-clause-made : goal.returns-clause-made
returns-clause-made c =
    or_range_made c.args.arena.now c.range.new.self c.either.new.self c.in_ok-bytes.bytes c.args.form c.args.low c.args.high c.either.result
    c.requires.form c.in_ok-bytes.ensures.keeps c.in_ok-bytes.ensures.made c.either.ensures.made

pub returns-clause-keeps : goal.returns-clause-keeps
returns-clause-keeps c = grows_on c.args.arena.now c.range.new.self c.either.new.self c.in_ok-bytes.ensures.keeps c.either.ensures.keeps
