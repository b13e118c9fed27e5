use Rattle.std.proofs.Common.{◌≡◌, ℕ, ◌+◌, ◌*◌, ◌≤◌, ◌<◌, sym, ap, ◌∙◌, arith}
use Rattle.xml_text.specs.Characters as characters
use Rattle.dtd_declarations.proofs.Numbers.{both_over}
use Rattle.dtd_declarations.proofs.references.number.Goals as goal

pub returns-then-so_far-gt-LAST_CHARACTER-clause-same : goal.returns-then-so_far-gt-LAST_CHARACTER-clause-same
returns-then-so_far-gt-LAST_CHARACTER-clause-same c = both_over c.args.base c.loop-first.so_far c.loop-first.rest.now _ c.requires.base.0 c.if-so_far-gt-LAST_CHARACTER.true c.loop-first.invariant.0
