use Rattle.std.proofs.Common.{◌≡◌, drop, fold, map}
use Rattle.clap.specs.Words.{app_of, with_rule}
use Rattle.command_words.specs.Program as spec
use Rattle.command_words.specs.RowViews.{texts}
use Rattle.command_words.proofs.builder.with_named.Given as goal

-- with the arguments that are left it is the command with all
abbrev pub invariant-loop-name : goal.invariant-loop-name
invariant-loop-name l = fold with_rule (app_of l.command) (map (spec.named l.action) (texts (drop l.name-index l.names)))
    ≡ fold with_rule (app_of l.fn.command) (map (spec.named l.action) (texts l.names))
