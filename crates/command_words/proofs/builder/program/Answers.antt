use Rattle.std.proofs.Common.{ap, ap₂, ◌∙◌}
use Rattle.std.proofs.lemmas.Result.{IfOk-weaker}
use Rattle.clap.specs.Words.{Shape, with_subcommand}
use Rattle.command_words.specs.Program as spec
use Rattle.command_words.proofs.builder.program.Goals as goal

abbrev top_by : spec.Row → Shape
top_by row = (spec.command row).top

pub returns : goal.returns
unfolding spec.phpsa
returns c =
    let s1 = c.in_ok-program.ensures.app ∙ ap₂ with_subcommand c.bare_program.ensures (ap top_by c.row_with-check.ensures) in
    let s2 = c.in_ok-program-2.ensures.app ∙ ap₂ with_subcommand s1 (ap top_by c.row_with-run.ensures) in
    let s3 = c.in_ok-program-3.ensures.app ∙ ap₂ with_subcommand s2 (ap top_by c.row_with-page.ensures) in
    let s4 = c.in_ok-program-4.ensures.app ∙ ap₂ with_subcommand s3 (ap top_by c.row_with-grammar.ensures) in
    let s5 = c.in_ok-program-5.ensures.app ∙ ap₂ with_subcommand s4 (ap top_by c.row_with-make.ensures) in
    let s6 = c.in_ok-program-6.ensures.app ∙ ap₂ with_subcommand s5 (ap top_by c.row_with-site.ensures) in
    record { app = IfOk-weaker c.with_command-7.result _ _ (λ m h. h ∙ ap₂ with_subcommand s6 (ap top_by c.row_with-match_pattern.ensures)) c.with_command-7.ensures.app }
