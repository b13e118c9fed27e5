use Rattle.std.proofs.Common.{rules, ◌≡◌}
use Rattle.std.specs.Prelude.{Err}
use Rattle.phpsa_texts.specs.declared.message.Refusal.{Refusal}
use Rattle.several_files.specs.Endings.{moment_of}
use Rattle.several_files.specs.Views.{checks_as}
use Rattle.several_files.proofs.Results.{report_wants}
use Rattle.several_files.proofs.each.report_on.Goals as goal

pub returns-in_err-told : goal.returns-in_err-told
returns-in_err-told g c =
    let is : c.from_residual-in_err-told.result ≡ Err Refusal.Memory = search rules in
    report_wants (checks_as c.args.checks.now) (moment_of g.F.Files.content g.F.Files.faults g.F.Files.misses c.args.files.now) (moment_of g.F.Files.content g.F.Files.faults g.F.Files.misses c.answers_for.new.files) c.from_residual-in_err-told.result is

pub returns-in_err-text : goal.returns-in_err-text
returns-in_err-text g c =
    let is : c.from_residual-in_err-text.result ≡ Err Refusal.Memory = search rules in
    report_wants (checks_as c.args.checks.now) (moment_of g.F.Files.content g.F.Files.faults g.F.Files.misses c.args.files.now) (moment_of g.F.Files.content g.F.Files.faults g.F.Files.misses c.answers_for.new.files) c.from_residual-in_err-text.result is
