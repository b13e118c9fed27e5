use Rattle.std.proofs.Common.{rules, ◌≡◌, None, Some, refl, sym, subst}
use Rattle.std.specs.Prelude.{Ok, Err}
use Rattle.program_files.specs.Source.{source_call}
use Rattle.phpsa_tasks.specs.Results.{Does}
use Rattle.phpsa_tasks.specs.Views.{task_as}
use Rattle.phpsa_texts.specs.declared.message.Refusal.{Refusal}
use Rattle.phpsa_tasks.specs.declared.reply.Reply.TheVariants as reply
use Rattle.phpsa_tasks.specs.Tasks.{help_telling, version_telling}
use Rattle.phpsa_main.proofs.TellingParts.{help_does, version_does, wanting_told, usage_does}
use Rattle.phpsa_main.proofs.doing.result_of.Goals as goal

pub returns-in-ScriptMaking : goal.returns-in-ScriptMaking
returns-in-ScriptMaking g c =
    let files =
    source_call (g.F.Files.content c.args.files.now) (g.F.Files.faults c.args.files.now) (g.F.Files.faults c.args.files.now) (g.F.Files.misses c.args.files.now) (g.F.Files.misses c.args.files.now) (g.F.Files.reads c.args.files.now) (g.F.Files.reads c.args.files.now) in
    subst (λ task. Does files (task_as task) c.make_script.result) (sym c.in-ScriptMaking.is) (c.make_script.ensures files refl refl)

pub returns-in-MadeCheck : goal.returns-in-MadeCheck
returns-in-MadeCheck g c =
    let files =
    source_call (g.F.Files.content c.args.files.now) (g.F.Files.faults c.args.files.now) (g.F.Files.faults c.args.files.now) (g.F.Files.misses c.args.files.now) (g.F.Files.misses c.args.files.now) (g.F.Files.reads c.args.files.now) (g.F.Files.reads c.args.files.now) in
    subst (λ task. Does files (task_as task) c.check_made.result) (sym c.in-MadeCheck.is) (c.check_made.ensures files refl refl)

pub returns-in_ok-help_message-in-Help : goal.returns-in_ok-help_message-in-Help
returns-in_ok-help_message-in-Help g c =
    let files =
    source_call (g.F.Files.content c.args.files.now) (g.F.Files.faults c.args.files.now) (g.F.Files.faults c.args.files.now) (g.F.Files.misses c.args.files.now) (g.F.Files.misses c.args.files.now) (g.F.Files.reads c.args.files.now) (g.F.Files.reads c.args.files.now) in
    subst (λ task. Does files (task_as task) (Ok (reply.Text c.in_ok-help_message-in-Help.field-0))) (sym c.in-Help.is) (help_does files _ refl refl c.in_ok-help_message-in-Help.ensures)

pub returns-in_err-help_message-in-Help : goal.returns-in_err-help_message-in-Help
returns-in_err-help_message-in-Help g c =
    let files =
    source_call (g.F.Files.content c.args.files.now) (g.F.Files.faults c.args.files.now) (g.F.Files.faults c.args.files.now) (g.F.Files.misses c.args.files.now) (g.F.Files.misses c.args.files.now) (g.F.Files.reads c.args.files.now) (g.F.Files.reads c.args.files.now) in
    let is : c.from_residual.result ≡ Err Refusal.Memory = search rules in
    subst (λ task. Does files (task_as task) c.from_residual.result) (sym c.in-Help.is) (wanting_told files help_telling c.from_residual.result is refl refl)

pub returns-in_ok-version_message-in-Version : goal.returns-in_ok-version_message-in-Version
returns-in_ok-version_message-in-Version g c =
    let files =
    source_call (g.F.Files.content c.args.files.now) (g.F.Files.faults c.args.files.now) (g.F.Files.faults c.args.files.now) (g.F.Files.misses c.args.files.now) (g.F.Files.misses c.args.files.now) (g.F.Files.reads c.args.files.now) (g.F.Files.reads c.args.files.now) in
    subst (λ task. Does files (task_as task) (Ok (reply.Text c.in_ok-version_message-in-Version.field-0))) (sym c.in-Version.is) (version_does files _ refl refl c.in_ok-version_message-in-Version.ensures)

pub returns-in_err-version_message-in-Version : goal.returns-in_err-version_message-in-Version
returns-in_err-version_message-in-Version g c =
    let files =
    source_call (g.F.Files.content c.args.files.now) (g.F.Files.faults c.args.files.now) (g.F.Files.faults c.args.files.now) (g.F.Files.misses c.args.files.now) (g.F.Files.misses c.args.files.now) (g.F.Files.reads c.args.files.now) (g.F.Files.reads c.args.files.now) in
    let is : c.from_residual-in_err-version_message-in-Version.result ≡ Err Refusal.Memory = search rules in
    subst (λ task. Does files (task_as task) c.from_residual-in_err-version_message-in-Version.result) (sym c.in-Version.is) (wanting_told files version_telling c.from_residual-in_err-version_message-in-Version.result is refl refl)

pub returns-in-Usage-None : goal.returns-in-Usage-None
returns-in-Usage-None g c =
    let files =
    source_call (g.F.Files.content c.args.files.now) (g.F.Files.faults c.args.files.now) (g.F.Files.faults c.args.files.now) (g.F.Files.misses c.args.files.now) (g.F.Files.misses c.args.files.now) (g.F.Files.reads c.args.files.now) (g.F.Files.reads c.args.files.now) in
    subst (λ task. Does files (task_as task) (Err c.usage_refusal.result)) (sym c.in-Usage-None.is) (usage_does files None c.usage_refusal.result refl refl c.usage_refusal.ensures)

pub returns-in-Usage-Some : goal.returns-in-Usage-Some
returns-in-Usage-Some g c =
    let files =
    source_call (g.F.Files.content c.args.files.now) (g.F.Files.faults c.args.files.now) (g.F.Files.faults c.args.files.now) (g.F.Files.misses c.args.files.now) (g.F.Files.misses c.args.files.now) (g.F.Files.reads c.args.files.now) (g.F.Files.reads c.args.files.now) in
    subst (λ task. Does files (task_as task) (Err c.usage_refusal-in-Usage-Some.result)) (sym c.in-Usage-Some.is) (usage_does files (Some c.as_bytes.result.now) c.usage_refusal-in-Usage-Some.result refl refl c.usage_refusal-in-Usage-Some.ensures)
