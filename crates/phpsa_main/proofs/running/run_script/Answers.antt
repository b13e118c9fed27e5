use Rattle.std.specs.Prelude.{option_map, Ok, Err}
use Rattle.program_rules.specs.View.{program_of}
use Rattle.program_files.specs.Source.{source_call}
use Rattle.phpsa_tasks.specs.Views.{script_file_as}
use Rattle.phpsa_main.proofs.ScriptParts.{loaded_inside}
use Rattle.phpsa_main.proofs.LoadedParts.{unloaded_run, moved, lacks_request, run_does, wanting_run}
use Rattle.phpsa_main.proofs.running.run_script.Goals as goal

pub returns-in-Err : goal.returns-in-Err
returns-in-Err g c =
    unloaded_run
    (source_call (g.F.Files.content c.load_script.new.files) (g.F.Files.faults c.args.files.now) (g.F.Files.faults c.load_script.new.files) (g.F.Files.misses c.args.files.now) (g.F.Files.misses c.load_script.new.files) (g.F.Files.reads c.args.files.now) (g.F.Files.reads c.load_script.new.files))
    (script_file_as c.args.file) (option_map (λ text. text.now) c.args.request) c.args.steps c.in-Err.refusal c.load_refusal.result c.in-Err.ensures.err c.load_refusal.ensures

pub returns-in-Err-request_of : goal.returns-in-Err-request_of
returns-in-Err-request_of g c =
    let files =
    source_call (g.F.Files.content c.request_of.new.files) (g.F.Files.faults c.args.files.now) (g.F.Files.faults c.request_of.new.files) (g.F.Files.misses c.args.files.now) (g.F.Files.misses c.request_of.new.files) (g.F.Files.reads c.args.files.now) (g.F.Files.reads c.request_of.new.files) in
    let loaded = c.in-Ok.ensures.ok in
    let request = option_map (λ text. text.now) c.args.request in
    lacks_request files (script_file_as c.args.file) request c.args.steps (g.F.Files.content c.load_script.new.files) (g.F.Files.faults c.load_script.new.files) (g.F.Files.misses c.load_script.new.files) (g.F.Files.reads c.load_script.new.files)
    (program_of c.in-Ok.program) c.in-Err-request_of.refusal c.request_of.ensures.stays loaded
    (loaded_inside
    (source_call (g.F.Files.content c.load_script.new.files) (g.F.Files.faults c.args.files.now) (g.F.Files.faults c.load_script.new.files) (g.F.Files.misses c.args.files.now) (g.F.Files.misses c.load_script.new.files) (g.F.Files.reads c.args.files.now) (g.F.Files.reads c.load_script.new.files))
    (g.F.Files.content c.request_of.new.files) (script_file_as c.args.file) (program_of c.in-Ok.program) c.request_of.ensures.stays loaded)
    (moved files (g.F.Files.faults c.load_script.new.files) (g.F.Files.misses c.load_script.new.files) (g.F.Files.reads c.load_script.new.files) request (Err c.in-Err-request_of.refusal)
    loaded.source.unfailed c.in-Err-request_of.ensures.request)

pub returns-in-Ok-run_reply : goal.returns-in-Ok-run_reply
returns-in-Ok-run_reply g c =
    let files =
    source_call (g.F.Files.content c.request_of.new.files) (g.F.Files.faults c.args.files.now) (g.F.Files.faults c.request_of.new.files) (g.F.Files.misses c.args.files.now) (g.F.Files.misses c.request_of.new.files) (g.F.Files.reads c.args.files.now) (g.F.Files.reads c.request_of.new.files) in
    let loaded = c.in-Ok.ensures.ok in
    let request = option_map (λ text. text.now) c.args.request in
    run_does files (script_file_as c.args.file) request c.args.steps (g.F.Files.content c.load_script.new.files) (g.F.Files.faults c.load_script.new.files) (g.F.Files.misses c.load_script.new.files) (g.F.Files.reads c.load_script.new.files)
    (program_of c.in-Ok.program) c.in-Ok-request_of.asked c.in-Ok-run_reply.reply c.request_of.ensures.stays loaded
    (loaded_inside
    (source_call (g.F.Files.content c.load_script.new.files) (g.F.Files.faults c.args.files.now) (g.F.Files.faults c.load_script.new.files) (g.F.Files.misses c.args.files.now) (g.F.Files.misses c.load_script.new.files) (g.F.Files.reads c.args.files.now) (g.F.Files.reads c.load_script.new.files))
    (g.F.Files.content c.request_of.new.files) (script_file_as c.args.file) (program_of c.in-Ok.program) c.request_of.ensures.stays loaded)
    (moved files (g.F.Files.faults c.load_script.new.files) (g.F.Files.misses c.load_script.new.files) (g.F.Files.reads c.load_script.new.files) request (Ok c.in-Ok-request_of.asked)
    loaded.source.unfailed c.in-Ok-request_of.ensures.request)
    c.run_reply.ensures.admitted c.in-Ok-run_reply.ensures.reply

pub returns : goal.returns
returns g c =
    wanting_run
    (source_call (g.F.Files.content c.request_of.new.files) (g.F.Files.faults c.args.files.now) (g.F.Files.faults c.request_of.new.files) (g.F.Files.misses c.args.files.now) (g.F.Files.misses c.request_of.new.files) (g.F.Files.reads c.args.files.now) (g.F.Files.reads c.request_of.new.files))
    (script_file_as c.args.file) (option_map (λ text. text.now) c.args.request) c.args.steps
