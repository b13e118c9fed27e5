use Rattle.std.specs.Prelude.{Ok, Err}
use Rattle.program_rules.specs.View.{program_of}
use Rattle.program_files.specs.Source.{source_call}
use Rattle.phpsa_tasks.specs.Views.{script_file_as}
use Rattle.phpsa_main.proofs.ScriptParts.{loaded_inside}
use Rattle.phpsa_main.proofs.MatchParts.{unloaded_match, moved_pattern, lacks_pattern, match_does}
use Rattle.phpsa_main.proofs.matching.match_script.Goals as goal

pub match_reply-requires : goal.match_reply-requires
match_reply-requires g c = c.in-Ok-read_pattern.ensures.pattern.0.form.is_expr

pub returns-in-Err : goal.returns-in-Err
returns-in-Err g c =
    unloaded_match
    (source_call (g.F.Files.content c.load_script.new.files) (g.F.Files.faults c.args.files.now) (g.F.Files.faults c.load_script.new.files) (g.F.Files.misses c.args.files.now) (g.F.Files.misses c.load_script.new.files) (g.F.Files.reads c.args.files.now) (g.F.Files.reads c.load_script.new.files))
    (script_file_as c.args.file) c.args.policy.now c.in-Err.refusal c.load_refusal.result c.in-Err.ensures.err c.load_refusal.ensures

pub returns-in-Err-read_pattern : goal.returns-in-Err-read_pattern
returns-in-Err-read_pattern g c =
    let files =
    source_call (g.F.Files.content c.read_pattern.new.files) (g.F.Files.faults c.args.files.now) (g.F.Files.faults c.read_pattern.new.files) (g.F.Files.misses c.args.files.now) (g.F.Files.misses c.read_pattern.new.files) (g.F.Files.reads c.args.files.now) (g.F.Files.reads c.read_pattern.new.files) in
    let loaded = c.in-Ok.ensures.ok in
    lacks_pattern files (script_file_as c.args.file) c.args.policy.now (g.F.Files.content c.load_script.new.files) (g.F.Files.faults c.load_script.new.files) (g.F.Files.misses c.load_script.new.files) (g.F.Files.reads c.load_script.new.files)
    (program_of c.in-Ok.program) c.in-Err-read_pattern.refusal c.read_pattern.ensures.stays loaded
    (loaded_inside
    (source_call (g.F.Files.content c.load_script.new.files) (g.F.Files.faults c.args.files.now) (g.F.Files.faults c.load_script.new.files) (g.F.Files.misses c.args.files.now) (g.F.Files.misses c.load_script.new.files) (g.F.Files.reads c.args.files.now) (g.F.Files.reads c.load_script.new.files))
    (g.F.Files.content c.read_pattern.new.files) (script_file_as c.args.file) (program_of c.in-Ok.program) c.read_pattern.ensures.stays loaded)
    (moved_pattern files (g.F.Files.faults c.load_script.new.files) (g.F.Files.misses c.load_script.new.files) (g.F.Files.reads c.load_script.new.files) c.args.policy.now (Err c.in-Err-read_pattern.refusal)
    loaded.source.unfailed c.in-Err-read_pattern.ensures.pattern)

pub returns : goal.returns
returns g c =
    let files =
    source_call (g.F.Files.content c.read_pattern.new.files) (g.F.Files.faults c.args.files.now) (g.F.Files.faults c.read_pattern.new.files) (g.F.Files.misses c.args.files.now) (g.F.Files.misses c.read_pattern.new.files) (g.F.Files.reads c.args.files.now) (g.F.Files.reads c.read_pattern.new.files) in
    let loaded = c.in-Ok.ensures.ok in
    match_does files (script_file_as c.args.file) c.args.policy.now (g.F.Files.content c.load_script.new.files) (g.F.Files.faults c.load_script.new.files) (g.F.Files.misses c.load_script.new.files) (g.F.Files.reads c.load_script.new.files)
    (program_of c.in-Ok.program) c.in-Ok-read_pattern.pattern c.match_reply.result c.read_pattern.ensures.stays loaded
    (loaded_inside
    (source_call (g.F.Files.content c.load_script.new.files) (g.F.Files.faults c.args.files.now) (g.F.Files.faults c.load_script.new.files) (g.F.Files.misses c.args.files.now) (g.F.Files.misses c.load_script.new.files) (g.F.Files.reads c.args.files.now) (g.F.Files.reads c.load_script.new.files))
    (g.F.Files.content c.read_pattern.new.files) (script_file_as c.args.file) (program_of c.in-Ok.program) c.read_pattern.ensures.stays loaded)
    (moved_pattern files (g.F.Files.faults c.load_script.new.files) (g.F.Files.misses c.load_script.new.files) (g.F.Files.reads c.load_script.new.files) c.args.policy.now (Ok c.in-Ok-read_pattern.pattern)
    loaded.source.unfailed c.in-Ok-read_pattern.ensures.pattern)
    c.match_reply.ensures
