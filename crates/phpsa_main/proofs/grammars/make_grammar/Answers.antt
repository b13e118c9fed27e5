use Rattle.std.proofs.Common.{refl}
use Rattle.io_edge.proofs.Staying.{stays_same}
use Rattle.program_rules.specs.View.{program_of}
use Rattle.program_files.specs.Source.{source_call}
use Rattle.phpsa_tasks.specs.Views.{script_file_as}
use Rattle.phpsa_main.proofs.ScriptParts.{loaded_inside}
use Rattle.phpsa_main.proofs.LoadedParts.{unloaded_grammar, grammar_does}
use Rattle.phpsa_main.proofs.grammars.make_grammar.Goals as goal

pub returns-in-Err : goal.returns-in-Err
returns-in-Err g c =
    unloaded_grammar
    (source_call (g.F.Files.content c.load_script.new.files) (g.F.Files.faults c.args.files.now) (g.F.Files.faults c.load_script.new.files) (g.F.Files.misses c.args.files.now) (g.F.Files.misses c.load_script.new.files) (g.F.Files.reads c.args.files.now) (g.F.Files.reads c.load_script.new.files))
    (script_file_as c.args.file) c.in-Err.refusal c.load_refusal.result c.in-Err.ensures.err c.load_refusal.ensures

pub returns : goal.returns
returns g c =
    let files =
    source_call (g.F.Files.content c.load_script.new.files) (g.F.Files.faults c.args.files.now) (g.F.Files.faults c.load_script.new.files) (g.F.Files.misses c.args.files.now) (g.F.Files.misses c.load_script.new.files) (g.F.Files.reads c.args.files.now) (g.F.Files.reads c.load_script.new.files) in
    grammar_does files (script_file_as c.args.file) (program_of c.in-Ok.program) c.grammar_reply.result c.in-Ok.ensures.ok
    (loaded_inside files (g.F.Files.content c.load_script.new.files) (script_file_as c.args.file) (program_of c.in-Ok.program)
    (stays_same (g.F.Files.content c.load_script.new.files) (g.F.Files.content c.load_script.new.files) refl) c.in-Ok.ensures.ok) c.grammar_reply.ensures
