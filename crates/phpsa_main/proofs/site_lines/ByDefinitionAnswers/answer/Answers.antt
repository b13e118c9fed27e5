use Rattle.std.proofs.lemmas.Result.{IfOk-weaker}
use Rattle.dtd_model.specs.TableOf.{table_of}
use Rattle.program_files.specs.Source.{source_call}
use Rattle.phpsa_tasks.specs.Views.{script_file_as}
use Rattle.phpsa_main.proofs.ListParts.{line_answers, line_refuses}
use Rattle.phpsa_main.proofs.site_lines.ByDefinitionAnswers.answer.Goals as goal

pub returns-in-Ok-clause-answered : goal.returns-in-Ok-clause-answered
returns-in-Ok-clause-answered g c =
    line_answers
    (source_call (g.F.Files.content c.decide_by.new.files) (g.F.Files.faults c.args.files.now) (g.F.Files.faults c.decide_by.new.files) (g.F.Files.misses c.args.files.now) (g.F.Files.misses c.decide_by.new.files) (g.F.Files.reads c.args.files.now) (g.F.Files.reads c.decide_by.new.files))
    (g.F.Files.content c.args.files.now) (script_file_as c.args.self.now.list) c.args.name.now (table_of c.args.self.now.dtd.now) c.args.self.now.goal c.args.self.now.limit c.in-Ok.answer c.line_of.result
    c.decide_by.ensures.leads c.in-Ok.ensures.decides c.line_of.ensures

pub returns-in-Err-clause-answered : goal.returns-in-Err-clause-answered
returns-in-Err-clause-answered g c =
    IfOk-weaker c.refused_line.result _ _
    (λ line is. line_refuses
    (source_call (g.F.Files.content c.decide_by.new.files) (g.F.Files.faults c.args.files.now) (g.F.Files.faults c.decide_by.new.files) (g.F.Files.misses c.args.files.now) (g.F.Files.misses c.decide_by.new.files) (g.F.Files.reads c.args.files.now) (g.F.Files.reads c.decide_by.new.files))
    (g.F.Files.content c.args.files.now) (script_file_as c.args.self.now.list) c.args.name.now (table_of c.args.self.now.dtd.now) c.args.self.now.goal c.args.self.now.limit c.in-Err.refusal line
    c.decide_by.ensures.leads c.in-Err.ensures.decides is)
    c.refused_line.ensures
