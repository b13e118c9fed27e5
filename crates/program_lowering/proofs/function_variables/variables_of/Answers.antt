use Rattle.std.proofs.Common.{◌∙◌, List, ◌++◌, map, sym, ap}
use Rattle.php_syntax.specs.Trees.{stmts_of, params_of_list}
use Rattle.flow_code.specs.Variables.{Name, names_of, name_of_param}
use Rattle.program_lowering.specs.Added.{added}
use Rattle.program_lowering.proofs.AddedLemmas.{added_append, added_once, of_stmts}
use Rattle.program_lowering.proofs.function_variables.variables_of.Goals as goal

pub returns : goal.returns
returns c =
    let front = map name_of_param (params_of_list c.args.params.now) in
    let behind = names_of (stmts_of c.args.body.now) in
    c.in_ok-visit_stmts.ensures ∙ of_stmts c.in_params.new.names.known.keys (stmts_of c.args.body.now) ∙ ap (λ (k : List Name). added k behind) c.in_ok-in_params.ensures ∙ sym (added_append c.new.result.keys front behind)
    ∙ ap (λ (k : List Name). added k (front ++ behind)) c.new.ensures.empty ∙ added_once (front ++ behind)
