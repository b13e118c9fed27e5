use Rattle.std.proofs.Common.{◌≡◌, ◌∙◌, ◌++◌, List, map, ap}
use Rattle.php_syntax.specs.declared.tree.Stmt.{Stmt}
use Rattle.php_syntax.specs.declared.tree.FunctionDef.{FunctionDef}
use Rattle.php_syntax.specs.Trees.{PlainFunction, plain_file, stmts_of, functions_of_list}
use Rattle.program_rules.specs.Bodies.{with_bodies, with_body}
use Rattle.program_rules.specs.Programs.{functions_in}
use Rattle.program_rules.specs.Lawful.{program_with}
use Rattle.program_files.specs.View.{files_of}
use Rattle.include_expansion.specs.Within.{bodies_within}
use Rattle.include_expansion.proofs.FileLemmas.{list_append}
use Rattle.program_loader.proofs.MakeLemmas.{made, makes}
use Rattle.program_loader.proofs.making.expand.Goals as goal

pub invariant_of-result : goal.invariant_of-result
invariant_of-result c =
    let files = files_of c.args.files.now in
    let tree = plain_file c.args.tree.now in
    let stubs = functions_of_list c.args.stubs.items in
    let main = c.in_ok-main.main.items in
    let functions = c.append.new.self.items in
    let body : stmts_of main ≡ with_bodies (bodies_within files c.args.nesting) tree.body_of = c.in_ok-main.ensures ∙ ap (λ (ss : List Stmt). with_bodies (bodies_within files c.args.nesting) (stmts_of ss)) c.as_slice.ensures.value in
    let all : functions_of_list functions ≡ map (with_body (bodies_within files c.args.nesting)) (functions_in files) ++ stubs =
    ap (λ (fs : List FunctionDef). functions_of_list fs) c.in_ok-append.ensures.items ∙ list_append c.in_ok-functions.functions.items c.args.stubs.items ∙ ap (λ (fs : List PlainFunction). fs ++ stubs) c.in_ok-functions.ensures in
    let is = made files stubs c.args.nesting tree (stmts_of main) (functions_of_list functions) body all in
    let lawful =
    c.made_programs_are_lawful.ensures files stubs c.requires.order c.requires.name (program_with main functions) c.requires.scripts c.requires.are_stubs (makes files stubs c.args.nesting tree (program_with main functions) c.requires is) in
    record {
      whole = lawful.whole;
      of_grammar = lawful.of_grammar;
      fits = lawful.fits;
      rules = lawful.rules;
      nodes_within = lawful.nodes_within;
      height_within = lawful.height_within;
    }

pub returns : goal.returns
returns c =
    let files = files_of c.args.files.now in
    let tree = plain_file c.args.tree.now in
    let stubs = functions_of_list c.args.stubs.items in
    let main = c.in_ok-main.main.items in
    let functions = c.append.new.self.items in
    let body : stmts_of main ≡ with_bodies (bodies_within files c.args.nesting) tree.body_of = c.in_ok-main.ensures ∙ ap (λ (ss : List Stmt). with_bodies (bodies_within files c.args.nesting) (stmts_of ss)) c.as_slice.ensures.value in
    let all : functions_of_list functions ≡ map (with_body (bodies_within files c.args.nesting)) (functions_in files) ++ stubs =
    ap (λ (fs : List FunctionDef). functions_of_list fs) c.in_ok-append.ensures.items ∙ list_append c.in_ok-functions.functions.items c.args.stubs.items ∙ ap (λ (fs : List PlainFunction). fs ++ stubs) c.in_ok-functions.ensures in
    made files stubs c.args.nesting tree (stmts_of main) (functions_of_list functions) body all
