use Rattle.std.proofs.Common.{◌≡◌, ◌∙◌, ℕ, List, None, true, refl, sym, ap, subst}
use Rattle.php_syntax.specs.declared.tree.Param.{Param}
use Rattle.php_syntax.specs.Trees.{plain_function, params_of_list}
use Rattle.builtin_meaning.specs.Names.{builtin_named}
use Rattle.script_meaning.specs.Programs.{function_named}
use Rattle.program_rules.specs.Rules.{is_there, DefinesTwice}
use Rattle.function_rules.specs.Arguments.{AreNumbersOf}
use Rattle.function_rules.proofs.TableLemmas.{so_there, found_there, not_there, put_one, double_builtin, double_again}
use Rattle.function_rules.proofs.definitions.put.Goals as goal

pub returns-then-is_some-clause-err : goal.returns-then-is_some-clause-err
returns-then-is_some-clause-err c rest all has =
    let name_is = c.in_ok-name.ensures in
    let there : true ≡ is_there (builtin_named c.args.function.now.name) =
    sym c.if-is_some.true ∙ so_there c.of.result (builtin_named c.args.function.now.name) c.is_some.result c.is_some.ensures (c.of.ensures ∙ ap builtin_named (c.as_slice.ensures ∙ name_is)) in
    subst (λ (n : List ℕ). DefinesTwice all n) (sym name_is) (double_builtin c.args.table.now.rows (plain_function c.args.function.now) rest all has there)

pub returns-then-is_some-2-clause-err : goal.returns-then-is_some-2-clause-err
returns-then-is_some-2-clause-err c rest all has =
    let name_is = c.in_ok-name.ensures in
    let there : c.is_some-2.result ≡ is_there (function_named has.done c.in_ok-name.name) =
    found_there has.done c.in_ok-name.name c.numbers.result c.is_some-2.result (so_there c.numbers.result c.numbers.result c.is_some-2.result c.is_some-2.ensures refl) (c.numbers.ensures has.done has.table) in
    subst (λ (n : List ℕ). DefinesTwice all n) (sym name_is)
    (double_again c.args.table.now.rows (plain_function c.args.function.now) rest all has (sym c.if-is_some-2.true ∙ there ∙ ap (λ (n : List ℕ). is_there (function_named has.done n)) name_is))

pub returns-clause-ok : goal.returns-clause-ok
returns-clause-ok c rest all has =
    let f = plain_function c.args.function.now in
    let name_is = c.in_ok-name.ensures in
    let own : builtin_named f.name_of ≡ None =
    not_there (builtin_named f.name_of) (sym c.if-is_some.false ∙ so_there c.of.result (builtin_named f.name_of) c.is_some.result c.is_some.ensures (c.of.ensures ∙ ap builtin_named (c.as_slice.ensures ∙ name_is))) in
    let none : function_named has.done c.in_ok-name.name ≡ None =
    not_there (function_named has.done c.in_ok-name.name)
    (sym c.if-is_some-2.false
    ∙ found_there has.done c.in_ok-name.name c.numbers.result c.is_some-2.result (so_there c.numbers.result c.numbers.result c.is_some-2.result c.is_some-2.ensures refl) (c.numbers.ensures has.done has.table)) in
    let takes : AreNumbersOf c.numbers_of.result f.params_of = subst (λ (ps : List Param). AreNumbersOf c.numbers_of.result (params_of_list ps)) c.as_slice-2.ensures.value c.numbers_of.ensures in
    put_one c.args.table.now.rows c.insert.new.self.rows f rest all has own (subst (λ (n : List ℕ). function_named has.done n ≡ None) name_is none) (c.in_ok-insert.ensures has.done f has.table none (sym name_is) takes)
