use Rattle.std.proofs.Common.{rules, ◌≡◌, true, false, ap, ◌∙◌}
use Rattle.php_syntax.specs.Trees.{maybe_of, params_of_list}
use Rattle.stmt_machine.specs.Made.{add_param}
use Rattle.stmt_builder.specs.Views.{with_default}
use Rattle.stmt_builder.proofs.RowLemmas.{params_push}
use Rattle.stmt_builder.proofs.NameLemmas.{said_new, parameters_are}
use Rattle.stmt_builder.proofs.functions.Parameters.with.Goals as goal

pub returns-then-not-new : goal.returns-then-not-new
returns-then-not-new c =
    let taken : c.in_ok-new.new ≡ false = search (rules, c.if-not-new.true) in
    said_new c.args.name.now c.in_ok-copy.field-0 c.self.inside.params.items c.args.self c.self.inside.names.keys c.in_ok-new.new c.self.invariant.named c.self.view_is c.in_ok-copy.ensures c.in_ok-new.ensures.added ∙ taken

pub invariant_of-result : goal.invariant_of-result
invariant_of-result c =
    let new : c.in_ok-new.new ≡ true = search (rules, c.if-not-new.false) in
    parameters_are c.self.inside.params.items c.push.new.self.items c.self.inside.names.keys c.insert.new.self.keys c.self.inside.height c.max.result (record { name = c.in_ok-name.name; default = c.args.default }) c.in_ok-copy.field-0 c.args.height c.in_ok-new.new c.self.invariant c.in_ok-new.ensures.added new (search (rules, c.in_ok-name.ensures, c.in_ok-copy.ensures)) c.requires.0 c.in_ok-push.ensures.items c.in_ok-new.ensures.keys c.max.ensures

pub returns : goal.returns
returns c =
    let new : c.in_ok-new.new ≡ true = search (rules, c.if-not-new.false) in (
      said_new c.args.name.now c.in_ok-copy.field-0 c.self.inside.params.items c.args.self c.self.inside.names.keys c.in_ok-new.new c.self.invariant.named c.self.view_is c.in_ok-copy.ensures c.in_ok-new.ensures.added ∙ new,
      ap params_of_list c.in_ok-push.ensures.items ∙ params_push c.self.inside.params.items (record { name = c.in_ok-name.name; default = c.args.default }) ∙ ap (λ ps. add_param (params_of_list ps) (with_default c.in_ok-name.name (maybe_of c.args.default))) c.self.view_is ∙ ap (λ x. add_param (params_of_list c.args.self) (with_default x (maybe_of c.args.default))) c.in_ok-name.ensures,
    )
