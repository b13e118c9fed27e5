use Rattle.std.proofs.Common.{◌≡◌, List, ℕ, ◌++◌, ap, sym, ◌∙◌, Bor}
use Rattle.php_values.specs.View.{plain_of}
use Rattle.php_values.specs.declared.array.Value.{Value}
use Rattle.script_meaning.specs.Runs.{Variables, value_in, set_in}
use Rattle.expr_evaluator.specs.VariablesView.{plain_variables}
use Rattle.expr_evaluator.proofs.VariableLemmas.{at_place, place_as}
use Rattle.expr_evaluator.proofs.variables.Variables.replace.Goals as goal

pub returns-in-Some-clause-value : goal.returns-in-Some-clause-value
returns-in-Some-clause-value c =
    let at = at_place c.args.name.now c.self.inside.parameters.items (plain_variables c.self.inside.others.entries) _ (place_as _ _ _ _ _ c.in-Some.ensures.place c.deref.ensures.value c.as_slice.ensures) in
    let view : plain_variables c.self.inside.parameters.items ++ plain_variables c.self.inside.others.entries ≡ c.args.self.now = cc in
    ap plain_of (c.replace_parameter.ensures.value (c.args.name, c.args.value)) ∙ sym (at.1 (c.args.name, c.args.value)) ∙ ap (λ (s : Variables). value_in s c.args.name.now) view

pub returns-in-Some-clause-variables : goal.returns-in-Some-clause-variables
returns-in-Some-clause-variables c =
    let at = at_place c.args.name.now c.self.inside.parameters.items (plain_variables c.self.inside.others.entries) _ (place_as _ _ _ _ _ c.in-Some.ensures.place c.deref.ensures.value c.as_slice.ensures) in
    let view : plain_variables c.self.inside.parameters.items ++ plain_variables c.self.inside.others.entries ≡ c.args.self.now = cc in
    ap (λ (ps : List (Bor (List ℕ) × Value)). plain_variables ps ++ plain_variables c.self.inside.others.entries) (c.replace_parameter.ensures.items (c.args.name, c.args.value)) ∙ sym (at.2 c.args.value (c.args.name, c.args.value)) ∙ ap (λ (s : Variables). set_in s c.args.name.now (plain_of c.args.value)) view

pub returns-in_ok-old-in-None-clause-value : goal.returns-in_ok-old-in-None-clause-value
returns-in_ok-old-in-None-clause-value c =
    let at = at_place c.args.name.now c.self.inside.parameters.items (plain_variables c.self.inside.others.entries) _ (place_as _ _ _ _ _ c.in-None.ensures.place c.deref.ensures.value c.as_slice.ensures) in
    let view : plain_variables c.self.inside.parameters.items ++ plain_variables c.self.inside.others.entries ≡ c.args.self.now = cc in
    c.in_ok-old-in-None.ensures.value ∙ ap (value_in (plain_variables c.self.inside.others.entries)) c.as_slice-in-None.ensures ∙ sym at.0 ∙ ap (λ (s : Variables). value_in s c.args.name.now) view

pub returns-in_ok-old-in-None-clause-variables : goal.returns-in_ok-old-in-None-clause-variables
returns-in_ok-old-in-None-clause-variables c =
    let at = at_place c.args.name.now c.self.inside.parameters.items (plain_variables c.self.inside.others.entries) _ (place_as _ _ _ _ _ c.in-None.ensures.place c.deref.ensures.value c.as_slice.ensures) in
    let view : plain_variables c.self.inside.parameters.items ++ plain_variables c.self.inside.others.entries ≡ c.args.self.now = cc in
    ap (λ (vs : Variables). plain_variables c.self.inside.parameters.items ++ vs) (c.in_ok-old-in-None.ensures.entries ∙ ap (λ (x : List ℕ). set_in (plain_variables c.self.inside.others.entries) x (plain_of c.args.value)) c.as_slice-in-None.ensures) ∙ sym (at.1 (plain_of c.args.value)) ∙ ap (λ (s : Variables). set_in s c.args.name.now (plain_of c.args.value)) view
