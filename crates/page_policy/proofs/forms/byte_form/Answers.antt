use Rattle.derivatives.specs.Expressions.{nothing}
use Rattle.std.specs.Prelude.{None}
use Rattle.byte_forms.specs.Classes.{in_class}
use Rattle.byte_forms.specs.Ranges.{ranges_below}
use Rattle.page_policy.proofs.FormLemmas.{made_is_expr, byte_made}
use Rattle.page_policy.proofs.forms.byte_form.Goals as goal

pub returns-clause-is_expr : goal.returns-clause-is_expr
returns-clause-is_expr c =
    made_is_expr c.class_form.new.arena (ranges_below (in_class c.args.class.now) 256 None nothing) c.class_form.result c.class_form.ensures.made

pub returns-clause-made : goal.returns-clause-made
returns-clause-made c = byte_made c.class_form.new.arena c.args.class.now c.class_form.result c.class_form.ensures.made
