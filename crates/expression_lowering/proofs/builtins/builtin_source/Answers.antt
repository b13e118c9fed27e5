use Rattle.std.proofs.Common.{◌∙◌, sym, map, arith}
use Rattle.flow_code.specs.View.{slot_number}
use Rattle.expression_lowering.proofs.RowLemmas.{one_slot}
use Rattle.expression_lowering.proofs.CallLemmas.{one_argument, many_arguments}
use Rattle.expression_lowering.proofs.builtins.builtin_source.Goals as goal

pub returns-in-len1 : goal.returns-in-len1
returns-in-len1 c =
    c.source_of_one.ensures ∙ sym (one_argument c.args.builtin c.args.arguments.now (map slot_number c.args.slots.items) c.index-from.result.now.0 (omega arith)
    (one_slot c.args.slots.items c.index-from.result.now (omega (arith, c.args.slots.ok.0, c.requires)) c.index-from.ensures))

pub returns-in-len4-up : goal.returns-in-len4-up
returns-in-len4-up c =
    c.counted-in-len4-up.ensures ∙ sym (many_arguments c.args.builtin c.args.arguments.now (map slot_number c.args.slots.items) c.in-len4-up.len_at_least)
