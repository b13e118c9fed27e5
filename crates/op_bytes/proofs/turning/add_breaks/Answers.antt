use Rattle.std.proofs.Common.{sym, ◌∙◌}
use Rattle.op_bytes.proofs.OpLemmas.{breaks_yes, breaks_no}
use Rattle.op_bytes.proofs.turning.add_breaks.Goals as goal

pub returns-then-is_line_end_byte : goal.returns-then-is_line_end_byte
returns-then-is_line_end_byte c = breaks_yes c.args.set.now c.add_byte.new.set c.add_text.new.set c.args.byte (sym c.is_line_end_byte.ensures ∙ c.if-is_line_end_byte.true) c.add_byte.ensures c.add_text.ensures

pub returns-else-is_line_end_byte : goal.returns-else-is_line_end_byte
returns-else-is_line_end_byte c = breaks_no c.args.set.now c.add_byte.new.set c.args.byte (sym c.is_line_end_byte.ensures ∙ c.if-is_line_end_byte.false) c.add_byte.ensures
