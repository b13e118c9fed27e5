use Rattle.std.proofs.lemmas.Result.{on_ok_weaker}
use Rattle.op_bytes.proofs.EdgeLemmas.{range_adds, range_no, token_no, nt_adds}
use Rattle.op_bytes.proofs.steps.add_symbol.Goals as goal

pub returns-in-Range-clause-adds : goal.returns-in-Range-clause-adds
returns-in-Range-clause-adds c = range_adds c.args.edges.now.items c.args.from.0 c.args.symbol (range_no c.args.symbol c.in-Range.field-0 c.in-Range.is)

pub returns-in-Token-clause-adds : goal.returns-in-Token-clause-adds
returns-in-Token-clause-adds c = range_adds c.args.edges.now.items c.args.from.0 c.args.symbol (token_no c.args.symbol c.in-Token.field-0 c.in-Token.is)

pub returns-in-Nt-clause-adds : goal.returns-in-Nt-clause-adds
returns-in-Nt-clause-adds c =
    on_ok_weaker c.add_edge.result (nt_adds c.args.edges.now.items c.add_edge.new.edges.items c.args.from.0 c.args.symbol c.in-Nt.to c.in-Nt.is) c.add_edge.ensures.adds
