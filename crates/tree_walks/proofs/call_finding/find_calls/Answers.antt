use Rattle.std.proofs.Common.{refl}
use Rattle.tree_walks.proofs.CallLemmas.{behind}
use Rattle.tree_walks.proofs.call_finding.find_calls.Goals as goal

pub returns : goal.returns
returns c = behind c.args.found.now.items c.append.new.self.items c.new.result.items c.visit_stmts.new.visitor.calls.items c.visit_bodies.new.visitor.calls.items _ _ _ _
    c.new.ensures.items refl refl c.in_ok-visit_stmts.ensures c.in_ok-visit_bodies.ensures c.in_ok-append.ensures.items
