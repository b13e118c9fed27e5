use Rattle.std.proofs.Common.{length}
use Rattle.flow_code.specs.View.{plain_flow}
use Rattle.extraction.proofs.Bounded.{is_bounded}
use Rattle.extraction.proofs.GivenLemmas.{made_with}
use Rattle.extraction.proofs.extracting.extract.Goals as goal

pub returns-clause-made : goal.returns-clause-made
returns-clause-made c =
    let lister = c.in_ok-lister in
    let given = c.in_ok-given in
    made_with _ given.given.grammar.count 32 (length given.given.grammar.productions.items) 65 (plain_flow c.args.flow.now) c.in_ok-system.system given.ensures.numbers given.ensures.sizes
    (record { tables = lister.lister.tables; of_flow = lister.ensures.flow; are = lister.ensures.tables; made = c.in_ok-system.ensures.made })

pub returns-clause-bounded : goal.returns-clause-bounded
returns-clause-bounded c =
    let lister = c.in_ok-lister in
    let given = c.in_ok-given in
    is_bounded (plain_flow c.args.flow.now) c.in_ok-system.system
    (made_with _ given.given.grammar.count 32 (length given.given.grammar.productions.items) 65 (plain_flow c.args.flow.now) c.in_ok-system.system given.ensures.numbers given.ensures.sizes
    (record { tables = lister.lister.tables; of_flow = lister.ensures.flow; are = lister.ensures.tables; made = c.in_ok-system.ensures.made }))
