use Rattle.std.proofs.Common.{ap}
use Rattle.flow_code.specs.View.{plain_flow}
use Rattle.flow_code.specs.declared.program.FlowProgram.{FlowProgram}
use Rattle.extraction.proofs.ListingLemmas.{is_lister}
use Rattle.extraction.proofs.flow_lister.FlowLister.new.Goals as goal

pub returns-clause-flow : goal.returns-clause-flow
returns-clause-flow c = ap (λ (f : FlowProgram). plain_flow f) c.in_ok-tables.ensures.flow

pub returns-clause-exact : goal.returns-clause-exact
returns-clause-exact c = is_lister c.args.flow.now c.in_ok-tables.tables c.in_ok-tables.ensures.flow c.in_ok-tables.ensures.tables
