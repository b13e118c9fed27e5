use Rattle.std.proofs.Common.{refl, length, ◌+◌}
use Rattle.flow_code.specs.View.{plain_flow}
use Rattle.cfg_grammar.specs.declared.symbol.Symbol.TheVariants.{Nt}
use Rattle.given_texts.specs.Closed.{HasText}
use Rattle.given_texts.specs.Given.{closed_of}
use Rattle.extraction.specs.ListedMade.{IsMadeOver}
use Rattle.extraction.proofs.Bounded.{is_bounded_over}
use Rattle.extraction.proofs.GivenLemmas.{closed_by, made_with}
use Rattle.extraction.proofs.request_extracting.extract_over.Goals as goal

pub extract_by-requires-clause-closed : goal.extract_by-requires-clause-closed
extract_by-requires-clause-closed g c =
    let request = c.args.request.now in
    closed_by (closed_of c.in_ok-given.given) (g.R.Reading.request c.args.reading.now) (HasText request.productions.items (Nt request.start)) c.requires.texts c.in_ok-given.ensures.closed

pub returns-clause-made : goal.returns-clause-made
returns-clause-made g c =
    let lister = c.in_ok-lister in
    let given = c.in_ok-given in
    record {
      lines = length given.given.grammar.productions.items;
      few = given.ensures.sizes;
      made = made_with (g.R.Reading.request c.args.reading.now) given.given.grammar.count (32 + c.args.request.now.count) (length given.given.grammar.productions.items) (length given.given.grammar.productions.items) (plain_flow c.args.flow.now)
          c.in_ok-system.system given.ensures.numbers refl
          (record { tables = lister.lister.tables; of_flow = lister.ensures.flow; are = lister.ensures.tables; made = c.in_ok-system.ensures.made });
    }

pub returns-clause-bounded : goal.returns-clause-bounded
returns-clause-bounded g c =
    let lister = c.in_ok-lister in
    let given = c.in_ok-given in
    let request = g.R.Reading.request c.args.reading.now in
    let made : IsMadeOver request c.args.request.now.count (length c.args.request.now.productions.items) (plain_flow c.args.flow.now) c.in_ok-system.system = record {
      lines = length given.given.grammar.productions.items;
      few = given.ensures.sizes;
      made = made_with request given.given.grammar.count (32 + c.args.request.now.count) (length given.given.grammar.productions.items) (length given.given.grammar.productions.items) (plain_flow c.args.flow.now)
          c.in_ok-system.system given.ensures.numbers refl
          (record { tables = lister.lister.tables; of_flow = lister.ensures.flow; are = lister.ensures.tables; made = c.in_ok-system.ensures.made });
    } in
    is_bounded_over request c.args.request.now.count (length c.args.request.now.productions.items) (plain_flow c.args.flow.now) c.in_ok-system.system made
