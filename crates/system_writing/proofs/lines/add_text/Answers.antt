use Rattle.std.proofs.Common.{subst}
use Rattle.std.proofs.lemmas.Result.{on_ok_weaker}
use Rattle.system_writing.specs.Steps.{AddsProduction}
use Rattle.system_writing.proofs.lines.add_text.Goals as goal

pub returns : goal.returns
returns c =
    on_ok_weaker c.add_production.result (λ adds. record {
      between = c.put_text.new.lines;
      symbol = c.in_ok-end.end;
      puts = c.in_ok-end.ensures;
      adds = subst (λ z. AddsProduction c.put_text.new.lines c.add_production.new.lines c.args.set z) c.text_right.ensures adds;
    }) c.add_production.ensures
