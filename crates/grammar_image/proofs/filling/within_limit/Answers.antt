use Rattle.std.proofs.Common.{◌≡◌, length, arith}
use Rattle.grammar_image.proofs.LargeLemmas.{has_items}
use Rattle.grammar_image.proofs.filling.within_limit.Goals as goal

pub returns-then-items-limit : goal.returns-then-items-limit
returns-then-items-limit g c =
    let m = c.args.machine.now in
    let begun = c.args.chart.now.begun in
    let long : c.len-items.result ≡ length begun.items = omega (arith, begun.ok.0, c.len-items.ensures) in (
      c.if-items-limit.true,
      has_items (g.M.Machine.steps m) (g.M.Machine.gives m) (g.M.Machine.first m) c.args.productions.now c.args.states.now.keys c.args.chart.now c.requires c.count-states.ensures.different c.len-items.result long,
    )
