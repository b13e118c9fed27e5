use Rattle.std.proofs.Common.{◌∙◌, ℕ, ap}
use Rattle.flow_lowering.specs.View.{progress}
use Rattle.flow_lowering.specs.Emits.{Progress}
use Rattle.flow_lowering.specs.Drafts.{filled, closed}
use Rattle.flow_lowering.proofs.heads.end_loop.Goals as goal

pub returns : goal.returns
returns c = record {
  later = progress c.push.new.self;
  puts = c.in_ok-push.ensures;
  is = c.close_head.ensures ∙ ap (λ (s : Progress). closed c.ahead-stop.result.0 c.args.head s) c.fill_exits.ensures
      ∙ ap (λ (n : ℕ). closed n c.args.head (filled (record { stop = n; again = c.args.again.0 }) c.args.exits.items (progress c.push.new.self))) c.ahead-stop.ensures;
}
