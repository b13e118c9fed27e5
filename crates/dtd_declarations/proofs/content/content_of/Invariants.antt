use Rattle.std.proofs.Common.{◌≡◌, drop}
use Rattle.dtd_declarations.specs.TokenViews.{tokens_of}
use Rattle.dtd_texts.specs.Went.{all_steps}
use Rattle.dtd_texts.specs.ContentModels.{stage_step, behind_name}
use Rattle.dtd_declarations.specs.Views.{stage_of}
use Rattle.dtd_declarations.proofs.content.content_of.Given as goal

abbrev pub invariant-loop-token : goal.invariant-loop-token
invariant-loop-token l = all_steps (stage_step l.names) (stage_of l.stage) (tokens_of (drop l.token-index l.tokens)) ≡ all_steps (stage_step l.names) behind_name (tokens_of l.tokens)
