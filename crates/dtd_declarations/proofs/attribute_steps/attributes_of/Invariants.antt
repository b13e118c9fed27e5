use Rattle.std.proofs.Common.{◌≡◌, drop, []}
use Rattle.dtd_declarations.specs.TokenViews.{tokens_of}
use Rattle.dtd_texts.specs.Went.{all_steps}
use Rattle.dtd_texts.specs.AttributeLists.{stage_step, between}
use Rattle.dtd_declarations.specs.Views.{reading_of}
use Rattle.dtd_declarations.proofs.attribute_steps.attributes_of.Given as goal

abbrev pub invariant-loop-token : goal.invariant-loop-token
invariant-loop-token l = all_steps (stage_step) (reading_of l.reading) (tokens_of (drop l.token-index l.tokens)) ≡ all_steps (stage_step) (between []) (tokens_of l.tokens)
