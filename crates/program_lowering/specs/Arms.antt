-- Arms of an `if` that were put, with jumps over what stands behind them that do not know yet where they lead.
use Rattle.std.specs.Prelude.{◌≡◌, List}
use Rattle.flow_code.specs.Code.{Block}
use Rattle.flow_lowering.specs.Emits.{Progress, place}
use Rattle.flow_lowering.specs.declared.exits.Exit.{Exit}
use Rattle.flow_lowering.specs.Drafts.{filled}
use Rattle.flow_lowering.specs.Blocks.{Drafts}

-- jumps over what stands behind, which all lead to the end
abbrev pub led : Progress → List Exit → Progress
led s jumps = filled (record { stop = place s; again = place s }) jumps s

-- up to here the block stands behind the old points but for its exits, once its own jump, if it has one, leads to the end; the jumps of the
-- arms before it are replaced then
pub record Armed (old new : Progress) (before after : List Exit) (jumps_before jumps_after : List Exit) (b : Block) : Type 0 where
  pub so_far : Progress
  pub drafts : Drafts old so_far before after b
  pub same : led so_far jumps_before ≡ led new jumps_after
