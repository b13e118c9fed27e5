use Rattle.std.proofs.Common.{◌≡◌, ◌++◌, List, [], ◌∷◌, subst}
use Rattle.std.specs.declared.vec.Vec.{Vec}
use Rattle.std.specs.declared.alloc.Global.{Global}
use Rattle.fst_core.specs.declared.out.Out.{Out}
use Rattle.cut_grammars.proofs.counting.nothing_more.Goals as goal

pub returns : goal.returns
returns c = (
  c.new.result,
  subst (λ (old : List (Vec Out Global)). c.push.new.self.items ≡ old ++ c.new.result ∷ []) c.new-lasts.ensures.items c.in_ok-push.ensures.items,
  c.new.ensures.items,
)
