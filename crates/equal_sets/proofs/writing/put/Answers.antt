use Rattle.std.proofs.Common.{List, [], subst, sym}
use Rattle.std.specs.Prelude.{Contains}
use Rattle.cfg_grammar.specs.declared.production.Production.{Production}
use Rattle.equal_sets.specs.Written.{PutsProduction}
use Rattle.equal_sets.proofs.WrittenLemmas.{put_behind, put_there}
use Rattle.equal_sets.proofs.writing.put.Goals as goal

pub returns-then-is_last : goal.returns-then-is_last
returns-then-is_last c =
    put_there [] c.args.productions.now.items c.args.production
    (subst (λ (xs : List Production). Contains xs c.args.production) c.as_slice.ensures.value (c.is_last.ensures c.if-is_last.true))

pub returns : goal.returns
returns c =
    subst (λ (xs : List Production). PutsProduction c.args.productions.now.items xs c.args.production) (sym c.in_ok-push.ensures.items)
    (put_behind [] c.args.productions.now.items c.args.production)
