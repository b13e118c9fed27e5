use Rattle.std.proofs.Common.{◌≡◌, ◌∙◌, ◌+◌, ◌++◌, ◌∷◌, [], List, take, sym, ap, subst}
use Rattle.std.proofs.lemmas.List.{take_more}
use Rattle.cfg_grammar.specs.declared.production.Production.{Production}
use Rattle.equal_sets.specs.Written.{PutsProduction, AreProductionsOf}
use Rattle.equal_sets.proofs.SetLemmas.{true_false}
use Rattle.equal_sets.proofs.WrittenLemmas.{production_written, production_passed}
use Rattle.equal_sets.proofs.writing.productions_of.Goals.{then-stands+in_ok-put, else-stands}
use Rattle.equal_sets.proofs.writing.productions_of.Goals as goal

pub loop-production-preserved : goal.loop-production-preserved
loop-production-preserved c =
    let sets = c.args.sets.now in
    let ps = c.args.productions.now in
    let n = c.loop-production.production-index in
    let p = c.production-item.result in
    let made = c.loop-production.made.items in
    let more : take (n + 1) ps ≡ take n ps ++ p ∷ [] = take_more ps n p c.loop-production-test.true ∙ ap (λ (q : Production). take n ps ++ q ∷ []) (sym c.production-item.is) in
    subst (λ (qs : List Production). AreProductionsOf sets qs c.if-stands.made.items) (sym more) (elim c.if-stands.branch [
      | then-stands+in_ok-put w ↦
          subst (λ (v : _). AreProductionsOf sets (take n ps ++ p ∷ []) v.items) (sym w.made-is)
          (production_written sets (take n ps) made w.put.new.productions.items p c.loop-production.invariant (c.stands.ensures.0 w.if-stands.true)
          (subst (PutsProduction made w.put.new.productions.items) w.production_of.ensures w.in_ok-put.ensures))
      | else-stands w ↦
          subst (λ (v : _). AreProductionsOf sets (take n ps ++ p ∷ []) v.items) (sym w.made-is)
          (production_passed sets (take n ps) made p c.loop-production.invariant (λ e. true_false c.stands.result (c.stands.ensures.1 e) w.if-stands.false))
    ])
