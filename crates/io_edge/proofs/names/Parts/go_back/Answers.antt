use Rattle.std.proofs.Common.{◌≡◌, ◌++◌, ◌∷◌, [], map, rules, refl, sym, ◌∙◌}
use Rattle.std.specs.Path.{parent_dir}
use Rattle.std.proofs.lemmas.List.{map-append}
use Rattle.io_edge.proofs.NameLemmas.{mapped, back_plain, back_dots}
use Rattle.io_edge.proofs.names.Parts.go_back.Goals as goal

pub returns-in_ok-push-in-Some-2 : goal.returns-in_ok-push-in-Some-2
returns-in_ok-push-in-Some-2 c =
    let put : map (λ part. part.now) c.push-then-eq.new.self.items ≡ map (λ part. part.now) c.args.self.now.parts.items ++ parent_dir ∷ [] = search (rules, map-append) in
    (refl, put ∙ back_dots _ _ _ c.in-Some.part.now (mapped _ _ _ c.in-Some.ensures.items) (sym c.eq.ensures ∙ c.if-eq.true))

pub returns-else-eq : goal.returns-else-eq
returns-else-eq c = (refl, back_plain _ _ _ c.in-Some.part.now (mapped _ _ _ c.in-Some.ensures.items) (sym c.eq.ensures ∙ c.if-eq.false))
