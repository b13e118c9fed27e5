-- Drafts: nothing comes in but by an operation of the system, and none of these twice.
use Rattle.std.proofs.Common.{◌≡◌, ℕ, List, [], ◌∷◌, Some, slice_get, refl, subst}
use Rattle.cfg_grammar.specs.declared.production.Production.{Production}
use Rattle.op_system.specs.declared.system.OpRule.{OpRule}
use Rattle.op_system.specs.declared.system.OpSystem.{OpSystem}
use Rattle.resolving.specs.Drafted.{Added, IsNext, Drafted, IsTooLarge}
use Rattle.resolving.proofs.LetterLemmas.{first_in}

none_at : (place : ℕ) (rule : OpRule) → slice_get [] place ≡ Some rule → ⊥
none_at place rule e = cc

none_next : (s : OpSystem) (added : List Added) (place : ℕ) (rule : OpRule) → s.ops.items ≡ [] → IsNext s added place rule → ⊥
none_next s added place rule none next = none_at place rule (subst (λ (rules : List OpRule). slice_get rules place ≡ Some rule) none next.at)

-- a draft of a system without operations has its productions, and no copy of any
without_operations : (s : OpSystem) (ps : List Production) (count : ℕ) (added : List Added) → s.ops.items ≡ [] → Drafted s ps count added → ps ≡ s.grammar.productions.items
without_operations s _ _ _ none Drafted.begins = refl
without_operations s _ _ _ none (Drafted.by_texts ps after count place added rule d next adds) = absurd (none_next s added place rule none next)
without_operations s _ _ _ none (Drafted.by_image ps after count place added rule image d next adds) = absurd (none_next s added place rule none next)

-- of such a system no image is too large
none_too_large : (s : OpSystem) (items : ℕ) → s.ops.items ≡ [] → IsTooLarge s items → ⊥
none_too_large s items none large = none_next s large.added large.place large.rule none large.next

-- what was added is not added again
never_twice : (s : OpSystem) (a : Added) (added : List Added) (rule : OpRule) → IsNext s (a ∷ added) a.place rule → ⊥
never_twice s a added rule next = next.fresh (a, first_in a added, refl)
