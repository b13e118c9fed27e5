-- How large drafts are.
use Rattle.std.proofs.Common.{◌≡◌, ◌≤◌, ◌+◌, ℕ, List, ◌∷◌, length, refl, arith}
use Rattle.std.specs.List.{sum_by}
use Rattle.std.proofs.lemmas.List.Sums.{sum_by-cons}
use Rattle.cfg_grammar.specs.declared.production.Production.{Production}
use Rattle.op_system.specs.declared.system.OpSystem.{OpSystem}
use Rattle.resolving.specs.Drafted.{Added, Drafted}

-- one operation more
more_of : (f : Added → ℕ) (a : Added) (added : List Added) (before count more : ℕ) → count ≡ before + sum_by f added → f a ≡ more → count + more ≡ before + sum_by f (a ∷ added)
more_of f a added before count more is own = let e = sum_by-cons f a added in omega (arith, e, is, own)

at_most : (f : Added → ℕ) (a : Added) (added : List Added) (before count after more : ℕ) → count ≤ before + sum_by f added → after ≤ count + more → f a ≡ more → after ≤ before + sum_by f (a ∷ added)
at_most f a added before count after more is step own = let e = sum_by-cons f a added in omega (arith, e, is, step, own)

module _ (s : OpSystem) where
  -- the nonterminals of a draft
  pub drafted_count : (ps : List Production) (count : ℕ) (added : List Added) → Drafted s ps count added → count ≡ s.grammar.count + sum_by (λ a. a.nonterminals) added
  drafted_count _ _ _ Drafted.begins = omega arith
  drafted_count _ _ _ (Drafted.by_texts ps after count place added rule d next adds) =
      more_of (λ a. a.nonterminals) (record { place = place; nonterminals = 1; productions = 130 }) added s.grammar.count count 1 (drafted_count ps count added d) refl
  drafted_count _ _ _ (Drafted.by_image ps after count place added rule image d next adds) =
      more_of (λ a. a.nonterminals) (record { place = place; nonterminals = image.count; productions = 1 + length image.productions.items }) added s.grammar.count count image.count (drafted_count ps count added d) refl

  -- its productions
  pub drafted_size : (ps : List Production) (count : ℕ) (added : List Added) → Drafted s ps count added → length ps ≤ length s.grammar.productions.items + sum_by (λ a. a.productions) added
  drafted_size _ _ _ Drafted.begins = omega arith
  drafted_size _ _ _ (Drafted.by_texts ps after count place added rule d next adds) =
      at_most (λ a. a.productions) (record { place = place; nonterminals = 1; productions = 130 }) added (length s.grammar.productions.items) (length ps) (length after) 130 (drafted_size ps count added d) adds.few refl
  drafted_size _ _ _ (Drafted.by_image ps after count place added rule image d next adds) =
      at_most (λ a. a.productions) (record { place = place; nonterminals = image.count; productions = 1 + length image.productions.items }) added (length s.grammar.productions.items) (length ps) (length after) (1 + length image.productions.items)
      (drafted_size ps count added d) adds.few refl
