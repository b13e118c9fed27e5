-- What a draft in memory keeps. No public clause cites this.
use Rattle.std.specs.Prelude.{◌≡◌, ◌+◌, ℕ, List, [], ◌∷◌, ◌++◌, length}
use Rattle.cfg_grammar.specs.declared.production.Production.{Production}
use Rattle.cfg_grammar.specs.Below.{AreBelow}
use Rattle.grammar_chart.specs.Kept.{AreProductionsOf}
use Rattle.op_system.specs.declared.system.OpSystem.{OpSystem}
use Rattle.resolving.specs.declared.draft.Draft.{Draft}

-- the places of each nonterminal's productions are listed, and each nonterminal in them has a list
pub record IsIndexed (draft : Draft) : Type 0 where
  pub places : AreProductionsOf draft.productions.items draft.chains
  pub below : AreBelow (length draft.chains.last.items) draft.productions.items

-- one production is put behind the others
pub record Puts (old new : Draft) (p : Production) : Type 0 where
  pub indexed : IsIndexed new
  pub productions : new.productions.items ≡ old.productions.items ++ p ∷ []
  pub count : length new.chains.last.items ≡ length old.chains.last.items

-- so are several, in turn
pub record PutsAll (old new : Draft) (ps : List Production) : Type 0 where
  pub indexed : IsIndexed new
  pub productions : new.productions.items ≡ old.productions.items ++ ps
  pub count : length new.chains.last.items ≡ length old.chains.last.items

-- there are so many nonterminals more, without productions
pub record Widens (old new : Draft) (count : ℕ) : Type 0 where
  pub indexed : IsIndexed new
  pub productions : new.productions.items ≡ old.productions.items
  pub more : length new.chains.last.items ≡ length old.chains.last.items + count

-- the draft has the productions of the system alone
pub record IsOfSystem (s : OpSystem) (draft : Draft) : Type 0 where
  pub indexed : IsIndexed draft
  pub productions : draft.productions.items ≡ s.grammar.productions.items
  pub count : length draft.chains.last.items ≡ s.grammar.count
