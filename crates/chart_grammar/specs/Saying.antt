-- What is written as outputs are said.
use Rattle.std.specs.Prelude.{◌≡◌, ◌+◌, ◌⊎◌, ℕ, List, [], ◌∷◌, ◌++◌, Contains}
use Rattle.text_base.specs.declared.numbers.Nt as nt
use Rattle.cfg_grammar.specs.declared.symbol.Symbol.{Symbol}
use Rattle.cfg_grammar.specs.declared.production.Production.{Production}
use Rattle.numbered_sets.specs.Numbers.{Keeps, AddsOnly}
use Rattle.chart_grammar.specs.declared.saying.Said.{Said}
use Rattle.chart_grammar.specs.declared.saying.Outputs.{Outputs}
use Rattle.chart_grammar.specs.Fronts.{StandsFor, AddsFronts}
use Rattle.chart_grammar.specs.Lifts.{front_right, said_right}

-- the production of what is said
abbrev pub production_of : Said → Production
production_of s = record { left = record { 0 = s.left }; right = said_right s.behind s.front }

-- what is said is written
abbrev pub IsFiled : Outputs → Type 0
IsFiled o = (s : Said) → Contains o.said.keys s → Contains o.out.items (production_of s)

-- all is as it was
pub record Stays (old new : Outputs) : Type 0 where
  pub fronts : new.fronts.keys ≡ old.fronts.keys
  pub said : new.said.keys ≡ old.said.keys
  pub heads : new.heads.keys ≡ old.heads.keys
  pub wide : new.wide ≡ old.wide
  pub out : new.out ≡ old.out

-- the production of the symbols is there, and nothing else is new
pub record Says (base : ℕ) (old new : Outputs) (left behind : ℕ) (symbols : List Symbol) : Type 0 where
  pub said : Said
  pub is_left : said.left ≡ left
  pub is_behind : said.behind ≡ behind
  pub stands : StandsFor base new.fronts.keys said.front symbols
  pub fronts : Keeps old.fronts.keys new.fronts.keys
  pub adds_fronts : AddsFronts base old.fronts.keys new.fronts.keys symbols
  pub has : Contains new.said.keys said
  pub keeps : Keeps old.said.keys new.said.keys
  pub adds : AddsOnly old.said.keys new.said.keys said
  pub heads : new.heads.keys ≡ old.heads.keys
  pub wide : new.wide ≡ old.wide
  pub written : ((new.said.keys ≡ old.said.keys) × (new.out ≡ old.out))
      ⊎ ((new.said.keys ≡ old.said.keys ++ said ∷ []) × (new.out.items ≡ old.out.items ++ production_of said ∷ []))

-- the production of the symbols, of which a range stays whole, is written
pub record SaysWide (base : ℕ) (old new : Outputs) (left lo : ℕ) (symbols : List Symbol) : Type 0 where
  pub front : ℕ
  pub stands : StandsFor base new.fronts.keys front symbols
  pub fronts : Keeps old.fronts.keys new.fronts.keys
  pub adds_fronts : AddsFronts base old.fronts.keys new.fronts.keys symbols
  pub said : new.said.keys ≡ old.said.keys
  pub heads : new.heads.keys ≡ old.heads.keys ++ (record { left = left; lo = lo }) ∷ []
  pub wide : new.wide.items ≡ old.wide.items ++ front ∷ []
  pub out : new.out.items ≡ old.out.items ++ (record { left = record { 0 = left }; right = front_right front }) ∷ []
