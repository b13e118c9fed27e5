-- Which productions of a grammar are kept: those of which each nonterminal on the right is marked.
use Rattle.std.specs.Prelude.{ℕ, Bool, true, false, List, [], ◌∷◌, ◌++◌, get_or}
use Rattle.std.specs.List.{list_all}
use Rattle.cfg_grammar.specs.declared.symbol.Symbol.{Symbol}
use Rattle.cfg_grammar.specs.declared.symbol.Symbol.TheVariants.{Range, Token, Nt}
use Rattle.cfg_grammar.specs.declared.production.Right.{Right}
use Rattle.cfg_grammar.specs.declared.production.Production.{Production}
use Rattle.cfg_grammar.specs.Below.{symbols_of}
use Rattle.given_texts.specs.Moved.{moved_production}

-- the symbol is no nonterminal, or a marked one
abbrev pub symbol_kept : List Bool → Symbol → Bool
symbol_kept marks (Range range) = true
symbol_kept marks (Token token) = true
symbol_kept marks (Nt a) = get_or marks a.0 false

-- so is each symbol of the right side
abbrev pub right_kept : List Bool → Right → Bool
right_kept marks right = list_all (symbol_kept marks) (symbols_of right)

-- the production alone, or none
abbrev pub if_kept : Bool → Production → List Production
if_kept true p = p ∷ []
if_kept false p = []

-- the production with each number so much higher, if it is kept
abbrev pub kept_one : List Bool → ℕ → Production → List Production
kept_one marks base p = if_kept (right_kept marks p.right) (moved_production base p)

-- the productions that are kept, in their order, with each number so much higher
abbrev pub kept : List Bool → ℕ → List Production → List Production
kept marks base [] = []
kept marks base (p ∷ ps) = kept_one marks base p ++ kept marks base ps
