-- What is left of a grammar without its useless parts (Hopcroft and Ullman, Introduction to Automata Theory, 4.4).
use Rattle.std.specs.Prelude.{◌≡◌, ◌↔◌, ◌⊎◌, ◌<◌, ◌≤◌, ℕ, List, Option, Some, length, Contains}
use Rattle.text_base.specs.declared.letter.Letter.{Letter}
use Rattle.text_base.specs.declared.page_token.PageToken.{PageToken}
use Rattle.text_base.specs.declared.numbers.Nt as nt
use Rattle.cfg_grammar.specs.declared.symbol.Symbol.TheVariants.{Token, Nt}
use Rattle.cfg_grammar.specs.declared.production.Production.{Production}
use Rattle.cfg_grammar.specs.Below.{symbols_of}
use Rattle.cfg_grammar.specs.Derives.{Derives}
use Rattle.useful_nonterminals.specs.Useful.{IsUseful}
use Rattle.useful_nonterminals.specs.Naming.{name_at, named_productions}

-- the page token stands in a production
abbrev pub HasToken : List Production → PageToken → Type 0
HasToken productions token = (p : Production) × Contains productions p × Contains (symbols_of p.right) (Token token)

-- the start and what is useful have names, no two the same, and the productions are the old ones of which each nonterminal has a name, in
-- their order, under these names
pub record AreNamed (old : List Production) (start : nt.Nt) (new : List Production) (start' : nt.Nt) : Type 0 where
  pub names : List (Option ℕ)
  pub productions : new ≡ named_productions names old
  pub first : name_at names start ≡ Some start'.0
  pub all : (a : nt.Nt) → IsUseful old start a → (k : ℕ) × (name_at names a ≡ Some k)
  pub only : (a : nt.Nt) (k : ℕ) → name_at names a ≡ Some k → (a ≡ start) ⊎ IsUseful old start a
  pub different : (a b : nt.Nt) (k : ℕ) → name_at names a ≡ Some k → name_at names b ≡ Some k → a ≡ b

-- the sentences are those of the old grammar; each nonterminal but the start is useful; no page token is new; nothing is more; and it
-- is the old grammar under other names
pub record IsTrimmed (old : List Production) (start : nt.Nt) (count : ℕ) (new : List Production) (start' : nt.Nt) (count' : ℕ) :
    Type 0 where
  pub sentences : (w : List Letter) → Derives old (Nt start) w ↔ Derives new (Nt start') w
  pub useful : (a : nt.Nt) → a.0 < count' → (a ≡ start') ⊎ IsUseful new start' a
  pub tokens : (token : PageToken) → HasToken new token → HasToken old token
  pub fewer : count' ≤ count
  pub as_few : length new ≤ length old
  pub named : AreNamed old start new start'
