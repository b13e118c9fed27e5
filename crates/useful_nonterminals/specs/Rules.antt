-- The rules that productions stand for.
use Rattle.std.specs.Prelude.{ℕ, Bool, false, ◌&&◌, ◌==◌, if◌then◌else◌, List, [], ◌∷◌, get_or, Option, None, Some}
use Rattle.std.specs.List.{flat_map}
use Rattle.cfg_grammar.specs.declared.symbol.Symbol.{Symbol}
use Rattle.cfg_grammar.specs.declared.symbol.Symbol.TheVariants.{Range, Token, Nt}
use Rattle.cfg_grammar.specs.declared.production.Right.{Right}
use Rattle.cfg_grammar.specs.declared.production.Right.TheVariants.{Empty, One, Two}
use Rattle.cfg_grammar.specs.declared.production.Production.{Production}
use Rattle.useful_nonterminals.specs.declared.rule.Rule.{Rule}

-- the number of a symbol that is a nonterminal
abbrev pub number_in : Symbol → Option ℕ
number_in (Range range) = None
number_in (Token token) = None
number_in (Nt a) = Some a.0

-- one number twice where there is only one
abbrev pub both : Option ℕ → Option ℕ → Option (ℕ × ℕ)
both None None = None
both None (Some b) = Some (b, b)
both (Some a) None = Some (a, a)
both (Some a) (Some b) = Some (a, b)

-- the nonterminals on the right of a production
abbrev pub numbers_in : Right → Option (ℕ × ℕ)
numbers_in Empty = None
numbers_in (One a) = both (number_in a) None
numbers_in (Two a b) = both (number_in a) (number_in b)

-- the left side, where no nonterminal stands on the right
abbrev pub fact_for : ℕ → Option (ℕ × ℕ) → List ℕ
fact_for left None = left ∷ []
fact_for left (Some ab) = []

-- where there are nonterminals on the right, the left side follows from them
abbrev pub rule_for : ℕ → Option (ℕ × ℕ) → List Rule
rule_for left None = []
rule_for left (Some ab) = record { first = ab.0; second = ab.1; conclusion = left } ∷ []

-- a nonterminal derives something where all nonterminals on the right of one of its productions do
abbrev pub facts_of : List Production → List ℕ
facts_of ps = flat_map (λ p. fact_for p.left.0 (numbers_in p.right)) ps

-- from the nonterminals on the right of a production its left side follows, for each production that has some
abbrev pub rules_of : List Production → List Rule
rules_of ps = flat_map (λ p. rule_for p.left.0 (numbers_in p.right)) ps

-- both numbers are reached from the left: one step where they are one
abbrev pub steps_to : ℕ → ℕ → ℕ → List Rule
steps_to left a b =
    record { first = left; second = left; conclusion = a }
    ∷ (if a == b then [] else record { first = left; second = left; conclusion = b } ∷ [])

-- what stands on the right is reached from the left, where all nonterminals there derive something
abbrev pub step_for : List Bool → ℕ → Option (ℕ × ℕ) → List Rule
step_for marks left None = []
step_for marks left (Some ab) = if get_or marks ab.0 false && get_or marks ab.1 false then steps_to left ab.0 ab.1 else []

-- from the left side of each production what stands on its right follows, where these are marked as deriving something
abbrev pub steps_of : List Bool → List Production → List Rule
steps_of marks ps = flat_map (λ p. step_for marks p.left.0 (numbers_in p.right)) ps

-- the start is reached where it derives something
abbrev pub start_of : List Bool → ℕ → List ℕ
start_of marks start = if get_or marks start false then start ∷ [] else []
