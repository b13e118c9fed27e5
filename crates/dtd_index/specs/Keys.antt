-- The names of a definition as lists.
use Rattle.std.specs.Prelude.{ℕ, List, map}
use Rattle.std.specs.declared.alloc.Global.{Global}
use Rattle.std.specs.declared.vec.Vec.{Vec}
use Rattle.dtd_model.specs.declared.dtd.ElementRule.{ElementRule}
use Rattle.dtd_model.specs.Table.{Rule}

-- the characters of a key
abbrev pub characters_of : Vec ℕ Global → List ℕ
characters_of v = v.items

-- the names of the declared elements, in their order
abbrev pub element_names : List ElementRule → List (List ℕ)
element_names rules = map (λ (r : ElementRule). r.name) rules

-- the names of the elements, in the order of the rules
abbrev pub names_of_rules : List Rule → List (List ℕ)
names_of_rules rules = map (λ (r : Rule). r.name) rules
