-- The laws of nesting, as a summary states them.
use Rattle.std.specs.Prelude.{◌≡◌, ◌↔◌, IsTrue, true, false, List, ◌++◌, refl}
use Rattle.text_base.specs.declared.page_token.PageToken.{PageToken}
use Rattle.tag_sums.specs.Nesting.{Nest, torn, nest, join, nest_of, is_torn, is_balanced, IsNested}
use Rattle.tag_sums.proofs.NestLemmas.{nests_compose}

-- the sum of a concatenation is the composition of the sums
pub appends : (u v : List PageToken) → nest_of (u ++ v) ≡ join (nest_of u) (nest_of v)
appends = nests_compose

-- a composition is torn where its first sum is
pub torn_first : (a b : Nest) → is_torn a ≡ true → is_torn (join a b) ≡ true
torn_first torn b h = refl
torn_first (nest c o) b h = cc

-- a composition is torn where its second sum is
pub torn_second : (a b : Nest) → is_torn b ≡ true → is_torn (join a b) ≡ true
torn_second torn b h = refl
torn_second (nest c o) torn h = refl
torn_second (nest c o) (nest d p) h = cc

-- a torn sum is that of no tree
pub not_balanced : (a : Nest) → is_torn a ≡ true → is_balanced a ≡ false
not_balanced torn h = refl
not_balanced (nest c o) h = cc

-- the sum is whole exactly where the tokens are those of a tree
abbrev pub WholeIsNested : Type 0
WholeIsNested = (tokens : List PageToken) → IsTrue (is_balanced (nest_of tokens)) ↔ IsNested tokens
