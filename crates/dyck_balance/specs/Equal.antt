-- Sums that are equal, and what a sum gives to a hasher.
use Rattle.std.specs.Prelude.{Bool, true, false, ◌&&◌, ◌++◌, nat_eq}
use Rattle.std.specs.Cmp.Lexicographic.{pointwise}
use Rattle.std.specs.Hash as fed
use Rattle.tag_sums.specs.Nesting.{Nest, torn, nest}

-- two sums are equal where both are torn, or their closers and their openers are
abbrev pub nest_eq : Nest → Nest → Bool
nest_eq torn torn = true
nest_eq torn (nest c o) = false
nest_eq (nest c o) torn = false
nest_eq (nest c o) (nest d p) = pointwise nat_eq c d && pointwise nat_eq o p

-- what a sum gives to a hasher: 0 where it is torn, and else 1, its closers and its openers, each list with its length
abbrev pub nest_fed : Nest → fed.HashWrites
nest_fed torn = fed.u8 0
nest_fed (nest c o) = fed.u8 1 ++ fed.slice fed.u16 c ++ fed.slice fed.u16 o
