-- Sums that are equal, and what a sum gives to a hasher.
use Rattle.std.specs.Prelude.{Bool, true, false, ◌&&◌, ◌++◌, nat_eq}
use Rattle.std.specs.Cmp.Lexicographic.{pointwise}
use Rattle.std.specs.Option.{option_eq}
use Rattle.std.specs.Bool.{beq}
use Rattle.std.specs.Hash as fed
use Rattle.tag_sums.specs.Sum.{Sum, broken, reduced}

-- two sums are equal where both are broken, or their closers, their maps and their openers are
abbrev pub sum_eq : Sum → Sum → Bool
sum_eq broken broken = true
sum_eq broken (reduced c m o) = false
sum_eq (reduced c m o) broken = false
sum_eq (reduced c m o) (reduced d n p) = pointwise (pointwise beq) c d && (pointwise (option_eq nat_eq) m n && pointwise nat_eq o p)

-- what a sum gives to a hasher: 0 where it is broken, and else 1, its closers, its map and its openers, each list with its length
abbrev pub sum_fed : Sum → fed.HashWrites
sum_fed broken = fed.u8 0
sum_fed (reduced c m o) = fed.u8 1 ++ fed.slice (fed.slice fed.bool) c ++ fed.slice (fed.option fed.u16) m ++ fed.slice fed.u16 o
