-- What is put, and what is left to put.
use Rattle.std.proofs.Common.{◌≡◌, ◌∙◌, ◌++◌, List, map, sym, ap}
use Rattle.std.proofs.lemmas.List.{append_assoc, map-append}

-- some items more
pub put_more : {X : Type 0} (before now more rest all : List X) → now ≡ before ++ more → before ++ (more ++ rest) ≡ all → now ++ rest ≡ all
put_more before now more rest all is so = ap (λ xs. xs ++ rest) is ∙ append_assoc before more rest ∙ so

-- some items more under a function
pub map_more : {X Y : Type 0} (f : X → Y) (before now : List Y) (more rest : List X) (all : List Y) → now ≡ before ++ map f more
    → before ++ map f (more ++ rest) ≡ all → now ++ map f rest ≡ all
map_more f before now more rest all is so = put_more before now (map f more) (map f rest) all is (ap (λ ys. before ++ ys) (sym (map-append f more rest)) ∙ so)
