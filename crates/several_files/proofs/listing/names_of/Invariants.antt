use Rattle.std.proofs.Common.{◌≡◌, ◌++◌, length, map}
use Rattle.std.specs.Prelude.{string_bytes}
use Rattle.several_files.proofs.listing.names_of.Given as goal

-- what is put, and what is left to put
abbrev pub invariant-loop-rest : goal.invariant-loop-rest
invariant-loop-rest l = map (λ name. name.now) l.names.items ++ map (λ file. string_bytes file.name) l.rest ≡ map (λ file. string_bytes file.name) l.files

abbrev pub decreases-loop-rest : goal.decreases-loop-rest
decreases-loop-rest l = length l.rest
