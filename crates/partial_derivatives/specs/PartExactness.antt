-- Equality of members and of parts is exact.
use Rattle.std.specs.Prelude.{◌≡◌, true, List, ℕ}
use Rattle.std.proofs.Common.{rules, ap}
use Rattle.std.proofs.lemmas.Map.Views.{exact_unsigned_eq}
use Rattle.text_base.specs.Exactness.{IsExact}
use Rattle.partial_derivatives.specs.Exactness.{exact_row}
use Rattle.partial_derivatives.specs.declared.part.Member.{Member}
use Rattle.partial_derivatives.specs.declared.part.Part.{Part}
use Rattle.partial_derivatives.specs.declared.part.Part.TheVariants.{Whole, Among}
use Rattle.partial_derivatives.specs.contracts.part.MemberPartialEq.TheImpl as members
use Rattle.partial_derivatives.specs.contracts.part.PartPartialEq.TheImpl as parts

-- members that are found equal are one
pub exact_member : IsExact (members.ghosts).eq
exact_member = search rules

-- and so it is with parts
pub exact_part : (a b : Part) → (parts.ghosts).eq a b ≡ true → a ≡ b
exact_part (Whole n) (Whole m) e = ap (λ (x : ℕ). Whole x) (exact_unsigned_eq n m e)
exact_part (Whole n) (Among ms) e = cc
exact_part (Among ms) (Whole n) e = cc
exact_part (Among ms) (Among ns) e = ap (λ (x : List Member). Among x) (exact_row exact_member ms ns e)
