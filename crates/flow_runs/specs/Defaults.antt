-- What a program's defaults have to keep: `-` and an integer stays within 64 bits, as it does wherever the integer is a literal.
use Rattle.std.specs.Prelude.{◌≡◌, ⊤, neg_ℤ, Ok, List, [], ◌∷◌}
use Rattle.php_syntax.specs.Trees.{MaybeExpr, some_expr, neg_expr, int_expr, PlainParam, PlainFunction}
use Rattle.plain_values.specs.Plain.{int}
use Rattle.plain_values.specs.Arithmetic.{negation_of}

-- a default that is `-` and an integer stays within 64 bits; any other keeps nothing here
abbrev pub IsDefault : MaybeExpr → Type 0
IsDefault (some_expr (neg_expr (int_expr z))) = negation_of (int z) ≡ Ok (int (neg_ℤ z))
IsDefault _ = ⊤

-- each default of these parameters keeps this
abbrev pub AreDefaults : List PlainParam → Type 0
AreDefaults [] = ⊤
AreDefaults (p ∷ ps) = IsDefault p.default_of × AreDefaults ps

-- each default of each function
abbrev pub HaveDefaults : List PlainFunction → Type 0
HaveDefaults [] = ⊤
HaveDefaults (f ∷ fs) = AreDefaults f.params_of × HaveDefaults fs
