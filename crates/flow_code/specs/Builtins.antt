-- How the analysis takes a call of one of PHP's functions: as an operation from a text to a text, as the making or joining of pieces, as a
-- number or as a truth value.
use Rattle.std.specs.Prelude.{ℕ, ℤ, neg_ℤ, nat_abs, nat_le, Bool, true, false, ◌&&◌, if◌then◌else◌, List, [], ◌∷◌, Option, Some, None}
use Rattle.php_syntax.specs.Trees.{PlainExpr, int_expr, text_expr, neg_expr, PlainExprs, no_exprs, more_exprs}
use Rattle.builtin_meaning.specs.declared.builtin.Builtin.{Builtin}
use Rattle.builtin_meaning.specs.declared.builtin.Builtin.TheVariants as builtin
use Rattle.op_system.specs.declared.op.Op.{Op}
use Rattle.op_system.specs.declared.op.Op.TheVariants as op
use Rattle.flow_code.specs.declared.source.Work.TheVariants as work
use Rattle.flow_code.specs.Points.{PlainSource, concat_source, repeat_source, implode_source, explode_source, apply_source, number_source, truth_source}

-- `str_replace` of a literal search and replacement; an empty search leaves the text as it is
abbrev pub replacing : List ℕ → List ℕ → Op
replacing [] with = op.Same
replacing (b ∷ search) with = op.Replace (b ∷ search) with

-- `str_replace` by the trees of its search and replacement; not both text literals: any text of the bytes of subject and replacement
unfoldable pub replacement : PlainExpr → PlainExpr → Op
replacement (text_expr search) (text_expr with) = replacing search with
replacement _ _ = op.Any

-- an integer literal, or `-` and one
unfoldable pub literal_integer : PlainExpr → Option ℤ
literal_integer (int_expr z) = Some z
literal_integer (neg_expr (int_expr z)) = Some (neg_ℤ z)
literal_integer _ = None

-- a machine is made for cuts by numbers up to 1,024 alone; any other cut gives some part of the text
abbrev pub is_small : ℤ → Bool
is_small z = nat_le (nat_abs z) 1024

-- `substr` from a start to the end of the text: a cut where the start is a literal and small, and else some part of the text
abbrev pub cutting_from : Option ℤ → Op
cutting_from None = op.Factor
cutting_from (Some start) = if is_small start then op.Cut start None else op.Factor

-- `substr` with a start and a length: a cut where both are literals and small, and else some part of the text
abbrev pub cutting_out : Option ℤ → Option ℤ → Op
cutting_out None len = op.Factor
cutting_out (Some start) None = op.Factor
cutting_out (Some start) (Some len) = if is_small start && is_small len then op.Cut start (Some len) else op.Factor

-- `explode` at a literal separator
unfoldable pub splitting : PlainExpr → Op
splitting (text_expr sep) = op.Piece sep
splitting _ = op.Factor

-- a function of one text
abbrev pub one_text : Op → Builtin → ℕ → PlainSource
one_text operation f x = apply_source operation x f (x ∷ [])

-- a call with one argument, by the slot of its value; what is neither text nor truth value is a number
unfoldable pub source_of_one : Builtin → ℕ → PlainSource
source_of_one builtin.Htmlspecialchars x = one_text op.Html builtin.Htmlspecialchars x
source_of_one builtin.Strtolower x = one_text op.Lower builtin.Strtolower x
source_of_one builtin.Strtoupper x = one_text op.Upper builtin.Strtoupper x
source_of_one builtin.Ucfirst x = one_text op.First builtin.Ucfirst x
source_of_one builtin.Trim x = one_text (op.Trim true true) builtin.Trim x
source_of_one builtin.Ltrim x = one_text (op.Trim true false) builtin.Ltrim x
source_of_one builtin.Rtrim x = one_text (op.Trim false true) builtin.Rtrim x
source_of_one builtin.Nl2br x = one_text op.Breaks builtin.Nl2br x
source_of_one builtin.Urlencode x = one_text op.Url builtin.Urlencode x
source_of_one builtin.Rawurlencode x = one_text op.RawUrl builtin.Rawurlencode x
source_of_one builtin.Addslashes x = one_text op.Slashes builtin.Addslashes x
source_of_one builtin.Strval x = concat_source (x ∷ [])
source_of_one builtin.IsArray x = truth_source (work.Builtin builtin.IsArray) (x ∷ [])
source_of_one builtin.IsString x = truth_source (work.Builtin builtin.IsString) (x ∷ [])
source_of_one f x = number_source (work.Builtin f) (x ∷ [])

-- a call with two arguments, by their trees and the slots of their values, in the order in which they stand in the call
unfoldable pub source_of_two : Builtin → PlainExpr → PlainExpr → ℕ → ℕ → PlainSource
unfolding literal_integer splitting
source_of_two builtin.Substr a b x y = apply_source (cutting_from (literal_integer b)) x builtin.Substr (x ∷ y ∷ [])
source_of_two builtin.Explode a b x y = explode_source (splitting a) y builtin.Explode (x ∷ y ∷ [])
source_of_two builtin.Implode a b x y = implode_source x y builtin.Implode (x ∷ y ∷ [])
source_of_two builtin.StrRepeat a b x y = repeat_source x builtin.StrRepeat (x ∷ y ∷ [])
source_of_two f a b x y = number_source (work.Builtin f) (x ∷ y ∷ [])

-- a call with three arguments, by their trees and the slots of their values, in the order in which they stand in the call
unfoldable pub source_of_three : Builtin → PlainExpr → PlainExpr → PlainExpr → ℕ → ℕ → ℕ → PlainSource
unfolding literal_integer replacement
source_of_three builtin.StrReplace a b c x y z = apply_source (replacement a b) z builtin.StrReplace (x ∷ y ∷ z ∷ [])
source_of_three builtin.Substr a b c x y z =
    apply_source (cutting_out (literal_integer b) (literal_integer c)) x builtin.Substr (x ∷ y ∷ z ∷ [])
source_of_three f a b c x y z = number_source (work.Builtin f) (x ∷ y ∷ z ∷ [])

-- a call by its function, the trees of its arguments and the slots of their values
unfoldable pub builtin_source : Builtin → PlainExprs → List ℕ → PlainSource
unfolding source_of_one source_of_two source_of_three
builtin_source f (more_exprs a no_exprs) (x ∷ []) = source_of_one f x
builtin_source f (more_exprs a (more_exprs b no_exprs)) (x ∷ y ∷ []) = source_of_two f a b x y
builtin_source f (more_exprs a (more_exprs b (more_exprs c no_exprs))) (x ∷ y ∷ z ∷ []) = source_of_three f a b c x y z
builtin_source f args xs = number_source (work.Builtin f) xs
