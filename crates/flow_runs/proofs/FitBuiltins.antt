-- The source of a call of one of PHP's functions is of its form.
use Rattle.std.proofs.Common.{◌≡◌, ℕ, ℤ, ◌≤◌, List, [], ◌∷◌, length, refl, arith, Bool, true, false, Option, Some, None}
use Rattle.std.specs.Prelude.{if◌then◌else◌, ◌&&◌}
use Rattle.php_syntax.specs.Trees.{PlainExpr, text_expr, PlainExprs, no_exprs, more_exprs}
use Rattle.builtin_meaning.specs.declared.builtin.Builtin.{Builtin}
use Rattle.builtin_meaning.specs.declared.builtin.Builtin.TheVariants as builtin
use Rattle.builtin_meaning.specs.Arity.{arity_of}
use Rattle.op_system.specs.declared.op.Op.TheVariants as op
use Rattle.flow_code.specs.Points.{PlainFlowFunction}
use Rattle.flow_code.specs.Expressions.{number_of}
use Rattle.flow_code.specs.Builtins.{literal_integer, is_small, cutting_from, cutting_out, splitting, replacement, source_of_one, source_of_two, source_of_three, builtin_source}
use Rattle.flow_code.specs.Lawful.{source_reads, IsOwnSlot, IsOperationOf, html, replace, same, any, cut_from, cut_out, part_from, part_out, lower, upper, first, trim, trim_left, trim_right, breaks, url, raw_url, slashes, IsSplittingOf, piece, part, strlen, count, intval, intdiv, is_array, is_string}
use Rattle.flow_runs.proofs.FitCodes.{AllOwn, SourceIs}

from_is : (o : Option ℤ) (x y : ℕ) → IsOperationOf (cutting_from o) x builtin.Substr (x ∷ y ∷ [])
from_is None x y = part_from x y
from_is (Some z) x y = by_test (is_small z)
  where
    by_test : (t : Bool) → IsOperationOf (if t then op.Cut z None else op.Factor) x builtin.Substr (x ∷ y ∷ [])
    by_test true = cut_from z x y
    by_test false = part_from x y

out_is : (o p : Option ℤ) (x y z : ℕ) → IsOperationOf (cutting_out o p) x builtin.Substr (x ∷ y ∷ z ∷ [])
out_is None p x y z = part_out x y z
out_is (Some a) None x y z = part_out x y z
out_is (Some a) (Some b) x y z = by_test (is_small a && is_small b)
  where
    by_test : (t : Bool) → IsOperationOf (if t then op.Cut a (Some b) else op.Factor) x builtin.Substr (x ∷ y ∷ z ∷ [])
    by_test true = cut_out a b x y z
    by_test false = part_out x y z

split_is : (e : PlainExpr) (x y : ℕ) → IsSplittingOf (splitting e) y builtin.Explode (x ∷ y ∷ [])
unfolding splitting
split_is (text_expr sep) x y = piece sep x y
split_is e x y = part x y

replace_is : (d e : PlainExpr) (x y z : ℕ) → IsOperationOf (replacement d e) z builtin.StrReplace (x ∷ y ∷ z ∷ [])
unfolding replacement
replace_is (text_expr []) (text_expr with) x y z = same x y z
replace_is (text_expr (b ∷ search)) (text_expr with) x y z = replace (b ∷ search) with x y z
replace_is d e x y z = any x y z

one_is : (g : PlainFlowFunction) (b : Builtin) (x : ℕ) → (arity_of b).0 ≤ 1 → IsOwnSlot g x → SourceIs g (source_of_one b x)
unfolding source_of_one source_reads
one_is g builtin.Htmlspecialchars x h o = ((o, (o, tt)), html x)
one_is g builtin.StrReplace x h o = absurd (omega (arith, h))
one_is g builtin.Substr x h o = absurd (omega (arith, h))
one_is g builtin.Strtolower x h o = ((o, (o, tt)), lower x)
one_is g builtin.Strtoupper x h o = ((o, (o, tt)), upper x)
one_is g builtin.Ucfirst x h o = ((o, (o, tt)), first x)
one_is g builtin.Trim x h o = ((o, (o, tt)), trim x)
one_is g builtin.Ltrim x h o = ((o, (o, tt)), trim_left x)
one_is g builtin.Rtrim x h o = ((o, (o, tt)), trim_right x)
one_is g builtin.Nl2br x h o = ((o, (o, tt)), breaks x)
one_is g builtin.Urlencode x h o = ((o, (o, tt)), url x)
one_is g builtin.Rawurlencode x h o = ((o, (o, tt)), raw_url x)
one_is g builtin.Addslashes x h o = ((o, (o, tt)), slashes x)
one_is g builtin.Explode x h o = absurd (omega (arith, h))
one_is g builtin.Implode x h o = absurd (omega (arith, h))
one_is g builtin.StrRepeat x h o = absurd (omega (arith, h))
one_is g builtin.Strlen x h o = ((o, tt), strlen x)
one_is g builtin.Count x h o = ((o, tt), count x)
one_is g builtin.Intval x h o = ((o, tt), intval x)
one_is g builtin.Intdiv x h o = absurd (omega (arith, h))
one_is g builtin.Strval x h o = ((o, tt), tt)
one_is g builtin.IsArray x h o = ((o, tt), is_array x)
one_is g builtin.IsString x h o = ((o, tt), is_string x)

two_is : (g : PlainFlowFunction) (b : Builtin) (d e : PlainExpr) (x y : ℕ) → (arity_of b).0 ≤ 2 → 2 ≤ (arity_of b).1 → IsOwnSlot g x → IsOwnSlot g y → SourceIs g (source_of_two b d e x y)
unfolding source_of_two source_reads
two_is g builtin.Htmlspecialchars d e x y h k o p = absurd (omega (arith, k))
two_is g builtin.StrReplace d e x y h k o p = absurd (omega (arith, h))
two_is g builtin.Substr d e x y h k o p = ((o, (o, (p, tt))), from_is (literal_integer e) x y)
two_is g builtin.Strtolower d e x y h k o p = absurd (omega (arith, k))
two_is g builtin.Strtoupper d e x y h k o p = absurd (omega (arith, k))
two_is g builtin.Ucfirst d e x y h k o p = absurd (omega (arith, k))
two_is g builtin.Trim d e x y h k o p = absurd (omega (arith, k))
two_is g builtin.Ltrim d e x y h k o p = absurd (omega (arith, k))
two_is g builtin.Rtrim d e x y h k o p = absurd (omega (arith, k))
two_is g builtin.Nl2br d e x y h k o p = absurd (omega (arith, k))
two_is g builtin.Urlencode d e x y h k o p = absurd (omega (arith, k))
two_is g builtin.Rawurlencode d e x y h k o p = absurd (omega (arith, k))
two_is g builtin.Addslashes d e x y h k o p = absurd (omega (arith, k))
two_is g builtin.Explode d e x y h k o p = ((p, (o, (p, tt))), split_is d x y)
two_is g builtin.Implode d e x y h k o p = ((o, (p, (o, (p, tt)))), (refl, refl))
two_is g builtin.StrRepeat d e x y h k o p = ((o, (o, (p, tt))), (refl, (y, refl)))
two_is g builtin.Strlen d e x y h k o p = absurd (omega (arith, k))
two_is g builtin.Count d e x y h k o p = absurd (omega (arith, k))
two_is g builtin.Intval d e x y h k o p = absurd (omega (arith, k))
two_is g builtin.Intdiv d e x y h k o p = ((o, (p, tt)), intdiv x y)
two_is g builtin.Strval d e x y h k o p = absurd (omega (arith, k))
two_is g builtin.IsArray d e x y h k o p = absurd (omega (arith, k))
two_is g builtin.IsString d e x y h k o p = absurd (omega (arith, k))

three_is : (g : PlainFlowFunction) (b : Builtin) (c d e : PlainExpr) (x y z : ℕ) → 3 ≤ (arity_of b).1 → IsOwnSlot g x → IsOwnSlot g y → IsOwnSlot g z → SourceIs g (source_of_three b c d e x y z)
unfolding source_of_three source_reads
three_is g builtin.Htmlspecialchars c d e x y z k o p q = absurd (omega (arith, k))
three_is g builtin.StrReplace c d e x y z k o p q = ((q, (o, (p, (q, tt)))), replace_is c d x y z)
three_is g builtin.Substr c d e x y z k o p q = ((o, (o, (p, (q, tt)))), out_is (literal_integer d) (literal_integer e) x y z)
three_is g builtin.Strtolower c d e x y z k o p q = absurd (omega (arith, k))
three_is g builtin.Strtoupper c d e x y z k o p q = absurd (omega (arith, k))
three_is g builtin.Ucfirst c d e x y z k o p q = absurd (omega (arith, k))
three_is g builtin.Trim c d e x y z k o p q = absurd (omega (arith, k))
three_is g builtin.Ltrim c d e x y z k o p q = absurd (omega (arith, k))
three_is g builtin.Rtrim c d e x y z k o p q = absurd (omega (arith, k))
three_is g builtin.Nl2br c d e x y z k o p q = absurd (omega (arith, k))
three_is g builtin.Urlencode c d e x y z k o p q = absurd (omega (arith, k))
three_is g builtin.Rawurlencode c d e x y z k o p q = absurd (omega (arith, k))
three_is g builtin.Addslashes c d e x y z k o p q = absurd (omega (arith, k))
three_is g builtin.Explode c d e x y z k o p q = absurd (omega (arith, k))
three_is g builtin.Implode c d e x y z k o p q = absurd (omega (arith, k))
three_is g builtin.StrRepeat c d e x y z k o p q = absurd (omega (arith, k))
three_is g builtin.Strlen c d e x y z k o p q = absurd (omega (arith, k))
three_is g builtin.Count c d e x y z k o p q = absurd (omega (arith, k))
three_is g builtin.Intval c d e x y z k o p q = absurd (omega (arith, k))
three_is g builtin.Intdiv c d e x y z k o p q = absurd (omega (arith, k))
three_is g builtin.Strval c d e x y z k o p q = absurd (omega (arith, k))
three_is g builtin.IsArray c d e x y z k o p q = absurd (omega (arith, k))
three_is g builtin.IsString c d e x y z k o p q = absurd (omega (arith, k))

arity_some : (b : Builtin) → 1 ≤ (arity_of b).0
arity_some builtin.Htmlspecialchars = omega arith
arity_some builtin.StrReplace = omega arith
arity_some builtin.Substr = omega arith
arity_some builtin.Strtolower = omega arith
arity_some builtin.Strtoupper = omega arith
arity_some builtin.Ucfirst = omega arith
arity_some builtin.Trim = omega arith
arity_some builtin.Ltrim = omega arith
arity_some builtin.Rtrim = omega arith
arity_some builtin.Nl2br = omega arith
arity_some builtin.Urlencode = omega arith
arity_some builtin.Rawurlencode = omega arith
arity_some builtin.Addslashes = omega arith
arity_some builtin.Explode = omega arith
arity_some builtin.Implode = omega arith
arity_some builtin.StrRepeat = omega arith
arity_some builtin.Strlen = omega arith
arity_some builtin.Count = omega arith
arity_some builtin.Intval = omega arith
arity_some builtin.Intdiv = omega arith
arity_some builtin.Strval = omega arith
arity_some builtin.IsArray = omega arith
arity_some builtin.IsString = omega arith

arity_few : (b : Builtin) → (arity_of b).1 ≤ 3
arity_few builtin.Htmlspecialchars = omega arith
arity_few builtin.StrReplace = omega arith
arity_few builtin.Substr = omega arith
arity_few builtin.Strtolower = omega arith
arity_few builtin.Strtoupper = omega arith
arity_few builtin.Ucfirst = omega arith
arity_few builtin.Trim = omega arith
arity_few builtin.Ltrim = omega arith
arity_few builtin.Rtrim = omega arith
arity_few builtin.Nl2br = omega arith
arity_few builtin.Urlencode = omega arith
arity_few builtin.Rawurlencode = omega arith
arity_few builtin.Addslashes = omega arith
arity_few builtin.Explode = omega arith
arity_few builtin.Implode = omega arith
arity_few builtin.StrRepeat = omega arith
arity_few builtin.Strlen = omega arith
arity_few builtin.Count = omega arith
arity_few builtin.Intval = omega arith
arity_few builtin.Intdiv = omega arith
arity_few builtin.Strval = omega arith
arity_few builtin.IsArray = omega arith
arity_few builtin.IsString = omega arith

pub call_is : (g : PlainFlowFunction) (b : Builtin) (trees : PlainExprs) (xs : List ℕ) → length xs ≡ number_of trees → (arity_of b).0 ≤ number_of trees → number_of trees ≤ (arity_of b).1 → AllOwn g xs → SourceIs g (builtin_source b trees xs)
unfolding builtin_source number_of
call_is g b no_exprs xs e h k o = let some = arity_some b in absurd (omega (arith, h, some))
call_is g b (more_exprs d no_exprs) [] e h k o = absurd (omega (arith, e))
call_is g b (more_exprs d no_exprs) (x ∷ []) e h k o = one_is g b x h o.0
call_is g b (more_exprs d no_exprs) (x ∷ (y ∷ xs)) e h k o = absurd (omega (arith, e))
call_is g b (more_exprs d (more_exprs f no_exprs)) [] e h k o = absurd (omega (arith, e))
call_is g b (more_exprs d (more_exprs f no_exprs)) (x ∷ []) e h k o = absurd (omega (arith, e))
call_is g b (more_exprs d (more_exprs f no_exprs)) (x ∷ (y ∷ [])) e h k o = two_is g b d f x y h k o.0 (o.1).0
call_is g b (more_exprs d (more_exprs f no_exprs)) (x ∷ (y ∷ (z ∷ xs))) e h k o = absurd (omega (arith, e))
call_is g b (more_exprs c (more_exprs d (more_exprs f no_exprs))) [] e h k o = absurd (omega (arith, e))
call_is g b (more_exprs c (more_exprs d (more_exprs f no_exprs))) (x ∷ []) e h k o = absurd (omega (arith, e))
call_is g b (more_exprs c (more_exprs d (more_exprs f no_exprs))) (x ∷ (y ∷ [])) e h k o = absurd (omega (arith, e))
call_is g b (more_exprs c (more_exprs d (more_exprs f no_exprs))) (x ∷ (y ∷ (z ∷ []))) e h k o = three_is g b c d f x y z k o.0 (o.1).0 ((o.1).1).0
call_is g b (more_exprs c (more_exprs d (more_exprs f no_exprs))) (x ∷ (y ∷ (z ∷ (u ∷ xs)))) e h k o = absurd (omega (arith, e))
call_is g b (more_exprs c (more_exprs d (more_exprs f (more_exprs i trees)))) xs e h k o = let few = arity_few b in absurd (omega (arith, k, few))
