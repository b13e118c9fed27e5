-- A call of one of PHP's functions gives the same, however the analysis takes it.
use Rattle.std.proofs.Common.{◌≡◌, ℕ, ℤ, List, [], ◌∷◌, refl, sym, ap, ap₂, map, Bool, true, false, Option, Some, None}
use Rattle.std.specs.Prelude.{if◌then◌else◌, ◌&&◌}
use Rattle.php_syntax.specs.Trees.{PlainExpr, int_expr, text_expr, neg_expr, PlainExprs, no_exprs, more_exprs}
use Rattle.plain_values.specs.Plain.{Plain, int}
use Rattle.builtin_meaning.specs.declared.builtin.Builtin.{Builtin}
use Rattle.builtin_meaning.specs.declared.builtin.Builtin.TheVariants as builtin
use Rattle.builtin_meaning.specs.Values.{builtin_value}
use Rattle.op_system.specs.declared.op.Op.TheVariants as op
use Rattle.script_meaning.specs.Requests.{PlainRequest}
use Rattle.flow_code.specs.Builtins.{literal_integer, is_small, cutting_from, cutting_out, splitting, replacement, source_of_one, source_of_two, source_of_three, builtin_source}
use Rattle.flow_code.specs.Runs.{Slots, source_value, worked, concatenated, given}
use Rattle.flow_runs.proofs.Literals.{Literal, Literals}

-- what an integer literal is
abbrev Is_integer : Option ℤ → Plain → Type 0
Is_integer None v = Unit {0}
Is_integer (Some z) v = v ≡ int z

integer_literal : (e : PlainExpr) (v : Plain) → Literal e v → Is_integer (literal_integer e) v
unfolding literal_integer
integer_literal (int_expr z) v h = h
integer_literal (neg_expr (int_expr z)) v h = h
integer_literal e v h = tt

from_given : (o : Option ℤ) (a b : Plain) → Is_integer o b → given (cutting_from o) (a ∷ b ∷ []) ≡ a ∷ b ∷ []
unfolding given
from_given None a b h = refl
from_given (Some z) a b h = by_test (is_small z)
  where
    by_test : (t : Bool) → given (if t then op.Cut z None else op.Factor) (a ∷ b ∷ []) ≡ a ∷ b ∷ []
    by_test true = ap (λ v. a ∷ v ∷ []) (sym h)
    by_test false = refl

out_given : (o p : Option ℤ) (a b c : Plain) → Is_integer o b → Is_integer p c → given (cutting_out o p) (a ∷ b ∷ c ∷ []) ≡ a ∷ b ∷ c ∷ []
unfolding given
out_given None p a b c h k = refl
out_given (Some z) None a b c h k = refl
out_given (Some z) (Some y) a b c h k = by_test (is_small z && is_small y)
  where
    by_test : (t : Bool) → given (if t then op.Cut z (Some y) else op.Factor) (a ∷ b ∷ c ∷ []) ≡ a ∷ b ∷ c ∷ []
    by_test true = ap₂ (λ u v. a ∷ u ∷ v ∷ []) (sym h) (sym k)
    by_test false = refl

split_given : (e : PlainExpr) (a b : Plain) → Literal e a → given (splitting e) (a ∷ b ∷ []) ≡ a ∷ b ∷ []
unfolding splitting given
split_given (text_expr sep) a b h = ap (λ v. v ∷ b ∷ []) (sym h)
split_given e a b h = refl

replace_given : (d e : PlainExpr) (a b c : Plain) → Literal d a → Literal e b → given (replacement d e) (a ∷ b ∷ c ∷ []) ≡ a ∷ b ∷ c ∷ []
unfolding replacement given
replace_given (text_expr []) (text_expr with) a b c h k = ap (λ v. v ∷ b ∷ c ∷ []) (sym h)
replace_given (text_expr (x ∷ search)) (text_expr with) a b c h k = ap₂ (λ u v. u ∷ v ∷ c ∷ []) (sym h) (sym k)
replace_given d e a b c h k = refl

one_value : (r : PlainRequest) (f : Slots) (b : Builtin) (x : ℕ) → source_value r f (source_of_one b x) ≡ builtin_value b (f x ∷ [])
unfolding source_value source_of_one worked concatenated given
one_value r f builtin.Htmlspecialchars x = refl
one_value r f builtin.StrReplace x = refl
one_value r f builtin.Substr x = refl
one_value r f builtin.Strtolower x = refl
one_value r f builtin.Strtoupper x = refl
one_value r f builtin.Ucfirst x = refl
one_value r f builtin.Trim x = refl
one_value r f builtin.Ltrim x = refl
one_value r f builtin.Rtrim x = refl
one_value r f builtin.Nl2br x = refl
one_value r f builtin.Urlencode x = refl
one_value r f builtin.Rawurlencode x = refl
one_value r f builtin.Addslashes x = refl
one_value r f builtin.Explode x = refl
one_value r f builtin.Implode x = refl
one_value r f builtin.StrRepeat x = refl
one_value r f builtin.Strlen x = refl
one_value r f builtin.Count x = refl
one_value r f builtin.Intval x = refl
one_value r f builtin.Intdiv x = refl
one_value r f builtin.Strval x = refl
one_value r f builtin.IsArray x = refl
one_value r f builtin.IsString x = refl

two_value : (r : PlainRequest) (f : Slots) (b : Builtin) (d e : PlainExpr) (x y : ℕ) → Literal d (f x) → Literal e (f y) → source_value r f (source_of_two b d e x y) ≡ builtin_value b (f x ∷ f y ∷ [])
unfolding source_value source_of_two worked
two_value r f builtin.Htmlspecialchars d e x y hd he = refl
two_value r f builtin.StrReplace d e x y hd he = refl
two_value r f builtin.Substr d e x y hd he = ap (builtin_value builtin.Substr) (from_given (literal_integer e) (f x) (f y) (integer_literal e (f y) he))
two_value r f builtin.Strtolower d e x y hd he = refl
two_value r f builtin.Strtoupper d e x y hd he = refl
two_value r f builtin.Ucfirst d e x y hd he = refl
two_value r f builtin.Trim d e x y hd he = refl
two_value r f builtin.Ltrim d e x y hd he = refl
two_value r f builtin.Rtrim d e x y hd he = refl
two_value r f builtin.Nl2br d e x y hd he = refl
two_value r f builtin.Urlencode d e x y hd he = refl
two_value r f builtin.Rawurlencode d e x y hd he = refl
two_value r f builtin.Addslashes d e x y hd he = refl
two_value r f builtin.Explode d e x y hd he = ap (builtin_value builtin.Explode) (split_given d (f x) (f y) hd)
two_value r f builtin.Implode d e x y hd he = refl
two_value r f builtin.StrRepeat d e x y hd he = refl
two_value r f builtin.Strlen d e x y hd he = refl
two_value r f builtin.Count d e x y hd he = refl
two_value r f builtin.Intval d e x y hd he = refl
two_value r f builtin.Intdiv d e x y hd he = refl
two_value r f builtin.Strval d e x y hd he = refl
two_value r f builtin.IsArray d e x y hd he = refl
two_value r f builtin.IsString d e x y hd he = refl

three_value : (r : PlainRequest) (f : Slots) (b : Builtin) (c d e : PlainExpr) (x y z : ℕ) → Literal c (f x) → Literal d (f y) → Literal e (f z) → source_value r f (source_of_three b c d e x y z) ≡ builtin_value b (f x ∷ f y ∷ f z ∷ [])
unfolding source_value source_of_three worked
three_value r f builtin.Htmlspecialchars c d e x y z hc hd he = refl
three_value r f builtin.StrReplace c d e x y z hc hd he = ap (builtin_value builtin.StrReplace) (replace_given c d (f x) (f y) (f z) hc hd)
three_value r f builtin.Substr c d e x y z hc hd he = ap (builtin_value builtin.Substr) (out_given (literal_integer d) (literal_integer e) (f x) (f y) (f z) (integer_literal d (f y) hd) (integer_literal e (f z) he))
three_value r f builtin.Strtolower c d e x y z hc hd he = refl
three_value r f builtin.Strtoupper c d e x y z hc hd he = refl
three_value r f builtin.Ucfirst c d e x y z hc hd he = refl
three_value r f builtin.Trim c d e x y z hc hd he = refl
three_value r f builtin.Ltrim c d e x y z hc hd he = refl
three_value r f builtin.Rtrim c d e x y z hc hd he = refl
three_value r f builtin.Nl2br c d e x y z hc hd he = refl
three_value r f builtin.Urlencode c d e x y z hc hd he = refl
three_value r f builtin.Rawurlencode c d e x y z hc hd he = refl
three_value r f builtin.Addslashes c d e x y z hc hd he = refl
three_value r f builtin.Explode c d e x y z hc hd he = refl
three_value r f builtin.Implode c d e x y z hc hd he = refl
three_value r f builtin.StrRepeat c d e x y z hc hd he = refl
three_value r f builtin.Strlen c d e x y z hc hd he = refl
three_value r f builtin.Count c d e x y z hc hd he = refl
three_value r f builtin.Intval c d e x y z hc hd he = refl
three_value r f builtin.Intdiv c d e x y z hc hd he = refl
three_value r f builtin.Strval c d e x y z hc hd he = refl
three_value r f builtin.IsArray c d e x y z hc hd he = refl
three_value r f builtin.IsString c d e x y z hc hd he = refl

pub call_value : (r : PlainRequest) (f : Slots) (b : Builtin) (trees : PlainExprs) (xs : List ℕ) → Literals trees (map f xs) → source_value r f (builtin_source b trees xs) ≡ builtin_value b (map f xs)
unfolding source_value builtin_source worked
call_value r f b (more_exprs d no_exprs) (x ∷ []) h = one_value r f b x
call_value r f b (more_exprs d (more_exprs e no_exprs)) (x ∷ y ∷ []) h = two_value r f b d e x y h.0 (h.1).0
call_value r f b (more_exprs c (more_exprs d (more_exprs e no_exprs))) (x ∷ y ∷ z ∷ []) h = three_value r f b c d e x y z h.0 (h.1).0 ((h.1).1).0
call_value r f b trees xs h = refl
