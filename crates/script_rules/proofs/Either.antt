-- Each script of PHP stands for something, or a form is left out of it.
use Rattle.std.proofs.Common.{◌≡◌, List, refl, subst, Option, Some, None, inl, inr}
use Rattle.std.specs.Prelude.{◌⊎◌}
use Rattle.lr_tables.specs.Values.{kinds, Has, HasValue}
use Rattle.php_syntax.specs.Tokens.{PlainToken}
use Rattle.php_grammar.specs.Php.{php}
use Rattle.php_trees.specs.Values.{Value}
use Rattle.script_rules.specs.Parts.{LeftOut, Part, judged}
use Rattle.script_rules.specs.Refused.{IsEither}
use Rattle.script_rules.proofs.Judged.{total}
use Rattle.script_rules.proofs.Whole.{something_left_out}
use Rattle.script_rules.proofs.High.{no_kinds}

either_of : (tokens : List PlainToken) (whole : Part) → HasValue php.grammar judged tokens whole → (o : Option Value) → whole.value ≡ o
    → ((v : Value) × (whole.value ≡ Some v)) ⊎ ((found : LeftOut) × (whole.left_out ≡ Some found))
either_of tokens whole has None e = let s = something_left_out has e in inr (s.found, s.is)
either_of tokens whole has (Some v) e = inl (v, e)

pub is_either : IsEither
is_either tokens es d =
    let t = total php.grammar d tokens refl in
    let has = subst (λ (ts : List PlainToken). Has php.grammar judged 0 php.grammar.start tokens ts t.part) (no_kinds t.left t.are) t.has in
    (t.part, has, either_of tokens t.part has t.part.value refl)
