-- Both halves of a test, and the names that tests let through.
use Rattle.std.proofs.Common.{◌≡◌, ℕ, Bool, true, false, not, ◌&&◌, List, [], ◌∷◌, Option, Some, None, refl, ap}
use Rattle.std.specs.Prelude.{is_some}
use Rattle.std.specs.List.{list_all}
use Rattle.std.specs.Str.{str_to_ascii_lowercase}
use Rattle.text_base.specs.Exactness.{exact_bytes}
use Rattle.lexical_grammar.specs.Characters.{is_name_start, is_name_byte}
use Rattle.php_syntax.specs.Trees.{var_expr}
use Rattle.script_grammar.specs.Terminals.{same_bytes, keyword_of}
use Rattle.script_grammar.specs.Expressions.{request_or, variable_tree}
use Rattle.script_grammar.specs.Rules.{request_named, is_request}
use Rattle.lexical_grammar.specs.Spelled.{IsName}
use Rattle.spellable.specs.Spellable.{is_name, is_call_name, is_own_name}

pub halves : (a b : Bool) → (a && b) ≡ true → (a ≡ true) × (b ≡ true)
halves true true h = (refl, refl)
halves true false h = absurd (cc)
halves false b h = absurd (cc)

pub not_so : (a : Bool) → not a ≡ true → a ≡ false
not_so false h = refl
not_so true h = absurd (cc)

none_of : {A : Type 0} (o : Option A) → is_some o ≡ false → o ≡ None
none_of None h = refl
none_of (Some a) h = absurd (cc)

pub name_is : (x : List ℕ) → is_name x ≡ true → IsName x
name_is [] h = cc
name_is (b ∷ more) h = halves (is_name_start b) (list_all is_name_byte more) h

pub own_name_is : (x : List ℕ) → is_own_name x ≡ true → IsName x
own_name_is x h = name_is x (halves (is_name x) (not (is_request x)) h).0

-- a variable of its own name is no variable of the request
pub own_variable : (x : List ℕ) → is_own_name x ≡ true → variable_tree x ≡ var_expr x
own_variable x h = ap (λ o. request_or o x) (none_of (request_named x) (not_so (is_request x) (halves (is_name x) (not (is_request x)) h).1))

pub record IsCallName (f : List ℕ) : Type 0 where
  pub is_name : IsName f
  pub lowered : str_to_ascii_lowercase f ≡ f
  pub no_keyword : keyword_of f ≡ None

pub call_name_is : (f : List ℕ) → is_call_name f ≡ true → IsCallName f
call_name_is f h =
    let one = halves (is_name f) (same_bytes (str_to_ascii_lowercase f) f && not (is_some (keyword_of f))) h
    in let two = halves (same_bytes (str_to_ascii_lowercase f) f) (not (is_some (keyword_of f))) one.1
    in record { is_name = name_is f one.0; lowered = exact_bytes (str_to_ascii_lowercase f) f two.0; no_keyword = none_of (keyword_of f) (not_so (is_some (keyword_of f)) two.1) }
