-- Variables written as pairs of a name and a value, and a value as its kind: by it a proof tells them apart.
use Rattle.std.specs.Prelude.{◌≡◌, ℕ, ℤ, Bool, List, ◌⊎◌, refl, Option, Some, None}
use Rattle.std.proofs.Common.{inl, inr}
use Rattle.std.specs.Coded.{Coded, code_by, coded×, coded⊎, coded_ℕ, coded_ℤ, coded_bool, coded_list, coded_option}
use Rattle.plain_values.specs.Plain.{Plain, Pairs, null, flag, int, text, array}
use Rattle.php_values.specs.PlainCode.{pairs_code}
use Rattle.script_meaning.specs.Runs.{Variables}

-- null, or a truth value, an integer, a text or an array
abbrev pub Kind : Type 0
Kind = Option (Bool ⊎ (ℤ ⊎ (List ℕ ⊎ Pairs)))

-- a value by its kind
abbrev pub kind_of : Plain → Kind
kind_of null = None
kind_of (flag b) = Some (inl b)
kind_of (int z) = Some (inr (inl z))
kind_of (text t) = Some (inr (inr (inl t)))
kind_of (array ps) = Some (inr (inr (inr ps)))

-- the value of a kind
abbrev pub of_kind : Kind → Plain
of_kind None = null
of_kind (Some (inl b)) = flag b
of_kind (Some (inr (inl z))) = int z
of_kind (Some (inr (inr (inl t)))) = text t
of_kind (Some (inr (inr (inr ps)))) = array ps

-- a value is told by its kind
pub back : (v : Plain) → of_kind (kind_of v) ≡ v
back null = refl
back (flag b) = refl
back (int z) = refl
back (text t) = refl
back (array ps) = refl

-- the code of values
abbrev pub plain_code : Coded Plain
plain_code = code_by Kind (coded_option (coded⊎ coded_bool (coded⊎ coded_ℤ (coded⊎ (coded_list coded_ℕ) pairs_code)))) kind_of of_kind back

-- the code of variables
abbrev pub variables_code : Coded Variables
variables_code = coded_list (coded× (coded_list coded_ℕ) plain_code)
