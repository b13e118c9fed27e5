-- Parameter entities as entries of a map.
use Rattle.std.proofs.Common.{◌≡◌, ◌∙◌, ℕ, Bool, true, false, cond, List, [], ◌∷◌, ◌++◌, map, refl, sym, ap, arith, Option, Some, None}
use Rattle.std.specs.Prelude.{bytes_eq, if◌then◌else◌}
use Rattle.std.specs.Option.{option_copied, option_map}
use Rattle.std.specs.Map.{lookup}
use Rattle.std.proofs.lemmas.List.{map-append}
use Rattle.std.specs.Borrow.{Bor}
use Rattle.indexmap.specs.IndexMap.{insert_entry}
use Rattle.dtd_texts.specs.Reading.{source_of}
use Rattle.dtd_entities.specs.declared.state.Source.{Source as CodeSource}
use Rattle.dtd_entities.specs.Positions.{parameter_of, plain_source, plain_found}

-- what a map finds is what the list of declarations says
pub source_is : (es : List (List ℕ × CodeSource)) (name : List ℕ) → source_of (map parameter_of es) name ≡ option_map plain_source (lookup (bytes_eq name) es)
source_is [] name = refl
source_is (e ∷ es) name = by (bytes_eq name e.0) refl (source_is es name) where
  by : (b : Bool) → bytes_eq name e.0 ≡ b → source_of (map parameter_of es) name ≡ option_map plain_source (lookup (bytes_eq name) es)
      → cond b (Some (plain_source e.1)) (source_of (map parameter_of es) name) ≡ option_map plain_source (cond b (Some e.1) (lookup (bytes_eq name) es))
  by true e' rest = refl
  by false e' rest = rest

copied : (r : Option (Bor CodeSource)) → plain_found r ≡ option_map plain_source (option_copied r)
copied None = refl
copied (Some s) = refl

pub found_is : (es : List (List ℕ × CodeSource)) (name : List ℕ) (r : Option (Bor CodeSource)) → option_copied r ≡ lookup (bytes_eq name) es → plain_found r ≡ source_of (map parameter_of es) name
found_is es name r e = copied r ∙ ap (option_map plain_source) e ∙ sym (source_is es name)

none_is : {A B : Type 0} (f : A → B) (o : Option A) → option_map f o ≡ None → o ≡ None
none_is f None e = refl
none_is f (Some x) e = absurd (grind arith)

-- a name that is new goes last
inserted : (es : List (List ℕ × CodeSource)) (name : List ℕ) (source : CodeSource) → lookup (bytes_eq name) es ≡ None → insert_entry bytes_eq es name source ≡ es ++ (name, source) ∷ []
inserted [] name source e = refl
inserted (p ∷ es) name source e = by (bytes_eq name p.0) e (λ h. inserted es name source h) where
  by : (b : Bool) → cond b (Some p.1) (lookup (bytes_eq name) es) ≡ None → (lookup (bytes_eq name) es ≡ None → insert_entry bytes_eq es name source ≡ es ++ (name, source) ∷ [])
      → cond b ((p.0, source) ∷ es) (p ∷ insert_entry bytes_eq es name source) ≡ p ∷ es ++ (name, source) ∷ []
  by true e' f = absurd (grind arith)
  by false e' f = ap (λ xs. p ∷ xs) (f e')

pub declared_new : (es now : List (List ℕ × CodeSource)) (name : List ℕ) (source : CodeSource) → source_of (map parameter_of es) name ≡ None → now ≡ insert_entry bytes_eq es name source
    → map parameter_of now ≡ map parameter_of es ++ parameter_of (name, source) ∷ []
declared_new es now name source e is =
    ap (map parameter_of) (is ∙ inserted es name source (none_is plain_source _ (sym (source_is es name) ∙ e))) ∙ map-append parameter_of es ((name, source) ∷ [])
