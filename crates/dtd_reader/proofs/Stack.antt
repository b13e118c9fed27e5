-- The open entities as entries of a map, the last one first.
use Rattle.std.proofs.Common.{◌≡◌, ◌∙◌, ℕ, Bool, true, false, ◌||◌, cond, List, [], ◌∷◌, ◌++◌, map, refl, sym, ap, arith, Option, Some}
use Rattle.std.specs.Prelude.{reverse, bytes_eq, is_some}
use Rattle.std.specs.List.{list_any}
use Rattle.std.specs.Map.{lookup}
use Rattle.std.proofs.lemmas.List.{reverse-append, map-append}
use Rattle.indexmap.specs.IndexMap.{insert_entry}
use Rattle.dtd_texts.specs.Reading.{is_among}
use Rattle.dtd_reader.specs.SoFar.{Frame, names}
use Rattle.dtd_reader.specs.declared.frames.Rest.{Rest}
use Rattle.dtd_reader.specs.Views.{frame_of}

abbrev pub stack_of : List (List ℕ × Rest) → List Frame
stack_of es = map frame_of (reverse es)

or_assoc : (a b c : Bool) → (a || (b || c)) ≡ ((a || b) || c)
or_assoc true b c = refl
or_assoc false b c = refl

or_false : (b : Bool) → (b || false) ≡ b
or_false true = refl
or_false false = refl

any_append : (p : List ℕ → Bool) (xs ys : List (List ℕ)) → list_any p (xs ++ ys) ≡ (list_any p xs || list_any p ys)
any_append p [] ys = refl
any_append p (x ∷ xs) ys = ap (λ b. p x || b) (any_append p xs ys) ∙ or_assoc (p x) (list_any p xs) (list_any p ys)

-- the last frame first
pub more_frames : (es : List (List ℕ × Rest)) (e : List ℕ × Rest) → stack_of (es ++ e ∷ []) ≡ frame_of e ∷ stack_of es
more_frames es e = ap (map frame_of) (reverse-append es (e ∷ []))

cons_frames : (e : List ℕ × Rest) (es : List (List ℕ × Rest)) → stack_of (e ∷ es) ≡ stack_of es ++ frame_of e ∷ []
cons_frames e es = ap (map frame_of) (reverse-append (e ∷ []) es) ∙ map-append frame_of (reverse es) (e ∷ [])

-- a name is open where the map has it
pub open_is : (es : List (List ℕ × Rest)) (name : List ℕ) → is_among (names (stack_of es)) name ≡ is_some (lookup (bytes_eq name) es)
open_is [] name = refl
open_is (e ∷ es) name =
    ap (λ fs. is_among (names fs) name) (cons_frames e es)
    ∙ ap (list_any (bytes_eq name)) (map-append (λ (g : Frame). g.name) (stack_of es) (frame_of e ∷ []))
    ∙ any_append (bytes_eq name) (names (stack_of es)) (e.0 ∷ [])
    ∙ ap (λ b. b || (bytes_eq name e.0 || false)) (open_is es name)
    ∙ by (bytes_eq name e.0) (is_some (lookup (bytes_eq name) es)) (lookup (bytes_eq name) es) refl where
      by : (b c : Bool) (o : Option Rest) → is_some o ≡ c → (c || (b || false)) ≡ is_some (cond b (Some e.1) o)
      by true c o f = or_true c where
        or_true : (x : Bool) → (x || true) ≡ true
        or_true true = refl
        or_true false = refl
      by false c o f = or_false c ∙ sym f

inserted : (es : List (List ℕ × Rest)) (name : List ℕ) (rest : Rest) → is_some (lookup (bytes_eq name) es) ≡ false → insert_entry bytes_eq es name rest ≡ es ++ (name, rest) ∷ []
inserted [] name rest e = refl
inserted (p ∷ es) name rest e = by (bytes_eq name p.0) e (λ h. inserted es name rest h) where
  by : (b : Bool) → is_some (cond b (Some p.1) (lookup (bytes_eq name) es)) ≡ false → (is_some (lookup (bytes_eq name) es) ≡ false → insert_entry bytes_eq es name rest ≡ es ++ (name, rest) ∷ [])
      → cond b ((p.0, rest) ∷ es) (p ∷ insert_entry bytes_eq es name rest) ≡ p ∷ es ++ (name, rest) ∷ []
  by true e' f = absurd (grind arith)
  by false e' f = ap (λ xs. p ∷ xs) (f e')

pub opened_stack : (es now : List (List ℕ × Rest)) (name : List ℕ) (rest : Rest) → is_among (names (stack_of es)) name ≡ false → now ≡ insert_entry bytes_eq es name rest
    → stack_of now ≡ frame_of (name, rest) ∷ stack_of es
opened_stack es now name rest shut is = ap stack_of (is ∙ inserted es name rest (sym (open_is es name) ∙ shut)) ∙ more_frames es (name, rest)
