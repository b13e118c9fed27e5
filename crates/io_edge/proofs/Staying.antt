-- What is told goes on to be told, over calls one behind another.
use Rattle.std.proofs.Common.{◌≡◌, ◌⊎◌, inl, inr, List, ℕ, Option, refl, sym, ◌∙◌, subst}
use Rattle.io_edge.specs.Told.{Told, Content, unasked, untold, known, Tells, Allows, Stays}

-- where nothing changes, what is told stays
pub stays_same : (before now : Content) → now ≡ before → Stays before now
stays_same before now same name = inr (subst (λ (c : Content). c name ≡ before name) (sym same) refl)

-- what stays in each of two calls stays in both
pub stays_on : (first second third : Content) → Stays first second → Stays second third → Stays first third
stays_on first second third before now name = elim (before name) [
  | inl none ↦ inl none
  | inr same ↦ elim (now name) [ inl none ↦ inl (sym same ∙ none) | inr still ↦ inr (still ∙ same) ]
]

-- a name that was answered goes on to be so
pub tells_stay : (before now : Content) (name : List ℕ) (file : Option (List ℕ)) → Stays before now → Tells (before name) file → Tells (now name) file
tells_stay before now name file stays told = elim (stays name) [
  | inl none ↦ absurd (subst (λ (t : Told). Tells t file) none told)
  | inr same ↦ subst (λ (t : Told). Tells t file) (sym same) told
]

-- nothing that is told speaks against an answer that came
pub tells_allow : (told : Told) (file : Option (List ℕ)) → Tells told file → Allows told file
tells_allow unasked file none = tt
tells_allow untold file free = tt
tells_allow (known told) file same = same
