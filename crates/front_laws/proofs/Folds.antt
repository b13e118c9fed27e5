-- What a machine that may stop comes to behind a text, where it does not stop.
use Rattle.std.proofs.Common.{◌≡◌, ℕ, Bool, true, false, List, [], ◌∷◌, ◌++◌, Option, Some, None, refl, sym, ◌∙◌, ap}
use Rattle.std.specs.Prelude.{if◌then◌else◌}
use Rattle.std.specs.List.{list_all}
use Rattle.std.specs.Option.{option_and_then}
use Rattle.std.proofs.lemmas.Bool.{and_parts}

-- the state behind the text
abbrev pub folded : {B : Type 0} → (B → ℕ → Option B) → B → List ℕ → Option B
folded step b [] = Some b
folded step b (c ∷ cs) = option_and_then (λ g. folded step g cs) (step b c)

-- where there is one, it is this
pub record Folds {B : Type 0} (step : B → ℕ → Option B) (b : B) (text : List ℕ) (wanted : B) : Type 0 where
  pub is : (x : B) → folded step b text ≡ Some x → x ≡ wanted

-- behind one step
pub record From {B : Type 0} (step : B → ℕ → Option B) (o : Option B) (text : List ℕ) (wanted : B) : Type 0 where
  pub is : (x : B) → option_and_then (λ g. folded step g text) o ≡ Some x → x ≡ wanted

pub same : {B : Type 0} (x y : B) → Some x ≡ Some y → x ≡ y
same x y e = cc

pub here : {B : Type 0} {step : B → ℕ → Option B} {b w : B} → b ≡ w → Folds step b [] w
here {B} {step} {b} {w} e = record { is = λ x q. sym (same b x q) ∙ e }

pub nowhere : {B : Type 0} {step : B → ℕ → Option B} {text : List ℕ} {w : B} → From step None text w
nowhere {B} {step} {text} {w} = record { is = λ x q. cc }

pub on : {B : Type 0} {step : B → ℕ → Option B} {b : B} {c : ℕ} {cs : List ℕ} {w : B} → From step (step b c) cs w → Folds step b (c ∷ cs) w
on f = record { is = f.is }

pub somewhere : {B : Type 0} {step : B → ℕ → Option B} {g : B} {text : List ℕ} {w : B} → Folds step g text w → From step (Some g) text w
somewhere f = record { is = f.is }

pub either : {B : Type 0} {step : B → ℕ → Option B} {text : List ℕ} {w : B} (b : Bool) (x y : Option B) → (b ≡ true → From step x text w) → (b ≡ false → From step y text w) → From step (if b then x else y) text w
either true x y p q = p refl
either false x y p q = q refl

-- behind the first step, where it is known
pub behind_step : {B : Type 0} {step : B → ℕ → Option B} {b : B} {c : ℕ} {cs : List ℕ} {w : B} (g : B) → step b c ≡ Some g → Folds step b (c ∷ cs) w → Folds step g cs w
behind_step {B} {step} {b} {c} {cs} {w} g e f = record { is = λ x q. f.is x (ap (option_and_then (λ h. folded step h cs)) e ∙ q) }

-- where the state is computed
pub computed : {B : Type 0} {step : B → ℕ → Option B} {b : B} {text : List ℕ} (w : B) → folded step b text ≡ Some w → Folds step b text w
computed w e = record { is = λ x q. same x w (sym q ∙ e) }

folded_append : {B : Type 0} (step : B → ℕ → Option B) (a rest : List ℕ) (b : B) → folded step b (a ++ rest) ≡ option_and_then (λ g. folded step g rest) (folded step b a)
folded_append step [] rest b = refl
folded_append {B} step (c ∷ cs) rest b = at (step b c) (λ g. folded_append step cs rest g)
  where
    at : (o : Option B) → ((g : B) → folded step g (cs ++ rest) ≡ option_and_then (λ h. folded step h rest) (folded step g cs))
        → option_and_then (λ g. folded step g (cs ++ rest)) o ≡ option_and_then (λ h. folded step h rest) (option_and_then (λ g. folded step g cs) o)
    at None ih = refl
    at (Some g) ih = ih g

-- one text and then another
pub onto : {B : Type 0} {step : B → ℕ → Option B} {b : B} {a rest : List ℕ} {w : B} (mid : B) → Folds step b a mid → Folds step mid rest w → Folds step b (a ++ rest) w
onto {B} {step} {b} {a} {rest} {w} mid f g = record { is = λ x q. at (folded step b a) refl x (sym (folded_append step a rest b) ∙ q) }
  where
    at : (o : Option B) → folded step b a ≡ o → (x : B) → option_and_then (λ h. folded step h rest) o ≡ Some x → x ≡ w
    at None e x q = cc
    at (Some m) e x q = g.is x (ap (λ (z : B). folded step z rest) (sym (f.is m e)) ∙ q)

-- One machine inside another.

-- what a step of the outer machine was inside
pub record Led {B C : Type 0} (step : B → ℕ → Option B) (wrap : B → C) (b : B) (c : ℕ) (z : C) : Type 0 where
  pub g : B
  pub led : step b c ≡ Some g
  pub is : z ≡ wrap g

abbrev pub Embeds : {B C : Type 0} → (B → ℕ → Option B) → (C → ℕ → Option C) → (B → C) → (ℕ → Bool) → Type 0
Embeds {B} {C} inner outer wrap test = (b : B) (c : ℕ) (z : C) → test c ≡ true → outer (wrap b) c ≡ Some z → Led inner wrap b c z

record Inner {B C : Type 0} (step : B → ℕ → Option B) (wrap : B → C) (b : B) (text : List ℕ) (z : C) : Type 0 where
  x : B
  folds : folded step b text ≡ Some x
  is : z ≡ wrap x

inner_folds : {B C : Type 0} (inner : B → ℕ → Option B) (outer : C → ℕ → Option C) (wrap : B → C) (test : ℕ → Bool) → Embeds inner outer wrap test
    → (text : List ℕ) (b : B) (z : C) → list_all test text ≡ true → folded outer (wrap b) text ≡ Some z → Inner inner wrap b text z
inner_folds inner outer wrap test f [] b z h e = record { x = b; folds = refl; is = sym (same (wrap b) z e) }
inner_folds {B} {C} inner outer wrap test f (c ∷ cs) b z h e = at (outer (wrap b) c) refl e (λ g q. inner_folds inner outer wrap test f cs g z (and_parts (test c) (list_all test cs) h).1 q)
  where
    at : (o : Option C) → outer (wrap b) c ≡ o → option_and_then (λ g. folded outer g cs) o ≡ Some z → ((g : B) → folded outer (wrap g) cs ≡ Some z → Inner inner wrap g cs z) → Inner inner wrap b (c ∷ cs) z
    at None q e ih = cc
    at (Some y) q e ih =
        let l = f b c y (and_parts (test c) (list_all test cs) h).0 q in
        let i = ih l.g (ap (λ (v : C). folded outer v cs) (sym l.is) ∙ e) in
        record { x = i.x; folds = ap (option_and_then (λ g. folded inner g cs)) l.led ∙ i.folds; is = i.is }

pub embedded : {B C : Type 0} {inner : B → ℕ → Option B} {outer : C → ℕ → Option C} (wrap : B → C) (test : ℕ → Bool) → Embeds inner outer wrap test
    → {text : List ℕ} {b w : B} → list_all test text ≡ true → Folds inner b text w → Folds outer (wrap b) text (wrap w)
embedded {B} {C} {inner} {outer} wrap test f {text} {b} {w} h g = record {
  is = λ z q.
      let i = inner_folds inner outer wrap test f text b z h q in
      i.is ∙ ap wrap (g.is i.x i.folds);
}

-- of any symbol
abbrev pub any_symbol : ℕ → Bool
any_symbol c = true

pub all_any : (text : List ℕ) → list_all any_symbol text ≡ true
all_any [] = refl
all_any (c ∷ cs) = all_any cs
