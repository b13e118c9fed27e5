-- Declarations that say something are none of those that are refused.
use Rattle.std.proofs.Common.{rules, ◌≡◌, ◌∙◌, ℕ, zero, suc, ◌+◌, ◌<◌, ◌≤◌, Bool, true, false, not, ◌&&◌, ◌||◌, List, [], ◌∷◌, ◌++◌, length, get_or, map, refl, sym, ap, subst, arith}
use Rattle.std.specs.Prelude.{bytes_eq}
use Rattle.std.specs.List.{list_any}
use Rattle.std.proofs.lemmas.List.Folds.{list_any-append}
use Rattle.dtd_model.specs.Lawful.{is_distinct}
use Rattle.dtd_texts.specs.Reading.{Written, is_among}
use Rattle.dtd_texts.specs.Spells.{Says}
use Rattle.dtd_texts.specs.Tables.{Said, said, element_names}
use Rattle.dtd_texts.specs.Went.{Went, leads}
use Rattle.dtd_texts.proofs.Entities.{bytes_eq_sym}
use Rattle.dtd_tables.specs.Causes.{StandsTwice, GoesWrong}

pub cons_first : {X : Type 0} {x y : X} {xs ys : List X} → x ∷ xs ≡ y ∷ ys → x ≡ y
cons_first e = cc

pub cons_rest : {X : Type 0} {x y : X} {xs ys : List X} → x ∷ xs ≡ y ∷ ys → xs ≡ ys
cons_rest e = cc

cons_no : {X : Type 0} {x : X} {xs : List X} → x ∷ xs ≡ [] → ⊥
cons_no e = grind arith

one_says : (f : Written → Went Said) (ws : List Written) (says : List Said) (k : ℕ) (one : Written) → map f ws ≡ map leads says → k < length ws → get_or ws k one ≡ one → (s : Said) × (f one ≡ leads s)
one_says f [] says k one e less is = absurd (omega (arith, less))
one_says f (w ∷ ws) [] k one e less is = absurd (cons_no e)
one_says f (w ∷ ws) (s ∷ says) zero one e less is = (s, ap f (sym is) ∙ cons_first e)
one_says f (w ∷ ws) (s ∷ says) (suc k) one e less is = one_says f ws says k one (cons_rest e) (omega (arith, less)) is

pub each_says : (written : List Written) (says : List Said) (at : ℕ) (how : Went Said) → Says written says → GoesWrong written at how → (s : Said) × (how ≡ leads s)
each_says written says at how all wrong =
    let found = one_says (λ (w : Written). said (element_names written) w.text) written says wrong.among.0 wrong.one all.each wrong.among.1 wrong.among.2 in
    (found.0, sym wrong.says ∙ found.1)

twice : (before behind : List (List ℕ)) (name : List ℕ) → is_distinct (before ++ name ∷ behind) ≡ true → is_among before name ≡ true → ⊥
twice [] behind name d e = grind (arith, e)
twice (x ∷ xs) behind name d e = by (bytes_eq name x) refl (twice xs behind name (grind (arith, d)))
  where
    by : (b : Bool) → bytes_eq name x ≡ b → (is_among xs name ≡ true → ⊥) → ⊥
    by true f go = grind (arith, d, f, bytes_eq_sym x name, list_any-append (bytes_eq x) xs (name ∷ behind))
    by false f go = go (grind (arith, e, f))

pub never_twice : (written : List Written) (says : List Said) (name : List ℕ) → Says written says → StandsTwice (element_names written) name → ⊥
never_twice written says name all stands = twice stands.before stands.behind name (ap is_distinct (sym stands.is) ∙ all.once) stands.among
