-- Attributes that are put behind others one after another.
use Rattle.std.proofs.Common.{◌≡◌, ◌∙◌, List, [], ◌∷◌, ◌++◌, length, map, refl, sym, ap, arith}
use Rattle.dtd_model.specs.Table.{Declared, declared_of}
use Rattle.dtd_model.specs.declared.dtd.AttrRule.{AttrRule}
use Rattle.dtd_texts.specs.Tables.{with_others}
use Rattle.dtd_tables.specs.declared.refusal.TableRefusal.{TableRefusal}
use Rattle.dtd_tables.specs.declared.refusal.TableRefusal.TheVariants.{Twice, Undeclared, Refused, LeftOut, Limit, Memory}
use Rattle.dtd_tables.specs.Updates.{with_one}
use Rattle.dtd_tables.specs.Views.{IsCrowded}
use Rattle.dtd_tables.proofs.Lists.{append_same, map_more}
use Rattle.dtd_tables.proofs.Updates.{others_more, others_one, others_longer}

pub none_yet : (ds : List Declared) → ds ≡ with_others ds []
unfolding with_others
none_yet ds = refl

pub rest_of : {X : Type 0} (all before : List X) (x : X) (rest rest' : List X) → all ≡ before ++ rest → rest ≡ x ∷ rest' → all ≡ (before ++ x ∷ []) ++ rest'
rest_of all before x rest rest' e f = e ∙ ap (λ (ys : List _). before ++ ys) f ∙ sym (append_same before (x ∷ []) rest')

pub split_at : {X : Type 0} (all before : List X) (x : X) (rest rest' : List X) → all ≡ before ++ rest → rest ≡ x ∷ rest' → all ≡ before ++ x ∷ rest'
split_at all before x rest rest' e f = e ∙ ap (λ (ys : List _). before ++ ys) f

pub one_added : (init old new : List Declared) (before : List AttrRule) (x : AttrRule) → old ≡ with_others init (map declared_of before) → new ≡ with_one old (declared_of x) → new ≡ with_others init (map declared_of (before ++ x ∷ []))
one_added init old new before x e f = f ∙ ap (λ ds. with_one ds (declared_of x)) e ∙ sym (others_one init (map declared_of before) (declared_of x)) ∙ ap (with_others init) (sym (map_more declared_of before (x ∷ [])))

whole : (init : List Declared) (all before : List AttrRule) (x : AttrRule) (rest : List AttrRule) (old : List Declared) → all ≡ before ++ x ∷ rest → old ≡ with_others init (map declared_of before)
    → with_others init (map declared_of all) ≡ with_others (with_one old (declared_of x)) (map declared_of rest)
unfolding with_others
whole init all before x rest old e f =
    ap (λ (xs : List AttrRule). with_others init (map declared_of xs)) e ∙ ap (with_others init) (map_more declared_of before (x ∷ rest)) ∙ others_more init (map declared_of before) (declared_of x ∷ map declared_of rest)
    ∙ ap (λ ds. with_others ds (declared_of x ∷ map declared_of rest)) (sym f)

pub crowded_more : (init : List Declared) (all before : List AttrRule) (x : AttrRule) (rest : List AttrRule) (old : List Declared) (r : TableRefusal) → all ≡ before ++ x ∷ rest → old ≡ with_others init (map declared_of before)
    → IsCrowded (with_one old (declared_of x)) r → IsCrowded (with_others init (map declared_of all)) r
crowded_more init all before x rest old (Twice name) e f h = h
crowded_more init all before x rest old (Undeclared name) e f h = h
crowded_more init all before x rest old (Refused at) e f h = h
crowded_more init all before x rest old (LeftOut at) e f h = h
crowded_more init all before x rest old (Limit count) e f h =
    let long = ap (λ (ds : List Declared). length ds) (whole init all before x rest old e f) in
    let more = others_longer (with_one old (declared_of x)) (map declared_of rest) in
    let few = h.1 in
    (h.0, omega (arith, long, more, few))
crowded_more init all before x rest old Memory e f h = tt
