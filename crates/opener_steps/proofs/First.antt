-- Where a piece begins.
use Rattle.std.proofs.Common.{◌≡◌, ℕ, Bool, true, false, not, ◌&&◌, ◌||◌, List, [], ◌∷◌, refl, sym, ◌∙◌, ap, subst}
use Rattle.std.specs.Prelude.{if◌then◌else◌, nat_eq, codes}
use Rattle.std.proofs.lemmas.Bool.{and_parts, eqb-true}
use Rattle.text_base.specs.declared.page_token.PageToken.{PageToken}
use Rattle.xml_text.specs.Characters.{is_character}
use Rattle.dtd_model.specs.Table.{Table}
use Rattle.page_model.specs.PageTokens.{sort_token}
use Rattle.page_model.specs.Parts.{character, is_plain}
use Rattle.page_model.specs.Pieces.{may_follow, behind_leaf}
use Rattle.page_model.specs.Places.{Place, at_beginning, behind_mark, behind}
use Rattle.page_model.specs.Valid.{sort_of}
use Rattle.piece_steps.specs.Readers.{Move, go, done, fail, Outcome, whole, next, ends}
use Rattle.page_model.specs.Fronts.{Open, in_reference, in_opener}
use Rattle.page_model.specs.OpenValues.{in_entity}
use Rattle.page_steps.specs.PageSteps.{OpenMove, text_move, single_move, first_move, PageState, put_place, page_step, page_reader, is_inside}
use Rattle.page_insides.specs.Laws.{read}
use Rattle.page_insides.proofs.Settled.{kept_is}
use Rattle.opener_steps.specs.Laws.{read_first, Begun, less, ampersand, order_mark, text, FirstRead}

abbrev behind_first : Table → Place → OpenMove → List ℕ → Outcome Place PageToken PageState
behind_first table place m rest = next (put_place place m) (λ g. ends (page_reader table) g rest) rest

first_more : (table : Table) (place : Place) (c : ℕ) (m : OpenMove) (rest : List ℕ) → is_character c ≡ true → first_move place c ≡ m → read_first table place (c ∷ rest) ≡ behind_first table place m rest
unfolding page_step
first_more table place c m rest h e =
    ap (λ (b : Bool). let z : Move Place PageToken PageState = if b then put_place place (first_move place c) else fail in next z (λ g. ends (page_reader table) g rest) rest) h
    ∙ ap (λ (m : OpenMove). behind_first table place m rest) e

opens : (table : Table) (place : Place) (o : Open) (rest : List ℕ) → is_inside o ≡ true → behind_first table place (go o) rest ≡ read table place o rest
opens table place o rest h = ap (λ (p : Place). ends (page_reader table) (record { place = p; inside = o }) rest) (kept_is o place h)

if_false : {A : Type 0} (b : Bool) (x y : A) → b ≡ false → (if b then x else y) ≡ y
if_false true x y h = cc
if_false false x y h = refl

if_true : {A : Type 0} (b : Bool) (x y : A) → b ≡ true → (if b then x else y) ≡ x
if_true true x y h = refl
if_true false x y h = cc

plain_parts : (a b : Bool) → not (a || b) ≡ true → (a ≡ false) × (b ≡ false)
plain_parts true b e = cc
plain_parts false true e = cc
plain_parts false false e = (refl, refl)

not_true : (b : Bool) → not b ≡ true → b ≡ false
not_true true e = cc
not_true false e = refl

abbrev given_by : Place → ℕ → OpenMove
given_by place c = done (behind_leaf place (character c)) (sort_token (sort_of (character c)) ∷ [])

text_is : (place : Place) (c : ℕ) → may_follow place (character c) ≡ true → single_move place c ≡ given_by place c
text_is at_beginning c h = if_false (nat_eq c 0xFEFF) (done behind_mark []) (text_move at_beginning c) (not_true (nat_eq c 0xFEFF) h) ∙ if_true (may_follow at_beginning (character c)) (given_by at_beginning c) fail h
text_is behind_mark c h = refl
text_is (behind k) c h = if_true (may_follow (behind k) (character c)) (given_by (behind k) c) fail h

at_text : (table : Table) (place : Place) (c : ℕ) (rest : List ℕ) → may_follow place (character c) ≡ true → is_plain c ≡ true → read_first table place (c ∷ rest) ≡ whole (behind_leaf place (character c)) (sort_token (sort_of (character c)) ∷ []) rest
at_text table place c rest follows h =
    let p = and_parts (is_character c) (not (nat_eq c 60 || nat_eq c 38)) h in
    let q = plain_parts (nat_eq c 60) (nat_eq c 38) p.1 in
    first_more table place c (given_by place c) rest p.0
    (if_false (nat_eq c 60) (go (in_opener (codes "<"))) (if nat_eq c 38 then go (in_reference (in_entity [])) else single_move place c) q.0
    ∙ if_false (nat_eq c 38) (go (in_reference (in_entity []))) (single_move place c) q.1
    ∙ text_is place c follows)

-- Back.

text_back : (table : Table) (place next_place : Place) (c : ℕ) (cs : List ℕ) (given : List PageToken) (rest : List ℕ) → is_plain c ≡ true → (let z : OpenMove = if may_follow place (character c) then given_by place c else fail in behind_first table place z cs ≡ whole next_place given rest)
    → Begun table place (c ∷ cs) next_place given rest
text_back table place next_place c cs given rest h e = at (may_follow place (character c)) refl e
  where
    same : (let z : Outcome Place PageToken PageState = whole (behind_leaf place (character c)) (sort_token (sort_of (character c)) ∷ []) cs in z ≡ whole next_place given rest)
        → (behind_leaf place (character c) ≡ next_place) × ((sort_token (sort_of (character c)) ∷ []) ≡ given) × (cs ≡ rest)
    same e = (cc, cc, cc)

    at : (b : Bool) → may_follow place (character c) ≡ b → (let z : OpenMove = if b then given_by place c else fail in behind_first table place z cs ≡ whole next_place given rest) → Begun table place (c ∷ cs) next_place given rest
    at true f e =
        let s = same e in
        subst (λ (r : List ℕ). Begun table place (c ∷ cs) next_place given r) s.2
        (subst (λ (g : List PageToken). Begun table place (c ∷ cs) next_place g cs) s.1 (subst (λ (p : Place). Begun table place (c ∷ cs) p (sort_token (sort_of (character c)) ∷ []) cs) s.0 (text c cs f h)))
    at false f e = cc

single_back : (table : Table) (place next_place : Place) (c : ℕ) (cs : List ℕ) (given : List PageToken) (rest : List ℕ) → is_plain c ≡ true → behind_first table place (single_move place c) cs ≡ whole next_place given rest → Begun table place (c ∷ cs) next_place given rest
single_back table at_beginning next_place c cs given rest h e = at (nat_eq c 0xFEFF) refl e
  where
    same : (let z : Outcome Place PageToken PageState = whole behind_mark [] cs in z ≡ whole next_place given rest) → (behind_mark ≡ next_place) × ([] ≡ given) × (cs ≡ rest)
    same e = (cc, cc, cc)

    marked : (behind_mark ≡ next_place) × ([] ≡ given) × (cs ≡ rest) → nat_eq c 0xFEFF ≡ true → Begun table at_beginning (c ∷ cs) next_place given rest
    marked s q =
        subst (λ (x : ℕ). Begun table at_beginning (x ∷ cs) next_place given rest) (sym (eqb-true c 0xFEFF q))
        (subst (λ (r : List ℕ). Begun table at_beginning (0xFEFF ∷ cs) next_place given r) s.2
        (subst (λ (g : List PageToken). Begun table at_beginning (0xFEFF ∷ cs) next_place g cs) s.1 (subst (λ (p : Place). Begun table at_beginning (0xFEFF ∷ cs) p [] cs) s.0 (order_mark cs refl))))

    at : (b : Bool) → nat_eq c 0xFEFF ≡ b → (let z : OpenMove = if b then done behind_mark [] else text_move at_beginning c in behind_first table at_beginning z cs ≡ whole next_place given rest) → Begun table at_beginning (c ∷ cs) next_place given rest
    at true q e = marked (same e) q
    at false q e = text_back table at_beginning next_place c cs given rest h e
single_back table behind_mark next_place c cs given rest h e = text_back table behind_mark next_place c cs given rest h e
single_back table (behind k) next_place c cs given rest h e = text_back table (behind k) next_place c cs given rest h e

sound : (table : Table) (place next_place : Place) (cs : List ℕ) (given : List PageToken) (rest : List ℕ) → read_first table place cs ≡ whole next_place given rest → Begun table place cs next_place given rest
unfolding page_step
sound table place next_place [] given rest e = cc
sound table place next_place (c ∷ cs) given rest e = at (is_character c) refl (nat_eq c 60) refl (nat_eq c 38) refl e
  where
    at : (a : Bool) → is_character c ≡ a → (x : Bool) → nat_eq c 60 ≡ x → (y : Bool) → nat_eq c 38 ≡ y
        → (let z : Move Place PageToken PageState = if a then put_place place (if x then go (in_opener (codes "<")) else (if y then go (in_reference (in_entity [])) else single_move place c)) else fail in next z (λ g. ends (page_reader table) g cs) cs ≡ whole next_place given rest)
        → Begun table place (c ∷ cs) next_place given rest
    at true h true p y q e = subst (λ (x : ℕ). Begun table place (x ∷ cs) next_place given rest) (sym (eqb-true c 60 p)) (less cs next_place given rest (sym (opens table place (in_opener (codes "<")) cs refl) ∙ e))
    at true h false p true q e = subst (λ (x : ℕ). Begun table place (x ∷ cs) next_place given rest) (sym (eqb-true c 38 q)) (ampersand cs next_place given rest (sym (opens table place (in_reference (in_entity [])) cs refl) ∙ e))
    at true h false p false q e = single_back table place next_place c cs given rest (plain (is_character c) (nat_eq c 60) (nat_eq c 38) h p q) e
      where
        plain : (a x y : Bool) → a ≡ true → x ≡ false → y ≡ false → (a && not (x || y)) ≡ true
        plain true true y h p q = cc
        plain true false true h p q = cc
        plain true false false h p q = refl
        plain false x y h p q = cc
    at false h x p y q e = cc

pub first_read : FirstRead
first_read = record {
  at_less = λ table place cs. first_more table place 60 (go (in_opener (codes "<"))) cs refl refl ∙ opens table place (in_opener (codes "<")) cs refl;
  at_ampersand = λ table place cs. first_more table place 38 (go (in_reference (in_entity []))) cs refl refl ∙ opens table place (in_reference (in_entity [])) cs refl;
  at_mark = λ table rest. first_more table at_beginning 0xFEFF (done behind_mark []) rest refl refl;
  at_text = at_text;
  sound = sound;
}
