-- End tags, read by the reader of a page.
use Rattle.std.proofs.Common.{◌≡◌, ℕ, Bool, true, false, not, ◌&&◌, List, [], ◌∷◌, ◌++◌, Option, Some, None, refl, sym, ◌∙◌, ap, subst, append-nil, append_assoc}
use Rattle.std.specs.Prelude.{if◌then◌else◌, nat_eq}
use Rattle.std.specs.List.{list_all}
use Rattle.std.proofs.lemmas.Bool.{and_parts, and_from, eqb-true}
use Rattle.text_base.specs.declared.page_token.PageToken.{PageToken}
use Rattle.text_base.specs.declared.page_token.PageToken.TheVariants as token
use Rattle.xml_text.specs.Characters.{is_blank}
use Rattle.xml_text.specs.Names.{begins_name, in_name, is_name}
use Rattle.dtd_model.specs.Table.{Rule, Table}
use Rattle.page_model.specs.Attributes.{find_rule, is_some_rule}
use Rattle.page_model.specs.PageTokens.{element_of}
use Rattle.page_model.specs.Places.{Place, behind}
use Rattle.piece_steps.specs.Readers.{go, done, fail, Outcome, whole}
use Rattle.page_model.specs.Fronts.{in_end_tag}
use Rattle.page_steps.specs.PageSteps.{OpenMove, PageState, closed_move, end_name_move, open_move}
use Rattle.attribute_steps.proofs.Over.{blank_character, name_character, begins_in, blank_not_name}
use Rattle.page_insides.specs.Laws.{settle, read, ends_with}
use Rattle.page_insides.proofs.Stepping.{behind_move, page_more, on_is, page_on, page_back}
use Rattle.tag_steps.specs.Laws.{IsEndThen, EndTagsRead}

if_true : {A : Type 0} (b : Bool) (x y : A) → b ≡ true → (if b then x else y) ≡ x
if_true true x y h = refl
if_true false x y h = cc

if_false : {A : Type 0} (b : Bool) (x y : A) → b ≡ false → (if b then x else y) ≡ y
if_false true x y h = cc
if_false false x y h = refl

and_none : (a b : Bool) → a ≡ false → (a && b) ≡ false
and_none true b e = cc
and_none false b e = refl

and_true : (a : Bool) → a ≡ true → (a && true) ≡ true
and_true true e = refl
and_true false e = cc

closed_is : (table : Table) (name : List ℕ) (o : Option Rule) → is_some_rule o ≡ true → closed_move table name o ≡ done (behind 0) (token.End (element_of table name) ∷ [])
closed_is table name None h = cc
closed_is table name (Some rule) h = refl

-- the end of a name, or white space behind it
more_or : (table : Table) (place : Place) (n : ℕ) (name : List ℕ) (spaced : Bool) (c : ℕ) → in_name c ≡ false → open_move table place (in_end_tag (n ∷ name) spaced) c ≡ end_name_move table (n ∷ name) c
more_or table place n name spaced c h = if_false (in_name c && not spaced) (go (in_end_tag ((n ∷ name) ++ c ∷ []) false)) (end_name_move table (n ∷ name) c) (and_none (in_name c) (not spaced) h)

over_space : (table : Table) (place : Place) (space : List ℕ) (n : ℕ) (name : List ℕ) (spaced : Bool) (rest : List ℕ) → is_name (n ∷ name) ≡ true → list_all is_blank space ≡ true → is_some_rule (find_rule table.elements (n ∷ name)) ≡ true
    → read table place (in_end_tag (n ∷ name) spaced) (space ++ 62 ∷ rest) ≡ ends_with (token.End (element_of table (n ∷ name)) ∷ []) rest
over_space table place [] n name spaced rest named blank some =
    page_more table place (in_end_tag (n ∷ name) spaced) 62 (done (behind 0) (token.End (element_of table (n ∷ name)) ∷ [])) rest refl
    (more_or table (settle place) n name spaced 62 refl ∙ if_true (is_name (n ∷ name)) (closed_move table (n ∷ name) (find_rule table.elements (n ∷ name))) fail named ∙ closed_is table (n ∷ name) (find_rule table.elements (n ∷ name)) some)
over_space table place (c ∷ cs) n name spaced rest named blank some =
    let p = and_parts (is_blank c) (list_all is_blank cs) blank in
    let E : OpenMove = if nat_eq c 62 then closed_move table (n ∷ name) (find_rule table.elements (n ∷ name)) else fail in
    page_on table place (in_end_tag (n ∷ name) spaced) c (in_end_tag (n ∷ name) true) (cs ++ 62 ∷ rest) (blank_character c p.0) refl
    (more_or table (settle place) n name spaced c (blank_not_name c p.0) ∙ if_true (is_name (n ∷ name)) (if is_blank c then go (in_end_tag (n ∷ name) true) else E) fail named ∙ if_true (is_blank c) (go (in_end_tag (n ∷ name) true)) E p.0)
    ∙ over_space table place cs n name true rest named p.1 some

over_name : (table : Table) (place : Place) (m : List ℕ) (n : ℕ) (name rest : List ℕ) → list_all in_name m ≡ true → read table place (in_end_tag (n ∷ name) false) (m ++ rest) ≡ read table place (in_end_tag (n ∷ (name ++ m)) false) rest
over_name table place [] n name rest h = ap (λ (w : List ℕ). read table place (in_end_tag (n ∷ w) false) rest) (sym (append-nil name))
over_name table place (c ∷ cs) n name rest h =
    let p = and_parts (in_name c) (list_all in_name cs) h in
    page_on table place (in_end_tag (n ∷ name) false) c (in_end_tag (n ∷ (name ++ c ∷ [])) false) (cs ++ rest) (name_character c p.0) refl (if_true (in_name c && true) (go (in_end_tag (n ∷ (name ++ c ∷ [])) false)) (end_name_move table (n ∷ name) c) (and_true (in_name c) p.0))
    ∙ over_name table place cs n (name ++ c ∷ []) rest p.1
    ∙ ap (λ (w : List ℕ). read table place (in_end_tag (n ∷ w) false) rest) (append_assoc name (c ∷ []) cs)

complete : (table : Table) (place : Place) (name space rest : List ℕ) → is_name name ≡ true → list_all is_blank space ≡ true → is_some_rule (find_rule table.elements name) ≡ true
    → read table place (in_end_tag [] false) (name ++ (space ++ 62 ∷ rest)) ≡ ends_with (token.End (element_of table name) ∷ []) rest
complete table place [] space rest named blank some = cc
complete table place (n ∷ name) space rest named blank some =
    let p = and_parts (begins_name n) (list_all in_name name) named in
    page_on table place (in_end_tag [] false) n (in_end_tag (n ∷ []) false) (name ++ (space ++ 62 ∷ rest)) (name_character n (begins_in n p.0)) refl (if_true (begins_name n && true) (go (in_end_tag (n ∷ []) false)) fail (and_true (begins_name n) p.0))
    ∙ over_name table place name n [] (space ++ 62 ∷ rest) p.1
    ∙ over_space table place space n name false rest named blank some

-- Back.

record Spaced (table : Table) (name text : List ℕ) (next : Place) (given : List PageToken) (rest : List ℕ) : Type 0 where
  space : List ℕ
  spelled : text ≡ space ++ 62 ∷ rest
  blank : list_all is_blank space ≡ true
  named : is_name name ≡ true
  declared : is_some_rule (find_rule table.elements name) ≡ true
  leads : next ≡ behind 0
  gives : given ≡ token.End (element_of table name) ∷ []

spaced_by : (table : Table) (place next : Place) (name : List ℕ) (c : ℕ) (cs : List ℕ) (given : List PageToken) (rest : List ℕ) → behind_move table place (end_name_move table name c) cs ≡ whole next given rest
    → (read table place (in_end_tag name true) cs ≡ whole next given rest → Spaced table name cs next given rest) → Spaced table name (c ∷ cs) next given rest
spaced_by table place next name c cs given rest e ih = at (is_name name) refl (is_blank c) refl (nat_eq c 62) refl e
  where
    ended : (o : Option Rule) → find_rule table.elements name ≡ o → is_name name ≡ true → nat_eq c 62 ≡ true → behind_move table place (closed_move table name o) cs ≡ whole next given rest → Spaced table name (c ∷ cs) next given rest
    ended None f q p e = cc
    ended (Some rule) f q p e = last e
      where
        last : (let z : Outcome Place PageToken PageState = whole (behind 0) (token.End (element_of table name) ∷ []) cs in z ≡ whole next given rest) → Spaced table name (c ∷ cs) next given rest
        last e =
            let l : cs ≡ rest = cc in
            let k : next ≡ behind 0 = cc in
            let t : given ≡ token.End (element_of table name) ∷ [] = cc in
            record { space = []; spelled = ap (λ (x : ℕ). x ∷ cs) (eqb-true c 62 p) ∙ ap (λ (w : List ℕ). 62 ∷ w) l; blank = refl; named = q; declared = ap is_some_rule f; leads = k; gives = t }

    at : (a : Bool) → is_name name ≡ a → (b : Bool) → is_blank c ≡ b → (x : Bool) → nat_eq c 62 ≡ x
        → (let z : OpenMove = if a then (if b then go (in_end_tag name true) else (if x then closed_move table name (find_rule table.elements name) else fail)) else fail in behind_move table place z cs ≡ whole next given rest) → Spaced table name (c ∷ cs) next given rest
    at true q true b x p e =
        let l = ih (sym (on_is table place (in_end_tag name true) cs refl) ∙ e) in
        record { space = c ∷ l.space; spelled = ap (λ (w : List ℕ). c ∷ w) l.spelled; blank = and_from (is_blank c) (list_all is_blank l.space) b l.blank; named = l.named; declared = l.declared; leads = l.leads; gives = l.gives }
    at true q false b true p e = ended (find_rule table.elements name) refl q p e
    at true q false b false p e = cc
    at false q b r x p e = cc

into_space : (table : Table) (place next : Place) (text : List ℕ) (n : ℕ) (name : List ℕ) (given : List PageToken) (rest : List ℕ) → read table place (in_end_tag (n ∷ name) true) text ≡ whole next given rest → Spaced table (n ∷ name) text next given rest
into_space table place next [] n name given rest e = cc
into_space table place next (c ∷ cs) n name given rest e =
    let b = page_back table place next (in_end_tag (n ∷ name) true) c cs given rest e in
    spaced_by table place next (n ∷ name) c cs given rest (ap (λ (m : OpenMove). behind_move table place m cs) (sym (if_false (in_name c && false) (go (in_end_tag ((n ∷ name) ++ c ∷ []) false)) (end_name_move table (n ∷ name) c) (none (in_name c)))) ∙ b.leads)
    (λ q. into_space table place next cs n name given rest q)
  where
    none : (a : Bool) → (a && false) ≡ false
    none true = refl
    none false = refl

record Named (table : Table) (n : ℕ) (name text : List ℕ) (next : Place) (given : List PageToken) (rest : List ℕ) : Type 0 where
  more : List ℕ
  left : List ℕ
  spelled : text ≡ more ++ left
  spaced : Spaced table (n ∷ (name ++ more)) left next given rest

into_name : (table : Table) (place next : Place) (text : List ℕ) (n : ℕ) (name : List ℕ) (given : List PageToken) (rest : List ℕ) → read table place (in_end_tag (n ∷ name) false) text ≡ whole next given rest → Named table n name text next given rest
into_name table place next [] n name given rest e = cc
into_name table place next (c ∷ cs) n name given rest e =
    at (in_name c) (page_back table place next (in_end_tag (n ∷ name) false) c cs given rest e).leads (λ q. into_name table place next cs n (name ++ c ∷ []) given rest q)
  where
    at : (b : Bool) → (let z : OpenMove = if b && true then go (in_end_tag (n ∷ (name ++ c ∷ [])) false) else end_name_move table (n ∷ name) c in behind_move table place z cs ≡ whole next given rest)
        → (read table place (in_end_tag (n ∷ (name ++ c ∷ [])) false) cs ≡ whole next given rest → Named table n (name ++ c ∷ []) cs next given rest) → Named table n name (c ∷ cs) next given rest
    at true e ih =
        let l = ih (sym (on_is table place (in_end_tag (n ∷ (name ++ c ∷ [])) false) cs refl) ∙ e) in
        record { more = c ∷ l.more; left = l.left; spelled = ap (λ (w : List ℕ). c ∷ w) l.spelled; spaced = subst (λ (w : List ℕ). Spaced table (n ∷ w) l.left next given rest) (append_assoc name (c ∷ []) l.more) l.spaced }
    at false e ih = record {
      more = [];
      left = c ∷ cs;
      spelled = refl;
      spaced = subst (λ (w : List ℕ). Spaced table (n ∷ w) (c ∷ cs) next given rest) (sym (append-nil name)) (spaced_by table place next (n ∷ name) c cs given rest e (λ q. into_space table place next cs n name given rest q));
    }

sound : (table : Table) (place next : Place) (cs : List ℕ) (given : List PageToken) (rest : List ℕ) → read table place (in_end_tag [] false) cs ≡ whole next given rest → IsEndThen table cs rest next given
sound table place next [] given rest e = cc
sound table place next (c ∷ cs) given rest e = at (begins_name c) (page_back table place next (in_end_tag [] false) c cs given rest e).leads
  where
    at : (b : Bool) → (let z : OpenMove = if b && true then go (in_end_tag (c ∷ []) false) else fail in behind_move table place z cs ≡ whole next given rest) → IsEndThen table (c ∷ cs) rest next given
    at true e =
        let l = into_name table place next cs c [] given rest (sym (on_is table place (in_end_tag (c ∷ []) false) cs refl) ∙ e) in
        record {
          name = c ∷ l.more;
          space = l.spaced.space;
          spelled = ap (λ (w : List ℕ). c ∷ (l.more ++ w)) (sym l.spaced.spelled) ∙ ap (λ (w : List ℕ). c ∷ w) (sym l.spelled);
          named = l.spaced.named;
          blank = l.spaced.blank;
          declared = l.spaced.declared;
          leads = l.spaced.leads;
          gives = l.spaced.gives;
        }
    at false e = cc

pub end_tags_read : EndTagsRead
end_tags_read = record { complete = complete; sound = sound }
