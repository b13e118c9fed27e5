-- The XML declaration, read by the reader of a page.
use Rattle.std.proofs.Common.{◌≡◌, ℕ, suc, Bool, true, false, not, ◌&&◌, List, [], ◌∷◌, ◌++◌, Some, None, refl, sym, ◌∙◌, ap, arith, length}
use Rattle.std.specs.Prelude.{if◌then◌else◌, nat_eq, codes}
use Rattle.std.proofs.lemmas.Bool.{and_parts, eqb-true}
use Rattle.text_base.specs.declared.page_token.PageToken.{PageToken}
use Rattle.xml_text.specs.Characters.{is_blank, is_character}
use Rattle.dtd_model.specs.Table.{Table}
use Rattle.page_model.specs.Parts.{Attribute, attributes_then}
use Rattle.page_model.specs.Places.{Place, behind}
use Rattle.page_model.specs.Prolog.{Declaration, IsDeclaration, is_version, is_in_order}
use Rattle.piece_steps.specs.Readers.{Move, go, done, fail, Outcome, whole, next, ends}
use Rattle.page_model.specs.Fronts.{in_declaration, at_declaration_end}
use Rattle.page_model.specs.OpenTags.{OpenAttribute, between}
use Rattle.page_model.specs.OpenValues.{OpenValue, in_text, in_reference, in_fixed, in_choice, in_words}
use Rattle.page_steps.specs.AttributeSteps.{AttributeMove, stays, ends_with as ends_at, leaves, stops, attribute_move}
use Rattle.page_steps.specs.PageSteps.{OpenMove, question_move, declaration_by, PageState, put_place, page_step, page_reader}
use Rattle.page_steps.specs.TagSteps.{word_step, of_declaration}
use Rattle.attribute_steps.specs.Among.{moved, IsAmong, names_behind}
use Rattle.attribute_steps.proofs.Over.{blank_character, over_attributes}
use Rattle.attribute_steps.proofs.Into.{into_attributes}
use Rattle.page_insides.specs.Laws.{settle, read, ends_with}
use Rattle.page_insides.proofs.Settled.{at_open, kept_settled}
use Rattle.page_insides.proofs.Stepping.{behind_move, page_more, on_is, page_on, page_back}
use Rattle.declaration_steps.specs.Laws.{words_then, IsDeclarationThen, DeclarationsRead}
use Rattle.declaration_steps.proofs.Words.{to_all, from_all}

abbrev in_it : Place → List (List ℕ) → OpenAttribute → PageState
in_it place names o = at_open place (in_declaration names o)

abbrev leaves_it : Place → List (List ℕ) → ℕ → Move Place PageToken PageState
leaves_it place names c = put_place (settle place) (question_move names c)

among : (table : Table) (place : Place) → IsAmong (page_reader table) of_declaration (in_it place) (leaves_it place)
unfolding page_step
among table place = record { steps = steps; strict = λ n v c h. strict v c h }
  where
    by : (names : List (List ℕ)) (c : ℕ) (m : AttributeMove) → put_place (settle place) (declaration_by names c m) ≡ moved (in_it place) names (leaves_it place names c) m
    by names c (stays o) = ap (λ (p : Place). let s : PageState = record { place = p; inside = in_declaration names o } in let z : Move Place PageToken PageState = go s in z) (kept_settled (in_declaration names o) place refl)
    by names c (ends_at more) = ap (λ (p : Place). let s : PageState = record { place = p; inside = in_declaration more (between false) } in let z : Move Place PageToken PageState = go s in z) (kept_settled (in_declaration more (between false)) place refl)
    by names c leaves = refl
    by names c stops = refl

    steps : (names : List (List ℕ)) (o : OpenAttribute) (c : ℕ) → page_step table (in_it place names o) c ≡ (if is_character c then moved (in_it place) names (leaves_it place names c) (attribute_move of_declaration names o c) else fail)
    steps names o c = ap (λ (m : Move Place PageToken PageState). let z : Move Place PageToken PageState = if is_character c then m else fail in z) (by names c (attribute_move of_declaration names o c))

    strict : (v : OpenValue) (c : ℕ) → is_character c ≡ false → word_step v c ≡ None
    strict in_text c h = refl
    strict (in_reference r) c h = refl
    strict (in_fixed value) c h = ap (λ (b : Bool). if b && not (nat_eq c 60) then Some (in_fixed (value ++ c ∷ [])) else None) h
    strict (in_choice word spaced) c h = refl
    strict (in_words inside one) c h = refl

-- the first white space
first_space : (table : Table) (place : Place) (blank : ℕ) (left : List ℕ) → is_blank blank ≡ true → read table place (in_declaration [] (between false)) (blank ∷ left) ≡ read table place (in_declaration [] (between true)) left
first_space table place blank left h =
    page_on table place (in_declaration [] (between false)) blank (in_declaration [] (between true)) left (blank_character blank h) refl (ap (declaration_by [] blank) (by blank h))
  where
    by : (c : ℕ) → is_blank c ≡ true → attribute_move of_declaration [] (between false) c ≡ stays (between true)
    by c h = if_true (is_blank c) (stays (between true)) _ h
      where
        if_true : (b : Bool) (x y : AttributeMove) → b ≡ true → (if b then x else y) ≡ x
        if_true true x y h = refl
        if_true false x y h = cc

some_names : (xs : List Attribute) → is_in_order xs ≡ true → (v : List ℕ) × (names : List (List ℕ)) × (names_behind of_declaration [] xs ≡ v ∷ names)
some_names [] e = cc
some_names (a ∷ []) e = (a.name, [], refl)
some_names (a ∷ b ∷ []) e = (a.name, b.name ∷ [], refl)
some_names (a ∷ b ∷ c ∷ []) e = (a.name, b.name ∷ c.name ∷ [], refl)
some_names (a ∷ b ∷ c ∷ d ∷ more) e = let p = and_parts (is_version a) false e in cc

over_question : (table : Table) (place : Place) (names : List (List ℕ)) (v : List ℕ) (more : List (List ℕ)) (rest : List ℕ) → names ≡ v ∷ more → next (leaves_it place names 63) (λ g. ends (page_reader table) g (62 ∷ rest)) (62 ∷ rest) ≡ ends_with [] rest
over_question table place names v more rest e =
    ap (λ (n : List (List ℕ)). behind_move table place (question_move n 63) (62 ∷ rest)) e
    ∙ on_is table place at_declaration_end (62 ∷ rest) refl
    ∙ page_more table place at_declaration_end 62 (done (behind 0) []) rest refl refl

complete : (table : Table) (place : Place) (d : Declaration) (blank : ℕ) (left rest : List ℕ) → IsDeclaration d → is_blank blank ≡ true → words_then d rest ≡ blank ∷ left → read table place (in_declaration [] (between true)) left ≡ ends_with [] rest
complete table place d blank left rest h b e =
    let n = some_names d.attributes h.in_order in
    sym (first_space table place blank left b)
    ∙ ap (read table place (in_declaration [] (between false))) (sym e)
    ∙ over_attributes (page_reader table) of_declaration (in_it place) (leaves_it place) (among table place) d.attributes [] false d.space 63 (62 ∷ rest) (to_all d.attributes h.attributes h.in_order) h.blank_space refl refl refl
    ∙ over_question table place (names_behind of_declaration [] d.attributes) n.0 n.1 rest n.2

-- Back.

record Questioned (names : List (List ℕ)) (c : ℕ) (left : List ℕ) (next_place : Place) (given : List PageToken) (rest : List ℕ) : Type 0 where
  some : names ≡ [] → ⊥
  spelled : c ∷ left ≡ codes "?>" ++ rest
  leads : next_place ≡ behind 0
  gives : given ≡ []

into_question : (table : Table) (place next_place : Place) (names : List (List ℕ)) (c : ℕ) (left : List ℕ) (given : List PageToken) (rest : List ℕ) → behind_move table place (question_move names c) left ≡ whole next_place given rest → Questioned names c left next_place given rest
into_question table place next_place [] c left given rest e = cc
into_question table place next_place (v ∷ names) c left given rest e = at (nat_eq c 63) refl e
  where
    same : (ds : List ℕ) → (let z : Outcome Place PageToken PageState = whole (behind 0) [] ds in z ≡ whole next_place given rest) → (next_place ≡ behind 0) × (given ≡ []) × (ds ≡ rest)
    same ds e = (cc, cc, cc)

    second : (text : List ℕ) → left ≡ text → nat_eq c 63 ≡ true → read table place at_declaration_end text ≡ whole next_place given rest → Questioned (v ∷ names) c left next_place given rest
    second [] l q e = cc
    second (d ∷ ds) l q e = last (nat_eq d 62) refl (page_back table place next_place at_declaration_end d ds given rest e).leads
      where
        last : (x : Bool) → nat_eq d 62 ≡ x → (let z : OpenMove = if x then done (behind 0) [] else fail in behind_move table place z ds ≡ whole next_place given rest) → Questioned (v ∷ names) c left next_place given rest
        last true p e =
            let s = same ds e in
            record { some = λ z. cc; spelled = ap (λ (w : List ℕ). c ∷ w) l ∙ ap (λ (y : ℕ). y ∷ d ∷ ds) (eqb-true c 63 q) ∙ ap (λ (y : ℕ). 63 ∷ y ∷ ds) (eqb-true d 62 p) ∙ ap (λ (w : List ℕ). 63 ∷ 62 ∷ w) s.2; leads = s.0; gives = s.1 }
        last false p e = cc

    at : (b : Bool) → nat_eq c 63 ≡ b → (let z : OpenMove = if b then go at_declaration_end else fail in behind_move table place z left ≡ whole next_place given rest) → Questioned (v ∷ names) c left next_place given rest
    at true q e = second left refl q (sym (on_is table place at_declaration_end left refl) ∙ e)
    at false q e = cc

none_behind : (xs : List Attribute) → (names_behind of_declaration [] xs ≡ [] → ⊥) → xs ≡ [] → ⊥
none_behind [] some e = some refl
none_behind (x ∷ xs) some e = cc

sound : (table : Table) (place next_place : Place) (blank : ℕ) (left : List ℕ) (given : List PageToken) (rest : List ℕ) → is_blank blank ≡ true → read table place (in_declaration [] (between true)) left ≡ whole next_place given rest
    → IsDeclarationThen (blank ∷ left) rest next_place given
sound table place next_place blank left given rest b e =
    let t = into_attributes (page_reader table) of_declaration (in_it place) (leaves_it place) (among table place) next_place given rest (suc (length (blank ∷ left))) (blank ∷ left) [] (omega arith) (first_space table place blank left b ∙ e) in
    let q = into_question table place next_place (names_behind of_declaration [] t.attributes) t.sign t.left given rest t.then_ends in
    let f = from_all t.attributes t.may (none_behind t.attributes q.some) in
    record {
      declared = record { attributes = t.attributes; space = t.space };
      spelled = ap (λ (w : List ℕ). attributes_then t.attributes (t.space ++ w)) (sym q.spelled) ∙ sym t.spelled;
      is = record { attributes = f.0; in_order = f.1; blank_space = t.blank_space };
      leads = q.leads;
      gives = q.gives;
    }

pub declarations_read : DeclarationsRead
declarations_read = record { complete = complete; sound = sound }
