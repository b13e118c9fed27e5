-- Behind `<?`.
use Rattle.std.proofs.Common.{◌≡◌, ℕ, Bool, true, false, ◌&&◌, ◌||◌, List, [], ◌∷◌, ◌++◌, Option, Some, None, refl, sym, ◌∙◌, ap, subst, append-nil, append_assoc, arith}
use Rattle.std.specs.Prelude.{if◌then◌else◌, nat_eq, codes}
use Rattle.std.specs.List.{list_all}
use Rattle.std.specs.Str.{str_eq_ignore_ascii_case}
use Rattle.std.proofs.lemmas.Bool.{and_parts, and_from, eqb-true}
use Rattle.text_base.specs.declared.page_token.PageToken.{PageToken}
use Rattle.text_base.specs.declared.page_token.PageToken.TheVariants as token
use Rattle.xml_text.specs.Characters.{is_blank, is_character}
use Rattle.xml_text.specs.Names.{begins_name, in_name, is_name}
use Rattle.xml_text.specs.Texts.{holds}
use Rattle.dtd_model.specs.Table.{Table}
use Rattle.page_model.specs.Parts.{IsInstruction, begins_blank}
use Rattle.page_model.specs.Places.{Place, at_beginning, behind_mark, behind, is_early}
use Rattle.piece_steps.specs.Readers.{go, done, fail, Outcome, whole}
use Rattle.page_model.specs.Fronts.{Open, in_target, behind_target, in_instruction, in_declaration, reserved}
use Rattle.page_model.specs.OpenTags.{between}
use Rattle.page_steps.specs.PageSteps.{OpenMove, more_target, may_be_target, is_reserved, is_xml, is_started, behind_move as move_behind, target_move, PageState, page_step}
use Rattle.attribute_steps.proofs.Over.{blank_character, name_character, begins_in, blank_not_name}
use Rattle.remark_steps.specs.Laws.{IsLeft, IsData}
use Rattle.page_insides.specs.Laws.{settle, read, ends_with}
use Rattle.page_insides.proofs.Leaves.{instructions_read}
use Rattle.page_insides.proofs.Stepping.{behind_move, page_more, on_is, page_on, page_back}
use Rattle.target_steps.specs.Laws.{Targeted, instruction, declaration, TargetsRead}
use Rattle.target_steps.proofs.Reserved.{grown, begun, started, reserved_is, xml_is}

if_true : {A : Type 0} (b : Bool) (x y : A) → b ≡ true → (if b then x else y) ≡ x
if_true true x y h = refl
if_true false x y h = cc

if_false : {A : Type 0} (b : Bool) (x y : A) → b ≡ false → (if b then x else y) ≡ y
if_false true x y h = cc
if_false false x y h = refl

or_last : (a b : Bool) → (a || b) ≡ false → b ≡ false
or_last true b e = cc
or_last false b e = e

-- one character more of a target
target_on : (place : Place) (a : ℕ) (u : List ℕ) (c : ℕ) → in_name c ≡ true → target_move place (reserved (a ∷ u)) c ≡ go (in_target (reserved (a ∷ (u ++ c ∷ []))))
target_on place a u c h =
    if_true (may_be_target (reserved (a ∷ u)) c) (go (in_target (more_target (reserved (a ∷ u)) c))) (if is_started (reserved (a ∷ u)) then move_behind place (reserved (a ∷ u)) c else fail) (begun a u c ∙ h)
    ∙ ap (λ (o : Option (List ℕ)). let z : OpenMove = go (in_target o) in z) (grown (a ∷ u) c)

-- a character behind it
target_end : (place : Place) (a : ℕ) (u : List ℕ) (c : ℕ) → in_name c ≡ false → target_move place (reserved (a ∷ u)) c ≡ move_behind place (reserved (a ∷ u)) c
target_end place a u c h =
    if_false (may_be_target (reserved (a ∷ u)) c) (go (in_target (more_target (reserved (a ∷ u)) c))) (if is_started (reserved (a ∷ u)) then move_behind place (reserved (a ∷ u)) c else fail) (begun a u c ∙ h)
    ∙ if_true (is_started (reserved (a ∷ u))) (move_behind place (reserved (a ∷ u)) c) fail (started a u)

over_target : (table : Table) (place : Place) (m : List ℕ) (a : ℕ) (u rest : List ℕ) → list_all in_name m ≡ true → read table place (in_target (reserved (a ∷ u))) (m ++ rest) ≡ read table place (in_target (reserved (a ∷ (u ++ m)))) rest
over_target table place [] a u rest h = ap (λ (w : List ℕ). read table place (in_target (reserved (a ∷ w))) rest) (sym (append-nil u))
over_target table place (c ∷ cs) a u rest h =
    let p = and_parts (in_name c) (list_all in_name cs) h in
    page_on table place (in_target (reserved (a ∷ u))) c (in_target (reserved (a ∷ (u ++ c ∷ [])))) (cs ++ rest) (name_character c p.0) refl (target_on (settle place) a u c p.0)
    ∙ over_target table place cs a (u ++ c ∷ []) rest p.1
    ∙ ap (λ (w : List ℕ). read table place (in_target (reserved (a ∷ w))) rest) (append_assoc u (c ∷ []) cs)

-- behind a target that is not reserved
plain_end : (place : Place) (o : Option (List ℕ)) (c : ℕ) → is_reserved o ≡ false → move_behind place o c ≡ (if is_blank c then go (in_instruction false) else (if nat_eq c 63 then go behind_target else fail))
plain_end place o c h = if_false (is_reserved o) (if is_xml o && is_early place && is_blank c then go (in_declaration [] (between true)) else fail) (if is_blank c then go (in_instruction false) else (if nat_eq c 63 then go behind_target else fail)) h

over_text : (table : Table) (place : Place) (a : ℕ) (u text rest : List ℕ) → IsInstruction (a ∷ u) text → read table place (in_target (reserved (a ∷ u))) (text ++ (codes "?>" ++ rest)) ≡ ends_with (token.Misc ∷ []) rest
over_text table place a u [] rest h =
    page_on table place (in_target (reserved (a ∷ u))) 63 behind_target (62 ∷ rest) refl refl (target_end (settle place) a u 63 refl ∙ plain_end (settle place) (reserved (a ∷ u)) 63 (reserved_is (a ∷ u) ∙ h.not_reserved))
    ∙ page_more table place behind_target 62 (done (behind 0) (token.Misc ∷ [])) rest refl refl
over_text table place a u (b ∷ text) rest h =
    let p = and_parts (is_character b) (list_all is_character text) h.characters in
    page_on table place (in_target (reserved (a ∷ u))) b (in_instruction false) (text ++ (codes "?>" ++ rest)) p.0 refl
    (target_end (settle place) a u b (blank_not_name b h.apart) ∙ plain_end (settle place) (reserved (a ∷ u)) b (reserved_is (a ∷ u) ∙ h.not_reserved) ∙ if_true (is_blank b) (go (in_instruction false)) (if nat_eq b 63 then go behind_target else fail) h.apart)
    ∙ instructions_read.complete table place (text ++ (codes "?>" ++ rest)) rest (record { text = text; spelled = refl; is = record { characters = p.1; no_end = or_last _ (holds (codes "?>") text) h.no_end } })

at_instruction : (table : Table) (place : Place) (target text rest : List ℕ) → IsInstruction target text → read table place (in_target (Some [])) (target ++ (text ++ (codes "?>" ++ rest))) ≡ ends_with (token.Misc ∷ []) rest
at_instruction table place [] text rest h = let z : is_name [] ≡ true = h.named in cc
at_instruction table place (a ∷ u) text rest h =
    let p = and_parts (begins_name a) (list_all in_name u) h.named in
    page_on table place (in_target (Some [])) a (in_target (reserved (a ∷ []))) (u ++ (text ++ (codes "?>" ++ rest))) (name_character a (begins_in a p.0)) refl (if_true (begins_name a) (go (in_target (reserved (a ∷ [])))) fail p.0)
    ∙ over_target table place u a [] (text ++ (codes "?>" ++ rest)) p.1
    ∙ over_text table place a u text rest h

at_declaration : (table : Table) (place : Place) (blank : ℕ) (left : List ℕ) → is_blank blank ≡ true → is_early (settle place) ≡ true
    → read table place (in_target (Some [])) (codes "xml" ++ blank ∷ left) ≡ read table place (in_declaration [] (between true)) left
at_declaration table place blank left h early =
    page_on table place (in_target (Some [])) 120 (in_target (reserved (codes "x"))) (109 ∷ 108 ∷ blank ∷ left) refl refl refl
    ∙ over_target table place (109 ∷ 108 ∷ []) 120 [] (blank ∷ left) refl
    ∙ page_on table place (in_target (reserved (codes "xml"))) blank (in_declaration [] (between true)) left (blank_character blank h) refl
    (target_end (settle place) 120 (codes "ml") blank (blank_not_name blank h) ∙ if_true (is_early (settle place) && is_blank blank) (go (in_declaration [] (between true))) fail (and_from (is_early (settle place)) (is_blank blank) early h))

-- Back.

record TargetLeft (table : Table) (place next : Place) (a : ℕ) (u text : List ℕ) (given : List PageToken) (rest : List ℕ) : Type 0 where
  more : List ℕ
  sign : ℕ
  left : List ℕ
  spelled : text ≡ more ++ sign ∷ left
  named : list_all in_name more ≡ true
  character : is_character sign ≡ true
  moves : behind_move table place (move_behind (settle place) (reserved (a ∷ (u ++ more))) sign) left ≡ whole next given rest

into_target : (table : Table) (place next : Place) (text : List ℕ) (a : ℕ) (u : List ℕ) (given : List PageToken) (rest : List ℕ) → read table place (in_target (reserved (a ∷ u))) text ≡ whole next given rest → TargetLeft table place next a u text given rest
into_target table place next [] a u given rest e = cc
into_target table place next (c ∷ cs) a u given rest e =
    let b = page_back table place next (in_target (reserved (a ∷ u))) c cs given rest e in
    at (in_name c) refl b.character b.leads (λ q. into_target table place next cs a (u ++ c ∷ []) given rest q)
  where
    at : (x : Bool) → in_name c ≡ x → is_character c ≡ true → behind_move table place (target_move (settle place) (reserved (a ∷ u)) c) cs ≡ whole next given rest
        → (read table place (in_target (reserved (a ∷ (u ++ c ∷ [])))) cs ≡ whole next given rest → TargetLeft table place next a (u ++ c ∷ []) cs given rest) → TargetLeft table place next a u (c ∷ cs) given rest
    at true q h e ih =
        let l = ih (sym (on_is table place (in_target (reserved (a ∷ (u ++ c ∷ [])))) cs refl) ∙ ap (λ (m : OpenMove). behind_move table place m cs) (sym (target_on (settle place) a u c q)) ∙ e) in
        record {
          more = c ∷ l.more;
          sign = l.sign;
          left = l.left;
          spelled = ap (λ (w : List ℕ). c ∷ w) l.spelled;
          named = and_from (in_name c) (list_all in_name l.more) q l.named;
          character = l.character;
          moves = ap (λ (w : List ℕ). behind_move table place (move_behind (settle place) (reserved (a ∷ w)) l.sign) l.left) (sym (append_assoc u (c ∷ []) l.more)) ∙ l.moves;
        }
    at false q h e ih = record {
      more = [];
      sign = c;
      left = cs;
      spelled = refl;
      named = refl;
      character = h;
      moves = ap (λ (w : List ℕ). behind_move table place (move_behind (settle place) (reserved (a ∷ w)) c) cs) (append-nil u) ∙ ap (λ (m : OpenMove). behind_move table place m cs) (sym (target_end (settle place) a u c q)) ∙ e;
    }

-- what stands behind a target
by_sign : (table : Table) (place next : Place) (a : ℕ) (u : List ℕ) (c : ℕ) (left : List ℕ) (given : List PageToken) (rest : List ℕ) → is_name (a ∷ u) ≡ true → is_character c ≡ true
    → behind_move table place (move_behind (settle place) (reserved (a ∷ u)) c) left ≡ whole next given rest → Targeted table place next given rest (a ∷ (u ++ c ∷ left))
by_sign table place next a u c left given rest named char e = at (is_reserved (reserved (a ∷ u))) refl (is_blank c) refl (nat_eq c 63) refl e
  where
    T : List ℕ → Type 0
    T cs = Targeted table place next given rest cs

    not_xml : is_reserved (reserved (a ∷ u)) ≡ false → str_eq_ignore_ascii_case (a ∷ u) (codes "xml") ≡ false
    not_xml r = sym (reserved_is (a ∷ u)) ∙ r

    or_false : (x y : Bool) → x ≡ false → y ≡ false → (x || y) ≡ false
    or_false true y e f = cc
    or_false false y e f = f

    and_false : (x y : Bool) → x ≡ false → (x && y) ≡ false
    and_false true y e = cc
    and_false false y e = refl

    not_asked : (c : ℕ) → is_blank c ≡ true → nat_eq 63 c ≡ false
    not_asked c h = grind arith

    data_of : is_reserved (reserved (a ∷ u)) ≡ false → is_blank c ≡ true → IsLeft IsData (codes "?>") left rest → next ≡ behind 0 → given ≡ token.Misc ∷ [] → Targeted table place next given rest (a ∷ (u ++ c ∷ left))
    data_of r b l k t =
        subst (λ (w : List ℕ). Targeted table place next given rest (a ∷ (u ++ c ∷ w))) l.spelled
        (instruction (a ∷ u) (c ∷ l.text) (record {
          named = named;
          not_reserved = sym (reserved_is (a ∷ u)) ∙ r;
          apart = b;
          characters = and_from (is_character c) (list_all is_character l.text) char l.is.characters;
          no_end = or_false _ (holds (codes "?>") l.text) (and_false (nat_eq 63 c) _ (not_asked c b)) l.is.no_end;
        }) k t)

    ended : is_reserved (reserved (a ∷ u)) ≡ false → nat_eq c 63 ≡ true → (text : List ℕ) → read table place behind_target text ≡ whole next given rest → Targeted table place next given rest (a ∷ (u ++ c ∷ text))
    ended r q [] e = cc
    ended r q (d ∷ ds) e = last (nat_eq d 62) refl (page_back table place next behind_target d ds given rest e).leads
      where
        same : (let z : Outcome Place PageToken PageState = whole (behind 0) (token.Misc ∷ []) ds in z ≡ whole next given rest) → (next ≡ behind 0) × (given ≡ token.Misc ∷ []) × (rest ≡ ds)
        same e = (cc, cc, cc)

        last : (x : Bool) → nat_eq d 62 ≡ x → (let z : OpenMove = if x then done (behind 0) (token.Misc ∷ []) else fail in behind_move table place z ds ≡ whole next given rest) → Targeted table place next given rest (a ∷ (u ++ c ∷ d ∷ ds))
        last true p e =
            let s = same e in
            subst (λ (w : List ℕ). Targeted table place next given rest (a ∷ (u ++ w))) (ap (λ (w : List ℕ). 63 ∷ 62 ∷ w) s.2 ∙ ap (λ (y : ℕ). 63 ∷ y ∷ ds) (sym (eqb-true d 62 p)) ∙ ap (λ (y : ℕ). y ∷ d ∷ ds) (sym (eqb-true c 63 q)))
            (instruction (a ∷ u) [] (record { named = named; not_reserved = sym (reserved_is (a ∷ u)) ∙ r; apart = refl; characters = refl; no_end = refl }) s.0 s.1)
        last false p e = cc

    declared : (x y : Bool) → is_xml (reserved (a ∷ u)) ≡ x → is_early (settle place) ≡ y → is_blank c ≡ true → (let z : OpenMove = if x && y && true then go (in_declaration [] (between true)) else fail in behind_move table place z left ≡ whole next given rest)
        → Targeted table place next given rest (a ∷ (u ++ c ∷ left))
    declared true true p q b e = subst (λ (w : List ℕ). Targeted table place next given rest (w ++ c ∷ left)) (sym (xml_is (a ∷ u) p)) (declaration c left b q (sym (on_is table place (in_declaration [] (between true)) left refl) ∙ e))
    declared true false p q b e = cc
    declared false y p q b e = cc

    at : (r : Bool) → is_reserved (reserved (a ∷ u)) ≡ r → (b : Bool) → is_blank c ≡ b → (x : Bool) → nat_eq c 63 ≡ x
        → (let z : OpenMove = if r then (if is_xml (reserved (a ∷ u)) && is_early (settle place) && b then go (in_declaration [] (between true)) else fail) else (if b then go (in_instruction false) else (if x then go behind_target else fail)) in behind_move table place z left ≡ whole next given rest)
        → Targeted table place next given rest (a ∷ (u ++ c ∷ left))
    at true r true b x p e = declared (is_xml (reserved (a ∷ u))) (is_early (settle place)) refl refl b e
    at true r false b x p e = absurd (dead (is_xml (reserved (a ∷ u)) && is_early (settle place)) e)
      where
        dead : (y : Bool) → (let z : OpenMove = if y && false then go (in_declaration [] (between true)) else fail in behind_move table place z left ≡ whole next given rest) → ⊥
        dead true e = cc
        dead false e = cc
    at false r true b x p e = let i = instructions_read.sound table place next left given rest (sym (on_is table place (in_instruction false) left refl) ∙ e) in data_of r b i.is i.leads i.gives
    at false r false b true p e = ended r p left (sym (on_is table place behind_target left refl) ∙ e)
    at false r false b false p e = cc

sound : (table : Table) (place next : Place) (cs : List ℕ) (given : List PageToken) (rest : List ℕ) → read table place (in_target (Some [])) cs ≡ whole next given rest → Targeted table place next given rest cs
sound table place next [] given rest e = cc
sound table place next (c ∷ cs) given rest e = at (begins_name c) refl (page_back table place next (in_target (Some [])) c cs given rest e).leads
  where
    at : (b : Bool) → begins_name c ≡ b → (let z : OpenMove = if b then go (in_target (reserved (c ∷ []))) else fail in behind_move table place z cs ≡ whole next given rest) → Targeted table place next given rest (c ∷ cs)
    at true q e =
        let l = into_target table place next cs c [] given rest (sym (on_is table place (in_target (reserved (c ∷ []))) cs refl) ∙ e) in
        subst (λ (w : List ℕ). Targeted table place next given rest (c ∷ w)) (sym l.spelled) (by_sign table place next c l.more l.sign l.left given rest (and_from (begins_name c) (list_all in_name l.more) q l.named) l.character l.moves)
    at false q e = cc

pub targets_read : TargetsRead
targets_read = record { at_instruction = at_instruction; at_declaration = at_declaration; sound = sound }
