-- What is read to an end behind attributes: they are attributes that may stand.
use Rattle.std.proofs.Common.{◌≡◌, ◌≢◌, ℕ, zero, suc, ◌+◌, ◌≤◌, ◌<◌, Bool, true, false, List, [], ◌∷◌, ◌++◌, refl, sym, ◌∙◌, ap, subst, arith, length, append-nil, append_assoc, length-append}
use Rattle.std.specs.Prelude.{if◌then◌else◌, nat_eq}
use Rattle.std.specs.List.{list_all}
use Rattle.std.proofs.lemmas.Bool.{and_from, eqb-true}
use Rattle.xml_text.specs.Characters.{is_blank, is_character}
use Rattle.xml_text.specs.Names.{begins_name, in_name}
use Rattle.page_model.specs.Parts.{Attribute, attribute_then, attributes_then, is_quote}
use Rattle.piece_steps.specs.Insides.{closing}
use Rattle.piece_steps.specs.Readers.{Move, go, fail, Reader, Outcome, whole, next, ends}
use Rattle.piece_steps.proofs.Within.{within, closer_past}
use Rattle.page_model.specs.OpenTags.{OpenAttribute, between, in_attribute_name, behind_name, behind_equals, in_value}
use Rattle.page_steps.specs.AttributeSteps.{Allowing, AttributeMove, stays, leaves, stops, equals_move, attribute_move}
use Rattle.attribute_steps.specs.Among.{moved, IsAmong, May, AllMay, names_behind}
use Rattle.attribute_steps.proofs.Over.{spaced_by, value_inside}

grows : (xs ys : List ℕ) → length ys ≤ length (xs ++ ys)
grows xs ys = let e : length (xs ++ ys) ≡ length xs + length ys = length-append xs ys in omega arith

longer : (x : Attribute) (left : List ℕ) → length left < length (attribute_then x left)
longer x left =
    let v = grows x.value (x.quote ∷ left) in
    let q = grows x.after_equals (x.quote ∷ (x.value ++ x.quote ∷ left)) in
    let b = grows x.before_equals (61 ∷ (x.after_equals ++ x.quote ∷ (x.value ++ x.quote ∷ left))) in
    let n = grows x.name (x.before_equals ++ 61 ∷ (x.after_equals ++ x.quote ∷ (x.value ++ x.quote ∷ left))) in
    let s = grows x.space (x.name ++ (x.before_equals ++ 61 ∷ (x.after_equals ++ x.quote ∷ (x.value ++ x.quote ∷ left)))) in
    omega arith

-- what stands behind attributes that may stand: white space and a character by which the reader leaves them
pub record Behind {P T S : Type 0} (r : Reader P T S) (a : Allowing) (leave : List (List ℕ) → ℕ → Move P T S) (names : List (List ℕ)) (text : List ℕ) (o : Outcome P T S) : Type 0 where
  pub attributes : List Attribute
  pub space : List ℕ
  pub sign : ℕ
  pub left : List ℕ
  pub spelled : text ≡ attributes_then attributes (space ++ sign ∷ left)
  pub may : AllMay a names attributes
  pub blank_space : list_all is_blank space ≡ true
  pub not_blank : is_blank sign ≡ false
  pub not_begin : begins_name sign ≡ false
  pub then_ends : next (leave (names_behind a names attributes) sign) (λ g. ends r g left) left ≡ o

module _ {P T S : Type 0} (r : Reader P T S) (a : Allowing) (wrap : List (List ℕ) → OpenAttribute → S) (leave : List (List ℕ) → ℕ → Move P T S) (is : IsAmong r a wrap leave) (behind : P) (tokens : List T) (rest : List ℕ) where
  abbrev Ends : List (List ℕ) → OpenAttribute → List ℕ → Type 0
  Ends names o text = ends r (wrap names o) text ≡ whole behind tokens rest

  abbrev Moves : List (List ℕ) → ℕ → AttributeMove → List ℕ → Type 0
  Moves names c m left = next (moved wrap names (leave names c) m) (λ g. ends r g left) left ≡ whole behind tokens rest

  back_more : (names : List (List ℕ)) (o : OpenAttribute) (c : ℕ) (left : List ℕ) → Ends names o (c ∷ left) → Moves names c (attribute_move a names o c) left
  back_more names o c left e = at (is_character c) (ap (λ (x : Move P T S). next x (λ g. ends r g left) left) (sym (is.steps names o c)) ∙ e)
    where
      at : (b : Bool) → (let z : Move P T S = if b then moved wrap names (leave names c) (attribute_move a names o c) else fail in next z (λ g. ends r g left) left ≡ whole behind tokens rest)
          → next (moved wrap names (leave names c) (attribute_move a names o c)) (λ g. ends r g left) left ≡ whole behind tokens rest
      at true e = e
      at false e = cc

  -- white space
  record Spaced (names : List (List ℕ)) (spaced : Bool) (text : List ℕ) : Type 0 where
    space : List ℕ
    sign : ℕ
    left : List ℕ
    spelled : text ≡ space ++ sign ∷ left
    blank : list_all is_blank space ≡ true
    not_blank : is_blank sign ≡ false
    then_moves : Moves names sign (if begins_name sign then (if spaced_by spaced space then stays (in_attribute_name (sign ∷ [])) else stops) else leaves) left

  into_space : (text : List ℕ) (names : List (List ℕ)) (spaced : Bool) → Ends names (between spaced) text → Spaced names spaced text
  into_space [] names spaced e = cc
  into_space (c ∷ cs) names spaced e = at (is_blank c) refl (back_more names (between spaced) c cs e) (λ q. into_space cs names true q)
    where
      still : (ws : List ℕ) → spaced_by true ws ≡ true
      still [] = refl
      still (d ∷ ds) = refl

      at : (b : Bool) → is_blank c ≡ b → Moves names c (if b then stays (between true) else (if begins_name c then (if spaced then stays (in_attribute_name (c ∷ [])) else stops) else leaves)) cs
          → (Ends names (between true) cs → Spaced names true cs) → Spaced names spaced (c ∷ cs)
      at true q e ih =
          let l = ih e in
          record {
            space = c ∷ l.space;
            sign = l.sign;
            left = l.left;
            spelled = ap (λ (w : List ℕ). c ∷ w) l.spelled;
            blank = and_from (is_blank c) (list_all is_blank l.space) q l.blank;
            not_blank = l.not_blank;
            then_moves = subst (λ (b : Bool). Moves names l.sign (if begins_name l.sign then (if b then stays (in_attribute_name (l.sign ∷ [])) else stops) else leaves) l.left) (still l.space) l.then_moves;
          }
      at false q e ih = record { space = []; sign = c; left = cs; spelled = refl; blank = refl; not_blank = q; then_moves = e }

  -- `=` behind a name
  record Equals (names : List (List ℕ)) (n text : List ℕ) : Type 0 where
    space : List ℕ
    left : List ℕ
    spelled : text ≡ space ++ 61 ∷ left
    blank : list_all is_blank space ≡ true
    then_ends : Ends names (behind_equals n) left

  equals_by : (c : ℕ) (cs : List ℕ) (names : List (List ℕ)) (n : List ℕ) → Moves names c (equals_move n c) cs → (Ends names (behind_name n) cs → Equals names n cs) → Equals names n (c ∷ cs)
  equals_by c cs names n e ih = at (is_blank c) refl (nat_eq c 61) refl e
    where
      at : (b : Bool) → is_blank c ≡ b → (x : Bool) → nat_eq c 61 ≡ x → Moves names c (if b then stays (behind_name n) else (if x then stays (behind_equals n) else stops)) cs → Equals names n (c ∷ cs)
      at true q x p e =
          let l = ih e in
          record { space = c ∷ l.space; left = l.left; spelled = ap (λ (w : List ℕ). c ∷ w) l.spelled; blank = and_from (is_blank c) (list_all is_blank l.space) q l.blank; then_ends = l.then_ends }
      at false q true p e = record { space = []; left = cs; spelled = ap (λ (x : ℕ). x ∷ cs) (eqb-true c 61 p); blank = refl; then_ends = e }
      at false q false p e = cc

  into_equals : (text : List ℕ) (names : List (List ℕ)) (n : List ℕ) → Ends names (behind_name n) text → Equals names n text
  into_equals [] names n e = cc
  into_equals (c ∷ cs) names n e = equals_by c cs names n (back_more names (behind_name n) c cs e) (λ q. into_equals cs names n q)

  -- the rest of a name, and `=`
  record Named (names : List (List ℕ)) (n text : List ℕ) : Type 0 where
    more : List ℕ
    left : List ℕ
    spelled : text ≡ more ++ left
    in_name_all : list_all in_name more ≡ true
    may : a.may names (n ++ more) ≡ true
    equals : Equals names (n ++ more) left

  into_name : (text : List ℕ) (names : List (List ℕ)) (n : List ℕ) → Ends names (in_attribute_name n) text → Named names n text
  into_name [] names n e = cc
  into_name (c ∷ cs) names n e = at (in_name c) refl (a.may names n) refl (back_more names (in_attribute_name n) c cs e) (λ q. into_name cs names (n ++ c ∷ []) q)
    where
      at : (b : Bool) → in_name c ≡ b → (m : Bool) → a.may names n ≡ m → Moves names c (if b then stays (in_attribute_name (n ++ c ∷ [])) else (if m then equals_move n c else stops)) cs
          → (Ends names (in_attribute_name (n ++ c ∷ [])) cs → Named names (n ++ c ∷ []) cs) → Named names n (c ∷ cs)
      at true q m p e ih =
          let l = ih e in
          let w : (n ++ c ∷ []) ++ l.more ≡ n ++ c ∷ l.more = append_assoc n (c ∷ []) l.more in
          record {
            more = c ∷ l.more;
            left = l.left;
            spelled = ap (λ (w : List ℕ). c ∷ w) l.spelled;
            in_name_all = and_from (in_name c) (list_all in_name l.more) q l.in_name_all;
            may = ap (a.may names) (sym w) ∙ l.may;
            equals = subst (λ (w : List ℕ). Equals names w l.left) w l.equals;
          }
      at false q true p e ih = record {
        more = [];
        left = c ∷ cs;
        spelled = refl;
        in_name_all = refl;
        may = ap (a.may names) (append-nil n) ∙ p;
        equals = subst (λ (w : List ℕ). Equals names w (c ∷ cs)) (sym (append-nil n)) (equals_by c cs names n e (λ q. into_equals cs names n q));
      }
      at false q false p e ih = cc

  -- a quote behind `=`
  record Quoted (names : List (List ℕ)) (n text : List ℕ) : Type 0 where
    space : List ℕ
    quote : ℕ
    left : List ℕ
    spelled : text ≡ space ++ quote ∷ left
    blank : list_all is_blank space ≡ true
    quoted : is_quote quote ≡ true
    then_ends : Ends names (in_value n quote (a.start n)) left

  into_quote : (text : List ℕ) (names : List (List ℕ)) (n : List ℕ) → Ends names (behind_equals n) text → Quoted names n text
  into_quote [] names n e = cc
  into_quote (c ∷ cs) names n e = at (is_blank c) refl (is_quote c) refl (back_more names (behind_equals n) c cs e) (λ q. into_quote cs names n q)
    where
      at : (b : Bool) → is_blank c ≡ b → (x : Bool) → is_quote c ≡ x → Moves names c (if b then stays (behind_equals n) else (if x then stays (in_value n c (a.start n)) else stops)) cs
          → (Ends names (behind_equals n) cs → Quoted names n cs) → Quoted names n (c ∷ cs)
      at true q x p e ih =
          let l = ih e in
          record { space = c ∷ l.space; quote = l.quote; left = l.left; spelled = ap (λ (w : List ℕ). c ∷ w) l.spelled; blank = and_from (is_blank c) (list_all is_blank l.space) q l.blank; quoted = l.quoted; then_ends = l.then_ends }
      at false q true p e ih = record { space = []; quote = c; left = cs; spelled = refl; blank = refl; quoted = p; then_ends = e }
      at false q false p e ih = cc

  -- one attribute
  record One (names : List (List ℕ)) (text : List ℕ) : Type 0 where
    attribute : Attribute
    left : List ℕ
    spelled : text ≡ attribute_then attribute left
    may : May a names attribute
    then_ends : Ends (a.added names attribute.name) (between false) left

  some_space : (space : List ℕ) → spaced_by false space ≡ true → space ≢ []
  some_space [] e f = cc
  some_space (c ∷ cs) e f = cc

  into_one : (space : List ℕ) (c : ℕ) (left : List ℕ) (names : List (List ℕ)) → list_all is_blank space ≡ true → spaced_by false space ≡ true → begins_name c ≡ true → Ends names (in_attribute_name (c ∷ [])) left → One names (space ++ c ∷ left)
  into_one space c left names blank spaced begins e =
      let n = into_name left names (c ∷ []) e in
      let q = into_quote n.equals.left names (c ∷ n.more) n.equals.then_ends in
      let w = within r (λ v. wrap names (in_value (c ∷ n.more) q.quote v)) (closing (a.step (c ∷ n.more)) (a.good (c ∷ n.more)) q.quote) (go (wrap (a.added names (c ∷ n.more)) (between false)))
      (value_inside r a wrap leave is names (c ∷ n.more) q.quote q.quoted) q.left (a.start (c ∷ n.more)) behind tokens rest q.then_ends in
      let v = closer_past (a.step (c ∷ n.more)) (a.good (c ∷ n.more)) q.quote q.left (a.start (c ∷ n.more)) w.left w.is_past in
      record {
        attribute = record { space = space; name = c ∷ n.more; before_equals = n.equals.space; after_equals = q.space; quote = q.quote; value = v.text };
        left = w.left;
        spelled = ap (λ (x : List ℕ). space ++ c ∷ x) (n.spelled ∙ ap (λ (x : List ℕ). n.more ++ x) (n.equals.spelled ∙ ap (λ (x : List ℕ). n.equals.space ++ 61 ∷ x) (q.spelled ∙ ap (λ (x : List ℕ). q.space ++ q.quote ∷ x) v.is)));
        may = record {
          some_space = some_space space spaced;
          blank_space = blank;
          named = and_from (begins_name c) (list_all in_name n.more) begins n.in_name_all;
          blank_before = n.equals.blank;
          blank_after = q.blank;
          quoted = q.quoted;
          free = v.none;
          may = n.may;
          accepted = v.accepted_by;
        };
        then_ends = w.then_ends;
      }

  pub into_attributes : (count : ℕ) (text : List ℕ) (names : List (List ℕ)) → length text < count → Ends names (between false) text → Behind r a leave names text (whole behind tokens rest)
  into_attributes zero text names less e = absurd (omega arith)
  into_attributes (suc count) text names less e =
      let s = into_space text names false e in
      at s.space s.sign s.left s.spelled s.blank s.not_blank (begins_name s.sign) refl (spaced_by false s.space) refl s.then_moves (λ left more l q. into_attributes count left more l q)
    where
      at : (space : List ℕ) (c : ℕ) (left : List ℕ) → text ≡ space ++ c ∷ left → list_all is_blank space ≡ true → is_blank c ≡ false → (b : Bool) → begins_name c ≡ b → (s : Bool) → spaced_by false space ≡ s
          → Moves names c (if b then (if s then stays (in_attribute_name (c ∷ [])) else stops) else leaves) left
          → ((left : List ℕ) (more : List (List ℕ)) → length left < count → Ends more (between false) left → Behind r a leave more left (whole behind tokens rest)) → Behind r a leave names text (whole behind tokens rest)
      at space c left t blank nb true p true q e ih =
          let o = into_one space c left names blank q p e in
          let is_all : text ≡ attribute_then o.attribute o.left = t ∙ o.spelled in
          let l = longer o.attribute o.left in
          let n : length text ≡ length (attribute_then o.attribute o.left) = ap length is_all in
          let m = ih o.left (a.added names o.attribute.name) (omega arith) o.then_ends in
          record {
            attributes = o.attribute ∷ m.attributes;
            space = m.space;
            sign = m.sign;
            left = m.left;
            spelled = is_all ∙ ap (attribute_then o.attribute) m.spelled;
            may = (o.may, m.may);
            blank_space = m.blank_space;
            not_blank = m.not_blank;
            not_begin = m.not_begin;
            then_ends = m.then_ends;
          }
      at space c left t blank nb true p false q e ih = cc
      at space c left t blank nb false p s q e ih = record { attributes = []; space = space; sign = c; left = left; spelled = t; may = tt; blank_space = blank; not_blank = nb; not_begin = p; then_ends = e }
