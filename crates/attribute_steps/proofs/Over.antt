-- Attributes that may stand are read to their end.
use Rattle.std.proofs.Common.{◌≡◌, ◌≢◌, ℕ, Bool, true, false, not, ◌&&◌, List, [], ◌∷◌, ◌++◌, Option, Some, None, refl, sym, ◌∙◌, ap, arith, append-nil, append_assoc}
use Rattle.std.specs.Prelude.{if◌then◌else◌, nat_eq}
use Rattle.std.specs.List.{list_all}
use Rattle.std.proofs.lemmas.Bool.{and_parts, eqb-true}
use Rattle.std.proofs.lemmas.Bool.Decides.{nat_tests}
use Rattle.xml_text.specs.Characters.{is_blank, is_character}
use Rattle.xml_text.specs.Names.{begins_name, in_name, is_name}
use Rattle.page_model.specs.Parts.{Attribute, attribute_then, attributes_then, is_quote}
use Rattle.piece_steps.specs.Insides.{Turn, on, out, stop, stepped, closing, inside, IsInside, accepts}
use Rattle.piece_steps.specs.Readers.{Move, go, done, fail, Reader, Outcome, next, ends}
use Rattle.piece_steps.proofs.Within.{through, past_closer}
use Rattle.page_model.specs.OpenTags.{OpenAttribute, between, in_attribute_name, behind_name, behind_equals, in_value}
use Rattle.page_model.specs.OpenValues.{OpenValue}
use Rattle.page_steps.specs.AttributeSteps.{Allowing, AttributeMove, stays, ends_with, leaves, stops, between_move, equals_move, quote_move, valued, attribute_move}
use Rattle.attribute_steps.specs.Among.{moved, IsAmong, is_free, May, AllMay, names_behind}

-- Classes of characters.

pub blank_character : (c : ℕ) → is_blank c ≡ true → is_character c ≡ true
blank_character c h = grind (arith, nat_tests)

pub name_character : (c : ℕ) → in_name c ≡ true → is_character c ≡ true
name_character c h = grind (arith, nat_tests)

pub begins_in : (c : ℕ) → begins_name c ≡ true → in_name c ≡ true
begins_in c h = grind (arith, nat_tests)

pub begins_not_blank : (c : ℕ) → begins_name c ≡ true → is_blank c ≡ false
begins_not_blank c h = grind (arith, nat_tests)

pub blank_not_name : (c : ℕ) → is_blank c ≡ true → in_name c ≡ false
blank_not_name c h = grind (arith, nat_tests)

pub quote_character : (c : ℕ) → is_quote c ≡ true → is_character c ≡ true
quote_character c h = grind (arith, nat_tests)

pub quote_not_blank : (c : ℕ) → is_quote c ≡ true → is_blank c ≡ false
quote_not_blank c h = grind (arith, nat_tests)

-- One character more.
pub one_more : {P T S : Type 0} (r : Reader P T S) (a : Allowing) (wrap : List (List ℕ) → OpenAttribute → S) (leave : List (List ℕ) → ℕ → Move P T S) → IsAmong r a wrap leave
    → (names : List (List ℕ)) (o : OpenAttribute) (c : ℕ) (m : AttributeMove) (rest : List ℕ) → is_character c ≡ true → attribute_move a names o c ≡ m
    → ends r (wrap names o) (c ∷ rest) ≡ next (moved wrap names (leave names c) m) (λ g. ends r g rest) rest
one_more {P} {T} {S} r a wrap leave is names o c m rest h e =
    ap (λ (x : Move P T S). next x (λ g. ends r g rest) rest) (is.steps names o c)
    ∙ ap (λ (b : Bool). let z : Move P T S = if b then moved wrap names (leave names c) (attribute_move a names o c) else fail in next z (λ g. ends r g rest) rest) h
    ∙ ap (λ (m : AttributeMove). next (moved wrap names (leave names c) m) (λ g. ends r g rest) rest) e

abbrev pub spaced_by : Bool → List ℕ → Bool
spaced_by spaced [] = spaced
spaced_by spaced (c ∷ cs) = true

module _ {P T S : Type 0} (r : Reader P T S) (a : Allowing) (wrap : List (List ℕ) → OpenAttribute → S) (leave : List (List ℕ) → ℕ → Move P T S) (is : IsAmong r a wrap leave) where
  over_space : (space : List ℕ) (names : List (List ℕ)) (spaced : Bool) (rest : List ℕ) → list_all is_blank space ≡ true → ends r (wrap names (between spaced)) (space ++ rest) ≡ ends r (wrap names (between (spaced_by spaced space))) rest
  over_space [] names spaced rest h = refl
  over_space (c ∷ cs) names spaced rest h =
      let p = and_parts (is_blank c) (list_all is_blank cs) h in
      one_more r a wrap leave is names (between spaced) c (stays (between true)) (cs ++ rest) (blank_character c p.0) (ap (λ (b : Bool). if b then stays (between true) else (if begins_name c then (if spaced then stays (in_attribute_name (c ∷ [])) else stops) else leaves)) p.0)
      ∙ over_space cs names true rest p.1
      ∙ ap (λ (b : Bool). ends r (wrap names (between b)) rest) (still cs)
    where
      still : (cs : List ℕ) → spaced_by true cs ≡ true
      still [] = refl
      still (d ∷ ds) = refl

  over_name : (m : List ℕ) (names : List (List ℕ)) (n rest : List ℕ) → list_all in_name m ≡ true → ends r (wrap names (in_attribute_name n)) (m ++ rest) ≡ ends r (wrap names (in_attribute_name (n ++ m))) rest
  over_name [] names n rest h = ap (λ (w : List ℕ). ends r (wrap names (in_attribute_name w)) rest) (sym (append-nil n))
  over_name (c ∷ cs) names n rest h =
      let p = and_parts (in_name c) (list_all in_name cs) h in
      one_more r a wrap leave is names (in_attribute_name n) c (stays (in_attribute_name (n ++ c ∷ []))) (cs ++ rest) (name_character c p.0) (ap (λ (b : Bool). if b then stays (in_attribute_name (n ++ c ∷ [])) else (if a.may names n then equals_move n c else stops)) p.0)
      ∙ over_name cs names (n ++ c ∷ []) rest p.1
      ∙ ap (λ (w : List ℕ). ends r (wrap names (in_attribute_name w)) rest) (append_assoc n (c ∷ []) cs)

  -- white space and `=` behind a name
  over_equals : (space : List ℕ) (names : List (List ℕ)) (n rest : List ℕ) → list_all is_blank space ≡ true → ends r (wrap names (behind_name n)) (space ++ 61 ∷ rest) ≡ ends r (wrap names (behind_equals n)) rest
  over_equals [] names n rest h = one_more r a wrap leave is names (behind_name n) 61 (stays (behind_equals n)) rest refl refl
  over_equals (c ∷ cs) names n rest h =
      let p = and_parts (is_blank c) (list_all is_blank cs) h in
      one_more r a wrap leave is names (behind_name n) c (stays (behind_name n)) (cs ++ 61 ∷ rest) (blank_character c p.0) (ap (λ (b : Bool). if b then stays (behind_name n) else (if nat_eq c 61 then stays (behind_equals n) else stops)) p.0)
      ∙ over_equals cs names n rest p.1

  over_before : (space : List ℕ) (names : List (List ℕ)) (n rest : List ℕ) → list_all is_blank space ≡ true → a.may names n ≡ true → ends r (wrap names (in_attribute_name n)) (space ++ 61 ∷ rest) ≡ ends r (wrap names (behind_equals n)) rest
  over_before [] names n rest h m = one_more r a wrap leave is names (in_attribute_name n) 61 (stays (behind_equals n)) rest refl (ap (λ (b : Bool). if b then stays (behind_equals n) else stops) m)
  over_before (c ∷ cs) names n rest h m =
      let p = and_parts (is_blank c) (list_all is_blank cs) h in
      one_more r a wrap leave is names (in_attribute_name n) c (stays (behind_name n)) (cs ++ 61 ∷ rest) (blank_character c p.0) (by c p.0)
      ∙ over_equals cs names n rest p.1
    where
      by : (c : ℕ) → is_blank c ≡ true → attribute_move a names (in_attribute_name n) c ≡ stays (behind_name n)
      by c q =
          ap (λ (b : Bool). if b then stays (in_attribute_name (n ++ c ∷ [])) else (if a.may names n then equals_move n c else stops)) (blank_not_name c q)
          ∙ ap (λ (b : Bool). if b then equals_move n c else stops) m
          ∙ ap (λ (b : Bool). if b then stays (behind_name n) else (if nat_eq c 61 then stays (behind_equals n) else stops)) q

  over_after : (space : List ℕ) (names : List (List ℕ)) (n : List ℕ) (quote : ℕ) (rest : List ℕ) → list_all is_blank space ≡ true → is_quote quote ≡ true
      → ends r (wrap names (behind_equals n)) (space ++ quote ∷ rest) ≡ ends r (wrap names (in_value n quote (a.start n))) rest
  over_after [] names n quote rest h q =
      one_more r a wrap leave is names (behind_equals n) quote (stays (in_value n quote (a.start n))) rest (quote_character quote q)
      (ap (λ (b : Bool). if b then stays (behind_equals n) else (if is_quote quote then stays (in_value n quote (a.start n)) else stops)) (quote_not_blank quote q) ∙ ap (λ (b : Bool). if b then stays (in_value n quote (a.start n)) else stops) q)
  over_after (c ∷ cs) names n quote rest h q =
      let p = and_parts (is_blank c) (list_all is_blank cs) h in
      one_more r a wrap leave is names (behind_equals n) c (stays (behind_equals n)) (cs ++ quote ∷ rest) (blank_character c p.0) (ap (λ (b : Bool). if b then stays (behind_equals n) else (if is_quote c then stays (in_value n c (a.start n)) else stops)) p.0)
      ∙ over_after cs names n quote rest p.1 q

  -- a value is a small machine
  pub value_inside : (names : List (List ℕ)) (n : List ℕ) (quote : ℕ) → is_quote quote ≡ true → IsInside r (λ v. wrap names (in_value n quote v)) (closing (a.step n) (a.good n) quote) (go (wrap (a.added names n) (between false)))
  value_inside names n quote q v c = is.steps names (in_value n quote v) c ∙ at (is_character c) refl
    where
      wide : (o : Option OpenValue) → moved wrap names (leave names c) (valued n quote o) ≡ inside (λ v. wrap names (in_value n quote v)) (go (wrap (a.added names n) (between false))) (stepped o)
      wide None = refl
      wide (Some g) = refl

      good_is : (g : Bool) → moved wrap names (leave names c) (if g then ends_with (a.added names n) else stops) ≡ inside (λ v. wrap names (in_value n quote v)) (go (wrap (a.added names n) (between false))) (let z : Turn OpenValue = if g then out else stop in z)
      good_is true = refl
      good_is false = refl

      turn : (b : Bool) → moved wrap names (leave names c) (if b then (if a.good n v then ends_with (a.added names n) else stops) else valued n quote (a.step n v c))
          ≡ inside (λ v. wrap names (in_value n quote v)) (go (wrap (a.added names n) (between false))) (if b then (if a.good n v then out else stop) else stepped (a.step n v c))
      turn true = good_is (a.good n v)
      turn false = wide (a.step n v c)

      other : (b : Bool) → nat_eq c quote ≡ b → is_character c ≡ false → (let z : Move P T S = fail in z ≡ inside (λ v. wrap names (in_value n quote v)) (go (wrap (a.added names n) (between false))) (if b then (if a.good n v then out else stop) else stepped (a.step n v c)))
      other true e h = let z : true ≡ false = sym (quote_character quote q) ∙ ap is_character (sym (eqb-true c quote e)) ∙ h in cc
      other false e h = ap (λ (o : Option OpenValue). inside (λ v. wrap names (in_value n quote v)) (go (wrap (a.added names n) (between false))) (stepped o)) (sym (is.strict n v c h))

      at : (b : Bool) → is_character c ≡ b → (let z : Move P T S = if b then moved wrap names (leave names c) (attribute_move a names (in_value n quote v) c) else fail in z
          ≡ inside (λ v. wrap names (in_value n quote v)) (go (wrap (a.added names n) (between false))) (closing (a.step n) (a.good n) quote v c))
      at true h = turn (nat_eq c quote)
      at false h = other (nat_eq c quote) refl h

  over_value : (names : List (List ℕ)) (n : List ℕ) (quote : ℕ) (value rest : List ℕ) → is_quote quote ≡ true → list_all (is_free quote) value ≡ true → accepts (a.step n) (a.good n) (a.start n) value ≡ true
      → ends r (wrap names (in_value n quote (a.start n))) (value ++ quote ∷ rest) ≡ ends r (wrap (a.added names n) (between false)) rest
  over_value names n quote value rest q f e =
      through r (λ v. wrap names (in_value n quote v)) (closing (a.step n) (a.good n) quote) (go (wrap (a.added names n) (between false))) (value_inside names n quote q)
      (value ++ quote ∷ rest) (a.start n) rest (past_closer (a.step n) (a.good n) quote value (a.start n) rest f e)

  -- from a name on
  over_named : (x : Attribute) (names : List (List ℕ)) (rest : List ℕ) → May a names x → (name : List ℕ) → x.name ≡ name
      → ends r (wrap names (between true)) (name ++ (x.before_equals ++ 61 ∷ (x.after_equals ++ x.quote ∷ (x.value ++ x.quote ∷ rest)))) ≡ ends r (wrap (a.added names x.name) (between false)) rest
  over_named x names rest h [] e = let z : is_name [] ≡ true = ap is_name (sym e) ∙ h.named in cc
  over_named x names rest h (n ∷ name) e =
      let p = and_parts (begins_name n) (list_all in_name name) (ap is_name (sym e) ∙ h.named) in
      let tail = x.before_equals ++ 61 ∷ (x.after_equals ++ x.quote ∷ (x.value ++ x.quote ∷ rest)) in
      one_more r a wrap leave is names (between true) n (stays (in_attribute_name (n ∷ []))) (name ++ tail) (name_character n (begins_in n p.0))
      (ap (λ (b : Bool). if b then stays (between true) else (if begins_name n then stays (in_attribute_name (n ∷ [])) else leaves)) (begins_not_blank n p.0) ∙ ap (λ (b : Bool). if b then stays (in_attribute_name (n ∷ [])) else leaves) p.0)
      ∙ over_name name names (n ∷ []) tail p.1
      ∙ ap (λ (w : List ℕ). ends r (wrap names (in_attribute_name w)) tail) (sym e)
      ∙ over_before x.before_equals names x.name (x.after_equals ++ x.quote ∷ (x.value ++ x.quote ∷ rest)) h.blank_before h.may
      ∙ over_after x.after_equals names x.name x.quote (x.value ++ x.quote ∷ rest) h.blank_after h.quoted
      ∙ over_value names x.name x.quote x.value rest h.quoted h.free h.accepted

  over_attribute : (x : Attribute) (names : List (List ℕ)) (spaced : Bool) (rest : List ℕ) → May a names x → ends r (wrap names (between spaced)) (attribute_then x rest) ≡ ends r (wrap (a.added names x.name) (between false)) rest
  over_attribute x names spaced rest h =
      over_space x.space names spaced (x.name ++ (x.before_equals ++ 61 ∷ (x.after_equals ++ x.quote ∷ (x.value ++ x.quote ∷ rest)))) h.blank_space
      ∙ ap (λ (b : Bool). ends r (wrap names (between b)) (x.name ++ (x.before_equals ++ 61 ∷ (x.after_equals ++ x.quote ∷ (x.value ++ x.quote ∷ rest))))) (some x.space h.some_space)
      ∙ over_named x names rest h x.name refl
    where
      some : (space : List ℕ) → space ≢ [] → spaced_by spaced space ≡ true
      some [] f = absurd (f refl)
      some (c ∷ cs) f = refl

  -- attributes, white space, and a character that is none of these
  pub over_attributes : (xs : List Attribute) (names : List (List ℕ)) (spaced : Bool) (space : List ℕ) (c : ℕ) (rest : List ℕ) → AllMay a names xs → list_all is_blank space ≡ true
      → is_character c ≡ true → is_blank c ≡ false → begins_name c ≡ false
      → ends r (wrap names (between spaced)) (attributes_then xs (space ++ c ∷ rest)) ≡ next (leave (names_behind a names xs) c) (λ g. ends r g rest) rest
  over_attributes [] names spaced space c rest h blank char nb nn =
      over_space space names spaced (c ∷ rest) blank
      ∙ one_more r a wrap leave is names (between (spaced_by spaced space)) c leaves rest char
      (ap (λ (b : Bool). if b then stays (between true) else (if begins_name c then (if spaced_by spaced space then stays (in_attribute_name (c ∷ [])) else stops) else leaves)) nb
      ∙ ap (λ (b : Bool). if b then (if spaced_by spaced space then stays (in_attribute_name (c ∷ [])) else stops) else leaves) nn)
  over_attributes (x ∷ xs) names spaced space c rest h blank char nb nn =
      over_attribute x names spaced (attributes_then xs (space ++ c ∷ rest)) h.0 ∙ over_attributes xs (a.added names x.name) false space c rest h.1 blank char nb nn
