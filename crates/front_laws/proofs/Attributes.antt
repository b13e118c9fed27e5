-- Attributes, in a tag or in the XML declaration: those that are whole, and what is open behind them.
use Rattle.std.proofs.Common.{◌≡◌, ◌≢◌, ℕ, Bool, true, false, not, List, [], ◌∷◌, ◌++◌, Option, Some, None, refl, sym, ◌∙◌, ap, subst, append_assoc, append-nil, arith}
use Rattle.std.specs.Prelude.{if◌then◌else◌, nat_eq}
use Rattle.std.specs.List.{list_all}
use Rattle.std.proofs.lemmas.Bool.{and_parts, and_from}
use Rattle.std.proofs.lemmas.Bool.Decides.{nat_tests}
use Rattle.text_base.specs.declared.page_token.PageToken.{PageToken}
use Rattle.xml_text.specs.Characters.{is_blank, is_character}
use Rattle.xml_text.specs.Names.{begins_name, in_name, is_name}
use Rattle.dtd_model.specs.Table.{Table}
use Rattle.page_model.specs.Parts.{Attribute, attribute_then, attributes_then, IsAttribute, AreAttributes, is_quote, may_be_quoted}
use Rattle.page_model.specs.Places.{Place}
use Rattle.piece_steps.specs.Readers.{Move, go, done, fail}
use Rattle.page_model.specs.Fronts.{Open}
use Rattle.page_model.specs.OpenTags.{OpenAttribute, between, in_attribute_name, behind_name, behind_equals, in_value, IsGap, IsFrontOfName, is_some_space, InValue, AttributeStands}
use Rattle.page_model.specs.OpenValues.{OpenValue}
use Rattle.page_steps.specs.AttributeSteps.{Allowing, AttributeMove, stays, ends_with, leaves, stops, equals_move, valued, attribute_move}
use Rattle.page_steps.specs.PageSteps.{OpenMove, open_move}
use Rattle.attribute_steps.specs.Among.{moved, is_free, names_behind}
use Rattle.attribute_steps.proofs.Over.{spaced_by}
use Rattle.attribute_steps.proofs.Quotes.{to_quoted}
use Rattle.reference_steps.proofs.Words.{name_not_blank}
use Rattle.front_laws.proofs.Folds.{Folds, From, nowhere, here, Led, embedded, same}
use Rattle.front_laws.proofs.Pages.{goes, open_step, Leads, Next, leads_here, leads_onto, more, go_on, ended, dead, by_test, not_both}

pub blank_not_name : (c : ℕ) → is_blank c ≡ true → in_name c ≡ false
blank_not_name c h = grind (arith, nat_tests)

quote_not_blank : (c : ℕ) → is_quote c ≡ true → is_blank c ≡ false
quote_not_blank c h = grind (arith, nat_tests)

begins_in : (c : ℕ) → begins_name c ≡ true → in_name c ≡ true
begins_in c h = grind (arith, nat_tests)

pub are_in_name : (name : List ℕ) → is_name name ≡ true → IsFrontOfName name
are_in_name [] h = cc
are_in_name (n ∷ name) h = ((λ e. cc), let p = and_parts (begins_name n) (list_all in_name name) h in and_from (in_name n) (list_all in_name name) (begins_in n p.0) p.1)

still : (cs : List ℕ) → spaced_by true cs ≡ true
still [] = refl
still (c ∷ cs) = refl

-- the reader follows the moves in these states, and nothing goes on with a character of a name where attributes are left
pub record Among (table : Table) (place : Place) (a : Allowing) (wrap : List (List ℕ) → OpenAttribute → Open) (leave : List (List ℕ) → ℕ → OpenMove) : Type 0 where
  pub steps : (names : List (List ℕ)) (o : OpenAttribute) (c : ℕ) → open_move table place (wrap names o) c ≡ moved wrap names (leave names c) (attribute_move a names o c)
  pub no_name : (names : List (List ℕ)) (c : ℕ) → in_name c ≡ true → goes (leave names c) ≡ None

module _ (table : Table) (place : Place) (a : Allowing) (wrap : List (List ℕ) → OpenAttribute → Open) (leave : List (List ℕ) → ℕ → OpenMove) (is : Among table place a wrap leave) where
  abbrev Go : List (List ℕ) → OpenAttribute → List ℕ → Open → Type 0
  Go names o text w = Leads table place (wrap names o) text w

  -- behind a move among attributes
  record By (names : List (List ℕ)) (c : ℕ) (m : AttributeMove) (text : List ℕ) (w : Open) : Type 0 where
    next : Next table place (moved wrap names (leave names c) m) text w

  one : (names : List (List ℕ)) (o : OpenAttribute) (c : ℕ) {cs : List ℕ} {w : Open} → By names c (attribute_move a names o c) cs w → Go names o (c ∷ cs) w
  one names o c {cs} {w} f = more (wrap names o) c (subst (λ (m : OpenMove). Next table place m cs w) (sym (is.steps names o c)) f.next)

  stay : {names : List (List ℕ)} {c : ℕ} {o : OpenAttribute} {cs : List ℕ} {w : Open} → Go names o cs w → By names c (stays o) cs w
  stay f = record { next = go_on f }

  stop_there : {names : List (List ℕ)} {c : ℕ} {cs : List ℕ} {w : Open} → By names c stops cs w
  stop_there = record { next = dead }

  by_if : {names : List (List ℕ)} {c : ℕ} {cs : List ℕ} {w : Open} (b : Bool) (x y : AttributeMove) → (b ≡ true → By names c x cs w) → (b ≡ false → By names c y cs w) → By names c (if b then x else y) cs w
  by_if true x y p q = p refl
  by_if false x y p q = q refl

  pub over_space : (space : List ℕ) {names : List (List ℕ)} (spaced : Bool) {rest : List ℕ} {w : Open} → list_all is_blank space ≡ true → Go names (between (spaced_by spaced space)) rest w → Go names (between spaced) (space ++ rest) w
  over_space [] spaced h f = f
  over_space (c ∷ cs) {names} spaced {rest} {w} h f =
      let p = and_parts (is_blank c) (list_all is_blank cs) h in
      one names (between spaced) c
      (by_if (is_blank c) (stays (between true)) _ (λ b. stay (over_space cs true p.1 (subst (λ (x : Bool). Go names (between x) rest w) (sym (still cs)) f))) (λ b. not_both (is_blank c) p.0 b))

  over_name : (m n : List ℕ) {names : List (List ℕ)} {rest : List ℕ} {w : Open} → list_all in_name m ≡ true → Go names (in_attribute_name (n ++ m)) rest w → Go names (in_attribute_name n) (m ++ rest) w
  over_name [] n {names} {rest} {w} h f = subst (λ (x : List ℕ). Go names (in_attribute_name x) rest w) (append-nil n) f
  over_name (c ∷ cs) n {names} {rest} {w} h f =
      let p = and_parts (in_name c) (list_all in_name cs) h in
      one names (in_attribute_name n) c
      (by_if (in_name c) (stays (in_attribute_name (n ++ c ∷ []))) _
      (λ b. stay (over_name cs (n ++ c ∷ []) p.1 (subst (λ (x : List ℕ). Go names (in_attribute_name x) rest w) (sym (append_assoc n (c ∷ []) cs)) f)))
      (λ b. not_both (in_name c) p.0 b))

  -- a name behind white space, if it stands there
  over_named : (name : List ℕ) {names : List (List ℕ)} (spaced : Bool) {rest : List ℕ} {w : Open} → IsFrontOfName name → Go names (in_attribute_name name) rest w → Go names (between spaced) (name ++ rest) w
  over_named [] spaced (some, h) f = absurd (some refl)
  over_named (n ∷ name) {names} spaced {rest} {w} (some, h) f =
      let p = and_parts (in_name n) (list_all in_name name) h in
      one names (between spaced) n
      (by_if (is_blank n) (stays (between true)) _ (λ b. not_both (is_blank n) b (name_not_blank n p.0))
      (λ b. by_if (begins_name n) (if spaced then stays (in_attribute_name (n ∷ [])) else stops) leaves
      (λ g. by_if spaced (stays (in_attribute_name (n ∷ []))) stops (λ s. stay (over_name name (n ∷ []) p.1 f)) (λ s. stop_there))
      (λ g. record { next = record { from = subst (λ (o : Option Open). From (open_step table place) o (name ++ rest) w) (sym (is.no_name names n p.0)) nowhere } })))

  over_blanks : (space : List ℕ) (n : List ℕ) {names : List (List ℕ)} {rest : List ℕ} {w : Open} → list_all is_blank space ≡ true → Go names (behind_name n) rest w → Go names (behind_name n) (space ++ rest) w
  over_blanks [] n h f = f
  over_blanks (c ∷ cs) n {names} h f =
      let p = and_parts (is_blank c) (list_all is_blank cs) h in
      one names (behind_name n) c (by_if (is_blank c) (stays (behind_name n)) _ (λ b. stay (over_blanks cs n p.1 f)) (λ b. not_both (is_blank c) p.0 b))

  -- behind a name stands white space
  over_gap : (c : ℕ) (cs n : List ℕ) {names : List (List ℕ)} {rest : List ℕ} {w : Open} → list_all is_blank (c ∷ cs) ≡ true → Go names (behind_name n) rest w → Go names (in_attribute_name n) (c ∷ (cs ++ rest)) w
  over_gap c cs n {names} h f =
      let p = and_parts (is_blank c) (list_all is_blank cs) h in
      one names (in_attribute_name n) c
      (by_if (in_name c) (stays (in_attribute_name (n ++ c ∷ []))) _ (λ b. not_both (in_name c) b (blank_not_name c p.0))
      (λ b. by_if (a.may names n) (equals_move n c) stops
      (λ m. by_if (is_blank c) (stays (behind_name n)) _ (λ k. stay (over_blanks cs n p.1 f)) (λ k. not_both (is_blank c) p.0 k))
      (λ m. stop_there)))

  over_before : (space : List ℕ) (n : List ℕ) {names : List (List ℕ)} {rest : List ℕ} {w : Open} → list_all is_blank space ≡ true → Go names (behind_equals n) rest w → Go names (in_attribute_name n) (space ++ 61 ∷ rest) w
  over_before [] n {names} h f = one names (in_attribute_name n) 61 (by_if (a.may names n) (stays (behind_equals n)) stops (λ m. stay f) (λ m. stop_there))
  over_before (c ∷ cs) n {names} h f = over_gap c cs n h (one names (behind_name n) 61 (stay f))

  over_after : (space : List ℕ) (n : List ℕ) {names : List (List ℕ)} {rest : List ℕ} {w : Open} → list_all is_blank space ≡ true → Go names (behind_equals n) rest w → Go names (behind_equals n) (space ++ rest) w
  over_after [] n h f = f
  over_after (c ∷ cs) n {names} h f =
      let p = and_parts (is_blank c) (list_all is_blank cs) h in
      one names (behind_equals n) c (by_if (is_blank c) (stays (behind_equals n)) _ (λ b. stay (over_after cs n p.1 f)) (λ b. not_both (is_blank c) p.0 b))

  over_quote : (n : List ℕ) (quote : ℕ) {names : List (List ℕ)} {rest : List ℕ} {w : Open} → is_quote quote ≡ true → Go names (in_value n quote (a.start n)) rest w → Go names (behind_equals n) (quote ∷ rest) w
  over_quote n quote {names} q f =
      one names (behind_equals n) quote
      (by_if (is_blank quote) (stays (behind_equals n)) _ (λ b. not_both (is_blank quote) b (quote_not_blank quote q))
      (λ b. by_if (is_quote quote) (stays (in_value n quote (a.start n))) stops (λ k. stay f) (λ k. stop_there)))

  -- a whole value, and its quote
  over_value : (value : List ℕ) (n : List ℕ) (quote : ℕ) (v : OpenValue) {names : List (List ℕ)} {rest : List ℕ} {w : Open} → list_all (is_free quote) value ≡ true
      → Go (a.added names n) (between false) rest w → Go names (in_value n quote v) (value ++ quote ∷ rest) w
  over_value [] n quote v {names} {rest} {w} h f =
      one names (in_value n quote v) quote
      (by_if (nat_eq quote quote) (if a.good n v then ends_with (a.added names n) else stops) _
      (λ b. by_if (a.good n v) (ends_with (a.added names n)) stops (λ g. record { next = go_on f }) (λ g. stop_there))
      (λ b. not_both (nat_eq quote quote) (itself quote) b))
    where
      itself : (n : ℕ) → nat_eq n n ≡ true
      itself n = grind (arith, nat_tests)
  over_value (c ∷ cs) n quote v {names} {rest} {w} h f =
      one names (in_value n quote v) c
      (by_if (nat_eq c quote) _ (valued n quote (a.step n v c)) (λ b. not_both (nat_eq c quote) b (free (nat_eq c quote) (and_parts (is_free quote c) (list_all (is_free quote) cs) h).0))
      (λ b. at (a.step n v c) (λ g. over_value cs n quote g (and_parts (is_free quote c) (list_all (is_free quote) cs) h).1 f)))
    where
      free : (b : Bool) → not b ≡ true → b ≡ false
      free true e = cc
      free false e = refl

      at : (o : Option OpenValue) → ((g : OpenValue) → Go names (in_value n quote g) (cs ++ quote ∷ rest) w) → By names c (valued n quote o) (cs ++ quote ∷ rest) w
      at None ih = stop_there
      at (Some g) ih = stay (ih g)

  -- so much of a value
  in_quotes : (value : List ℕ) (n : List ℕ) (quote : ℕ) (v u : OpenValue) (names : List (List ℕ)) → list_all (λ c. not (nat_eq c quote)) value ≡ true → Folds (a.step n) v value u
      → Go names (in_value n quote v) value (wrap names (in_value n quote u))
  in_quotes value n quote v u names h f = record { folds = embedded (λ x. wrap names (in_value n quote x)) (is_free quote) steps h f }
    where
      by : (x : OpenValue) (c : ℕ) (z : Open) (y b : Bool) → is_free quote c ≡ true → nat_eq c quote ≡ b → (o : Option OpenValue) → a.step n x c ≡ o
          → (let m : AttributeMove = if b then (if a.good n x then ends_with (a.added names n) else stops) else valued n quote o in if y then goes (moved wrap names (leave names c) m) else None) ≡ Some z
          → Led (a.step n) (λ x. wrap names (in_value n quote x)) x c z
      by x c z true true k q o e h = let m : not true ≡ true = ap not (sym q) ∙ k in cc
      by x c z true false k q None e h = cc
      by x c z true false k q (Some g) e h = record { g = g; led = e; is = sym (same (wrap names (in_value n quote g)) z h) }
      by x c z false b k q o e h = cc

      steps : (x : OpenValue) (c : ℕ) (z : Open) → is_free quote c ≡ true → open_step table place (wrap names (in_value n quote x)) c ≡ Some z → Led (a.step n) (λ x. wrap names (in_value n quote x)) x c z
      steps x c z k e = by x c z (is_character c) (nat_eq c quote) k refl (a.step n x c) refl (ap (λ (m : OpenMove). if is_character c then goes m else None) (sym (is.steps names (in_value n quote x) c)) ∙ e)

  over_attribute : (x : Attribute) {names : List (List ℕ)} (spaced : Bool) {rest : List ℕ} {w : Open} → IsAttribute x → Go (a.added names x.name) (between false) rest w → Go names (between spaced) (attribute_then x rest) w
  over_attribute x spaced h f =
      over_space x.space spaced h.blank_space
      (over_named x.name (spaced_by spaced x.space) (are_in_name x.name h.named)
      (over_before x.before_equals x.name h.blank_before
      (over_after x.after_equals x.name h.blank_after
      (over_quote x.name x.quote h.quoted (over_value x.value x.name x.quote (a.start x.name) (to_quoted x.quote x.value h.characters).free f)))))

  pub over_attributes : (xs : List Attribute) (names : List (List ℕ)) {rest : List ℕ} {w : Open} → AreAttributes xs → Go (names_behind a names xs) (between false) rest w → Go names (between false) (attributes_then xs rest) w
  over_attributes [] names h f = f
  over_attributes (x ∷ xs) names h f = over_attribute x false h.0 (over_attributes xs (a.added names x.name) h.1 f)

  -- a character that is none of an attribute
  pub over_sign : (names : List (List ℕ)) (spaced : Bool) (c : ℕ) {cs : List ℕ} {w : Open} → is_blank c ≡ false → begins_name c ≡ false → Next table place (leave names c) cs w → Go names (between spaced) (c ∷ cs) w
  over_sign names spaced c b n f =
      one names (between spaced) c
      (by_if (is_blank c) (stays (between true)) _ (λ k. not_both (is_blank c) k b)
      (λ k. by_if (begins_name c) (if spaced then stays (in_attribute_name (c ∷ [])) else stops) leaves (λ g. not_both (begins_name c) g n) (λ g. record { next = f })))

  -- what is open behind them
  pub behind_attributes : (Stands : List ℕ → OpenValue → List ℕ → Type 0) (names : List (List ℕ)) → ((name : List ℕ) (v : OpenValue) (value : List ℕ) → Stands name v value → Folds (a.step name) (a.start name) value v)
      → (o : OpenAttribute) (rest : List ℕ) → AttributeStands Stands o rest → Go names (between false) rest (wrap names o)
  behind_attributes Stands names values (between spaced) rest (h, e) =
      subst (λ (x : List ℕ). Go names (between false) x (wrap names (between spaced))) (append-nil rest)
      (over_space rest false h (leads_here (ap (λ (b : Bool). wrap names (between b)) (same_space rest ∙ sym e))))
    where
      same_space : (cs : List ℕ) → spaced_by false cs ≡ is_some_space cs
      same_space [] = refl
      same_space (c ∷ cs) = refl
  behind_attributes Stands names values (in_attribute_name name) rest (gap, e, (some, h), n) =
      subst (λ (x : List ℕ). Go names (between false) x (wrap names (in_attribute_name name))) (ap (λ (x : List ℕ). gap ++ x) (append-nil name) ∙ sym e)
      (over_space gap false h (over_named name (spaced_by false gap) n (leads_here refl)))
  behind_attributes Stands names values (behind_name name) rest (gap, before, e, (some, h), n, (other, k)) =
      subst (λ (x : List ℕ). Go names (between false) x (wrap names (behind_name name))) (ap (λ (x : List ℕ). gap ++ (name ++ x)) (append-nil before) ∙ sym e)
      (over_space gap false h (over_named name (spaced_by false gap) n (gap_behind before other k)))
    where
      gap_behind : (before : List ℕ) → (before ≢ []) → list_all is_blank before ≡ true → Go names (in_attribute_name name) (before ++ []) (wrap names (behind_name name))
      gap_behind [] other k = absurd (other refl)
      gap_behind (c ∷ cs) other k = over_gap c cs name k (leads_here refl)
  behind_attributes Stands names values (behind_equals name) rest (gap, before, after, e, (some, h), n, k, l) =
      subst (λ (x : List ℕ). Go names (between false) x (wrap names (behind_equals name))) (ap (λ (x : List ℕ). gap ++ (name ++ (before ++ 61 ∷ x))) (append-nil after) ∙ sym e)
      (over_space gap false h (over_named name (spaced_by false gap) n (over_before before name k (over_after after name l (leads_here refl)))))
  behind_attributes Stands names values (in_value name quote v) rest s =
      subst (λ (x : List ℕ). Go names (between false) x (wrap names (in_value name quote v))) (sym s.is)
      (over_space s.gap false s.some_gap.1
      (over_named name (spaced_by false s.gap) s.named
      (over_before s.before name s.blank_before
      (over_after s.after name s.blank_after
      (over_quote name quote s.quoted (in_quotes s.value name quote (a.start name) v names s.quoted_value (values name v s.value s.stands)))))))
