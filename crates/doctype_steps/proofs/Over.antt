-- A document type declaration that a definition allows is read to its end.
use Rattle.std.proofs.Common.{◌≡◌, ◌≢◌, ℕ, Bool, true, false, not, ◌&&◌, ◌||◌, List, [], ◌∷◌, ◌++◌, Option, Some, None, refl, sym, ◌∙◌, ap, arith, append_assoc}
use Rattle.std.specs.Prelude.{if◌then◌else◌, nat_eq, codes, bytes_eq}
use Rattle.std.specs.List.{list_all}
use Rattle.std.proofs.lemmas.Bool.{and_parts, eq-eqb}
use Rattle.std.proofs.lemmas.Bool.Decides.{nat_tests}
use Rattle.xml_text.specs.Characters.{is_blank, is_character}
use Rattle.xml_text.specs.Names.{in_public_identifier}
use Rattle.dtd_model.specs.declared.dtd.DoctypeRule.{DoctypeRule}
use Rattle.dtd_model.specs.declared.dtd.DoctypeRule.TheVariants.{Strict, Free}
use Rattle.page_model.specs.Attributes.{doctype_fits}
use Rattle.page_model.specs.Parts.{is_quote}
use Rattle.page_model.specs.Prolog.{Literal, literal_then, IsLiteral, Identifier, no_identifier, system, public, identifier_then, IsSpace, IsIdentifier, Doctype, IsDoctype, is_strict}
use Rattle.piece_steps.specs.Insides.{Turn, on, out, stop, turned, past}
use Rattle.page_model.specs.OpenDoctypes.{Word, system_word, public_word, letters, OpenDoctype, before_root, in_root, behind_root, in_word, behind_word, in_public, behind_public, in_system, behind_system, kept}
use Rattle.page_steps.specs.DoctypeSteps.{begins, is_free, end_turn, root_turn, may_begin, word_turn, literal_turn, grown, is_wanted, public_turn, doctype_turn}
use Rattle.doctype_steps.specs.Laws.{turn, inside_then}

pub blank_character : (c : ℕ) → is_blank c ≡ true → is_character c ≡ true
blank_character c h = grind (arith, nat_tests)

pub quote_character : (c : ℕ) → is_quote c ≡ true → is_character c ≡ true
quote_character c h = grind (arith, nat_tests)

pub quote_not_blank : (c : ℕ) → is_quote c ≡ true → is_blank c ≡ false
quote_not_blank c h = grind (arith, nat_tests)

pub not_p : (c : ℕ) → is_blank c ≡ true → nat_eq c 80 ≡ false
not_p c h = grind (arith, nat_tests)

pub not_s : (c : ℕ) → is_blank c ≡ true → nat_eq c 83 ≡ false
not_s c h = grind (arith, nat_tests)

abbrev pub by : DoctypeRule → Turn OpenDoctype → List ℕ → Option (List ℕ)
by rule t cs = turned t (λ g. past (turn rule) g cs) cs

-- one character of XML more
pub one_more : (rule : DoctypeRule) (o : OpenDoctype) (c : ℕ) (t : Turn OpenDoctype) (rest : List ℕ) → is_character c ≡ true → doctype_turn rule o c ≡ t → past (turn rule) o (c ∷ rest) ≡ by rule t rest
one_more rule o c t rest h e = ap (λ (b : Bool). by rule (if b then doctype_turn rule o c else stop) rest) h ∙ ap (λ (t : Turn OpenDoctype). by rule t rest) e

abbrev pub spaced_by : Bool → List ℕ → Bool
spaced_by spaced [] = spaced
spaced_by spaced (c ∷ cs) = true

pub still : (cs : List ℕ) → spaced_by true cs ≡ true
still [] = refl
still (c ∷ cs) = refl

over_space : (rule : DoctypeRule) (space : List ℕ) (spaced : Bool) (rest : List ℕ) → list_all is_blank space ≡ true → past (turn rule) (before_root spaced) (space ++ rest) ≡ past (turn rule) (before_root (spaced_by spaced space)) rest
over_space rule [] spaced rest h = refl
over_space rule (c ∷ cs) spaced rest h =
    let p = and_parts (is_blank c) (list_all is_blank cs) h in
    one_more rule (before_root spaced) c (on (before_root true)) (cs ++ rest) (blank_character c p.0) (ap (λ (b : Bool). if b then on (before_root true) else (if nat_eq c 104 && spaced then on (in_root (codes "h")) else stop)) p.0)
    ∙ over_space rule cs true rest p.1
    ∙ ap (λ (b : Bool). past (turn rule) (before_root b) rest) (still cs)

-- white space begins no word
no_word : (rule : DoctypeRule) (c : ℕ) → is_blank c ≡ true → may_begin rule (c ∷ []) ≡ false
no_word Strict c h = ap (λ (b : Bool). (b && true) || false) (not_p c h)
no_word Free c h = ap (λ (b : Bool). (b && true) || (nat_eq c 83 && true)) (not_p c h) ∙ ap (λ (b : Bool). b && true) (not_s c h)

blank_root : (rule : DoctypeRule) (c : ℕ) → is_blank c ≡ true → root_turn rule c ≡ on behind_root
blank_root rule c h = ap (λ (b : Bool). let z : Turn OpenDoctype = if b then on behind_root else end_turn (is_free rule) c in z) h

over_root : (rule : DoctypeRule) (space rest : List ℕ) → list_all is_blank space ≡ true → past (turn rule) behind_root (space ++ rest) ≡ past (turn rule) behind_root rest
over_root rule [] rest h = refl
over_root rule (c ∷ cs) rest h =
    let p = and_parts (is_blank c) (list_all is_blank cs) h in
    one_more rule behind_root c (on behind_root) (cs ++ rest) (blank_character c p.0) (ap (λ (b : Bool). if b then on (in_word (c ∷ [])) else root_turn rule c) (no_word rule c p.0) ∙ blank_root rule c p.0)
    ∙ over_root rule cs rest p.1

-- some white space behind `html`
over_first : (rule : DoctypeRule) (space rest : List ℕ) → space ≢ [] → list_all is_blank space ≡ true → past (turn rule) (in_root (codes "html")) (space ++ rest) ≡ past (turn rule) behind_root rest
over_first rule [] rest some h = absurd (some refl)
over_first rule (c ∷ cs) rest some h =
    let p = and_parts (is_blank c) (list_all is_blank cs) h in
    one_more rule (in_root (codes "html")) c (on behind_root) (cs ++ rest) (blank_character c p.0) (blank_root rule c p.0) ∙ over_root rule cs rest p.1

-- `>` where no identifier stands
over_none : (space rest : List ℕ) → list_all is_blank space ≡ true → past (turn Free) (in_root (codes "html")) (space ++ 62 ∷ rest) ≡ Some rest
over_none [] rest h = refl
over_none (c ∷ cs) rest h = over_first Free (c ∷ cs) (62 ∷ rest) (λ e. cc) h

-- white space behind a word
over_word : (rule : DoctypeRule) (word : Word) (space rest : List ℕ) → list_all is_blank space ≡ true → past (turn rule) (behind_word word) (space ++ rest) ≡ past (turn rule) (behind_word word) rest
over_word rule word [] rest h = refl
over_word rule word (c ∷ cs) rest h =
    let p = and_parts (is_blank c) (list_all is_blank cs) h in
    one_more rule (behind_word word) c (on (behind_word word)) (cs ++ rest) (blank_character c p.0) (ap (λ (b : Bool). if b then on (behind_word word) else (if is_quote c then literal_turn rule word c else stop)) p.0)
    ∙ over_word rule word cs rest p.1

over_system_word : (space rest : List ℕ) → space ≢ [] → list_all is_blank space ≡ true → past (turn Free) (in_word (codes "SYSTEM")) (space ++ rest) ≡ past (turn Free) (behind_word system_word) rest
over_system_word [] rest some h = absurd (some refl)
over_system_word (c ∷ cs) rest some h =
    let p = and_parts (is_blank c) (list_all is_blank cs) h in
    one_more Free (in_word (codes "SYSTEM")) c (on (behind_word system_word)) (cs ++ rest) (blank_character c p.0) (ap (λ (b : Bool). let z : Turn OpenDoctype = if b then on (behind_word system_word) else stop in z) p.0)
    ∙ over_word Free system_word cs rest p.1

over_public_word : (rule : DoctypeRule) (space rest : List ℕ) → space ≢ [] → list_all is_blank space ≡ true → past (turn rule) (in_word (codes "PUBLIC")) (space ++ rest) ≡ past (turn rule) (behind_word public_word) rest
over_public_word rule [] rest some h = absurd (some refl)
over_public_word rule (c ∷ cs) rest some h =
    let p = and_parts (is_blank c) (list_all is_blank cs) h in
    one_more rule (in_word (codes "PUBLIC")) c (on (behind_word public_word)) (cs ++ rest) (blank_character c p.0) (at rule c p.0) ∙ over_word rule public_word cs rest p.1
  where
    at : (rule : DoctypeRule) (c : ℕ) → is_blank c ≡ true → doctype_turn rule (in_word (codes "PUBLIC")) c ≡ on (behind_word public_word)
    at Strict c h = ap (λ (b : Bool). let z : Turn OpenDoctype = if b then on (behind_word public_word) else stop in z) h
    at Free c h = ap (λ (b : Bool). let z : Turn OpenDoctype = if b then on (behind_word public_word) else stop in z) h

-- Literals.

over_quote : (rule : DoctypeRule) (word : Word) (quote : ℕ) (rest : List ℕ) → is_quote quote ≡ true → past (turn rule) (behind_word word) (quote ∷ rest) ≡ by rule (literal_turn rule word quote) rest
over_quote rule word quote rest q =
    one_more rule (behind_word word) quote (literal_turn rule word quote) rest (quote_character quote q)
    (ap (λ (b : Bool). if b then on (behind_word word) else (if is_quote quote then literal_turn rule word quote else stop)) (quote_not_blank quote q) ∙ ap (λ (b : Bool). if b then literal_turn rule word quote else stop) q)

not_quote : (a b : Bool) → (a && not b) ≡ true → (a ≡ true) × (b ≡ false)
not_quote true true h = cc
not_quote true false h = (refl, refl)
not_quote false b h = cc

over_system : (rule : DoctypeRule) (quote : ℕ) (text rest : List ℕ) → is_quote quote ≡ true → list_all (λ c. is_character c && not (nat_eq c quote)) text ≡ true → past (turn rule) (in_system quote) (text ++ quote ∷ rest) ≡ past (turn rule) behind_system rest
over_system rule quote [] rest q h = one_more rule (in_system quote) quote (on behind_system) rest (quote_character quote q) (ap (λ (b : Bool). let z : Turn OpenDoctype = if b then on behind_system else on (in_system quote) in z) (eq-eqb quote quote refl))
over_system rule quote (c ∷ cs) rest q h =
    let p = and_parts (is_character c && not (nat_eq c quote)) (list_all (λ c. is_character c && not (nat_eq c quote)) cs) h in
    let n = not_quote (is_character c) (nat_eq c quote) p.0 in
    one_more rule (in_system quote) c (on (in_system quote)) (cs ++ quote ∷ rest) n.0 (ap (λ (b : Bool). let z : Turn OpenDoctype = if b then on behind_system else on (in_system quote) in z) n.1)
    ∙ over_system rule quote cs rest q p.1

public_character : (c : ℕ) → in_public_identifier c ≡ true → is_character c ≡ true
public_character c h = grind (arith, nat_tests)

-- how much of the public literal is kept behind more of it
abbrev pub grown_by : Option (List ℕ) → List ℕ → Option (List ℕ)
grown_by o [] = o
grown_by o (c ∷ cs) = grown_by (grown o c) cs

over_public : (rule : DoctypeRule) (quote : ℕ) (text rest : List ℕ) (o : Option (List ℕ)) → is_quote quote ≡ true → list_all (λ c. in_public_identifier c && not (nat_eq c quote)) text ≡ true → is_wanted (grown_by o text) ≡ true
    → past (turn rule) (in_public quote o) (text ++ quote ∷ rest) ≡ past (turn rule) (behind_public false) rest
over_public rule quote [] rest o q h w =
    one_more rule (in_public quote o) quote (on (behind_public false)) rest (quote_character quote q)
    (ap (λ (b : Bool). let z : Turn OpenDoctype = if b then (if is_wanted o then on (behind_public false) else stop) else (if in_public_identifier quote then on (in_public quote (grown o quote)) else stop) in z) (eq-eqb quote quote refl)
    ∙ ap (λ (b : Bool). let z : Turn OpenDoctype = if b then on (behind_public false) else stop in z) w)
over_public rule quote (c ∷ cs) rest o q h w =
    let p = and_parts (in_public_identifier c && not (nat_eq c quote)) (list_all (λ c. in_public_identifier c && not (nat_eq c quote)) cs) h in
    let n = not_quote (in_public_identifier c) (nat_eq c quote) p.0 in
    one_more rule (in_public quote o) c (on (in_public quote (grown o c))) (cs ++ quote ∷ rest) (public_character c n.0)
    (ap (λ (b : Bool). let z : Turn OpenDoctype = if b then (if is_wanted o then on (behind_public false) else stop) else (if in_public_identifier c then on (in_public quote (grown o c)) else stop) in z) n.1
    ∙ ap (λ (b : Bool). let z : Turn OpenDoctype = if b then on (in_public quote (grown o c)) else stop in z) n.0)
    ∙ over_public rule quote cs rest (grown o c) q p.1 w

over_behind_public : (rule : DoctypeRule) (space : List ℕ) (spaced : Bool) (quote : ℕ) (rest : List ℕ) → spaced_by spaced space ≡ true → list_all is_blank space ≡ true → is_quote quote ≡ true
    → past (turn rule) (behind_public spaced) (space ++ quote ∷ rest) ≡ past (turn rule) (in_system quote) rest
over_behind_public rule [] spaced quote rest s h q =
    one_more rule (behind_public spaced) quote (on (in_system quote)) rest (quote_character quote q)
    (ap (λ (b : Bool). if b then on (behind_public true) else (if is_quote quote && spaced then on (in_system quote) else stop)) (quote_not_blank quote q) ∙ both (is_quote quote) spaced q s)
  where
    both : (a b : Bool) → a ≡ true → b ≡ true → (let z : Turn OpenDoctype = if a && b then on (in_system quote) else stop in z ≡ on (in_system quote))
    both true true e f = refl
    both true false e f = cc
    both false b e f = cc
over_behind_public rule (c ∷ cs) spaced quote rest s h q =
    let p = and_parts (is_blank c) (list_all is_blank cs) h in
    one_more rule (behind_public spaced) c (on (behind_public true)) (cs ++ quote ∷ rest) (blank_character c p.0) (ap (λ (b : Bool). if b then on (behind_public true) else (if is_quote c && spaced then on (in_system c) else stop)) p.0)
    ∙ over_behind_public rule cs true quote rest (still cs) p.1 q

over_end : (rule : DoctypeRule) (space rest : List ℕ) → list_all is_blank space ≡ true → past (turn rule) behind_system (space ++ 62 ∷ rest) ≡ Some rest
over_end rule [] rest h = refl
over_end rule (c ∷ cs) rest h =
    let p = and_parts (is_blank c) (list_all is_blank cs) h in
    one_more rule behind_system c (on behind_system) (cs ++ 62 ∷ rest) (blank_character c p.0) (ap (λ (b : Bool). let z : Turn OpenDoctype = if b then on behind_system else end_turn true c in z) p.0)
    ∙ over_end rule cs rest p.1

-- the whole public literal is kept where the definition names it
grown_some : (text more : List ℕ) → grown_by (Some more) text ≡ Some (more ++ text)
grown_some [] more = ap Some (sym (append_nil more))
  where
    append_nil : (xs : List ℕ) → xs ++ [] ≡ xs
    append_nil [] = refl
    append_nil (x ∷ xs) = ap (λ (ys : List ℕ). x ∷ ys) (append_nil xs)
grown_some (c ∷ cs) more = grown_some cs (more ++ c ∷ []) ∙ ap Some (append_assoc more (c ∷ []) cs)

grown_none : (text : List ℕ) → grown_by None text ≡ None
grown_none [] = refl
grown_none (c ∷ cs) = grown_none cs

pub wanted_is : (rule : DoctypeRule) (text : List ℕ) → is_wanted (grown_by (kept rule []) text) ≡ (is_free rule || bytes_eq text (codes "-//W3C//DTD XHTML 1.0 Strict//EN"))
wanted_is Strict text = ap is_wanted (grown_some text [])
wanted_is Free text = ap is_wanted (grown_none text)

-- behind `html`
over_identifier : (rule : DoctypeRule) (i : Identifier) (space rest : List ℕ) → IsIdentifier i → (is_free rule || is_strict i) ≡ true → list_all is_blank space ≡ true → past (turn rule) (in_root (codes "html")) (identifier_then i (space ++ 62 ∷ rest)) ≡ Some rest
over_identifier Strict no_identifier space rest h f blank = cc
over_identifier Free no_identifier space rest h f blank = over_none space rest blank
over_identifier Strict (system s t l) space rest h f blank = cc
over_identifier Free (system s t l) space rest h f blank =
    over_first Free s (codes "SYSTEM" ++ (t ++ literal_then l (space ++ 62 ∷ rest))) h.0.some h.0.blank
    ∙ over_system_word t (literal_then l (space ++ 62 ∷ rest)) h.1.some h.1.blank
    ∙ over_quote Free system_word l.quote (l.text ++ l.quote ∷ (space ++ 62 ∷ rest)) h.2.quoted
    ∙ over_system Free l.quote l.text (space ++ 62 ∷ rest) h.2.quoted h.2.pass
    ∙ over_end Free space rest blank
over_identifier rule (public s t l u m) space rest h f blank =
    let behind = u ++ literal_then m (space ++ 62 ∷ rest) in
    over_first rule s (codes "PUBLIC" ++ (t ++ literal_then l behind)) h.0.some h.0.blank
    ∙ over_public_letters rule (t ++ literal_then l behind)
    ∙ over_public_word rule t (literal_then l behind) h.1.some h.1.blank
    ∙ over_quote rule public_word l.quote (l.text ++ l.quote ∷ behind) h.2.quoted
    ∙ over_public rule l.quote l.text behind (kept rule []) h.2.quoted h.2.pass (wanted_is rule l.text ∙ f)
    ∙ over_behind_public rule u false m.quote (m.text ++ m.quote ∷ (space ++ 62 ∷ rest)) (some u h.3.some) h.3.blank h.4.quoted
    ∙ over_system rule m.quote m.text (space ++ 62 ∷ rest) h.4.quoted h.4.pass
    ∙ over_end rule space rest blank
  where
    some : (u : List ℕ) → u ≢ [] → spaced_by false u ≡ true
    some [] f = absurd (f refl)
    some (c ∷ cs) f = refl

    over_public_letters : (rule : DoctypeRule) (more : List ℕ) → past (turn rule) behind_root (codes "PUBLIC" ++ more) ≡ past (turn rule) (in_word (codes "PUBLIC")) more
    over_public_letters Strict more = refl
    over_public_letters Free more = refl

fits_is : (rule : DoctypeRule) (d : Doctype) → doctype_fits rule d ≡ (is_free rule || is_strict d.identifier)
fits_is Strict d = refl
fits_is Free d = refl

pub over_doctype : (rule : DoctypeRule) (d : Doctype) (rest : List ℕ) → IsDoctype d → doctype_fits rule d ≡ true → past (turn rule) (before_root false) (inside_then d rest) ≡ Some rest
over_doctype rule d rest h f =
    over_space rule d.space false (codes "html" ++ identifier_then d.identifier (d.end_space ++ 62 ∷ rest)) h.apart.blank
    ∙ ap (λ (b : Bool). past (turn rule) (before_root b) (codes "html" ++ identifier_then d.identifier (d.end_space ++ 62 ∷ rest))) (some d.space h.apart.some)
    ∙ over_identifier rule d.identifier d.end_space rest h.identifier (sym (fits_is rule d) ∙ f) h.blank_space
  where
    some : (u : List ℕ) → u ≢ [] → spaced_by false u ≡ true
    some [] f = absurd (f refl)
    some (c ∷ cs) f = refl
