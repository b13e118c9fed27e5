-- Document type declarations, from behind `<!DOCTYPE`.
use Rattle.std.proofs.Common.{◌≡◌, ◌≢◌, ℕ, Bool, true, false, not, ◌&&◌, ◌||◌, List, [], ◌∷◌, ◌++◌, Option, Some, None, refl, sym, ◌∙◌, ap, subst, append_assoc, append-nil, arith}
use Rattle.std.specs.Prelude.{if◌then◌else◌, nat_eq, bytes_eq, codes}
use Rattle.std.specs.List.{list_all}
use Rattle.std.proofs.lemmas.Bool.{and_parts, and_from}
use Rattle.std.proofs.lemmas.Bool.Decides.{nat_tests}
use Rattle.text_base.specs.declared.page_token.PageToken.TheVariants as token
use Rattle.xml_text.specs.Characters.{is_blank}
use Rattle.xml_text.specs.Names.{in_public_identifier}
use Rattle.dtd_model.specs.declared.dtd.DoctypeRule.{DoctypeRule}
use Rattle.dtd_model.specs.declared.dtd.DoctypeRule.TheVariants.{Strict, Free}
use Rattle.dtd_model.specs.Table.{Table}
use Rattle.page_model.specs.Parts.{is_quote}
use Rattle.page_model.specs.Places.{Place, behind}
use Rattle.piece_steps.specs.Insides.{Turn, on as turn_on, out, stop}
use Rattle.page_model.specs.Fronts.{Open, in_doctype}
use Rattle.page_model.specs.OpenDoctypes.{Word, system_word, public_word, letters, OpenDoctype, before_root, in_root, behind_root, in_word, behind_word, in_public, behind_public, in_system, behind_system, BehindRoot, BehindWord, InLiteral, IsLiteralThen, BehindPublic, BehindFirst, kept, DoctypeStands}
use Rattle.page_model.specs.OpenTags.{IsGap, is_some_space}
use Rattle.page_steps.specs.DoctypeSteps.{begins, is_free, end_turn, root_turn, may_begin, word_turn, literal_turn, grown, is_wanted, public_turn, doctype_turn}
use Rattle.doctype_steps.proofs.Over.{quote_not_blank, not_p, not_s, spaced_by, still}
use Rattle.front_laws.proofs.Folds.{Folds, From, here, nowhere, on, somewhere, embedded, any_symbol, all_any}
use Rattle.front_laws.proofs.Pages.{Leads, not_both, turn_goes, turn_embeds}

abbrev turn_step : DoctypeRule → OpenDoctype → ℕ → Option OpenDoctype
turn_step rule o c = turn_goes (doctype_turn rule o c)

pub record Goes (rule : DoctypeRule) (o : OpenDoctype) (text : List ℕ) (w : OpenDoctype) : Type 0 where
  pub folds : Folds (turn_step rule) o text w

record Turns (rule : DoctypeRule) (t : Turn OpenDoctype) (text : List ℕ) (w : OpenDoctype) : Type 0 where
  from : From (turn_step rule) (turn_goes t) text w

rest_here : {rule : DoctypeRule} {o w : OpenDoctype} → o ≡ w → Goes rule o [] w
rest_here e = record { folds = here e }

one : {rule : DoctypeRule} {cs : List ℕ} {w : OpenDoctype} (o : OpenDoctype) (c : ℕ) → Turns rule (doctype_turn rule o c) cs w → Goes rule o (c ∷ cs) w
one o c f = record { folds = on f.from }

turn : {rule : DoctypeRule} {o : OpenDoctype} {cs : List ℕ} {w : OpenDoctype} → Goes rule o cs w → Turns rule (turn_on o) cs w
turn f = record { from = somewhere f.folds }

stopped : {rule : DoctypeRule} {cs : List ℕ} {w : OpenDoctype} → Turns rule stop cs w
stopped = record { from = nowhere }

left : {rule : DoctypeRule} {cs : List ℕ} {w : OpenDoctype} → Turns rule out cs w
left = record { from = nowhere }

by_if : {rule : DoctypeRule} {cs : List ℕ} {w : OpenDoctype} (b : Bool) (x y : Turn OpenDoctype) → (b ≡ true → Turns rule x cs w) → (b ≡ false → Turns rule y cs w) → Turns rule (if b then x else y) cs w
by_if true x y p q = p refl
by_if false x y p q = q refl

-- White space before `html`, and `html`.

over_space : {rule : DoctypeRule} (space : List ℕ) (spaced : Bool) {rest : List ℕ} {w : OpenDoctype} → list_all is_blank space ≡ true → Goes rule (before_root (spaced_by spaced space)) rest w → Goes rule (before_root spaced) (space ++ rest) w
over_space [] spaced h f = f
over_space {rule} (c ∷ cs) spaced {rest} {w} h f =
    let p = and_parts (is_blank c) (list_all is_blank cs) h in
    one (before_root spaced) c
    (by_if (is_blank c) (turn_on (before_root true)) _ (λ b. turn (over_space cs true p.1 (subst (λ (x : Bool). Goes rule (before_root x) rest w) (sym (still cs)) f))) (λ b. not_both (is_blank c) p.0 b))

over_gap : {rule : DoctypeRule} (gap : List ℕ) {rest : List ℕ} {w : OpenDoctype} → IsGap gap → Goes rule (before_root true) rest w → Goes rule (before_root false) (gap ++ rest) w
over_gap [] (some, h) f = absurd (some refl)
over_gap (c ∷ cs) (some, h) f = over_space (c ∷ cs) false h f

same_space : (cs : List ℕ) → spaced_by false cs ≡ is_some_space cs
same_space [] = refl
same_space (c ∷ cs) = refl

begins_less : (front whole others : List ℕ) → whole ≡ front ++ others → begins whole front ≡ true
begins_less [] whole others e = refl
begins_less (c ∷ cs) [] others e = cc
begins_less (c ∷ cs) (w ∷ ws) others e =
    let head : w ≡ c = cc in
    let tail : ws ≡ cs ++ others = cc in
    and_from (nat_eq c w) (begins ws cs) (ap (nat_eq c) head ∙ itself c) (begins_less cs ws others tail)
  where
    itself : (n : ℕ) → nat_eq n n ≡ true
    itself n = grind (arith, nat_tests)

in_html : {rule : DoctypeRule} (cs name others : List ℕ) → codes "html" ≡ name ++ (cs ++ others) → Goes rule (in_root name) cs (in_root (name ++ cs))
in_html [] name others e = rest_here (ap in_root (sym (append-nil name)))
in_html {rule} (c ∷ cs) name others e =
    let all : codes "html" ≡ (name ++ c ∷ []) ++ (cs ++ others) = e ∙ sym (append_assoc name (c ∷ []) (cs ++ others)) in
    one (in_root name) c
    (by_if (begins (codes "html") (name ++ c ∷ [])) (turn_on (in_root (name ++ c ∷ []))) _
    (λ b. turn (subst (λ (x : List ℕ). Goes rule (in_root (name ++ c ∷ [])) cs (in_root x)) (append_assoc name (c ∷ []) cs) (in_html cs (name ++ c ∷ []) others all)))
    (λ b. not_both (begins (codes "html") (name ++ c ∷ [])) (begins_less (name ++ c ∷ []) (codes "html") (cs ++ others) all) b))

-- the first of it
first_root : {rule : DoctypeRule} (name others : List ℕ) → (name ≢ []) → codes "html" ≡ name ++ others → Goes rule (before_root true) name (in_root name)
first_root [] others some e = absurd (some refl)
first_root {rule} (c ∷ cs) others some e =
    let head : c ≡ 104 = cc in
    subst (λ (x : ℕ). Goes rule (before_root true) (x ∷ cs) (in_root (x ∷ cs))) (sym head) (one (before_root true) 104 (turn (in_html cs (codes "h") others (e ∙ ap (λ (x : ℕ). x ∷ (cs ++ others)) head))))

blank_no_word : (rule : DoctypeRule) (c : ℕ) → is_blank c ≡ true → may_begin rule (c ∷ []) ≡ false
blank_no_word Strict c h = ap (λ (b : Bool). (b && true) || false) (not_p c h)
blank_no_word Free c h = ap (λ (b : Bool). (b && true) || (nat_eq c 83 && true)) (not_p c h) ∙ ap (λ (b : Bool). b && true) (not_s c h)

behind_space : {rule : DoctypeRule} (space : List ℕ) {rest : List ℕ} {w : OpenDoctype} → list_all is_blank space ≡ true → Goes rule behind_root rest w → Goes rule behind_root (space ++ rest) w
behind_space [] h f = f
behind_space {rule} (c ∷ cs) h f =
    let p = and_parts (is_blank c) (list_all is_blank cs) h in
    one behind_root c
    (by_if (may_begin rule (c ∷ [])) (turn_on (in_word (c ∷ []))) (root_turn rule c) (λ b. not_both (may_begin rule (c ∷ [])) b (blank_no_word rule c p.0))
    (λ b. by_if (is_blank c) (turn_on behind_root) (end_turn (is_free rule) c) (λ k. turn (behind_space cs p.1 f)) (λ k. not_both (is_blank c) p.0 k)))

over_root : {rule : DoctypeRule} (space : List ℕ) {rest : List ℕ} {w : OpenDoctype} → IsGap space → Goes rule behind_root rest w → Goes rule (before_root true) (codes "html" ++ (space ++ rest)) w
over_root [] (some, h) f = absurd (some refl)
over_root {rule} (c ∷ cs) (some, h) f =
    let p = and_parts (is_blank c) (list_all is_blank cs) h in
    one (before_root true) 104 (turn (one (in_root (codes "h")) 116 (turn (one (in_root (codes "ht")) 109 (turn (one (in_root (codes "htm")) 108 (turn
    (one (in_root (codes "html")) c (by_if (is_blank c) (turn_on behind_root) (end_turn (is_free rule) c) (λ k. turn (behind_space cs p.1 f)) (λ k. not_both (is_blank c) p.0 k))))))))))

over_behind_root : {rule : DoctypeRule} (cs rest : List ℕ) {w : OpenDoctype} → BehindRoot cs rest → Goes rule behind_root rest w → Goes rule (before_root false) cs w
over_behind_root {rule} cs rest {w} (gap, others, e, g, h) f = subst (λ (x : List ℕ). Goes rule (before_root false) x w) (sym e) (over_gap gap g (over_root others h f))

-- The word behind it.

letter_not_blank : (whole : Word) → list_all (λ c. not (is_blank c)) (letters whole) ≡ true
letter_not_blank system_word = refl
letter_not_blank public_word = refl

middle : (front : List ℕ) (c : ℕ) (cs : List ℕ) → list_all (λ c. not (is_blank c)) (front ++ c ∷ cs) ≡ true → is_blank c ≡ false
middle [] c cs h = by (is_blank c) (and_parts (not (is_blank c)) (list_all (λ c. not (is_blank c)) cs) h).0
  where
    by : (b : Bool) → not b ≡ true → b ≡ false
    by true e = cc
    by false e = refl
middle (d ∷ front) c cs h = middle front c cs (and_parts (not (is_blank d)) (list_all (λ c. not (is_blank c)) (front ++ c ∷ cs)) h).1

word_on : {rule : DoctypeRule} (cs word others : List ℕ) (whole : Word) {rest : List ℕ} {w : OpenDoctype} → letters whole ≡ word ++ (cs ++ others) → Goes rule (in_word (word ++ cs)) rest w → Goes rule (in_word word) (cs ++ rest) w
word_on {rule} [] word others whole {rest} {w} e f = subst (λ (x : List ℕ). Goes rule (in_word x) rest w) (append-nil word) f
word_on {rule} (c ∷ cs) word others whole {rest} {w} e f =
    let all : letters whole ≡ (word ++ c ∷ []) ++ (cs ++ others) = e ∙ sym (append_assoc word (c ∷ []) (cs ++ others)) in
    let other : is_blank c ≡ false = middle word c (cs ++ others) (ap (list_all (λ c. not (is_blank c))) (sym e) ∙ letter_not_blank whole) in
    one (in_word word) c
    (by_if (may_begin rule (word ++ c ∷ [])) (turn_on (in_word (word ++ c ∷ []))) _
    (λ b. turn (word_on cs (word ++ c ∷ []) others whole all (subst (λ (x : List ℕ). Goes rule (in_word x) rest w) (sym (append_assoc word (c ∷ []) cs)) f)))
    (λ b. by_if (bytes_eq word (letters public_word) && is_blank c) (turn_on (behind_word public_word)) _ (λ k. not_both (is_blank c) (and_parts (bytes_eq word (letters public_word)) (is_blank c) k).1 other)
    (λ k. by_if (bytes_eq word (letters system_word) && is_blank c) (turn_on (behind_word system_word)) stop (λ k. not_both (is_blank c) (and_parts (bytes_eq word (letters system_word)) (is_blank c) k).1 other) (λ k. stopped))))

no_end : (c : ℕ) (whole : Word) (others : List ℕ) → letters whole ≡ c ∷ others → nat_eq c 62 ≡ false
no_end c system_word others e = let k : c ≡ 83 = cc in ap (λ (x : ℕ). nat_eq x 62) k
no_end c public_word others e = let k : c ≡ 80 = cc in ap (λ (x : ℕ). nat_eq x 62) k

over_word : {rule : DoctypeRule} (word others : List ℕ) (whole : Word) {rest : List ℕ} {w : OpenDoctype} → (word ≢ []) → letters whole ≡ word ++ others → Goes rule (in_word word) rest w → Goes rule behind_root (word ++ rest) w
over_word [] others whole some e f = absurd (some refl)
over_word {rule} (c ∷ cs) others whole {rest} {w} some e f =
    let other : is_blank c ≡ false = middle [] c (cs ++ others) (ap (list_all (λ c. not (is_blank c))) (sym e) ∙ letter_not_blank whole) in
    one behind_root c
    (by_if (may_begin rule (c ∷ [])) (turn_on (in_word (c ∷ []))) (root_turn rule c)
    (λ b. turn (word_on cs (c ∷ []) others whole e f))
    (λ b. by_if (is_blank c) (turn_on behind_root) (end_turn (is_free rule) c) (λ k. not_both (is_blank c) k other)
    (λ k. by_if (nat_eq c 62 && is_free rule) out stop (λ m. left) (λ m. stopped))))

word_space : {rule : DoctypeRule} (space : List ℕ) (word : Word) {rest : List ℕ} {w : OpenDoctype} → list_all is_blank space ≡ true → Goes rule (behind_word word) rest w → Goes rule (behind_word word) (space ++ rest) w
word_space [] word h f = f
word_space (c ∷ cs) word h f =
    let p = and_parts (is_blank c) (list_all is_blank cs) h in
    one (behind_word word) c (by_if (is_blank c) (turn_on (behind_word word)) _ (λ b. turn (word_space cs word p.1 f)) (λ b. not_both (is_blank c) p.0 b))

and_true : (b : Bool) → b ≡ true → (true && b) ≡ true
and_true b e = e

word_gap : {rule : DoctypeRule} (space : List ℕ) (word : Word) {rest : List ℕ} {w : OpenDoctype} → IsGap space → Goes rule (behind_word word) rest w → Goes rule (in_word (letters word)) (space ++ rest) w
word_gap [] word (some, h) f = absurd (some refl)
word_gap {rule} (c ∷ cs) public_word {rest} {w} (some, h) f =
    let p = and_parts (is_blank c) (list_all is_blank cs) h in
    one (in_word (letters public_word)) c
    (by_if (may_begin rule (letters public_word ++ c ∷ [])) (turn_on (in_word (letters public_word ++ c ∷ []))) _ (λ b. not_both (may_begin rule (letters public_word ++ c ∷ [])) b (longer rule))
    (λ b. by_if (is_blank c) (turn_on (behind_word public_word)) _ (λ k. turn (word_space cs public_word p.1 f)) (λ k. not_both (is_blank c) p.0 k)))
  where
    longer : (rule : DoctypeRule) → may_begin rule (letters public_word ++ c ∷ []) ≡ false
    longer Strict = refl
    longer Free = refl
word_gap {rule} (c ∷ cs) system_word {rest} {w} (some, h) f =
    let p = and_parts (is_blank c) (list_all is_blank cs) h in
    one (in_word (letters system_word)) c
    (by_if (may_begin rule (letters system_word ++ c ∷ [])) (turn_on (in_word (letters system_word ++ c ∷ []))) _ (λ b. not_both (may_begin rule (letters system_word ++ c ∷ [])) b (longer rule))
    (λ b. by_if (is_blank c) (turn_on (behind_word system_word)) _ (λ k. turn (word_space cs system_word p.1 f)) (λ k. not_both (is_blank c) p.0 k)))
  where
    longer : (rule : DoctypeRule) → may_begin rule (letters system_word ++ c ∷ []) ≡ false
    longer Strict = refl
    longer Free = refl

some_letters : (word : Word) → letters word ≡ [] → ⊥
some_letters system_word e = cc
some_letters public_word e = cc

over_behind_word : {rule : DoctypeRule} (word : Word) (cs rest : List ℕ) {w : OpenDoctype} → BehindWord word cs rest → Goes rule (behind_word word) rest w → Goes rule (before_root false) cs w
over_behind_word {rule} word cs rest {w} (inside, b, (gap, e, g)) f =
    over_behind_root cs inside b
    (subst (λ (x : List ℕ). Goes rule behind_root x w) (sym e) (over_word (letters word) [] word (some_letters word) (sym (append-nil (letters word))) (word_gap gap word g f)))

-- The literals.

free_of : (b : Bool) → not b ≡ true → b ≡ false
free_of true e = cc
free_of false e = refl

kept_grown : (rule : DoctypeRule) (text : List ℕ) (c : ℕ) → grown (kept rule text) c ≡ kept rule (text ++ c ∷ [])
kept_grown Strict text c = refl
kept_grown Free text c = refl

in_publics : {rule : DoctypeRule} (cs : List ℕ) (quote : ℕ) (text : List ℕ) {rest : List ℕ} {w : OpenDoctype} → list_all (λ c. not (nat_eq c quote)) cs ≡ true → Goes rule (in_public quote (kept rule (text ++ cs))) rest w → Goes rule (in_public quote (kept rule text)) (cs ++ rest) w
in_publics {rule} [] quote text {rest} {w} h f = subst (λ (x : List ℕ). Goes rule (in_public quote (kept rule x)) rest w) (append-nil text) f
in_publics {rule} (c ∷ cs) quote text {rest} {w} h f =
    let p = and_parts (not (nat_eq c quote)) (list_all (λ c. not (nat_eq c quote)) cs) h in
    one (in_public quote (kept rule text)) c
    (by_if (nat_eq c quote) _ _ (λ b. not_both (nat_eq c quote) b (free_of (nat_eq c quote) p.0))
    (λ b. by_if (in_public_identifier c) (turn_on (in_public quote (grown (kept rule text) c))) stop
    (λ k. turn (subst (λ (o : Option (List ℕ)). Goes rule (in_public quote o) (cs ++ rest) w) (sym (kept_grown rule text c)) (in_publics cs quote (text ++ c ∷ []) p.1 (subst (λ (x : List ℕ). Goes rule (in_public quote (kept rule x)) rest w) (sym (append_assoc text (c ∷ []) cs)) f))))
    (λ k. stopped)))

literal_begins : {rule : DoctypeRule} (word : Word) (quote : ℕ) {rest : List ℕ} {w : OpenDoctype} → is_quote quote ≡ true → Turns rule (literal_turn rule word quote) rest w → Goes rule (behind_word word) (quote ∷ rest) w
literal_begins {rule} word quote q f =
    one (behind_word word) quote
    (by_if (is_blank quote) (turn_on (behind_word word)) _ (λ b. not_both (is_blank quote) b (quote_not_blank quote q)) (λ b. by_if (is_quote quote) (literal_turn rule word quote) stop (λ k. f) (λ k. stopped)))

over_public : {rule : DoctypeRule} (cs rest : List ℕ) {w : OpenDoctype} → BehindPublic cs rest → Goes rule (behind_public false) rest w → Goes rule (before_root false) cs w
over_public {rule} cs rest {w} (inside, b, (quote, text, e, q, h)) f =
    over_behind_word public_word cs inside b
    (subst (λ (x : List ℕ). Goes rule (behind_word public_word) x w) (sym e)
    (literal_begins public_word quote q (turn (in_publics text quote [] h
    (one (in_public quote (kept rule text)) quote
    (by_if (nat_eq quote quote) (if is_wanted (kept rule text) then turn_on (behind_public false) else stop) _
    (λ b. by_if (is_wanted (kept rule text)) (turn_on (behind_public false)) stop (λ k. turn f) (λ k. stopped)) (λ b. not_both (nat_eq quote quote) (itself quote) b)))))))
  where
    itself : (n : ℕ) → nat_eq n n ≡ true
    itself n = grind (arith, nat_tests)

public_space : {rule : DoctypeRule} (space : List ℕ) (spaced : Bool) {rest : List ℕ} {w : OpenDoctype} → list_all is_blank space ≡ true → Goes rule (behind_public (spaced_by spaced space)) rest w → Goes rule (behind_public spaced) (space ++ rest) w
public_space [] spaced h f = f
public_space {rule} (c ∷ cs) spaced {rest} {w} h f =
    let p = and_parts (is_blank c) (list_all is_blank cs) h in
    one (behind_public spaced) c
    (by_if (is_blank c) (turn_on (behind_public true)) _ (λ b. turn (public_space cs true p.1 (subst (λ (x : Bool). Goes rule (behind_public x) rest w) (sym (still cs)) f))) (λ b. not_both (is_blank c) p.0 b))

in_systems : {rule : DoctypeRule} (cs : List ℕ) (quote : ℕ) {rest : List ℕ} {w : OpenDoctype} → list_all (λ c. not (nat_eq c quote)) cs ≡ true → Goes rule (in_system quote) rest w → Goes rule (in_system quote) (cs ++ rest) w
in_systems [] quote h f = f
in_systems (c ∷ cs) quote h f =
    let p = and_parts (not (nat_eq c quote)) (list_all (λ c. not (nat_eq c quote)) cs) h in
    one (in_system quote) c (by_if (nat_eq c quote) (turn_on behind_system) _ (λ b. not_both (nat_eq c quote) b (free_of (nat_eq c quote) p.0)) (λ b. turn (in_systems cs quote p.1 f)))

-- up to the quote of the system literal
over_first : {rule : DoctypeRule} (word : Word) (cs inside : List ℕ) (quote : ℕ) (rest : List ℕ) {w : OpenDoctype} → BehindFirst word cs inside → inside ≡ quote ∷ rest → is_quote quote ≡ true → Goes rule (in_system quote) rest w → Goes rule (before_root false) cs w
over_first {rule} system_word cs inside quote rest {w} b e q f =
    over_behind_word system_word cs inside b (subst (λ (x : List ℕ). Goes rule (behind_word system_word) x w) (sym e) (literal_begins system_word quote q (turn f)))
over_first {rule} public_word cs inside quote rest {w} (before, [], b, (some, h), g) e q f = absurd (some refl)
over_first {rule} public_word cs inside quote rest {w} (before, c ∷ gap, b, (some, h), g) e q f =
    over_public cs before b
    (subst (λ (x : List ℕ). Goes rule (behind_public false) x w) (sym (g ∙ ap (λ (x : List ℕ). (c ∷ gap) ++ x) e))
    (public_space (c ∷ gap) false h
    (one (behind_public true) quote
    (by_if (is_blank quote) (turn_on (behind_public true)) _ (λ b. not_both (is_blank quote) b (quote_not_blank quote q)) (λ b. by_if (is_quote quote && true) (turn_on (in_system quote)) stop (λ k. turn f) (λ k. stopped))))))

system_space : {rule : DoctypeRule} (space : List ℕ) → list_all is_blank space ≡ true → Goes rule behind_system space behind_system
system_space [] h = rest_here refl
system_space (c ∷ cs) h =
    let p = and_parts (is_blank c) (list_all is_blank cs) h in
    one behind_system c (by_if (is_blank c) (turn_on behind_system) _ (λ b. turn (system_space cs p.1)) (λ b. not_both (is_blank c) p.0 b))

-- All that may be open.

to_end : {rule : DoctypeRule} {o w : OpenDoctype} (cs : List ℕ) → Goes rule o (cs ++ []) w → Goes rule o cs w
to_end {rule} {o} {w} cs f = subst (λ (x : List ℕ). Goes rule o x w) (append-nil cs) f

goes_so : (rule : DoctypeRule) (o : OpenDoctype) (cs : List ℕ) → DoctypeStands rule o cs → Goes rule (before_root false) cs o
goes_so rule (before_root spaced) cs (h, e) = to_end cs (over_space cs false h (rest_here (ap before_root (same_space cs ∙ sym e))))
goes_so rule (in_root name) cs (gap, e, g, some, (others, k)) = subst (λ (x : List ℕ). Goes rule (before_root false) x (in_root name)) (sym e) (over_gap gap g (first_root name others some k))
goes_so rule behind_root cs b = over_behind_root cs [] b (rest_here refl)
goes_so rule (in_word word) cs (b, some, (whole, others, k)) = over_behind_root cs word b (to_end word (over_word word others whole some k (rest_here refl)))
goes_so rule (behind_word word) cs b = over_behind_word word cs [] b (rest_here refl)
goes_so rule (in_public quote o) cs (inside, text, b, (e, q, h), k) =
    over_behind_word public_word cs inside b
    (subst (λ (x : List ℕ). Goes rule (behind_word public_word) x (in_public quote o)) (sym e) (literal_begins public_word quote q (turn (to_end text (in_publics text quote [] h (rest_here (ap (in_public quote) (sym k))))))))
goes_so rule (behind_public spaced) cs (space, b, h, e) = over_public cs space b (to_end space (public_space space false h (rest_here (ap behind_public (same_space space ∙ sym e)))))
goes_so rule (in_system quote) cs (word, inside, text, b, (e, q, h)) = over_first word cs inside quote text b e q (to_end text (in_systems text quote h (rest_here refl)))
goes_so rule behind_system cs (word, inside, b, (space, (quote, text, e, q, h), k)) =
    over_first word cs inside quote (text ++ quote ∷ space) b e q
    (in_systems text quote h (one (in_system quote) quote (by_if (nat_eq quote quote) (turn_on behind_system) _ (λ b. turn (system_space space k)) (λ b. not_both (nat_eq quote quote) (itself quote) b))))
  where
    itself : (n : ℕ) → nat_eq n n ≡ true
    itself n = grind (arith, nat_tests)

pub doctypes : (table : Table) (place : Place) (o : OpenDoctype) (cs : List ℕ) → DoctypeStands table.doctype o cs → Leads table place (in_doctype (before_root false)) cs (in_doctype o)
doctypes table place o cs h = record {
  folds = embedded in_doctype any_symbol (turn_embeds table place in_doctype (doctype_turn table.doctype) (behind 0) (token.Doctype ∷ []) (λ b c. refl)) (all_any cs) (goes_so table.doctype o cs h).folds;
}
