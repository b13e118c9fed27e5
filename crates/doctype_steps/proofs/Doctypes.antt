-- A document type declaration is left at its end, and what is left is one.
use Rattle.std.proofs.Common.{◌≡◌, ◌≢◌, ℕ, Bool, true, false, not, ◌&&◌, ◌||◌, List, [], ◌∷◌, ◌++◌, Option, Some, refl, sym, ◌∙◌, ap, subst, append-nil, append_assoc}
use Rattle.std.specs.Prelude.{if◌then◌else◌, nat_eq, codes, bytes_eq}
use Rattle.std.specs.List.{list_all}
use Rattle.std.proofs.lemmas.Bool.{and_parts, and_from, eqb-true}
use Rattle.std.proofs.lemmas.Slice.Eq.{bytes_eq-Decides}
use Rattle.xml_text.specs.Characters.{is_blank, is_character}
use Rattle.xml_text.specs.Names.{in_public_identifier}
use Rattle.dtd_model.specs.declared.dtd.DoctypeRule.{DoctypeRule}
use Rattle.dtd_model.specs.declared.dtd.DoctypeRule.TheVariants.{Strict, Free}
use Rattle.page_model.specs.Attributes.{doctype_fits}
use Rattle.page_model.specs.Parts.{is_quote}
use Rattle.page_model.specs.Prolog.{Identifier, no_identifier, system, public, identifier_then, IsSpace, IsIdentifier, Doctype, is_strict}
use Rattle.piece_steps.specs.Insides.{Turn, on, out, stop, past}
use Rattle.page_model.specs.OpenDoctypes.{Word, system_word, public_word, letters, OpenDoctype, before_root, in_root, behind_root, in_word, behind_word, in_public, behind_public, in_system, behind_system, kept}
use Rattle.page_steps.specs.DoctypeSteps.{begins, is_free, root_turn, may_begin, literal_turn, grown, is_wanted, doctype_turn}
use Rattle.doctype_steps.specs.Laws.{turn, IsDoctypeThen, DoctypesLeft}
use Rattle.doctype_steps.proofs.Over.{by, spaced_by, grown_by, wanted_is, over_doctype}

some_same : (x y : List ℕ) → (let z : Option (List ℕ) = Some x in z ≡ Some y) → x ≡ y
some_same x y e = cc

-- one character was one of XML
record Back (rule : DoctypeRule) (o : OpenDoctype) (c : ℕ) (cs rest : List ℕ) : Type 0 where
  character : is_character c ≡ true
  moves : by rule (doctype_turn rule o c) cs ≡ Some rest

back_more : (rule : DoctypeRule) (o : OpenDoctype) (c : ℕ) (cs rest : List ℕ) → past (turn rule) o (c ∷ cs) ≡ Some rest → Back rule o c cs rest
back_more rule o c cs rest e = at (is_character c) refl e
  where
    at : (b : Bool) → is_character c ≡ b → by rule (if b then doctype_turn rule o c else stop) cs ≡ Some rest → Back rule o c cs rest
    at true h e = record { character = h; moves = e }
    at false h e = cc

-- behind the system literal
record Ended (text rest : List ℕ) : Type 0 where
  space : List ℕ
  spelled : text ≡ space ++ 62 ∷ rest
  blank : list_all is_blank space ≡ true

into_end : (rule : DoctypeRule) (text rest : List ℕ) → past (turn rule) behind_system text ≡ Some rest → Ended text rest
into_end rule [] rest e = cc
into_end rule (c ∷ cs) rest e = at (is_blank c) refl (nat_eq c 62) refl (back_more rule behind_system c cs rest e).moves (λ q. into_end rule cs rest q)
  where
    at : (b : Bool) → is_blank c ≡ b → (x : Bool) → nat_eq c 62 ≡ x → by rule (if b then on behind_system else (if x && true then out else stop)) cs ≡ Some rest → (past (turn rule) behind_system cs ≡ Some rest → Ended cs rest) → Ended (c ∷ cs) rest
    at true q x p e ih = let l = ih e in record { space = c ∷ l.space; spelled = ap (λ (w : List ℕ). c ∷ w) l.spelled; blank = and_from (is_blank c) (list_all is_blank l.space) q l.blank }
    at false q true p e ih = record { space = []; spelled = ap (λ (x : ℕ). x ∷ cs) (eqb-true c 62 p) ∙ ap (λ (w : List ℕ). 62 ∷ w) (some_same cs rest e); blank = refl }
    at false q false p e ih = cc

-- in the system literal
record SystemLeft (rule : DoctypeRule) (quote : ℕ) (all rest : List ℕ) : Type 0 where
  text : List ℕ
  left : List ℕ
  spelled : all ≡ text ++ quote ∷ left
  pass : list_all (λ c. is_character c && not (nat_eq c quote)) text ≡ true
  then_past : past (turn rule) behind_system left ≡ Some rest

into_system : (rule : DoctypeRule) (quote : ℕ) (all rest : List ℕ) → past (turn rule) (in_system quote) all ≡ Some rest → SystemLeft rule quote all rest
into_system rule quote [] rest e = cc
into_system rule quote (c ∷ cs) rest e = at (nat_eq c quote) refl (back_more rule (in_system quote) c cs rest e).character (back_more rule (in_system quote) c cs rest e).moves (λ q. into_system rule quote cs rest q)
  where
    at : (b : Bool) → nat_eq c quote ≡ b → is_character c ≡ true → (let z : Turn OpenDoctype = if b then on behind_system else on (in_system quote) in by rule z cs ≡ Some rest) → (past (turn rule) (in_system quote) cs ≡ Some rest → SystemLeft rule quote cs rest) → SystemLeft rule quote (c ∷ cs) rest
    at true q h e ih = record { text = []; left = cs; spelled = ap (λ (x : ℕ). x ∷ cs) (eqb-true c quote q); pass = refl; then_past = e }
    at false q h e ih =
        let l = ih e in
        record {
          text = c ∷ l.text;
          left = l.left;
          spelled = ap (λ (w : List ℕ). c ∷ w) l.spelled;
          pass = and_from (is_character c && not (nat_eq c quote)) _ (and_from (is_character c) (not (nat_eq c quote)) h (ap not q)) l.pass;
          then_past = l.then_past;
        }

-- between the literals
record Between (rule : DoctypeRule) (spaced : Bool) (all rest : List ℕ) : Type 0 where
  space : List ℕ
  quote : ℕ
  left : List ℕ
  spelled : all ≡ space ++ quote ∷ left
  blank : list_all is_blank space ≡ true
  some : spaced_by spaced space ≡ true
  quoted : is_quote quote ≡ true
  then_past : past (turn rule) (in_system quote) left ≡ Some rest

into_between : (rule : DoctypeRule) (spaced : Bool) (all rest : List ℕ) → past (turn rule) (behind_public spaced) all ≡ Some rest → Between rule spaced all rest
into_between rule spaced [] rest e = cc
into_between rule spaced (c ∷ cs) rest e = at (is_blank c) refl (is_quote c) refl spaced refl (back_more rule (behind_public spaced) c cs rest e).moves (λ q. into_between rule true cs rest q)
  where
    at : (b : Bool) → is_blank c ≡ b → (x : Bool) → is_quote c ≡ x → (y : Bool) → spaced ≡ y → by rule (if b then on (behind_public true) else (if x && y then on (in_system c) else stop)) cs ≡ Some rest
        → (past (turn rule) (behind_public true) cs ≡ Some rest → Between rule true cs rest) → Between rule spaced (c ∷ cs) rest
    at true q x p y s e ih =
        let l = ih e in
        record { space = c ∷ l.space; quote = l.quote; left = l.left; spelled = ap (λ (w : List ℕ). c ∷ w) l.spelled; blank = and_from (is_blank c) (list_all is_blank l.space) q l.blank; some = refl; quoted = l.quoted; then_past = l.then_past }
    at false q true p true s e ih = record { space = []; quote = c; left = cs; spelled = refl; blank = refl; some = s; quoted = p; then_past = e }
    at false q true p false s e ih = cc
    at false q false p y s e ih = cc

-- in the public literal
record PublicLeft (rule : DoctypeRule) (quote : ℕ) (o : Option (List ℕ)) (all rest : List ℕ) : Type 0 where
  text : List ℕ
  left : List ℕ
  spelled : all ≡ text ++ quote ∷ left
  pass : list_all (λ c. in_public_identifier c && not (nat_eq c quote)) text ≡ true
  wanted : is_wanted (grown_by o text) ≡ true
  then_past : past (turn rule) (behind_public false) left ≡ Some rest

into_public : (rule : DoctypeRule) (quote : ℕ) (all : List ℕ) (o : Option (List ℕ)) (rest : List ℕ) → past (turn rule) (in_public quote o) all ≡ Some rest → PublicLeft rule quote o all rest
into_public rule quote [] o rest e = cc
into_public rule quote (c ∷ cs) o rest e = at (nat_eq c quote) refl (is_wanted o) refl (in_public_identifier c) refl (back_more rule (in_public quote o) c cs rest e).moves (λ q. into_public rule quote cs (grown o c) rest q)
  where
    at : (b : Bool) → nat_eq c quote ≡ b → (w : Bool) → is_wanted o ≡ w → (x : Bool) → in_public_identifier c ≡ x
        → (let z : Turn OpenDoctype = if b then (if w then on (behind_public false) else stop) else (if x then on (in_public quote (grown o c)) else stop) in by rule z cs ≡ Some rest)
        → (past (turn rule) (in_public quote (grown o c)) cs ≡ Some rest → PublicLeft rule quote (grown o c) cs rest) → PublicLeft rule quote o (c ∷ cs) rest
    at true q true w x p e ih = record { text = []; left = cs; spelled = ap (λ (x : ℕ). x ∷ cs) (eqb-true c quote q); pass = refl; wanted = w; then_past = e }
    at true q false w x p e ih = cc
    at false q y w true p e ih =
        let l = ih e in
        record {
          text = c ∷ l.text;
          left = l.left;
          spelled = ap (λ (w : List ℕ). c ∷ w) l.spelled;
          pass = and_from (in_public_identifier c && not (nat_eq c quote)) _ (and_from (in_public_identifier c) (not (nat_eq c quote)) p (ap not q)) l.pass;
          wanted = l.wanted;
          then_past = l.then_past;
        }
    at false q y w false p e ih = cc

-- behind a word
record Worded (rule : DoctypeRule) (word : Word) (all rest : List ℕ) : Type 0 where
  space : List ℕ
  quote : ℕ
  left : List ℕ
  spelled : all ≡ space ++ quote ∷ left
  blank : list_all is_blank space ≡ true
  quoted : is_quote quote ≡ true
  then_past : by rule (literal_turn rule word quote) left ≡ Some rest

into_word : (rule : DoctypeRule) (word : Word) (all rest : List ℕ) → past (turn rule) (behind_word word) all ≡ Some rest → Worded rule word all rest
into_word rule word [] rest e = cc
into_word rule word (c ∷ cs) rest e = at (is_blank c) refl (is_quote c) refl (back_more rule (behind_word word) c cs rest e).moves (λ q. into_word rule word cs rest q)
  where
    at : (b : Bool) → is_blank c ≡ b → (x : Bool) → is_quote c ≡ x → by rule (if b then on (behind_word word) else (if x then literal_turn rule word c else stop)) cs ≡ Some rest
        → (past (turn rule) (behind_word word) cs ≡ Some rest → Worded rule word cs rest) → Worded rule word (c ∷ cs) rest
    at true q x p e ih =
        let l = ih e in
        record { space = c ∷ l.space; quote = l.quote; left = l.left; spelled = ap (λ (w : List ℕ). c ∷ w) l.spelled; blank = and_from (is_blank c) (list_all is_blank l.space) q l.blank; quoted = l.quoted; then_past = l.then_past }
    at false q true p e ih = record { space = []; quote = c; left = cs; spelled = refl; blank = refl; quoted = p; then_past = e }
    at false q false p e ih = cc

-- a strict definition has no system identifier
may_stand : DoctypeRule → Word → Bool
may_stand rule system_word = is_free rule
may_stand rule public_word = true

-- the rest of a word, and white space
record Lettered (rule : DoctypeRule) (begun all rest : List ℕ) : Type 0 where
  word : Word
  more : List ℕ
  blank : ℕ
  left : List ℕ
  whole : letters word ≡ begun ++ more
  spelled : all ≡ more ++ blank ∷ left
  is_blank_one : is_blank blank ≡ true
  may : may_stand rule word ≡ true
  then_past : past (turn rule) (behind_word word) left ≡ Some rest

into_letters : (rule : DoctypeRule) (all begun rest : List ℕ) → may_begin rule begun ≡ true → past (turn rule) (in_word begun) all ≡ Some rest → Lettered rule begun all rest
unfolding may_stand
into_letters rule [] begun rest h e = cc
into_letters rule (c ∷ cs) begun rest h e = at (may_begin rule (begun ++ c ∷ [])) refl (back_more rule (in_word begun) c cs rest e).moves (λ h q. into_letters rule cs (begun ++ c ∷ []) rest h q)
  where
    free : (rule : DoctypeRule) (begun : List ℕ) → begun ≡ codes "SYSTEM" → may_begin rule begun ≡ true → is_free rule ≡ true
    free Free begun e h = refl
    free Strict begun e h = let z : may_begin Strict (codes "SYSTEM") ≡ true = ap (may_begin Strict) (sym e) ∙ h in cc

    ended : (x y b : Bool) → bytes_eq begun (codes "PUBLIC") ≡ x → bytes_eq begun (codes "SYSTEM") ≡ y → is_blank c ≡ b → by rule (if x && b then on (behind_word public_word) else (if y && b then on (behind_word system_word) else stop)) cs ≡ Some rest → Lettered rule begun (c ∷ cs) rest
    ended true y true p q b e = record { word = public_word; more = []; blank = c; left = cs; whole = sym ((bytes_eq-Decides begun (codes "PUBLIC")).0 p) ∙ sym (append-nil begun); spelled = refl; is_blank_one = b; may = refl; then_past = e }
    ended false true true p q b e =
        let w : begun ≡ codes "SYSTEM" = (bytes_eq-Decides begun (codes "SYSTEM")).0 q in
        record { word = system_word; more = []; blank = c; left = cs; whole = sym w ∙ sym (append-nil begun); spelled = refl; is_blank_one = b; may = free rule begun w h; then_past = e }
    ended false false true p q b e = cc
    ended true true false p q b e = cc
    ended true false false p q b e = cc
    ended false true false p q b e = cc
    ended false false false p q b e = cc

    at : (b : Bool) → may_begin rule (begun ++ c ∷ []) ≡ b
        → by rule (if b then on (in_word (begun ++ c ∷ [])) else (if bytes_eq begun (codes "PUBLIC") && is_blank c then on (behind_word public_word) else (if bytes_eq begun (codes "SYSTEM") && is_blank c then on (behind_word system_word) else stop))) cs ≡ Some rest
        → (may_begin rule (begun ++ c ∷ []) ≡ true → past (turn rule) (in_word (begun ++ c ∷ [])) cs ≡ Some rest → Lettered rule (begun ++ c ∷ []) cs rest) → Lettered rule begun (c ∷ cs) rest
    at true q e ih =
        let l = ih q e in
        record { word = l.word; more = c ∷ l.more; blank = l.blank; left = l.left; whole = l.whole ∙ append_assoc begun (c ∷ []) l.more; spelled = ap (λ (w : List ℕ). c ∷ w) l.spelled; is_blank_one = l.is_blank_one; may = l.may; then_past = l.then_past }
    at false q e ih = ended (bytes_eq begun (codes "PUBLIC")) (bytes_eq begun (codes "SYSTEM")) (is_blank c) refl refl refl e

-- behind `html`: an identifier, white space, `>`
record Identified (rule : DoctypeRule) (all rest : List ℕ) : Type 0 where
  identifier : Identifier
  end_space : List ℕ
  spelled : identifier_then identifier (end_space ++ 62 ∷ rest) ≡ all
  is : IsIdentifier identifier
  fits : (is_free rule || is_strict identifier) ≡ true
  blank : list_all is_blank end_space ≡ true

is_some_list : (x : ℕ) (xs : List ℕ) → x ∷ xs ≢ []
is_some_list x xs e = cc

literals : (rule : DoctypeRule) (word : Word) (space : List ℕ) (blank : ℕ) (left rest : List ℕ) → IsSpace space → is_blank blank ≡ true → may_stand rule word ≡ true → Worded rule word left rest → Identified rule (space ++ (letters word ++ blank ∷ left)) rest
unfolding may_stand
literals rule system_word space blank left rest some b may w =
    let l = into_system rule w.quote w.left rest w.then_past in
    let e = into_end rule l.left rest l.then_past in
    record {
      identifier = system space (blank ∷ w.space) (record { quote = w.quote; text = l.text });
      end_space = e.space;
      spelled = ap (λ (x : List ℕ). space ++ (codes "SYSTEM" ++ blank ∷ x)) (ap (λ (x : List ℕ). w.space ++ w.quote ∷ (l.text ++ w.quote ∷ x)) (sym e.spelled) ∙ ap (λ (x : List ℕ). w.space ++ w.quote ∷ x) (sym l.spelled) ∙ sym w.spelled);
      is = (some, record { some = is_some_list blank w.space; blank = and_from (is_blank blank) (list_all is_blank w.space) b w.blank }, record { quoted = w.quoted; pass = l.pass });
      fits = ap (λ (x : Bool). x || false) may;
      blank = e.blank;
    }
literals rule public_word space blank left rest some b may w =
    let l = into_public rule w.quote w.left (kept rule []) rest w.then_past in
    let u = into_between rule false l.left rest l.then_past in
    let m = into_system rule u.quote u.left rest u.then_past in
    let e = into_end rule m.left rest m.then_past in
    record {
      identifier = public space (blank ∷ w.space) (record { quote = w.quote; text = l.text }) u.space (record { quote = u.quote; text = m.text });
      end_space = e.space;
      spelled = ap (λ (x : List ℕ). space ++ (codes "PUBLIC" ++ blank ∷ x))
          (ap (λ (x : List ℕ). w.space ++ w.quote ∷ (l.text ++ w.quote ∷ (u.space ++ u.quote ∷ (m.text ++ u.quote ∷ x)))) (sym e.spelled)
          ∙ ap (λ (x : List ℕ). w.space ++ w.quote ∷ (l.text ++ w.quote ∷ (u.space ++ u.quote ∷ x))) (sym m.spelled)
          ∙ ap (λ (x : List ℕ). w.space ++ w.quote ∷ (l.text ++ w.quote ∷ x)) (sym u.spelled)
          ∙ ap (λ (x : List ℕ). w.space ++ w.quote ∷ x) (sym l.spelled)
          ∙ sym w.spelled);
      is = (some, record { some = is_some_list blank w.space; blank = and_from (is_blank blank) (list_all is_blank w.space) b w.blank }, record { quoted = w.quoted; pass = l.pass }, record { some = apart u.space u.some; blank = u.blank }, record { quoted = u.quoted; pass = m.pass });
      fits = sym (wanted_is rule l.text) ∙ l.wanted;
      blank = e.blank;
    }
  where
    apart : (xs : List ℕ) → spaced_by false xs ≡ true → xs ≢ []
    apart [] h e = cc
    apart (x ∷ xs) h e = cc

snoc_some : (xs : List ℕ) (x : ℕ) → xs ++ x ∷ [] ≢ []
snoc_some [] x e = cc
snoc_some (y ∷ ys) x e = cc

snoc_blank : (xs : List ℕ) (x : ℕ) → list_all is_blank xs ≡ true → is_blank x ≡ true → list_all is_blank (xs ++ x ∷ []) ≡ true
snoc_blank [] x h b = and_from (is_blank x) true b refl
snoc_blank (y ∷ ys) x h b = let p = and_parts (is_blank y) (list_all is_blank ys) h in and_from (is_blank y) (list_all is_blank (ys ++ x ∷ [])) p.0 (snoc_blank ys x p.1 b)

into_root : (rule : DoctypeRule) (all space rest : List ℕ) → IsSpace space → past (turn rule) behind_root all ≡ Some rest → Identified rule (space ++ all) rest
into_root rule [] space rest some e = cc
into_root rule (c ∷ cs) space rest some e =
    at (may_begin rule (c ∷ [])) refl (is_blank c) refl (nat_eq c 62) refl (is_free rule) refl (back_more rule behind_root c cs rest e).moves
    (λ b q. into_root rule cs (space ++ c ∷ []) rest (record { some = snoc_some space c; blank = snoc_blank space c some.blank b }) q)
  where
    at : (m : Bool) → may_begin rule (c ∷ []) ≡ m → (b : Bool) → is_blank c ≡ b → (x : Bool) → nat_eq c 62 ≡ x → (f : Bool) → is_free rule ≡ f
        → by rule (if m then on (in_word (c ∷ [])) else (if b then on behind_root else (if x && f then out else stop))) cs ≡ Some rest
        → (is_blank c ≡ true → past (turn rule) behind_root cs ≡ Some rest → Identified rule ((space ++ c ∷ []) ++ cs) rest) → Identified rule (space ++ c ∷ cs) rest
    at true m b q x p f g e ih =
        let l = into_letters rule cs (c ∷ []) rest m e in
        let w = into_word rule l.word l.left rest l.then_past in
        subst (λ (z : List ℕ). Identified rule (space ++ z) rest) (ap (λ (z : List ℕ). z ++ l.blank ∷ l.left) l.whole ∙ ap (λ (z : List ℕ). c ∷ z) (sym l.spelled)) (literals rule l.word space l.blank l.left rest some l.is_blank_one l.may w)
    at false m true q x p f g e ih = subst (λ (z : List ℕ). Identified rule z rest) (append_assoc space (c ∷ []) cs) (ih q e)
    at false m false q true p true g e ih = record {
      identifier = no_identifier;
      end_space = space;
      spelled = ap (λ (z : List ℕ). space ++ 62 ∷ z) (sym (some_same cs rest e)) ∙ ap (λ (y : ℕ). space ++ y ∷ cs) (sym (eqb-true c 62 p));
      is = tt;
      fits = ap (λ (y : Bool). y || false) g;
      blank = some.blank;
    }
    at false m false q true p false g e ih = cc
    at false m false q false p f g e ih = cc

-- directly behind `html`
behind_html : (rule : DoctypeRule) (c : ℕ) (cs rest : List ℕ) → by rule (root_turn rule c) cs ≡ Some rest → Identified rule (c ∷ cs) rest
behind_html rule c cs rest e = at (is_blank c) refl (nat_eq c 62) refl (is_free rule) refl e
  where
    at : (b : Bool) → is_blank c ≡ b → (x : Bool) → nat_eq c 62 ≡ x → (f : Bool) → is_free rule ≡ f → by rule (if b then on behind_root else (if x && f then out else stop)) cs ≡ Some rest → Identified rule (c ∷ cs) rest
    at true q x p f g e = into_root rule cs (c ∷ []) rest (record { some = is_some_list c []; blank = and_from (is_blank c) true q refl }) e
    at false q true p true g e = record {
      identifier = no_identifier;
      end_space = [];
      spelled = ap (λ (z : List ℕ). 62 ∷ z) (sym (some_same cs rest e)) ∙ ap (λ (y : ℕ). y ∷ cs) (sym (eqb-true c 62 p));
      is = tt;
      fits = ap (λ (y : Bool). y || false) g;
      blank = refl;
    }
    at false q true p false g e = cc
    at false q false p f g e = cc

-- in `html`
record Rooted (rule : DoctypeRule) (begun all rest : List ℕ) : Type 0 where
  more : List ℕ
  left : List ℕ
  whole : codes "html" ≡ begun ++ more
  spelled : all ≡ more ++ left
  identified : Identified rule left rest

into_html : (rule : DoctypeRule) (all begun rest : List ℕ) → past (turn rule) (in_root begun) all ≡ Some rest → Rooted rule begun all rest
into_html rule [] begun rest e = cc
into_html rule (c ∷ cs) begun rest e = at (begins (codes "html") (begun ++ c ∷ [])) (bytes_eq begun (codes "html")) refl (back_more rule (in_root begun) c cs rest e).moves (λ q. into_html rule cs (begun ++ c ∷ []) rest q)
  where
    at : (b x : Bool) → bytes_eq begun (codes "html") ≡ x → by rule (if b then on (in_root (begun ++ c ∷ [])) else (if x then root_turn rule c else stop)) cs ≡ Some rest
        → (past (turn rule) (in_root (begun ++ c ∷ [])) cs ≡ Some rest → Rooted rule (begun ++ c ∷ []) cs rest) → Rooted rule begun (c ∷ cs) rest
    at true x p e ih =
        let l = ih e in
        record { more = c ∷ l.more; left = l.left; whole = l.whole ∙ append_assoc begun (c ∷ []) l.more; spelled = ap (λ (w : List ℕ). c ∷ w) l.spelled; identified = l.identified }
    at false true p e ih = record { more = []; left = c ∷ cs; whole = sym ((bytes_eq-Decides begun (codes "html")).0 p) ∙ sym (append-nil begun); spelled = refl; identified = behind_html rule c cs rest e }
    at false false p e ih = cc

record Begun (rule : DoctypeRule) (spaced : Bool) (all rest : List ℕ) : Type 0 where
  space : List ℕ
  left : List ℕ
  spelled : all ≡ space ++ (codes "html" ++ left)
  blank : list_all is_blank space ≡ true
  some : spaced_by spaced space ≡ true
  identified : Identified rule left rest

into_begin : (rule : DoctypeRule) (spaced : Bool) (all rest : List ℕ) → past (turn rule) (before_root spaced) all ≡ Some rest → Begun rule spaced all rest
into_begin rule spaced [] rest e = cc
into_begin rule spaced (c ∷ cs) rest e = at (is_blank c) refl (nat_eq c 104) refl spaced refl (back_more rule (before_root spaced) c cs rest e).moves (λ q. into_begin rule true cs rest q)
  where
    at : (b : Bool) → is_blank c ≡ b → (x : Bool) → nat_eq c 104 ≡ x → (y : Bool) → spaced ≡ y → by rule (if b then on (before_root true) else (if x && y then on (in_root (codes "h")) else stop)) cs ≡ Some rest
        → (past (turn rule) (before_root true) cs ≡ Some rest → Begun rule true cs rest) → Begun rule spaced (c ∷ cs) rest
    at true q x p y s e ih = let l = ih e in record { space = c ∷ l.space; left = l.left; spelled = ap (λ (w : List ℕ). c ∷ w) l.spelled; blank = and_from (is_blank c) (list_all is_blank l.space) q l.blank; some = refl; identified = l.identified }
    at false q true p true s e ih =
        let l = into_html rule cs (codes "h") rest e in
        record {
          space = [];
          left = l.left;
          spelled = ap (λ (x : ℕ). x ∷ cs) (eqb-true c 104 p) ∙ ap (λ (w : List ℕ). 104 ∷ w) l.spelled ∙ ap (λ (w : List ℕ). w ++ l.left) (sym l.whole);
          blank = refl;
          some = s;
          identified = l.identified;
        }
    at false q true p false s e ih = cc
    at false q false p y s e ih = cc

fits_is : (rule : DoctypeRule) (d : Doctype) → doctype_fits rule d ≡ (is_free rule || is_strict d.identifier)
fits_is Strict d = refl
fits_is Free d = refl

into_doctype : (rule : DoctypeRule) (cs rest : List ℕ) → past (turn rule) (before_root false) cs ≡ Some rest → IsDoctypeThen rule cs rest
into_doctype rule cs rest e =
    let b = into_begin rule false cs rest e in
    let i = b.identified in
    let d : Doctype = record { space = b.space; identifier = i.identifier; end_space = i.end_space } in
    record {
      declared = d;
      spelled = ap (λ (w : List ℕ). b.space ++ (codes "html" ++ w)) i.spelled ∙ sym b.spelled;
      is = record { apart = record { some = apart b.space b.some; blank = b.blank }; identifier = i.is; blank_space = i.blank };
      fits = fits_is rule d ∙ i.fits;
    }
  where
    apart : (xs : List ℕ) → spaced_by false xs ≡ true → xs ≢ []
    apart [] h e = cc
    apart (x ∷ xs) h e = cc

pub doctypes_left : DoctypesLeft
doctypes_left = (λ rule d rest h f. over_doctype rule d rest h f, λ rule cs rest e. into_doctype rule cs rest e)
