-- Behind `<`.
use Rattle.std.proofs.Common.{◌≡◌, ℕ, Bool, true, false, not, ◌&&◌, ◌||◌, List, [], ◌∷◌, ◌++◌, Some, refl, sym, ◌∙◌, ap, subst, arith, append-nil, append_assoc}
use Rattle.std.specs.Prelude.{if◌then◌else◌, nat_eq, codes, bytes_eq}
use Rattle.std.proofs.lemmas.Bool.{eqb-true}
use Rattle.std.proofs.lemmas.Bool.Decides.{nat_tests}
use Rattle.std.proofs.lemmas.Slice.Eq.{bytes_eq-Decides}
use Rattle.text_base.specs.declared.page_token.PageToken.{PageToken}
use Rattle.xml_text.specs.Characters.{is_character}
use Rattle.xml_text.specs.Names.{begins_name}
use Rattle.dtd_model.specs.Table.{Table}
use Rattle.page_model.specs.Places.{Place, at_beginning, behind_mark, behind}
use Rattle.piece_steps.specs.Readers.{go, fail, Outcome, whole}
use Rattle.page_model.specs.Fronts.{Open, in_opener, in_tag_name, in_end_tag, in_comment, in_section, in_target, in_doctype}
use Rattle.page_model.specs.OpenDoctypes.{before_root}
use Rattle.page_steps.specs.DoctypeSteps.{begins}
use Rattle.page_steps.specs.PageSteps.{OpenMove, less_move, bang_move, PageState, page_step}
use Rattle.page_insides.specs.Laws.{read}
use Rattle.page_insides.proofs.Stepping.{behind_move, on_is, page_on, page_back}
use Rattle.opener_steps.specs.Laws.{Bang, comment_bang, section_bang, doctype_bang, bang_word, bang_open, Opened, bang, question, slash, name, OpenersRead}

tail_is : (a : ℕ) (xs ys : List ℕ) → a ∷ xs ≡ a ∷ ys → xs ≡ ys
tail_is a xs ys e = cc

at_bang : (table : Table) (place : Place) (b : Bang) (left : List ℕ) → (cs : List ℕ) → 60 ∷ cs ≡ bang_word b ++ left → read table place (in_opener (codes "<")) cs ≡ read table place (bang_open b) left
unfolding page_step
at_bang table place comment_bang left cs e = ap (read table place (in_opener (codes "<"))) (tail_is 60 cs (codes "!--" ++ left) e) ∙ at place
  where
    at : (place : Place) → read table place (in_opener (codes "<")) (codes "!--" ++ left) ≡ read table place (in_comment 0) left
    at at_beginning = refl
    at behind_mark = refl
    at (behind k) = refl
at_bang table place section_bang left cs e = ap (read table place (in_opener (codes "<"))) (tail_is 60 cs (codes "![CDATA[" ++ left) e) ∙ at place
  where
    at : (place : Place) → read table place (in_opener (codes "<")) (codes "![CDATA[" ++ left) ≡ read table place (in_section 0) left
    at at_beginning = refl
    at behind_mark = refl
    at (behind k) = refl
at_bang table place doctype_bang left cs e = ap (read table place (in_opener (codes "<"))) (tail_is 60 cs (codes "!DOCTYPE" ++ left) e) ∙ at place
  where
    at : (place : Place) → read table place (in_opener (codes "<")) (codes "!DOCTYPE" ++ left) ≡ read table place (in_doctype (before_root false)) left
    at at_beginning = refl
    at behind_mark = refl
    at (behind k) = refl

no_bang : (c : ℕ) → begins_name c ≡ true → nat_eq c 33 ≡ false
no_bang c p = grind (arith, nat_tests)

no_question : (c : ℕ) → begins_name c ≡ true → nat_eq c 63 ≡ false
no_question c p = grind (arith, nat_tests)

no_slash : (c : ℕ) → begins_name c ≡ true → nat_eq c 47 ≡ false
no_slash c p = grind (arith, nat_tests)

character_begins : (c : ℕ) → begins_name c ≡ true → is_character c ≡ true
character_begins c p = grind (arith, nat_tests)

named : (x y z b : Bool) (p q r s : OpenMove) → x ≡ false → y ≡ false → z ≡ false → b ≡ true → (if x then p else (if y then q else (if z then r else (if b then s else fail)))) ≡ s
named true y z b p q r s e f g h = cc
named false true z b p q r s e f g h = cc
named false false true b p q r s e f g h = cc
named false false false true p q r s e f g h = refl
named false false false false p q r s e f g h = cc

at_name : (table : Table) (place : Place) (n : ℕ) (left : List ℕ) → begins_name n ≡ true → read table place (in_opener (codes "<")) (n ∷ left) ≡ read table place (in_tag_name (n ∷ [])) left
at_name table place n left h =
    page_on table place (in_opener (codes "<")) n (in_tag_name (n ∷ [])) left (character_begins n h) refl
    (named (nat_eq n 33) (nat_eq n 63) (nat_eq n 47) (begins_name n) (go (in_opener (codes "<!"))) (go (in_target (Some []))) (go (in_end_tag [] false)) (go (in_tag_name (n ∷ []))) (no_bang n h) (no_question n h) (no_slash n h) h)

-- Back.

record BangLeft (table : Table) (place : Place) (out : Outcome Place PageToken PageState) (begun text : List ℕ) : Type 0 where
  word : Bang
  more : List ℕ
  left : List ℕ
  whole_word : bang_word word ≡ begun ++ more
  spelled : text ≡ more ++ left
  then_read : read table place (bang_open word) left ≡ out

into_bang : (table : Table) (place next : Place) (text : List ℕ) (a b : ℕ) (bs : List ℕ) (given : List PageToken) (rest : List ℕ) → read table place (in_opener (a ∷ b ∷ bs)) text ≡ whole next given rest → BangLeft table place (whole next given rest) (a ∷ b ∷ bs) text
into_bang table place next [] a b bs given rest e = cc
into_bang table place next (c ∷ cs) a b bs given rest e =
    at (bytes_eq w (codes "<!--")) refl (bytes_eq w (codes "<![CDATA[")) refl (bytes_eq w (codes "<!DOCTYPE")) refl (begins (codes "<!--") w || begins (codes "<![CDATA[") w || begins (codes "<!DOCTYPE") w)
    (page_back table place next (in_opener (a ∷ b ∷ bs)) c cs given rest e).leads (λ q. into_bang table place next cs a b (bs ++ c ∷ []) given rest q)
  where
    w : List ℕ
    w = a ∷ b ∷ (bs ++ c ∷ [])

    here : (word : Bang) → bytes_eq (a ∷ b ∷ (bs ++ c ∷ [])) (bang_word word) ≡ true → read table place (bang_open word) cs ≡ whole next given rest → BangLeft table place (whole next given rest) (a ∷ b ∷ bs) (c ∷ cs)
    here word q e = record { word = word; more = c ∷ []; left = cs; whole_word = sym ((bytes_eq-Decides (a ∷ b ∷ (bs ++ c ∷ [])) (bang_word word)).0 q); spelled = refl; then_read = e }

    at : (x : Bool) → bytes_eq (a ∷ b ∷ (bs ++ c ∷ [])) (codes "<!--") ≡ x → (y : Bool) → bytes_eq (a ∷ b ∷ (bs ++ c ∷ [])) (codes "<![CDATA[") ≡ y → (z : Bool) → bytes_eq (a ∷ b ∷ (bs ++ c ∷ [])) (codes "<!DOCTYPE") ≡ z → (f : Bool)
        → (let m : OpenMove = if x then go (in_comment 0) else (if y then go (in_section 0) else (if z then go (in_doctype (before_root false)) else (if f then go (in_opener (a ∷ b ∷ (bs ++ c ∷ []))) else fail))) in behind_move table place m cs ≡ whole next given rest)
        → (read table place (in_opener (a ∷ b ∷ (bs ++ c ∷ []))) cs ≡ whole next given rest → BangLeft table place (whole next given rest) (a ∷ b ∷ (bs ++ c ∷ [])) cs) → BangLeft table place (whole next given rest) (a ∷ b ∷ bs) (c ∷ cs)
    at true p y q z r f e ih = here comment_bang p (sym (on_is table place (in_comment 0) cs refl) ∙ e)
    at false p true q z r f e ih = here section_bang q (sym (on_is table place (in_section 0) cs refl) ∙ e)
    at false p false q true r f e ih = here doctype_bang r (sym (on_is table place (in_doctype (before_root false)) cs refl) ∙ e)
    at false p false q false r true e ih =
        let l = ih (sym (on_is table place (in_opener (a ∷ b ∷ (bs ++ c ∷ []))) cs refl) ∙ e) in
        record { word = l.word; more = c ∷ l.more; left = l.left; whole_word = l.whole_word ∙ ap (λ (x : List ℕ). a ∷ b ∷ x) (append_assoc bs (c ∷ []) l.more); spelled = ap (λ (x : List ℕ). c ∷ x) l.spelled; then_read = l.then_read }
    at false p false q false r false e ih = cc

sound : (table : Table) (place next : Place) (cs : List ℕ) (given : List PageToken) (rest : List ℕ) → read table place (in_opener (codes "<")) cs ≡ whole next given rest → Opened table place (whole next given rest) cs
sound table place next [] given rest e = cc
sound table place next (c ∷ cs) given rest e = at (nat_eq c 33) refl (nat_eq c 63) refl (nat_eq c 47) refl (begins_name c) refl (page_back table place next (in_opener (codes "<")) c cs given rest e).leads
  where
    banged : read table place (in_opener (codes "<!")) cs ≡ whole next given rest → Opened table place (whole next given rest) (33 ∷ cs)
    banged e =
        let l = into_bang table place next cs 60 33 [] given rest e in
        bang l.word (33 ∷ cs) l.left (ap (λ (w : List ℕ). 60 ∷ 33 ∷ w) l.spelled ∙ ap (λ (w : List ℕ). w ++ l.left) (sym l.whole_word)) l.then_read

    at : (x : Bool) → nat_eq c 33 ≡ x → (y : Bool) → nat_eq c 63 ≡ y → (z : Bool) → nat_eq c 47 ≡ z → (f : Bool) → begins_name c ≡ f
        → (let m : OpenMove = if x then go (in_opener (codes "<!")) else (if y then go (in_target (Some [])) else (if z then go (in_end_tag [] false) else (if f then go (in_tag_name (c ∷ [])) else fail))) in behind_move table place m cs ≡ whole next given rest)
        → Opened table place (whole next given rest) (c ∷ cs)
    at true p y q z r f h e = subst (λ (x : ℕ). Opened table place (whole next given rest) (x ∷ cs)) (sym (eqb-true c 33 p)) (banged (sym (on_is table place (in_opener (codes "<!")) cs refl) ∙ e))
    at false p true q z r f h e = subst (λ (x : ℕ). Opened table place (whole next given rest) (x ∷ cs)) (sym (eqb-true c 63 q)) (question cs (sym (on_is table place (in_target (Some [])) cs refl) ∙ e))
    at false p false q true r f h e = subst (λ (x : ℕ). Opened table place (whole next given rest) (x ∷ cs)) (sym (eqb-true c 47 r)) (slash cs (sym (on_is table place (in_end_tag [] false) cs refl) ∙ e))
    at false p false q false r true h e = name c cs h (sym (on_is table place (in_tag_name (c ∷ [])) cs refl) ∙ e)
    at false p false q false r false h e = cc

pub openers_read : OpenersRead
openers_read = record {
  at_bang = λ table place b cs left e. at_bang table place b left cs e;
  at_question = λ table place left. page_on table place (in_opener (codes "<")) 63 (in_target (Some [])) left refl refl refl;
  at_slash = λ table place left. page_on table place (in_opener (codes "<")) 47 (in_end_tag [] false) left refl refl refl;
  at_name = at_name;
  sound = sound;
}
