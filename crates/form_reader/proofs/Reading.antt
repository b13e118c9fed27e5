-- The reader by forms reads the pieces of a page.
use Rattle.std.proofs.Common.{◌≡◌, ◌⊎◌, inl, inr, ℕ, Bool, true, false, List, [], ◌∷◌, ◌++◌, Option, Some, None, refl, sym, ◌∙◌, ap, subst, append-nil}
use Rattle.std.specs.Prelude.{if◌then◌else◌}
use Rattle.std.specs.Str.{encode_utf8_all}
use Rattle.text_base.specs.declared.page_token.PageToken.{PageToken}
use Rattle.dtd_model.specs.Table.{Table}
use Rattle.derivatives.specs.Expressions.{Expr, nothing, Matches}
use Rattle.derivatives.specs.Derivatives as derivatives
use Rattle.derivatives.specs.Derivatives.{may_end}
use Rattle.derivatives.proofs.After.{is_derivative}
use Rattle.derivatives.proofs.Ends.{empty_matched, ends_empty}
use Rattle.piece_steps.specs.Readers.{Move, go, done, fail, Outcome, whole, failed, stuck, next, ends}
use Rattle.piece_steps.specs.Reads.{Begins, Reads}
use Rattle.page_model.specs.PageTokens.{IsLawful, piece_bytes, piece_tokens}
use Rattle.page_model.specs.Pieces.{Piece, piece_then, after}
use Rattle.page_model.specs.Places.{Place}
use Rattle.page_model.proofs.Encoding.{some_bytes}
use Rattle.page_model.proofs.Once.{some_character, one_of_bytes}
use Rattle.page_forms.specs.Forms.{Form, forms, IsOfForm, IsOfOne}
use Rattle.page_forms.proofs.PageForms.{pieces_are_spelled}
use Rattle.form_reader.specs.FormReader.{State, kept, live_behind, ended, move_by, step, form_reader, byte_language}
use Rattle.form_reader.specs.Laws.{IsLawfulTable, FormsAreRead}

-- Live forms.

none : {w : List ℕ} → Matches nothing w → ⊥
none d = elim d [ ]

pub live_shown : (b : ℕ) (fs : List Form) (v : List ℕ) (t : List PageToken) (p : Place) → IsOfOne (live_behind b fs) v t p → IsOfOne fs (b ∷ v) t p
live_shown b [] v t p k = absurd k
live_shown b (f ∷ fs) v t p k = at (derivatives.after b f.expression) refl k (λ g. live_shown b fs v t p g)
  where
    put : (e : Expr) → derivatives.after b f.expression ≡ e → Matches e v × (f.tokens ≡ t) × (f.leads_to ≡ p) → IsOfForm f (b ∷ v) t p
    put e q m = ((is_derivative b f.expression v).0 (subst (λ (z : Expr). Matches z v) (sym q) m.0), m.1, m.2)

    at : (e : Expr) → derivatives.after b f.expression ≡ e → IsOfOne (kept e f (live_behind b fs)) v t p → (IsOfOne (live_behind b fs) v t p → IsOfOne fs (b ∷ v) t p) → IsOfOne (f ∷ fs) (b ∷ v) t p
    at nothing q k g = inr (g k)
    at e q (inl m) g = inl (put e q m)
    at e q (inr k) g = inr (g k)

pub live_made : (b : ℕ) (fs : List Form) (v : List ℕ) (t : List PageToken) (p : Place) → IsOfOne fs (b ∷ v) t p → IsOfOne (live_behind b fs) v t p
live_made b [] v t p k = absurd k
live_made b (f ∷ fs) v t p (inl m) = at (derivatives.after b f.expression) ((is_derivative b f.expression v).1 m.0)
  where
    at : (e : Expr) → Matches e v → IsOfOne (kept e f (live_behind b fs)) v t p
    at nothing d = absurd (none d)
    at e d = inl (d, m.1, m.2)
live_made b (f ∷ fs) v t p (inr k) = at (derivatives.after b f.expression) (live_made b fs v t p k)
  where
    at : (e : Expr) → IsOfOne (live_behind b fs) v t p → IsOfOne (kept e f (live_behind b fs)) v t p
    at nothing g = g
    at e g = inr g

-- Ends.

some_is : (f g : Form) → (let o : Option Form = Some f in o ≡ Some g) → f ≡ g
some_is f g e = cc

ended_is : (fs : List Form) (f : Form) → ended fs ≡ Some f → IsOfOne fs [] f.tokens f.leads_to
ended_is [] f e = cc
ended_is (g ∷ fs) f e = at (may_end g.expression) refl e (λ h. ended_is fs f h)
  where
    at : (b : Bool) → may_end g.expression ≡ b → (if b then Some g else ended fs) ≡ Some f → (ended fs ≡ Some f → IsOfOne fs [] f.tokens f.leads_to) → IsOfOne (g ∷ fs) [] f.tokens f.leads_to
    at true q e h = let s = some_is g f e in inl (empty_matched g.expression q, ap (λ (x : Form). x.tokens) s, ap (λ (x : Form). x.leads_to) s)
    at false q e h = inr (h e)

both : (b : Bool) → b ≡ true → b ≡ false → ⊥
both b t f = cc

ended_not : (fs : List Form) (t : List PageToken) (p : Place) → ended fs ≡ None → IsOfOne fs [] t p → ⊥
ended_not [] t p e k = k
ended_not (g ∷ fs) t p e k = at (may_end g.expression) refl e k (λ h m. ended_not fs t p h m)
  where
    at : (b : Bool) → may_end g.expression ≡ b → (if b then Some g else ended fs) ≡ None → IsOfOne (g ∷ fs) [] t p → (ended fs ≡ None → IsOfOne fs [] t p → ⊥) → ⊥
    at true q e k h = cc
    at false q e (inl m) h = both (may_end g.expression) (ends_empty g.expression m.0) q
    at false q e (inr m) h = h e m

-- No text of live forms goes on as another one, and one text has one outcome.

record Agrees (v : List ℕ) (t s : List PageToken) (p q : Place) : Type 0 where
  ends_there : v ≡ []
  tokens : t ≡ s
  place : p ≡ q

abbrev Alone : List Form → Type 0
Alone fs = (u v : List ℕ) (t s : List PageToken) (p q : Place) → IsOfOne fs u t p → IsOfOne fs (u ++ v) s q → Agrees v t s p q

alone_behind : (b : ℕ) (fs : List Form) → Alone fs → Alone (live_behind b fs)
alone_behind b fs alone u v t s p q k m = alone (b ∷ u) v t s p q (live_shown b fs u t p k) (live_shown b fs (u ++ v) s q m)

alone_first : (table : Table) → IsLawfulTable table → (place : Place) → Alone (forms table place)
alone_first table h place u v t s p q k m =
    let a = (pieces_are_spelled table h place u t p).0 k in
    let b = (pieces_are_spelled table h place (u ++ v) s q).0 m in
    let o = one_of_bytes place a.0 b.0 v [] a.1.is b.1.is (ap (λ (z : List ℕ). z ++ v) a.2 ∙ sym b.2 ∙ sym (append-nil (piece_bytes b.0))) in
    record {
      ends_there = o.rest;
      tokens = sym a.3 ∙ ap (piece_tokens table) o.piece ∙ b.3;
      place = sym a.4 ∙ ap (after place) o.piece ∙ b.4;
    }

-- Each piece is read to its end.

abbrev Ends : Table → State → List ℕ → Outcome Place PageToken State
Ends table s text = ends (form_reader table) s text

whole_same : (p q : Place) (t s : List PageToken) (rest : List ℕ) → p ≡ q → t ≡ s → (let o : Outcome Place PageToken State = whole p t rest in o ≡ whole q s rest)
whole_same p q t s rest e g = ap (λ (z : Place). let o : Outcome Place PageToken State = whole z t rest in o) e ∙ ap (λ (z : List PageToken). let o : Outcome Place PageToken State = whole q z rest in o) g

nonempty : (c : ℕ) (w : List ℕ) → c ∷ w ≡ [] → ⊥
nonempty c w e = cc

read_on : (table : Table) (w : List ℕ) (b : ℕ) (begun : Bool) (fs : List Form) (t : List PageToken) (p : Place) (rest : List ℕ) → Alone fs → IsOfOne fs (b ∷ w) t p
    → Ends table (record { begun = begun; live = fs }) (b ∷ (w ++ rest)) ≡ whole p t rest
read_on table [] b begun fs t p rest alone k = at (live_behind b fs) (ended (live_behind b fs)) refl (alone_behind b fs alone) (live_made b fs [] t p k)
  where
    at : (gs : List Form) (o : Option Form) → ended gs ≡ o → Alone gs → IsOfOne gs [] t p → next (move_by gs o) (λ g. Ends table g rest) rest ≡ whole p t rest
    at gs (Some f) e a m = let s = a [] [] f.tokens t f.leads_to p (ended_is gs f e) m in whole_same f.leads_to p f.tokens t rest s.place s.tokens
    at gs None e a m = absurd (ended_not gs t p e m)
read_on table (c ∷ w) b begun fs t p rest alone k =
    at (live_behind b fs) (ended (live_behind b fs)) refl (alone_behind b fs alone) (live_made b fs (c ∷ w) t p k) (λ gs a m. read_on table w c true gs t p rest a m)
  where
    at : (gs : List Form) (o : Option Form) → ended gs ≡ o → Alone gs → IsOfOne gs (c ∷ w) t p
        → ((hs : List Form) → Alone hs → IsOfOne hs (c ∷ w) t p → Ends table (record { begun = true; live = hs }) (c ∷ (w ++ rest)) ≡ whole p t rest)
        → next (move_by gs o) (λ g. Ends table g (c ∷ (w ++ rest))) (c ∷ (w ++ rest)) ≡ whole p t rest
    at gs (Some f) e a m ih = absurd (nonempty c w (a [] (c ∷ w) f.tokens t f.leads_to p (ended_is gs f e) m).ends_there)
    at [] None e a m ih = absurd m
    at (g ∷ gs) None e a m ih = ih (g ∷ gs) a m

some_bytes_of : (place : Place) (p : Piece) (table : Table) → IsLawful table place p → piece_bytes p ≡ [] → ⊥
some_bytes_of place p table l e = at (piece_then p []) refl e
  where
    at : (cs : List ℕ) → piece_then p [] ≡ cs → encode_utf8_all cs ≡ [] → ⊥
    at [] s q = some_character place p [] l.is s
    at (c ∷ cs) s q = some_bytes c (encode_utf8_all cs) q

complete : (table : Table) → IsLawfulTable table → (place : Place) (p : Piece) (rest : List ℕ) → IsLawful table place p
    → Ends table ((form_reader table).first place) (piece_bytes p ++ rest) ≡ whole (after place p) (piece_tokens table p) rest
complete table h place p rest l = at (piece_bytes p) refl
  where
    at : (w : List ℕ) → piece_bytes p ≡ w → Ends table ((form_reader table).first place) (w ++ rest) ≡ whole (after place p) (piece_tokens table p) rest
    at [] e = absurd (some_bytes_of place p table l e)
    at (b ∷ w) e =
        read_on table w b false (forms table place) (piece_tokens table p) (after place p) rest (alone_first table h place)
        ((pieces_are_spelled table h place (b ∷ w) (piece_tokens table p) (after place p)).1 (p, l, e, refl, refl))

-- What is read to an end is a piece.

record Taken (fs : List Form) (text : List ℕ) (to : Place) (tokens : List PageToken) (rest : List ℕ) : Type 0 where
  text_read : List ℕ
  is : text_read ++ rest ≡ text
  of : IsOfOne fs text_read tokens to

record Wholes (p q : Place) (t s : List PageToken) (xs ys : List ℕ) : Type 0 where
  place : p ≡ q
  tokens : t ≡ s
  left : xs ≡ ys

wholes : (p q : Place) (t s : List PageToken) (xs ys : List ℕ) → (let o : Outcome Place PageToken State = whole p t xs in o ≡ whole q s ys) → Wholes p q t s xs ys
wholes p q t s xs ys e = record { place = cc; tokens = cc; left = cc }

taken : (table : Table) (text : List ℕ) (s : State) (to : Place) (tokens : List PageToken) (rest : List ℕ) → Ends table s text ≡ whole to tokens rest → Taken s.live text to tokens rest
taken table [] s to tokens rest e = cc
taken table (b ∷ bs) s to tokens rest e = at (live_behind b s.live) (λ u t p k. live_shown b s.live u t p k) (ended (live_behind b s.live)) refl e (λ g h. taken table bs g to tokens rest h)
  where
    at : (gs : List Form) → ((u : List ℕ) (t : List PageToken) (p : Place) → IsOfOne gs u t p → IsOfOne s.live (b ∷ u) t p) → (o : Option Form) → ended gs ≡ o → next (move_by gs o) (λ g. Ends table g bs) bs ≡ whole to tokens rest
        → ((g : State) → Ends table g bs ≡ whole to tokens rest → Taken g.live bs to tokens rest) → Taken s.live (b ∷ bs) to tokens rest
    at gs f (Some x) q e ih =
        let w = wholes x.leads_to to x.tokens tokens bs rest e in
        record {
          text_read = b ∷ [];
          is = ap (λ (z : List ℕ). b ∷ z) (sym w.left);
          of = subst (λ (z : Place). IsOfOne s.live (b ∷ []) tokens z) w.place (subst (λ (z : List PageToken). IsOfOne s.live (b ∷ []) z x.leads_to) w.tokens (f [] x.tokens x.leads_to (ended_is gs x q)));
        }
    at [] f None q e ih = cc
    at (g ∷ gs) f None q e ih =
        let k = ih (record { begun = true; live = g ∷ gs }) e in
        record { text_read = b ∷ k.text_read; is = ap (λ (z : List ℕ). b ∷ z) k.is; of = f k.text_read tokens to k.of }

sound : (table : Table) → IsLawfulTable table → (place to : Place) (tokens : List PageToken) (text rest : List ℕ) → Ends table ((form_reader table).first place) text ≡ whole to tokens rest → Begins (byte_language table) place text to tokens rest
sound table h place to tokens text rest e =
    let k = taken table text ((form_reader table).first place) to tokens rest e in
    let p = (pieces_are_spelled table h place k.text_read tokens to).0 k.of in
    record { piece = p.0; lawful = p.1; spelled = ap (λ (z : List ℕ). z ++ rest) p.2 ∙ k.is; leads = p.4; gives = p.3 }

opens : (s g : State) (b : ℕ) → step s b ≡ go g → g.begun ≡ true
opens s g b e = at (live_behind b s.live) (ended (live_behind b s.live)) e
  where
    same : (x y : State) → (let m : Move Place PageToken State = go x in m ≡ go y) → x ≡ y
    same x y e = cc

    at : (gs : List Form) (o : Option Form) → move_by gs o ≡ go g → g.begun ≡ true
    at gs (Some f) e = cc
    at [] None e = cc
    at (f ∷ gs) None e = let x : State = record { begun = true; live = f ∷ gs } in ap (λ (z : State). z.begun) (sym (same x g e))

pub forms_are_read : FormsAreRead
forms_are_read table h = record {
  closed = λ place. refl;
  opens = λ s g b e. opens s g b e;
  complete = λ place p rest l. complete table h place p rest l;
  sound = λ place to tokens text rest e. sound table h place to tokens text rest e;
}
