-- From the forms to whole texts: a reader that reads the pieces of a language puts out exactly the tokens of a text, and its
-- state tells what stands open.
use Rattle.std.proofs.Common.{◌≡◌, ◌↔◌, ℕ, zero, suc, ◌+◌, ◌<◌, Bool, true, List, [], ◌∷◌, ◌++◌, Some, refl, sym, ◌∙◌, ap, arith, length, length-append}
use Rattle.std.specs.Prelude.{if◌then◌else◌}
use Rattle.piece_steps.specs.Languages.{Language, AllLawful, behind_all, spelled_then, tokens_then, NoPiece, left_tokens, HasTokens}
use Rattle.piece_steps.specs.Readers.{Move, go, done, fail, Reader, Outcome, whole, failed, stuck, next, ends, last_tokens, all_tokens}
use Rattle.piece_steps.specs.Reads.{Reads}
use Rattle.piece_steps.proofs.Outcomes.{tokens_by, tokens_of_ends}

-- a piece has a symbol
pub some_symbol : {P Q T S : Type 0} (l : Language P Q T) (r : Reader P T S) → Reads l r → (place : P) (p : Q) → l.Lawful place p → l.spell p ≡ [] → ⊥
some_symbol {P} {Q} {T} {S} l r f place p h e = absurd (differ (r.first place) (sym (ap (λ (w : List ℕ). ends r (r.first place) (w ++ [])) e) ∙ f.complete place p [] h))
  where
    differ : (s : S) → (let z : Outcome P T S = stuck s in z ≡ whole (l.after place p) (l.tokens p) []) → ⊥
    differ s e = cc

-- what is left gives the tokens of the state
open_behind : {P Q T S : Type 0} (l : Language P Q T) (r : Reader P T S) → Reads l r → (text : List ℕ) (s g : S) → ends r s text ≡ stuck g → r.is_open s ≡ true → r.is_open g ≡ true
open_behind {P} {Q} {T} {S} l r f [] s g e h = ap r.is_open (same s g e) ∙ h
  where
    same : (s g : S) → (let z : Outcome P T S = stuck s in z ≡ stuck g) → g ≡ s
    same s g e = cc
open_behind {P} {Q} {T} {S} l r f (b ∷ bs) s g e h = at (r.step s b) refl e (λ z q i. open_behind l r f bs z g q i)
  where
    at : (m : Move P T S) → r.step s b ≡ m → next m (λ z. ends r z bs) bs ≡ stuck g → ((z : S) → ends r z bs ≡ stuck g → r.is_open z ≡ true → r.is_open g ≡ true) → r.is_open g ≡ true
    at (go z) q e ih = ih z e (f.opens s z b q)
    at (done place tokens) q e ih = cc
    at fail q e ih = cc

left_are : {P Q T S : Type 0} (l : Language P Q T) (r : Reader P T S) → Reads l r → (place : P) (text : List ℕ) (g : S) → ends r (r.first place) text ≡ stuck g → left_tokens r.bad text ≡ last_tokens r g
left_are {P} {Q} {T} {S} l r f place [] g e = ap (λ (b : Bool). if b then r.bad ∷ [] else []) (sym (ap r.is_open (same (r.first place) g e) ∙ f.closed place))
  where
    same : (s g : S) → (let z : Outcome P T S = stuck s in z ≡ stuck g) → g ≡ s
    same s g e = cc
left_are {P} {Q} {T} {S} l r f place (b ∷ bs) g e = at (r.step (r.first place) b) refl e
  where
    at : (m : Move P T S) → r.step (r.first place) b ≡ m → next m (λ z. ends r z bs) bs ≡ stuck g → left_tokens r.bad (b ∷ bs) ≡ last_tokens r g
    at (go z) q e = ap (λ (b : Bool). if b then r.bad ∷ [] else []) (sym (open_behind l r f bs z g e (f.opens (r.first place) z b q)))
    at (done place tokens) q e = cc
    at fail q e = cc

-- where no piece begins
none_left : {P Q T S : Type 0} (l : Language P Q T) (r : Reader P T S) → Reads l r → (place : P) (text : List ℕ) → NoPiece l place text → left_tokens r.bad text ≡ all_tokens r (Some (r.first place)) text
none_left {P} {Q} {T} {S} l r f place text none = at text (ends r (r.first place) text) refl none ∙ sym (tokens_of_ends r text (r.first place))
  where
    at : (text : List ℕ) (o : Outcome P T S) → ends r (r.first place) text ≡ o → NoPiece l place text → left_tokens r.bad text ≡ tokens_by r o
    at text (whole behind tokens rest) e none = let b = f.sound place behind tokens text rest e in absurd (none b.piece rest b.lawful b.spelled)
    at [] failed e none = cc
    at (b ∷ bs) failed e none = refl
    at text (stuck g) e none = left_are l r f place text g e

pub tokens_once : {P Q T S : Type 0} (l : Language P Q T) (r : Reader P T S) → Reads l r → (ps : List Q) (place : P) (rest : List ℕ) → AllLawful l place ps → NoPiece l (behind_all l place ps) rest
    → tokens_then l ps (left_tokens r.bad rest) ≡ all_tokens r (Some (r.first place)) (spelled_then l ps rest)
tokens_once l r f [] place rest h none = none_left l r f place rest none
tokens_once l r f (p ∷ ps) place rest h none =
    ap (λ ts. l.tokens p ++ ts) (tokens_once l r f ps (l.after place p) rest h.1 none)
    ∙ sym (ap (tokens_by r) (f.complete place p (spelled_then l ps rest) h.0))
    ∙ sym (tokens_of_ends r (l.spell p ++ spelled_then l ps rest) (r.first place))

-- pieces up to where none begins
pub record Cut {P Q T : Type 0} (l : Language P Q T) (place : P) (text : List ℕ) : Type 0 where
  pub pieces : List Q
  pub rest : List ℕ
  pub lawful : AllLawful l place pieces
  pub spelled : spelled_then l pieces rest ≡ text
  pub none : NoPiece l (behind_all l place pieces) rest

shorter : {P Q T S : Type 0} (l : Language P Q T) (r : Reader P T S) → Reads l r → (place : P) (p : Q) (rest text : List ℕ) → l.Lawful place p → l.spell p ++ rest ≡ text → length rest < length text
shorter l r f place p rest text h e = at (l.spell p) (some_symbol l r f place p h) e
  where
    at : (w : List ℕ) → (w ≡ [] → ⊥) → w ++ rest ≡ text → length rest < length text
    at [] some e = absurd (some refl)
    at (c ∷ cs) some e =
        let n : length text ≡ length (c ∷ cs) + length rest = ap length (sym e) ∙ length-append (c ∷ cs) rest in
        omega arith

none_where : {P Q T S : Type 0} (l : Language P Q T) (r : Reader P T S) → Reads l r → (place : P) (text : List ℕ) → ((behind : P) (tokens : List T) (rest : List ℕ) → ends r (r.first place) text ≡ whole behind tokens rest → ⊥) → NoPiece l place text
none_where l r f place text other p rest h e = other (l.after place p) (l.tokens p) rest (ap (ends r (r.first place)) (sym e) ∙ f.complete place p rest h)

pub cut_up : {P Q T S : Type 0} (l : Language P Q T) (r : Reader P T S) → Reads l r → (n : ℕ) (place : P) (text : List ℕ) → length text < n → Cut l place text
cut_up l r f zero place text less = absurd (omega arith)
cut_up {P} {Q} {T} {S} l r f (suc n) place text less = at (ends r (r.first place) text) refl (λ behind rest m. cut_up l r f n behind rest m)
  where
    here : NoPiece l place text → Cut l place text
    here none = record { pieces = []; rest = text; lawful = tt; spelled = refl; none = none }

    at : (o : Outcome P T S) → ends r (r.first place) text ≡ o → ((behind : P) (rest : List ℕ) → length rest < n → Cut l behind rest) → Cut l place text
    at (whole behind tokens rest) e ih =
        let b = f.sound place behind tokens text rest e in
        let m = shorter l r f place b.piece rest text b.lawful b.spelled in
        let c = ih (l.after place b.piece) rest (omega arith) in
        record { pieces = b.piece ∷ c.pieces; rest = c.rest; lawful = (b.lawful, c.lawful); spelled = ap (λ w. l.spell b.piece ++ w) c.spelled ∙ b.spelled; none = c.none }
    at failed e ih = here (none_where l r f place text (λ behind tokens rest q. let z : whole behind tokens rest ≡ failed = sym q ∙ e in cc))
    at (stuck g) e ih = here (none_where l r f place text (λ behind tokens rest q. let z : whole behind tokens rest ≡ stuck g = sym q ∙ e in cc))

-- a text has exactly the tokens that the reader puts out
pub tokens_are_read : {P Q T S : Type 0} (l : Language P Q T) (r : Reader P T S) → Reads l r → (place : P) (text : List ℕ) (tokens : List T) → HasTokens l r.bad place text tokens ↔ (tokens ≡ all_tokens r (Some (r.first place)) text)
tokens_are_read l r f place text tokens = (
  λ t. sym t.are ∙ tokens_once l r f t.pieces place t.rest t.lawful t.none ∙ ap (all_tokens r (Some (r.first place))) t.spelled,
  λ e.
      let c = cut_up l r f (suc (length text)) place text (omega arith) in
      record { pieces = c.pieces; rest = c.rest; lawful = c.lawful; spelled = c.spelled; none = c.none; are = tokens_once l r f c.pieces place c.rest c.lawful c.none ∙ ap (all_tokens r (Some (r.first place))) c.spelled ∙ sym e },
)
