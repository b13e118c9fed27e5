-- A reader inside one kind of open piece, by the small machine that it follows there.
use Rattle.std.proofs.Common.{◌≡◌, ℕ, Bool, true, false, not, List, [], ◌∷◌, ◌++◌, Option, Some, None, refl, sym, ◌∙◌, ap}
use Rattle.std.specs.Prelude.{if◌then◌else◌, nat_eq}
use Rattle.std.specs.List.{list_all}
use Rattle.std.proofs.lemmas.Bool.{and_parts, and_from, eqb-true, eq-eqb}
use Rattle.piece_steps.specs.Readers.{Move, Reader, Outcome, whole, next, ends}
use Rattle.piece_steps.specs.Insides.{Turn, on, out, stop, turned, past, inside, IsInside, accepted, accepts, stepped, closing}

-- what the machine leaves is where the reader goes on
pub through : {P T S B : Type 0} (r : Reader P T S) (wrap : B → S) (turn : B → ℕ → Turn B) (exit : Move P T S) → IsInside r wrap turn exit
    → (text : List ℕ) (b : B) (left : List ℕ) → past turn b text ≡ Some left → ends r (wrap b) text ≡ next exit (λ g. ends r g left) left
through r wrap turn exit is [] b left e = cc
through {P} {T} {S} {B} r wrap turn exit is (c ∷ cs) b left e =
    ap (λ (m : Move P T S). next m (λ g. ends r g cs) cs) (is b c) ∙ at (turn b c) e (λ g q. through r wrap turn exit is cs g left q)
  where
    same : (x y : List ℕ) → (let z : Option (List ℕ) = Some x in z ≡ Some y) → x ≡ y
    same x y e = cc

    at : (t : Turn B) → turned t (λ g. past turn g cs) cs ≡ Some left → ((g : B) → past turn g cs ≡ Some left → ends r (wrap g) cs ≡ next exit (λ g. ends r g left) left)
        → next (inside wrap exit t) (λ g. ends r g cs) cs ≡ next exit (λ g. ends r g left) left
    at (on g) e ih = ih g e
    at out e ih = ap (λ (w : List ℕ). next exit (λ g. ends r g w) w) (same cs left e)
    at stop e ih = cc

-- a piece that ends there left the machine before
pub record Left {P T S B : Type 0} (r : Reader P T S) (turn : B → ℕ → Turn B) (exit : Move P T S) (b : B) (text : List ℕ) (o : Outcome P T S) : Type 0 where
  pub left : List ℕ
  pub is_past : past turn b text ≡ Some left
  pub then_ends : next exit (λ g. ends r g left) left ≡ o

pub within : {P T S B : Type 0} (r : Reader P T S) (wrap : B → S) (turn : B → ℕ → Turn B) (exit : Move P T S) → IsInside r wrap turn exit
    → (text : List ℕ) (b : B) (behind : P) (tokens : List T) (rest : List ℕ) → ends r (wrap b) text ≡ whole behind tokens rest → Left r turn exit b text (whole behind tokens rest)
within r wrap turn exit is [] b behind tokens rest e = cc
within {P} {T} {S} {B} r wrap turn exit is (c ∷ cs) b behind tokens rest e =
    at (turn b c) refl (ap (λ (m : Move P T S). next m (λ g. ends r g cs) cs) (sym (is b c)) ∙ e) (λ g q. within r wrap turn exit is cs g behind tokens rest q)
  where
    by : (t : Turn B) → turn b c ≡ t → (left : List ℕ) → turned t (λ g. past turn g cs) cs ≡ Some left → past turn b (c ∷ cs) ≡ Some left
    by t q left e = ap (λ (t : Turn B). turned t (λ g. past turn g cs) cs) q ∙ e

    at : (t : Turn B) → turn b c ≡ t → next (inside wrap exit t) (λ g. ends r g cs) cs ≡ whole behind tokens rest
        → ((g : B) → ends r (wrap g) cs ≡ whole behind tokens rest → Left r turn exit g cs (whole behind tokens rest)) → Left r turn exit b (c ∷ cs) (whole behind tokens rest)
    at (on g) q e ih = let l = ih g e in record { left = l.left; is_past = by (on g) q l.left l.is_past; then_ends = l.then_ends }
    at out q e ih = record { left = cs; is_past = by out q cs refl; then_ends = e }
    at stop q e ih = cc

-- Up to a closing symbol.

abbrev pub is_none : ℕ → ℕ → Bool
is_none closer c = not (nat_eq c closer)

closed_by : {A : Type 0} (x : Bool) (a b : A) → not x ≡ true → (if x then a else b) ≡ b
closed_by true a b h = cc
closed_by false a b h = refl

pub past_closer : {B : Type 0} (step : B → ℕ → Option B) (good : B → Bool) (closer : ℕ) (text : List ℕ) (b : B) (rest : List ℕ) → list_all (is_none closer) text ≡ true → accepts step good b text ≡ true
    → past (closing step good closer) b (text ++ closer ∷ rest) ≡ Some rest
past_closer {B} step good closer [] b rest h e =
    ap (λ (x : Bool). turned (if x then (if good b then out else stop) else stepped (step b closer)) (λ g. past (closing step good closer) g rest) rest) (eq-eqb closer closer refl)
    ∙ ap (λ (x : Bool). turned (if x then out else stop) (λ g. past (closing step good closer) g rest) rest) e
past_closer {B} step good closer (c ∷ cs) b rest h e =
    let p = and_parts (is_none closer c) (list_all (is_none closer) cs) h in
    ap (λ (t : Turn B). turned t (λ g. past (closing step good closer) g (cs ++ closer ∷ rest)) (cs ++ closer ∷ rest)) (closed_by (nat_eq c closer) (if good b then out else stop) (stepped (step b c)) p.0)
    ∙ at (step b c) e (λ g q. past_closer step good closer cs g rest p.1 q)
  where
    at : (o : Option B) → accepted o (λ g. accepts step good g cs) ≡ true → ((g : B) → accepts step good g cs ≡ true → past (closing step good closer) g (cs ++ closer ∷ rest) ≡ Some rest)
        → turned (stepped o) (λ g. past (closing step good closer) g (cs ++ closer ∷ rest)) (cs ++ closer ∷ rest) ≡ Some rest
    at None e ih = cc
    at (Some g) e ih = ih g e

pub record Closed {B : Type 0} (step : B → ℕ → Option B) (good : B → Bool) (closer : ℕ) (b : B) (all rest : List ℕ) : Type 0 where
  pub text : List ℕ
  pub is : all ≡ text ++ closer ∷ rest
  pub none : list_all (is_none closer) text ≡ true
  pub accepted_by : accepts step good b text ≡ true

pub closer_past : {B : Type 0} (step : B → ℕ → Option B) (good : B → Bool) (closer : ℕ) (all : List ℕ) (b : B) (rest : List ℕ) → past (closing step good closer) b all ≡ Some rest → Closed step good closer b all rest
closer_past step good closer [] b rest e = cc
closer_past {B} step good closer (c ∷ cs) b rest e = at (nat_eq c closer) refl e (λ g q. closer_past step good closer cs g rest q)
  where
    same : (x y : List ℕ) → (let z : Option (List ℕ) = Some x in z ≡ Some y) → x ≡ y
    same x y e = cc

    good_is : (x : Bool) → good b ≡ x → turned (if x then out else stop) (λ g. past (closing step good closer) g cs) cs ≡ Some rest → c ≡ closer → Closed step good closer b (c ∷ cs) rest
    good_is true q e i = record { text = []; is = ap (λ (y : ℕ). y ∷ cs) i ∙ ap (λ (w : List ℕ). closer ∷ w) (same cs rest e); none = refl; accepted_by = q }
    good_is false q e i = cc

    step_is : (o : Option B) → step b c ≡ o → turned (stepped o) (λ g. past (closing step good closer) g cs) cs ≡ Some rest → nat_eq c closer ≡ false
        → ((g : B) → past (closing step good closer) g cs ≡ Some rest → Closed step good closer g cs rest) → Closed step good closer b (c ∷ cs) rest
    step_is None q e i ih = cc
    step_is (Some g) q e i ih =
        let l = ih g e in
        record {
          text = c ∷ l.text;
          is = ap (λ (w : List ℕ). c ∷ w) l.is;
          none = and_from (is_none closer c) (list_all (is_none closer) l.text) (ap not i) l.none;
          accepted_by = ap (λ (o : Option B). accepted o (λ g. accepts step good g l.text)) q ∙ l.accepted_by;
        }

    at : (x : Bool) → nat_eq c closer ≡ x → turned (if x then (if good b then out else stop) else stepped (step b c)) (λ g. past (closing step good closer) g cs) cs ≡ Some rest
        → ((g : B) → past (closing step good closer) g cs ≡ Some rest → Closed step good closer g cs rest) → Closed step good closer b (c ∷ cs) rest
    at true i e ih = good_is (good b) refl e (eqb-true c closer i)
    at false i e ih = step_is (step b c) refl e i ih
