-- What is held stays, and parts are put before it.
use Rattle.std.proofs.Common.{◌≡◌, ◌∙◌, ◌<◌, ℕ, zero, suc, Bool, true, false, List, [], ◌∷◌, Option, Some, None, Result, Ok, Err, IfOk, OnOk, refl, sym, ap, subst, length, drop}
use Rattle.std.specs.Prelude.{⊤, slice_get}
use Rattle.derivatives.specs.Standing.{IsExpr, IsMade, Grows, expr_at}
use Rattle.derivatives.specs.Derivatives.{chain_of, either_of}
use Rattle.derivatives.specs.declared.arena.Arena.{Arena}
use Rattle.page_policy.specs.Patterns.{Pattern, seq, alt}
use Rattle.page_policy.specs.Forms.{IsForm}
use Rattle.page_policy.specs.Machine.{PlainPart, Outer, State, wrong, at, put, state_of, joined}
use Rattle.page_policy.specs.Views.{IsPart, AreParts, IsFormIf, IsOuter, AreOuter, Holds}
use Rattle.page_policy.specs.declared.part.Part.{Part}
use Rattle.page_policy.specs.declared.frame.Frame.{Frame}
use Rattle.page_policy.proofs.PartLemmas.{none_read}
use Rattle.page_policy.proofs.FormLemmas.{made_on, seq_form, alt_form}

pub form_if_on : (a b : Arena) (n : Option ℕ) (p : Option Pattern) → Grows a b → IsFormIf a n p → IsFormIf b n p
form_if_on a b None None g h = tt
form_if_on a b (Some n) (Some p) g h = made_on a b n p g h
form_if_on a b None (Some p) g h = absurd h
form_if_on a b (Some n) None g h = absurd h

outer_on : (a b : Arena) (f : Frame) (o : Outer) → Grows a b → IsOuter a f o → IsOuter b f o
outer_on a b f o g h = record { row = made_on a b f.row o.0 g h.row; others = form_if_on a b f.others o.1 g h.others; repeat = h.repeat }

pub outers_on : (a b : Arena) (fs : List Frame) (os : List Outer) → Grows a b → AreOuter a fs os → AreOuter b fs os
outers_on a b [] [] g h = tt
outers_on a b (f ∷ fs) (o ∷ os) g h = (outer_on a b f o g h.0, outers_on a b fs os g h.1)
outers_on a b [] (o ∷ os) g h = absurd h
outers_on a b (f ∷ fs) [] g h = absurd h

pub wrong_stays : (xs : List PlainPart) (x : PlainPart) → state_of xs ≡ wrong → state_of (x ∷ xs) ≡ wrong
wrong_stays xs x e = ap (put x) e

-- what is held stays held while the arena grows
pub holds_on : (a b : Arena) (row : ℕ) (others : Option ℕ) (fs : List Frame) (s : State) → Grows a b → Holds a row others fs s → Holds b row others fs s
holds_on a b row others fs wrong g h = h
holds_on a b row others fs (at p o os) g h = (made_on a b row p g h.0, form_if_on a b others o g h.1, outers_on a b fs os g h.2)

-- the row with something before it
pub row_longer : (a b c : Arena) (x row r : ℕ) (others : Option ℕ) (fs : List Frame) (p q : Pattern) (o : Option Pattern) (os : List Outer) → Grows a b → Grows b c
    → IsForm b x p → Holds a row others fs (at q o os) → IsMade c r (chain_of (expr_at b x) (expr_at b row)) → Holds c r others fs (at (seq p q) o os)
row_longer a b c x row r others fs p q o os g k m h made = (
  seq_form b c x row r p q m (made_on a b row q g h.0) made,
  form_if_on b c others o k (form_if_on a b others o g h.1),
  outers_on b c fs os k (outers_on a b fs os g h.2),
)

-- the part at a place, and those behind it
pub record There (xs : List PlainPart) (p : Part) (k : ℕ) : Type 0 where
  pub plain : PlainPart
  pub is : IsPart p plain
  pub behind : drop k xs ≡ plain ∷ drop (suc k) xs

pub there : (ps : List Part) (xs : List PlainPart) (k : ℕ) (p : Part) → AreParts ps xs → slice_get ps k ≡ Some p → There xs p k
there [] xs zero p h e = absurd (none_read e)
there [] xs (suc k) p h e = absurd (none_read e)
there (q ∷ ps) [] k p h e = absurd h
there (q ∷ ps) (x ∷ xs) zero p h e = record { plain = x; is = subst (λ (z : Part). IsPart z x) (ap (or_this q) e) h.0; behind = refl }
  where
    or_this : Part → Option Part → Part
    or_this r None = r
    or_this r (Some s) = s
there (q ∷ ps) (x ∷ xs) (suc k) p h e = let t = there ps xs k p h.1 e in record { plain = t.plain; is = t.is; behind = t.behind }

pub none_left : (ps : List Part) (xs : List PlainPart) → AreParts ps xs → drop (length ps) xs ≡ []
none_left [] [] h = refl
none_left [] (x ∷ xs) h = absurd h
none_left (p ∷ ps) [] h = absurd h
none_left (p ∷ ps) (x ∷ xs) h = none_left ps xs h.1

-- what could not be read stays so
pub wrong_behind : (k : ℕ) (xs : List PlainPart) → state_of (drop k xs) ≡ wrong → state_of xs ≡ wrong
wrong_behind zero xs e = e
wrong_behind (suc k) [] e = e
wrong_behind (suc k) (x ∷ xs) e = wrong_stays xs x (wrong_behind k xs e)
