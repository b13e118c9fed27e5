-- The reader by ways reads the pieces of a language.
use Rattle.std.proofs.Common.{◌≡◌, ◌⊎◌, inl, inr, ℕ, Bool, true, false, List, [], ◌∷◌, ◌++◌, Option, Some, None, refl, sym, ◌∙◌, ap, subst}
use Rattle.std.specs.Prelude.{if◌then◌else◌}
use Rattle.text_base.specs.declared.page_token.PageToken.{PageToken}
use Rattle.byte_readers.specs.Reading.{emitted}
use Rattle.derivatives.specs.declared.arena.Arena.{Arena}
use Rattle.piece_steps.specs.Languages.{Language}
use Rattle.piece_steps.specs.Readers.{Move, go, Outcome, whole, next, ends}
use Rattle.piece_steps.specs.Reads.{Begins, Reads}
use Rattle.page_model.specs.Places.{Place}
use Rattle.partial_derivatives.specs.declared.part.Part.{Part}
use Rattle.way_reader.specs.declared.way.Way.{Way}
use Rattle.partial_derivatives.specs.Parts.{all_end, behind_parts}
use Rattle.way_reader.specs.Ways.{Open, at_place, in_piece, place_of, ways_by, ways_behind, ended, live, move_by, way_step, is_inside, way_reader}
use Rattle.partial_derivatives.specs.Laws.{OneMatches}
use Rattle.way_reader.specs.Laws.{IsOfSome, HavePieces}
use Rattle.partial_derivatives.proofs.InTurn.{turn_shown, turn_made, ends_shown, ends_made}

-- Live ways.

by_shown : (a : Arena) (way : Way) (rows : List (List Part)) (v : List ℕ) (t : List PageToken) (p : Place) → IsOfSome a (ways_by way rows) v t p
    → OneMatches a rows v × (emitted way.emit ≡ t) × (place_of way.to ≡ p)
by_shown a way [] v t p k = absurd k
by_shown a way (ps ∷ rows) v t p (inl m) = (inl m.0, m.1, m.2)
by_shown a way (ps ∷ rows) v t p (inr k) = let m = by_shown a way rows v t p k in (inr m.0, m.1, m.2)

by_made : (a : Arena) (way : Way) (rows : List (List Part)) (v : List ℕ) (t : List PageToken) (p : Place) → OneMatches a rows v → emitted way.emit ≡ t → place_of way.to ≡ p
    → IsOfSome a (ways_by way rows) v t p
by_made a way [] v t p k e q = absurd k
by_made a way (ps ∷ rows) v t p (inl d) e q = inl (d, e, q)
by_made a way (ps ∷ rows) v t p (inr k) e q = inr (by_made a way rows v t p k e q)

some_left : (a : Arena) (xs ys : List Way) (v : List ℕ) (t : List PageToken) (p : Place) → IsOfSome a xs v t p → IsOfSome a (xs ++ ys) v t p
some_left a [] ys v t p k = absurd k
some_left a (x ∷ xs) ys v t p (inl m) = inl m
some_left a (x ∷ xs) ys v t p (inr k) = inr (some_left a xs ys v t p k)

some_right : (a : Arena) (xs ys : List Way) (v : List ℕ) (t : List PageToken) (p : Place) → IsOfSome a ys v t p → IsOfSome a (xs ++ ys) v t p
some_right a [] ys v t p k = k
some_right a (x ∷ xs) ys v t p k = inr (some_right a xs ys v t p k)

some_of : (a : Arena) (xs ys : List Way) (v : List ℕ) (t : List PageToken) (p : Place) → IsOfSome a (xs ++ ys) v t p → IsOfSome a xs v t p ⊎ IsOfSome a ys v t p
some_of a [] ys v t p k = inr k
some_of a (x ∷ xs) ys v t p (inl m) = inl (inl m)
some_of a (x ∷ xs) ys v t p (inr k) = later (some_of a xs ys v t p k)
  where
    later : IsOfSome a xs v t p ⊎ IsOfSome a ys v t p → IsOfSome a (x ∷ xs) v t p ⊎ IsOfSome a ys v t p
    later (inl m) = inl (inr m)
    later (inr m) = inr m

live_shown : (a : Arena) (b : ℕ) (ways : List Way) (v : List ℕ) (t : List PageToken) (p : Place) → IsOfSome a (ways_behind a b ways) v t p → IsOfSome a ways (b ∷ v) t p
live_shown a b [] v t p k = absurd k
live_shown a b (way ∷ ways) v t p k = at (λ r. live_shown a b ways v t p r) (some_of a (ways_by way (behind_parts a b way.parts)) (ways_behind a b ways) v t p k)
  where
    at : (IsOfSome a (ways_behind a b ways) v t p → IsOfSome a ways (b ∷ v) t p) → IsOfSome a (ways_by way (behind_parts a b way.parts)) v t p ⊎ IsOfSome a (ways_behind a b ways) v t p → IsOfSome a (way ∷ ways) (b ∷ v) t p
    at f (inl l) = let m = by_shown a way (behind_parts a b way.parts) v t p l in inl (turn_shown a b way.parts v m.0, m.1, m.2)
    at f (inr r) = inr (f r)

live_made : (a : Arena) (b : ℕ) (ways : List Way) (v : List ℕ) (t : List PageToken) (p : Place) → IsOfSome a ways (b ∷ v) t p → IsOfSome a (ways_behind a b ways) v t p
live_made a b [] v t p k = absurd k
live_made a b (way ∷ ways) v t p (inl m) =
    some_left a (ways_by way (behind_parts a b way.parts)) (ways_behind a b ways) v t p (by_made a way (behind_parts a b way.parts) v t p (turn_made a b way.parts v m.0) m.1 m.2)
live_made a b (way ∷ ways) v t p (inr k) = some_right a (ways_by way (behind_parts a b way.parts)) (ways_behind a b ways) v t p (live_made a b ways v t p k)

-- Ends.

some_is : (f g : Way) → (let o : Option Way = Some f in o ≡ Some g) → f ≡ g
some_is f g e = cc

ended_is : (a : Arena) (ways : List Way) (f : Way) → ended a ways ≡ Some f → IsOfSome a ways [] (emitted f.emit) (place_of f.to)
ended_is a [] f e = cc
ended_is a (g ∷ ways) f e = at (all_end a g.parts) refl e (λ h. ended_is a ways f h)
  where
    at : (b : Bool) → all_end a g.parts ≡ b → (if b then Some g else ended a ways) ≡ Some f → (ended a ways ≡ Some f → IsOfSome a ways [] (emitted f.emit) (place_of f.to))
        → IsOfSome a (g ∷ ways) [] (emitted f.emit) (place_of f.to)
    at true q e h = let s = some_is g f e in inl (ends_shown a g.parts q, ap (λ (x : Way). emitted x.emit) s, ap (λ (x : Way). place_of x.to) s)
    at false q e h = inr (h e)

both : (b : Bool) → b ≡ true → b ≡ false → ⊥
both b t f = cc

ended_not : (a : Arena) (ways : List Way) (t : List PageToken) (p : Place) → ended a ways ≡ None → IsOfSome a ways [] t p → ⊥
ended_not a [] t p e k = k
ended_not a (g ∷ ways) t p e k = at (all_end a g.parts) refl e k (λ h m. ended_not a ways t p h m)
  where
    at : (b : Bool) → all_end a g.parts ≡ b → (if b then Some g else ended a ways) ≡ None → IsOfSome a (g ∷ ways) [] t p → (ended a ways ≡ None → IsOfSome a ways [] t p → ⊥) → ⊥
    at true q e k h = cc
    at false q e (inl m) h = both (all_end a g.parts) (ends_made a g.parts m.0) q
    at false q e (inr m) h = h e m

-- No text of live ways goes on as another one, and one text has one outcome.

record Agrees (v : List ℕ) (t s : List PageToken) (p q : Place) : Type 0 where
  ends_there : v ≡ []
  tokens : t ≡ s
  place : p ≡ q

abbrev Alone : Arena → List Way → Type 0
Alone a ways = (u v : List ℕ) (t s : List PageToken) (p q : Place) → IsOfSome a ways u t p → IsOfSome a ways (u ++ v) s q → Agrees v t s p q

alone_behind : (a : Arena) (b : ℕ) (ways : List Way) → Alone a ways → Alone a (ways_behind a b ways)
alone_behind a b ways alone u v t s p q k m = alone (b ∷ u) v t s p q (live_shown a b ways u t p k) (live_shown a b ways (u ++ v) s q m)

alone_first : {Q : Type 0} (l : Language Place Q PageToken) (a : Arena) (starts : Place → List Way) → HavePieces l a starts → (place : Place) → Alone a (starts place)
alone_first l a starts f place u v t s p q k m =
    let x = (f.texts place u t p).0 k in
    let y = (f.texts place (u ++ v) s q).0 m in
    let o = f.alone place x.0 y.0 v x.1 y.1 (ap (λ (z : List ℕ). z ++ v) x.2 ∙ sym y.2) in
    record {
      ends_there = o.0;
      tokens = sym x.3 ∙ o.1 ∙ y.3;
      place = sym x.4 ∙ o.2 ∙ y.4;
    }

-- Each piece is read to its end.

abbrev Ends : Arena → (Place → List Way) → Open → List ℕ → Outcome Place PageToken Open
Ends a starts s text = ends (way_reader a starts) s text

whole_same : (p q : Place) (t s : List PageToken) (rest : List ℕ) → p ≡ q → t ≡ s → (let o : Outcome Place PageToken Open = whole p t rest in o ≡ whole q s rest)
whole_same p q t s rest e g = ap (λ (z : Place). let o : Outcome Place PageToken Open = whole z t rest in o) e ∙ ap (λ (z : List PageToken). let o : Outcome Place PageToken Open = whole q z rest in o) g

nonempty : (c : ℕ) (w : List ℕ) → c ∷ w ≡ [] → ⊥
nonempty c w e = cc

read_on : (a : Arena) (starts : Place → List Way) (w : List ℕ) (b : ℕ) (o : Open) (t : List PageToken) (p : Place) (rest : List ℕ) → Alone a (live starts o) → IsOfSome a (live starts o) (b ∷ w) t p
    → Ends a starts o (b ∷ (w ++ rest)) ≡ whole p t rest
read_on a starts [] b o t p rest alone k =
    at (ways_behind a b (live starts o)) (ended a (ways_behind a b (live starts o))) refl (alone_behind a b (live starts o) alone) (live_made a b (live starts o) [] t p k)
  where
    at : (gs : List Way) (x : Option Way) → ended a gs ≡ x → Alone a gs → IsOfSome a gs [] t p → next (move_by gs x) (λ g. Ends a starts g rest) rest ≡ whole p t rest
    at gs (Some f) e l m = let s = l [] [] (emitted f.emit) t (place_of f.to) p (ended_is a gs f e) m in whole_same (place_of f.to) p (emitted f.emit) t rest s.place s.tokens
    at gs None e l m = absurd (ended_not a gs t p e m)
read_on a starts (c ∷ w) b o t p rest alone k =
    at (ways_behind a b (live starts o)) (ended a (ways_behind a b (live starts o))) refl (alone_behind a b (live starts o) alone) (live_made a b (live starts o) (c ∷ w) t p k)
    (λ gs l m. read_on a starts w c (in_piece gs) t p rest l m)
  where
    at : (gs : List Way) (x : Option Way) → ended a gs ≡ x → Alone a gs → IsOfSome a gs (c ∷ w) t p
        → ((hs : List Way) → Alone a hs → IsOfSome a hs (c ∷ w) t p → Ends a starts (in_piece hs) (c ∷ (w ++ rest)) ≡ whole p t rest)
        → next (move_by gs x) (λ g. Ends a starts g (c ∷ (w ++ rest))) (c ∷ (w ++ rest)) ≡ whole p t rest
    at gs (Some f) e l m ih = absurd (nonempty c w (l [] (c ∷ w) (emitted f.emit) t (place_of f.to) p (ended_is a gs f e) m).ends_there)
    at [] None e l m ih = absurd m
    at (g ∷ gs) None e l m ih = ih (g ∷ gs) l m

complete : {Q : Type 0} (l : Language Place Q PageToken) (a : Arena) (starts : Place → List Way) → HavePieces l a starts → (place : Place) (q : Q) (rest : List ℕ) → l.Lawful place q
    → Ends a starts (at_place place) (l.spell q ++ rest) ≡ whole (l.after place q) (l.tokens q) rest
complete l a starts f place q rest h = at (l.spell q) refl
  where
    at : (w : List ℕ) → l.spell q ≡ w → Ends a starts (at_place place) (w ++ rest) ≡ whole (l.after place q) (l.tokens q) rest
    at [] e = absurd (f.filled place q h e)
    at (b ∷ w) e = read_on a starts w b (at_place place) (l.tokens q) (l.after place q) rest (alone_first l a starts f place) ((f.texts place (b ∷ w) (l.tokens q) (l.after place q)).1 (q, h, e, refl, refl))

-- What is read to an end is a piece.

record Taken (a : Arena) (ways : List Way) (text : List ℕ) (to : Place) (tokens : List PageToken) (rest : List ℕ) : Type 0 where
  text_read : List ℕ
  is : text_read ++ rest ≡ text
  of : IsOfSome a ways text_read tokens to

record Wholes (p q : Place) (t s : List PageToken) (xs ys : List ℕ) : Type 0 where
  place : p ≡ q
  tokens : t ≡ s
  left : xs ≡ ys

wholes : (p q : Place) (t s : List PageToken) (xs ys : List ℕ) → (let o : Outcome Place PageToken Open = whole p t xs in o ≡ whole q s ys) → Wholes p q t s xs ys
wholes p q t s xs ys e = record { place = cc; tokens = cc; left = cc }

taken : (a : Arena) (starts : Place → List Way) (text : List ℕ) (o : Open) (to : Place) (tokens : List PageToken) (rest : List ℕ) → Ends a starts o text ≡ whole to tokens rest
    → Taken a (live starts o) text to tokens rest
taken a starts [] o to tokens rest e = cc
taken a starts (b ∷ bs) o to tokens rest e =
    at (ways_behind a b (live starts o)) (λ u t p k. live_shown a b (live starts o) u t p k) (ended a (ways_behind a b (live starts o))) refl e (λ gs h. taken a starts bs (in_piece gs) to tokens rest h)
  where
    at : (gs : List Way) → ((u : List ℕ) (t : List PageToken) (p : Place) → IsOfSome a gs u t p → IsOfSome a (live starts o) (b ∷ u) t p) → (x : Option Way) → ended a gs ≡ x
        → next (move_by gs x) (λ g. Ends a starts g bs) bs ≡ whole to tokens rest
        → ((hs : List Way) → Ends a starts (in_piece hs) bs ≡ whole to tokens rest → Taken a hs bs to tokens rest) → Taken a (live starts o) (b ∷ bs) to tokens rest
    at gs f (Some x) q e ih =
        let w = wholes (place_of x.to) to (emitted x.emit) tokens bs rest e in
        record {
          text_read = b ∷ [];
          is = ap (λ (z : List ℕ). b ∷ z) (sym w.left);
          of = subst (λ (z : Place). IsOfSome a (live starts o) (b ∷ []) tokens z) w.place
              (subst (λ (z : List PageToken). IsOfSome a (live starts o) (b ∷ []) z (place_of x.to)) w.tokens (f [] (emitted x.emit) (place_of x.to) (ended_is a gs x q)));
        }
    at [] f None q e ih = cc
    at (g ∷ gs) f None q e ih =
        let k = ih (g ∷ gs) e in
        record { text_read = b ∷ k.text_read; is = ap (λ (z : List ℕ). b ∷ z) k.is; of = f k.text_read tokens to k.of }

sound : {Q : Type 0} (l : Language Place Q PageToken) (a : Arena) (starts : Place → List Way) → HavePieces l a starts → (place to : Place) (tokens : List PageToken) (text rest : List ℕ)
    → Ends a starts (at_place place) text ≡ whole to tokens rest → Begins l place text to tokens rest
sound l a starts f place to tokens text rest e =
    let k = taken a starts text (at_place place) to tokens rest e in
    let p = (f.texts place k.text_read tokens to).0 k.of in
    record { piece = p.0; lawful = p.1; spelled = ap (λ (z : List ℕ). z ++ rest) p.2 ∙ k.is; leads = p.4; gives = p.3 }

opens : (a : Arena) (starts : Place → List Way) (s g : Open) (b : ℕ) → way_step a starts s b ≡ go g → is_inside g ≡ true
opens a starts s g b e = at (ways_behind a b (live starts s)) (ended a (ways_behind a b (live starts s))) e
  where
    same : (x y : Open) → (let m : Move Place PageToken Open = go x in m ≡ go y) → x ≡ y
    same x y e = cc

    at : (gs : List Way) (o : Option Way) → move_by gs o ≡ go g → is_inside g ≡ true
    at gs (Some f) e = cc
    at [] None e = cc
    at (f ∷ gs) None e = let x : Open = in_piece (f ∷ gs) in ap is_inside (sym (same x g e))

pub pieces_are_read : {Q : Type 0} (l : Language Place Q PageToken) (a : Arena) (starts : Place → List Way) → HavePieces l a starts → Reads l (way_reader a starts)
pieces_are_read l a starts f = record {
  closed = λ place. refl;
  opens = λ s g b e. opens a starts s g b e;
  complete = λ place p rest h. complete l a starts f place p rest h;
  sound = λ place to tokens text rest e. sound l a starts f place to tokens text rest e;
}
