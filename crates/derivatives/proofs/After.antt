-- What a derivative matches.
use Rattle.std.proofs.Common.{◌≡◌, ℕ, Bool, true, false, List, [], ◌∷◌}
use Rattle.std.specs.Prelude.{⊤}
use Rattle.derivatives.specs.Expressions.{Expr, nothing, empty, range, chain, either, star, among, Members, none, member, lies, Joins, at_once, on, Takes, here, later, Matches, is_empty, is_byte, is_chain, is_left, is_right, is_over, is_more, is_done, is_taken}
use Rattle.derivatives.specs.Derivatives.{may_end, chain_of, among_of, when, onto, after, after_members}
use Rattle.derivatives.proofs.Ends.{empty_matched, ends_empty}
use Rattle.derivatives.proofs.NormalForms.{chain_shown, chain_made, either_shown, either_made, among_shown, among_made, when_shown}
use Rattle.derivatives.specs.Laws.{IsDerivative}

-- From the derivative to the expression.

byte_shown : (low high b : ℕ) {w : List ℕ} → Matches (when (lies low high b) empty) w → Matches (range low high) (b ∷ w)
byte_shown low high b d = let p = when_shown (lies low high b) d in one p.0 p.1
  where
    one : {w : List ℕ} → lies low high b ≡ true → Matches empty w → Matches (range low high) (b ∷ w)
    one h is_empty = is_byte h

-- what is proved of a part
abbrev Shown : ℕ → Expr → Type 0
Shown b e = (w : List ℕ) → Matches (after b e) w → Matches e (b ∷ w)

first_shown : (b : ℕ) (x y : Expr) {w : List ℕ} → Shown b x → Matches (chain (after b x) y) w → Matches (chain x y) (b ∷ w)
first_shown b x y s (is_chain {u = u} j d f) = is_chain (on j) (s u d) f

parts_shown : (b : ℕ) (x y : Expr) {w : List ℕ} → Shown b x → Shown b y → Matches (either (chain_of (after b x) y) (when (may_end x) (after b y))) w → Matches (chain x y) (b ∷ w)
parts_shown b x y s r (is_left d) = first_shown b x y s (chain_shown (after b x) y d)
parts_shown b x y {w = w} s r (is_right d) = let p = when_shown (may_end x) d in is_chain at_once (empty_matched x p.0) (r w p.1)

either_step : (b : ℕ) (x y : Expr) {w : List ℕ} → Shown b x → Shown b y → Matches (either (after b x) (after b y)) w → Matches (either x y) (b ∷ w)
either_step b x y {w = w} s r (is_left d) = is_left (s w d)
either_step b x y {w = w} s r (is_right d) = is_right (r w d)

star_shown : (b : ℕ) (x : Expr) {w : List ℕ} → Shown b x → Matches (chain (after b x) (star x)) w → Matches (star x) (b ∷ w)
star_shown b x s (is_chain {u = u} j d f) = is_more (on j) (s u d) f

onto_takes : (front : Members) {e : Expr} {q : Bool} {ms rest : Members} → Takes ms e q rest → Takes (onto front ms) e q (onto front rest)
onto_takes none t = t
onto_takes (member x p front) t = onto_takes front (later t)

member_shown : (b : ℕ) (e : Expr) (q : Bool) (front ms : Members) {w : List ℕ} → Shown b e → Matches (chain (after b e) (among_of (onto front ms))) w → Matches (among (onto front (member e q ms))) (b ∷ w)
member_shown b e q front ms s (is_chain {u = u} j d f) = is_taken (onto_takes front (here {e = e} {q = q} {ms = ms})) (on j) (s u d) (among_shown (onto front ms) f)

members_step : (b : ℕ) (e : Expr) (q : Bool) (front ms : Members) {w : List ℕ} → Shown b e
    → (Matches (after_members b (member e q front) ms) w → Matches (among (onto front (member e q ms))) (b ∷ w))
    → Matches (either (chain_of (after b e) (among_of (onto front ms))) (after_members b (member e q front) ms)) w → Matches (among (onto front (member e q ms))) (b ∷ w)
members_step b e q front ms s r (is_left d) = member_shown b e q front ms s (chain_shown (after b e) (among_of (onto front ms)) d)
members_step b e q front ms s r (is_right d) = r d

mutual
  pub shown : (b : ℕ) (e : Expr) (w : List ℕ) → Matches (after b e) w → Matches e (b ∷ w)
  shown b nothing w d = elim d [ ]
  shown b empty w d = elim d [ ]
  shown b (range low high) w d = byte_shown low high b d
  shown b (chain x y) w d = parts_shown b x y (shown b x) (shown b y) (either_shown (chain_of (after b x) y) (when (may_end x) (after b y)) d)
  shown b (either x y) w d = either_step b x y (shown b x) (shown b y) (either_shown (after b x) (after b y) d)
  shown b (star x) w d = star_shown b x (shown b x) (chain_shown (after b x) (star x) d)
  shown b (among ms) w d = members_shown b none ms w d

  members_shown : (b : ℕ) (front ms : Members) (w : List ℕ) → Matches (after_members b front ms) w → Matches (among (onto front ms)) (b ∷ w)
  members_shown b front none w d = elim d [ ]
  members_shown b front (member e q ms) w d =
      members_step b e q front ms (shown b e) (members_shown b (member e q front) ms w) (either_shown (chain_of (after b e) (among_of (onto front ms))) (after_members b (member e q front) ms) d)

-- From the expression to the derivative.

-- a member whose text is first, and what follows it
record First (b : ℕ) (front ms : Members) (w : List ℕ) : Type 0 where
  e : Expr
  q : Bool
  rest : Members
  taken : Takes ms e q rest
  is : Matches (chain (after b e) (among (onto front rest))) w

among_behind : (x : Expr) (ms : Members) {w : List ℕ} → Matches (chain x (among_of ms)) w → Matches (chain x (among ms)) w
among_behind x ms (is_chain j d f) = is_chain j d (among_shown ms f)

later_shown : (b : ℕ) (x : Expr) (p : Bool) (front ms : Members) {w : List ℕ} → First b (member x p front) ms w → First b front (member x p ms) w
later_shown b x p front ms f = record { e = f.e; q = f.q; rest = member x p f.rest; taken = later f.taken; is = f.is }

first_step : (b : ℕ) (x : Expr) (p : Bool) (front ms : Members) {w : List ℕ} → (Matches (after_members b (member x p front) ms) w → First b (member x p front) ms w)
    → Matches (either (chain_of (after b x) (among_of (onto front ms))) (after_members b (member x p front) ms)) w → First b front (member x p ms) w
first_step b x p front ms s (is_left d) = record { e = x; q = p; rest = ms; taken = here; is = among_behind (after b x) (onto front ms) (chain_shown (after b x) (among_of (onto front ms)) d) }
first_step b x p front ms s (is_right d) = later_shown b x p front ms (s d)

first_of_members : (b : ℕ) (front ms : Members) {w : List ℕ} → Matches (after_members b front ms) w → First b front ms w
first_of_members b front none d = elim d [ ]
first_of_members b front (member e q ms) d = first_step b e q front ms (first_of_members b (member e q front) ms) (either_shown (chain_of (after b e) (among_of (onto front ms))) (after_members b (member e q front) ms) d)

among_put : (x : Expr) (ms : Members) {w : List ℕ} → Matches (chain x (among ms)) w → Matches (chain x (among_of ms)) w
among_put x ms (is_chain j d f) = is_chain j d (among_made ms f)

-- whichever member begins, the derivative has it
members_made : (b : ℕ) (front : Members) {e : Expr} {q : Bool} {ms rest : Members} {w : List ℕ} → Takes ms e q rest → Matches (chain (after b e) (among (onto front rest))) w → Matches (after_members b front ms) w
members_made b front (here {e = e} {q = q} {ms = ms}) d =
    either_made (chain_of (after b e) (among_of (onto front ms))) (after_members b (member e q front) ms) (is_left (chain_made (after b e) (among_of (onto front ms)) (among_put (after b e) (onto front ms) d)))
members_made b front (later {x = x} {p = p} {ms = ms} t) d =
    either_made (chain_of (after b x) (among_of (onto front ms))) (after_members b (member x p front) ms) (is_right (members_made b (member x p front) t d))

-- two that are taken may be taken the other way round
record Swapped (ms : Members) (e x : Expr) (q p : Bool) (rest : Members) : Type 0 where
  others : Members
  first : Takes ms x p others
  second : Takes others e q rest

swapped_later : {ms : Members} {e x y : Expr} {q p o : Bool} {rest : Members} → Swapped ms e x q p rest → Swapped (member y o ms) e x q p (member y o rest)
swapped_later {y = y} {o = o} s = record { others = member y o s.others; first = later s.first; second = later s.second }

swapped : {ms mid rest : Members} {e x : Expr} {q p : Bool} → Takes ms e q mid → Takes mid x p rest → Swapped ms e x q p rest
swapped (here {e = e} {q = q}) t = record { others = member e q _; first = later t; second = here }
swapped (later s) (here) = record { others = _; first = here; second = s }
swapped (later s) (later t) = swapped_later (swapped s t)

-- what is proved of a text: behind its first byte stands what the derivative matches
abbrev Goes : Expr → List ℕ → Type 0
Goes e [] = ⊤
Goes e (b ∷ w) = Matches (after b e) w

made_when : (t : Bool) {e : Expr} {w : List ℕ} → t ≡ true → Matches e w → Matches (when t e) w
made_when true h d = d
made_when false h d = cc

goes_chain : {x y : Expr} {u v w : List ℕ} → Joins u v w → Matches x u → Matches y v → Goes x u → Goes y v → Goes (chain x y) w
goes_chain (at_once {v = []}) d f g h = tt
goes_chain {x = x} {y = y} (at_once {v = b ∷ w}) d f g h =
    either_made (chain_of (after b x) y) (when (may_end x) (after b y)) (is_right (made_when (may_end x) (ends_empty x d) h))
goes_chain {x = x} {y = y} (on {b = b} j) d f g h =
    either_made (chain_of (after b x) y) (when (may_end x) (after b y)) (is_left (chain_made (after b x) y (is_chain j g f)))

goes_left : (x y : Expr) (w : List ℕ) → Goes x w → Goes (either x y) w
goes_left x y [] g = tt
goes_left x y (b ∷ w) g = either_made (after b x) (after b y) (is_left g)

goes_right : (x y : Expr) (w : List ℕ) → Goes y w → Goes (either x y) w
goes_right x y [] g = tt
goes_right x y (b ∷ w) g = either_made (after b x) (after b y) (is_right g)

goes_star : {x : Expr} {u v w : List ℕ} → Joins u v w → Matches (star x) v → Goes x u → Goes (star x) v → Goes (star x) w
goes_star at_once f g h = h
goes_star {x = x} (on {b = b} j) f g h = chain_made (after b x) (star x) (is_chain j g f)

-- The member that was taken with the empty text is put back, and taken behind the one that begins.
put_back : (b : ℕ) {e : Expr} {q : Bool} {ms rest : Members} {w : List ℕ} → Takes ms e q rest → Matches e [] → First b none rest w → Matches (after_members b none ms) w
put_back b t d f = let s = swapped t f.taken in members_made b none s.first (behind s.second d f.is)
  where
    behind : {x e : Expr} {q : Bool} {ms rest : Members} {w : List ℕ} → Takes ms e q rest → Matches e [] → Matches (chain x (among rest)) w → Matches (chain x (among ms)) w
    behind t d (is_chain j c g) = is_chain j c (is_taken t at_once d g)

goes_among : {e : Expr} {q : Bool} {ms rest : Members} {u v w : List ℕ} → Takes ms e q rest → Joins u v w → Matches e u → Matches (among rest) v → Goes e u → Goes (among rest) v → Goes (among ms) w
goes_among t (at_once {v = []}) d f g h = tt
goes_among {rest = rest} t (at_once {v = b ∷ w}) d f g h = put_back b t d (first_of_members b none rest h)
goes_among t (on {b = b} j) d f g h = members_made b none t (is_chain j g f)

goes : {e : Expr} {w : List ℕ} → Matches e w → Goes e w
goes is_empty = tt
goes (is_byte {low = low} {high = high} {b = b} h) = made_when (lies low high b) h is_empty
goes (is_chain j d f) = goes_chain j d f (goes d) (goes f)
goes (is_left {x = x} {y = y} {w = w} d) = goes_left x y w (goes d)
goes (is_right {x = x} {y = y} {w = w} d) = goes_right x y w (goes d)
goes is_over = tt
goes (is_more j d f) = goes_star j f (goes d) (goes f)
goes (is_done o) = tt
goes (is_taken t j d f) = goes_among t j d f (goes d) (goes f)

pub made : (b : ℕ) (e : Expr) (w : List ℕ) → Matches e (b ∷ w) → Matches (after b e) w
made b e w d = goes d

pub is_derivative : IsDerivative
is_derivative b e w = (shown b e w, made b e w)
