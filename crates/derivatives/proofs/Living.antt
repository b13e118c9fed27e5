-- What is in normal form, and not nothing, matches some text.
use Rattle.std.proofs.Common.{◌≡◌, ℕ, Bool, true, false, nat_le, List, [], ◌∷◌, refl, subst, arith}
use Rattle.std.proofs.lemmas.Bool.{and_parts, and_from}
use Rattle.std.proofs.lemmas.Bool.Decides.{nat_tests}
use Rattle.derivatives.specs.Expressions.{Expr, nothing, empty, range, chain, either, star, among, Members, none, member, lies, Joins, at_once, on, here, no_more, Matches, is_empty, is_byte, is_chain, is_left, is_over, is_done, is_taken}
use Rattle.derivatives.specs.Derivatives.{may_end, before, chain_of, beside, occurs, unless_occurs, either_of, among_of, when, onto, after, after_members, after_all, is_full, are_full, Normal, fails, lives}
use Rattle.derivatives.specs.Laws.{IsDerivativeByAll, HasSomeText, StaysNormal, MakesNormal, OnlyNothingFails, FailsAtOnce}
use Rattle.derivatives.proofs.After.{shown, made}

-- Derivatives stay in normal form.

before_full : (x y : Expr) → is_full x ≡ true → is_full y ≡ true → is_full (before x y) ≡ true
before_full x nothing h g = cc
before_full x empty h g = h
before_full x y h g = and_from (is_full x) (is_full y) h g

chain_normal : (x y : Expr) → Normal x → is_full y ≡ true → Normal (chain_of x y)
chain_normal nothing y n g = fails
chain_normal empty y n g = lives g
chain_normal x y (lives h) g = lives (before_full x y h g)

beside_normal : (x y : Expr) → is_full x ≡ true → Normal y → Normal (beside x y)
beside_normal x nothing h n = lives h
beside_normal x y h (lives g) = lives (and_from (is_full x) (is_full y) h g)

unless_normal : (t : Bool) (x y : Expr) → is_full x ≡ true → Normal y → Normal (unless_occurs t x y)
unless_normal true x y h n = n
unless_normal false x y h n = beside_normal x y h n

either_full : (x y : Expr) → is_full x ≡ true → Normal y → Normal (either_of x y)
either_full nothing y h n = n
either_full (either s t) y h n = let p = and_parts (is_full s) (is_full t) h in either_full s (either_of t y) p.0 (either_full t y p.1 n)
either_full x y h n = unless_normal (occurs x y) x y h n

either_normal : {x : Expr} (y : Expr) → Normal x → Normal y → Normal (either_of x y)
either_normal y fails n = n
either_normal y (lives {e = e} h) n = either_full e y h n

when_normal : (t : Bool) {e : Expr} → Normal e → Normal (when t e)
when_normal true n = n
when_normal false n = fails

among_full : (ms : Members) → are_full ms ≡ true → is_full (among_of ms) ≡ true
among_full none h = refl
among_full (member e q ms) h = h

onto_full : (front ms : Members) → are_full front ≡ true → are_full ms ≡ true → are_full (onto front ms) ≡ true
onto_full none ms h g = g
onto_full (member e q front) ms h g = let p = and_parts (is_full e) (are_full front) h in onto_full front (member e q ms) p.1 (and_from (is_full e) (are_full ms) p.0 g)

mutual
  after_normal : (b : ℕ) (e : Expr) → is_full e ≡ true → Normal (after b e)
  after_normal b nothing h = fails
  after_normal b empty h = fails
  after_normal b (range low high) h = when_normal (lies low high b) (lives {e = empty} refl)
  after_normal b (chain x y) h =
      let p = and_parts (is_full x) (is_full y) h in either_normal (when (may_end x) (after b y)) (chain_normal (after b x) y (after_normal b x p.0) p.1) (when_normal (may_end x) (after_normal b y p.1))
  after_normal b (either x y) h = let p = and_parts (is_full x) (is_full y) h in either_normal (after b y) (after_normal b x p.0) (after_normal b y p.1)
  after_normal b (star x) h = chain_normal (after b x) (star x) (after_normal b x h) h
  after_normal b (among ms) h = members_normal b none ms refl h

  members_normal : (b : ℕ) (front ms : Members) → are_full front ≡ true → are_full ms ≡ true → Normal (after_members b front ms)
  members_normal b front none g h = fails
  members_normal b front (member e q ms) g h =
      let p = and_parts (is_full e) (are_full ms) h in
      either_normal (after_members b (member e q front) ms) (chain_normal (after b e) (among_of (onto front ms)) (after_normal b e p.0) (among_full (onto front ms) (onto_full front ms g p.1)))
      (members_normal b (member e q front) ms (and_from (is_full e) (are_full front) p.0 g) p.1)

step_normal : (b : ℕ) {e : Expr} → Normal e → Normal (after b e)
step_normal b fails = fails
step_normal b (lives {e = e} h) = after_normal b e h

pub stays_normal : StaysNormal
stays_normal e n [] = n
stays_normal e n (b ∷ u) = stays_normal (after b e) (step_normal b n) u

chain_nothing : (x : Expr) → nothing ≡ chain_of x nothing
chain_nothing nothing = refl
chain_nothing empty = refl
chain_nothing x = refl

both_normal : (x : Expr) {y : Expr} → Normal x → Normal y → Normal (chain_of x y)
both_normal x n fails = subst Normal (chain_nothing x) fails
both_normal x n (lives {e = e} h) = chain_normal x e n h

pub makes_normal : MakesNormal
makes_normal = record {
  chained = λ x y n m. both_normal x n m;
  either = λ x y n m. either_normal y n m;
  among = λ ms h. lives (among_full ms h);
}

-- Some text.

low_lies : (low high : ℕ) → nat_le low high ≡ true → lies low high low ≡ true
low_lies low high h = and_from (nat_le low low) (nat_le low high) (own low) h
  where
    own : (n : ℕ) → nat_le n n ≡ true
    own n = grind (arith, nat_tests)

joined : (u v : List ℕ) → (w : List ℕ) × Joins u v w
joined [] v = (v, at_once)
joined (b ∷ u) v = let p = joined u v in (b ∷ p.0, on p.1)

chained : {x y : Expr} → (u : List ℕ) × Matches x u → (v : List ℕ) × Matches y v → (w : List ℕ) × Matches (chain x y) w
chained p q = let j = joined p.0 q.0 in (j.0, is_chain j.1 p.1 q.1)

taken : {e : Expr} {q : Bool} {ms : Members} → (u : List ℕ) × Matches e u → (v : List ℕ) × Matches (among ms) v → (w : List ℕ) × Matches (among (member e q ms)) w
taken p r = let j = joined p.0 r.0 in (j.0, is_taken here j.1 p.1 r.1)

mutual
  pub some_text : HasSomeText
  some_text nothing h = cc
  some_text empty h = ([], is_empty)
  some_text (range low high) h = (low ∷ [], is_byte (low_lies low high h))
  some_text (chain x y) h = let p = and_parts (is_full x) (is_full y) h in chained (some_text x p.0) (some_text y p.1)
  some_text (either x y) h = let p = and_parts (is_full x) (is_full y) h in let s = some_text x p.0 in (s.0, is_left s.1)
  some_text (star x) h = ([], is_over)
  some_text (among ms) h = some_members ms h

  some_members : (ms : Members) → are_full ms ≡ true → (w : List ℕ) × Matches (among ms) w
  some_members none h = ([], is_done no_more)
  some_members (member e q ms) h = let p = and_parts (is_full e) (are_full ms) h in taken (some_text e p.0) (some_members ms p.1)

-- Behind a text.

all_shown : (e : Expr) {u v w : List ℕ} → Joins u v w → Matches (after_all u e) v → Matches e w
all_shown e at_once d = d
all_shown e (on {b = b} {w = w} j) d = shown b e w (all_shown (after b e) j d)

all_made : (e : Expr) {u v w : List ℕ} → Joins u v w → Matches e w → Matches (after_all u e) v
all_made e at_once d = d
all_made e (on {b = b} {w = w} j) d = all_made (after b e) j (made b e w d)

pub is_derivative_by_all : IsDerivativeByAll
is_derivative_by_all e u v w j = (all_shown e j, all_made e j)

failing : {e : Expr} → Normal e → ((v : List ℕ) → Matches e v → ⊥) → e ≡ nothing
failing fails h = refl
failing (lives {e = e} f) h = let s = some_text e f in absurd (h s.0 s.1)

pub only_nothing_fails : OnlyNothingFails
only_nothing_fails e n h = failing n h

pub fails_at_once : FailsAtOnce
fails_at_once e n u h = failing (stays_normal e n u) (λ v d. let j = joined u v in h v j.0 j.1 (all_shown e j.1 d))
