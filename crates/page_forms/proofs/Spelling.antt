-- Expressions that spell languages of characters, part by part.
use Rattle.std.proofs.Common.{◌≡◌, ◌⊎◌, inl, inr, ℕ, ◌<◌, Bool, true, false, List, [], ◌∷◌, ◌++◌, refl, sym, ◌∙◌, ap, subst, append-nil, append_assoc, arith}
use Rattle.std.specs.Prelude.{nat_lt, nat_le}
use Rattle.std.specs.Char.{encode_utf8}
use Rattle.std.specs.Str.{encode_utf8_all}
use Rattle.std.specs.List.{list_all}
use Rattle.std.proofs.lemmas.Bool.{and_parts, and_from, ltb-true, leb-true, le-leb}
use Rattle.std.proofs.lemmas.Str.{encodes-append, encode_ascii}
use Rattle.derivatives.specs.Expressions.{Expr, nothing, empty, range, chain, either, star, lies, Joins, at_once, on, Matches, is_empty, is_byte, is_chain, is_left, is_right, is_over, is_more}
use Rattle.derivatives.specs.Derivatives.{chain_of, either_of}
use Rattle.derivatives.proofs.NormalForms.{chain_shown, chain_made, either_shown, either_made, ap2}
use Rattle.page_model.specs.PageTokens.{piece_bytes}
use Rattle.page_model.specs.Pieces.{Piece, piece_then}
use Rattle.page_forms.specs.Words.{word}
use Rattle.page_forms.specs.Laws.{IsFormOf}

pub joins_is : {u v w : List ℕ} → Joins u v w → u ++ v ≡ w
joins_is at_once = refl
joins_is (on {b = b} j) = ap (λ (z : List ℕ). b ∷ z) (joins_is j)

pub joins_all : (u v : List ℕ) → Joins u v (u ++ v)
joins_all [] v = at_once
joins_all (b ∷ u) v = on (joins_all u v)

-- the text is the UTF-8 of characters of the language
pub record Spelled (L : List ℕ → Type 0) (w : List ℕ) : Type 0 where
  pub characters : List ℕ
  pub are : L characters
  pub is : encode_utf8_all characters ≡ w

-- the expression matches exactly those texts
pub record Spells (e : Expr) (L : List ℕ → Type 0) : Type 0 where
  pub shown : (w : List ℕ) → Matches e w → Spelled L w
  pub made : (cs : List ℕ) → L cs → Matches e (encode_utf8_all cs)

pub spells_as : {e : Expr} {A B : List ℕ → Type 0} → Spells e A → ((cs : List ℕ) → A cs → B cs) → ((cs : List ℕ) → B cs → A cs) → Spells e B
spells_as s f g = record {
  shown = λ w d. let p = s.shown w d in record { characters = p.characters; are = f p.characters p.are; is = p.is };
  made = λ cs b. s.made cs (g cs b);
}

-- characters of the one language, and behind them characters of the other
pub record Chained (A B : List ℕ → Type 0) (cs : List ℕ) : Type 0 where
  pub first : List ℕ
  pub second : List ℕ
  pub begins : A first
  pub goes_on : B second
  pub is : first ++ second ≡ cs

-- both parts are told by what they are
pub put_together : {a b c d w : List ℕ} → a ≡ c → b ≡ d → c ++ d ≡ w → a ++ b ≡ w
put_together p q r = ap2 (λ (x y : List ℕ). x ++ y) p q ∙ r

joined : {A B : List ℕ → Type 0} {u v w : List ℕ} → Joins u v w → Spelled A u → Spelled B v → Spelled (Chained A B) w
joined j p q = record {
  characters = p.characters ++ q.characters;
  are = record { first = p.characters; second = q.characters; begins = p.are; goes_on = q.are; is = refl };
  is = encodes-append p.characters q.characters ∙ ap2 (λ (x y : List ℕ). x ++ y) p.is q.is ∙ joins_is j;
}

pub spells_chain : {x y : Expr} {A B : List ℕ → Type 0} → Spells x A → Spells y B → Spells (chain_of x y) (Chained A B)
spells_chain {x} {y} {A} {B} s t = record { shown = λ w d. shown_at (chain_shown x y d); made = λ cs c. chain_made x y (made_at cs c) }
  where
    shown_at : {w : List ℕ} → Matches (chain x y) w → Spelled (Chained A B) w
    shown_at (is_chain {u = u} {v = v} j d f) = joined j (s.shown u d) (t.shown v f)

    made_at : (cs : List ℕ) → Chained A B cs → Matches (chain x y) (encode_utf8_all cs)
    made_at cs c =
        subst (λ (z : List ℕ). Matches (chain x y) z) (sym (encodes-append c.first c.second) ∙ ap encode_utf8_all c.is)
        (is_chain (joins_all (encode_utf8_all c.first) (encode_utf8_all c.second)) (s.made c.first c.begins) (t.made c.second c.goes_on))

pub spells_either : {x y : Expr} {A B : List ℕ → Type 0} → Spells x A → Spells y B → Spells (either_of x y) (λ cs. A cs ⊎ B cs)
spells_either {x} {y} {A} {B} s t = record { shown = λ w d. shown_at (either_shown x y d); made = λ cs c. either_made x y (made_at cs c) }
  where
    shown_at : {w : List ℕ} → Matches (either x y) w → Spelled (λ cs. A cs ⊎ B cs) w
    shown_at (is_left {w = w} d) = let p = s.shown w d in record { characters = p.characters; are = inl p.are; is = p.is }
    shown_at (is_right {w = w} d) = let p = t.shown w d in record { characters = p.characters; are = inr p.are; is = p.is }

    made_at : (cs : List ℕ) → A cs ⊎ B cs → Matches (either x y) (encode_utf8_all cs)
    made_at cs (inl a) = is_left (s.made cs a)
    made_at cs (inr b) = is_right (t.made cs b)

-- any number of texts of a language, one behind the other
pub data Runs (A : List ℕ → Type 0) : List ℕ → Type 0 where
  over : Runs A []
  further : {first more : List ℕ} → A first → Runs A more → Runs A (first ++ more)

pub spells_star : {x : Expr} {A : List ℕ → Type 0} → Spells x A → Spells (star x) (Runs A)
spells_star {x} {A} s = record { shown = λ w d. shown_at d; made = λ cs c. made_at c }
  where
    longer : {u v w : List ℕ} → Joins u v w → Spelled A u → Spelled (Runs A) v → Spelled (Runs A) w
    longer j p q = record {
      characters = p.characters ++ q.characters;
      are = further p.are q.are;
      is = encodes-append p.characters q.characters ∙ ap2 (λ (x y : List ℕ). x ++ y) p.is q.is ∙ joins_is j;
    }

    shown_at : {w : List ℕ} → Matches (star x) w → Spelled (Runs A) w
    shown_at is_over = record { characters = []; are = over; is = refl }
    shown_at (is_more {u = u} j d f) = longer j (s.shown u d) (shown_at f)

    made_at : {cs : List ℕ} → Runs A cs → Matches (star x) (encode_utf8_all cs)
    made_at over = is_over
    made_at (further {first = first} {more = more} a r) =
        subst (λ (z : List ℕ). Matches (star x) z) (sym (encodes-append first more)) (is_more (joins_all (encode_utf8_all first) (encode_utf8_all more)) (s.made first a) (made_at r))

-- one character that passes a test
pub record One (test : ℕ → Bool) (cs : List ℕ) : Type 0 where
  pub character : ℕ
  pub passes : test character ≡ true
  pub is : character ∷ [] ≡ cs

all_run : (test : ℕ → Bool) {cs : List ℕ} → Runs (One test) cs → list_all test cs ≡ true
all_run test over = refl
all_run test (further {first = first} {more = more} o r) = subst (λ (z : List ℕ). list_all test (z ++ more) ≡ true) o.is (and_from (test o.character) (list_all test more) o.passes (all_run test r))

run_all : (test : ℕ → Bool) (cs : List ℕ) → list_all test cs ≡ true → Runs (One test) cs
run_all test [] h = over
run_all test (c ∷ cs) h = let p = and_parts (test c) (list_all test cs) h in further {first = c ∷ []} (record { character = c; passes = p.0; is = refl }) (run_all test cs p.1)

pub spells_all : {x : Expr} {test : ℕ → Bool} → Spells x (One test) → Spells (star x) (λ cs. list_all test cs ≡ true)
spells_all {test = test} s = spells_as (spells_star s) (λ cs r. all_run test r) (λ cs h. run_all test cs h)

-- a character before others, taken apart and put together
pub led_into : {test : ℕ → Bool} {L : List ℕ → Type 0} (Q : List ℕ → Type 0) → ((c : ℕ) (rest : List ℕ) → test c ≡ true → L rest → Q (c ∷ rest)) → (cs : List ℕ) → Chained (One test) L cs → Q cs
led_into Q f cs k = let o = k.begins in subst Q (ap (λ (z : List ℕ). z ++ k.second) o.is ∙ k.is) (f o.character k.second o.passes k.goes_on)

pub led : {test : ℕ → Bool} {L : List ℕ → Type 0} (c : ℕ) (cs : List ℕ) → test c ≡ true → L cs → Chained (One test) L (c ∷ cs)
led c cs h l = record { first = c ∷ []; second = cs; begins = record { character = c; passes = h; is = refl }; goes_on = l; is = refl }

-- Words.

byte_shown : (b : ℕ) {w : List ℕ} → Matches (range b b) w → w ≡ b ∷ []
byte_shown b (is_byte {b = c} h) = let p : c ≡ b = same b c h in ap (λ (z : ℕ). z ∷ []) p
  where
    same : (b c : ℕ) → lies b b c ≡ true → c ≡ b
    same b c h = let p = and_parts (nat_le b c) (nat_le c b) h in let l = leb-true b c p.0 in let m = leb-true c b p.1 in omega arith

own : (b : ℕ) → lies b b b ≡ true
own b = and_from (nat_le b b) (nat_le b b) (le-leb b b (omega arith)) (le-leb b b (omega arith))

pub word_shown : (bs : List ℕ) {w : List ℕ} → Matches (word bs) w → w ≡ bs
word_shown [] is_empty = refl
word_shown (b ∷ bs) d = at (chain_shown (range b b) (word bs) d) (λ v e. word_shown bs e)
  where
    at : {w : List ℕ} → Matches (chain (range b b) (word bs)) w → ((v : List ℕ) → Matches (word bs) v → v ≡ bs) → w ≡ b ∷ bs
    at (is_chain {v = v} j d f) rest = sym (joins_is j) ∙ ap2 (λ (x y : List ℕ). x ++ y) (byte_shown b d) (rest v f)

pub word_made : (bs : List ℕ) → Matches (word bs) bs
word_made [] = is_empty
word_made (b ∷ bs) = chain_made (range b b) (word bs) (is_chain (on at_once) (is_byte (own b)) (word_made bs))

-- the bytes of a word of ASCII are its characters
pub ascii_bytes : (cs : List ℕ) → list_all (λ c. nat_lt c 128) cs ≡ true → encode_utf8_all cs ≡ cs
ascii_bytes [] h = refl
ascii_bytes (c ∷ cs) h =
    let p = and_parts (nat_lt c 128) (list_all (λ c. nat_lt c 128) cs) h in ap2 (λ (x y : List ℕ). x ++ y) (encode_ascii c (ltb-true c 128 p.0)) (ascii_bytes cs p.1)

pub spells_word : (cs : List ℕ) → list_all (λ c. nat_lt c 128) cs ≡ true → Spells (word cs) (λ ds. cs ≡ ds)
spells_word cs h = record {
  shown = λ w d. record { characters = cs; are = refl; is = ascii_bytes cs h ∙ sym (word_shown cs d) };
  made = λ ds e. subst (λ (z : List ℕ). Matches (word cs) (encode_utf8_all z)) e (subst (λ (z : List ℕ). Matches (word cs) z) (sym (ascii_bytes cs h)) (word_made cs));
}

-- Pieces.

pub is_form_of : {e : Expr} {IsOne : Piece → Type 0} → Spells e (λ cs. (p : Piece) × IsOne p × (piece_then p [] ≡ cs)) → IsFormOf e IsOne
is_form_of {e} s bytes = (λ d. let p = s.shown bytes d in (p.are.0, p.are.1, ap encode_utf8_all p.are.2 ∙ p.is), λ q. subst (λ (z : List ℕ). Matches e z) q.2 (s.made (piece_then q.0 []) (q.0, q.1, refl)))
