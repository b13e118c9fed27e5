-- Expressions of which each text is one of another expression.
use Rattle.std.proofs.Common.{◌≡◌, ◌⊎◌, inl, inr, ℕ, ◌<◌, ◌≤◌, Bool, true, false, List, [], ◌∷◌, ◌++◌, refl, sym, ◌∙◌, ap, subst, arith}
use Rattle.std.specs.Prelude.{◌&&◌, ◌||◌, nat_le}
use Rattle.std.proofs.lemmas.Bool.{and_parts, or_cases, leb-true}
use Rattle.xml_text.specs.Characters.{is_character}
use Rattle.std.specs.List.{list_all}
use Rattle.derivatives.specs.Expressions.{Expr, empty, range, chain, either, star, Joins, at_once, on, Matches, is_empty, is_byte, is_chain, is_left, is_right, is_over, is_more}
use Rattle.derivatives.specs.Derivatives.{chain_of, either_of}
use Rattle.derivatives.proofs.NormalForms.{chain_shown, chain_made, either_shown, either_made, ends_there}
use Rattle.page_forms.specs.Quotes.{quoted}
use Rattle.page_forms.specs.Words.{word, ascii, character_of, beyond_ascii, low_rows, middle_rows, high_rows}
use Rattle.page_forms.proofs.OneCharacter.{AreIn, InRows, rows_shown}
use Rattle.page_forms.proofs.Spelling.{word_shown}
use Rattle.coarse_forms.specs.CoarseForms.{byte_of}
use Rattle.coarse_forms.proofs.Bytes.{Low, ascii_shown, ascii_made, byte_made}

-- each text of the one is a text of the other
pub record Within (x y : Expr) : Type 0 where
  pub goes : (w : List ℕ) → Matches x w → Matches y w

pub own : (x : Expr) → Within x x
own x = record { goes = λ w d. d }

pub further : {x y z : Expr} → Within x y → Within y z → Within x z
further f g = record { goes = λ w d. g.goes w (f.goes w d) }

pub in_chain : (x y a b : Expr) → Within x a → Within y b → Within (chain_of x y) (chain_of a b)
in_chain x y a b f g = record { goes = λ w d. chain_made a b (at (chain_shown x y d)) }
  where
    at : {w : List ℕ} → Matches (chain x y) w → Matches (chain a b) w
    at (is_chain {u = u} {v = v} j d e) = is_chain j (f.goes u d) (g.goes v e)

pub in_left : (a b : Expr) {x : Expr} → Within x a → Within x (either_of a b)
in_left a b f = record { goes = λ w d. either_made a b (is_left (f.goes w d)) }

pub in_right : (a b : Expr) {x : Expr} → Within x b → Within x (either_of a b)
in_right a b f = record { goes = λ w d. either_made a b (is_right (f.goes w d)) }

pub both : (x y : Expr) {a : Expr} → Within x a → Within y a → Within (either_of x y) a
both x y {a} f g = record { goes = λ w d. at (either_shown x y d) }
  where
    at : {w : List ℕ} → Matches (either x y) w → Matches a w
    at (is_left {w = w} d) = f.goes w d
    at (is_right {w = w} d) = g.goes w d

-- Texts in a row.

-- what stands behind the first part of the first text
record Split (u v w b : List ℕ) : Type 0 where
  rest : List ℕ
  inner : Joins b v rest
  outer : Joins u rest w

split : {a b c v w : List ℕ} → Joins a b c → Joins c v w → Split a v w b
split {w = w} at_once j = record { rest = w; inner = j; outer = at_once }
split (on k) (on j) = let s = split k j in record { rest = s.rest; inner = s.inner; outer = on s.outer }

-- what stands before the second part of the second text
record Merged (u p q w : List ℕ) : Type 0 where
  front : List ℕ
  inner : Joins u p front
  outer : Joins front q w

merge : {u p q v w : List ℕ} → Joins u v w → Joins p q v → Merged u p q w
merge {p = p} at_once k = record { front = p; inner = at_once; outer = k }
merge (on {b = b} j) k = let s = merge j k in record { front = b ∷ s.front; inner = on s.inner; outer = on s.outer }

pub to_left : (x y z : Expr) → Within (chain_of x (chain_of y z)) (chain_of (chain_of x y) z)
to_left x y z = record { goes = λ w d. chain_made (chain_of x y) z (at (chain_shown x (chain_of y z) d)) }
  where
    by : {u v w : List ℕ} → Joins u v w → Matches x u → Matches (chain y z) v → Matches (chain (chain_of x y) z) w
    by j d (is_chain k e f) = let s = merge j k in is_chain s.outer (chain_made x y (is_chain s.inner d e)) f

    at : {w : List ℕ} → Matches (chain x (chain_of y z)) w → Matches (chain (chain_of x y) z) w
    at (is_chain j d e) = by j d (chain_shown y z e)

pub to_right : (x y z : Expr) → Within (chain_of (chain_of x y) z) (chain_of x (chain_of y z))
to_right x y z = record { goes = λ w d. chain_made x (chain_of y z) (at (chain_shown (chain_of x y) z d)) }
  where
    by : {u v w : List ℕ} → Joins u v w → Matches (chain x y) u → Matches z v → Matches (chain x (chain_of y z)) w
    by j (is_chain k d e) f = let s = split k j in is_chain s.outer d (chain_made y z (is_chain s.inner e f))

    at : {w : List ℕ} → Matches (chain (chain_of x y) z) w → Matches (chain x (chain_of y z)) w
    at (is_chain j d e) = by j (chain_shown x y d) e

-- Words.

pub of_word : (u : List ℕ) (y : Expr) → Matches y u → Within (word u) y
of_word u y d = record { goes = λ w m. subst (λ (z : List ℕ). Matches y z) (sym (word_shown u m)) d }

pub word_apart : (u v : List ℕ) (y : Expr) → Within (chain_of (word (u ++ v)) y) (chain_of (word u) (chain_of (word v) y))
word_apart [] v y = own (chain_of (word v) y)
word_apart (b ∷ u) v y =
    further (to_right (range b b) (word (u ++ v)) y)
    (further (in_chain (range b b) (chain_of (word (u ++ v)) y) (range b b) (chain_of (word u) (chain_of (word v) y)) (own (range b b)) (word_apart u v y))
    (to_left (range b b) (word u) (chain_of (word v) y)))

-- Repetitions.

pub stars_join : {x : Expr} {u v w : List ℕ} → Matches (star x) u → Joins u v w → Matches (star x) v → Matches (star x) w
stars_join is_over at_once e = e
stars_join (is_more k f g) j e = let s = split k j in is_more s.outer f (stars_join g s.inner e)

pub once : (x : Expr) → Within x (star x)
once x = record { goes = λ w d. is_more (ends_there w) d is_over }

pub never : (x : Expr) → Within empty (star x)
never x = record { goes = λ w d. at d }
  where
    at : {w : List ℕ} → Matches empty w → Matches (star x) w
    at is_empty = is_over

pub stars : {x y : Expr} → Within x (star y) → Within (star x) (star y)
stars {x} {y} f = record { goes = λ w d. at d }
  where
    at : {w : List ℕ} → Matches (star x) w → Matches (star y) w
    at is_over = is_over
    at (is_more {u = u} j d e) = stars_join (f.goes u d) j (at e)

-- two texts of a repetition are one
pub more : (x y : Expr) {a : Expr} → Within x (star a) → Within y (star a) → Within (chain_of x y) (star a)
more x y {a} f g = record { goes = λ w d. at (chain_shown x y d) }
  where
    at : {w : List ℕ} → Matches (chain x y) w → Matches (star a) w
    at (is_chain {u = u} {v = v} j d e) = stars_join (f.goes u d) j (g.goes v e)

-- what stands before a repetition may belong to it
pub before : (x y a c : Expr) → Within x (star a) → Within y (chain_of (star a) c) → Within (chain_of x y) (chain_of (star a) c)
before x y a c f g = record { goes = λ w d. chain_made (star a) c (at (chain_shown x y d)) }
  where
    by : {u v w : List ℕ} → Joins u v w → Matches (star a) u → Matches (chain (star a) c) v → Matches (chain (star a) c) w
    by j d (is_chain k e h) = let s = merge j k in is_chain s.outer (stars_join d s.inner e) h

    at : {w : List ℕ} → Matches (chain x y) w → Matches (chain (star a) c) w
    at (is_chain {u = u} {v = v} j d e) = by j (f.goes u d) (chain_shown (star a) c (g.goes v e))

pub none_before : (a c : Expr) {y : Expr} → Within y c → Within y (chain_of (star a) c)
none_before a c f = record { goes = λ w d. chain_made (star a) c (is_chain at_once is_over (f.goes w d)) }

-- Bytes.

pub in_ascii : (t s : ℕ → Bool) → ((c : ℕ) → t c ≡ true → s c ≡ true) → Within (ascii t) (ascii s)
in_ascii t s f = record { goes = λ w d. let o = ascii_shown t d in subst (λ (z : List ℕ). Matches (ascii s) z) o.is (ascii_made s o.byte o.low (f o.byte o.passes)) }

module _ (test : ℕ → Bool) where
  -- bytes of ASCII that pass
  pub ascii_in : (t : ℕ → Bool) → ((c : ℕ) → t c ≡ true → test c ≡ true) → Within (ascii t) (star (byte_of test))
  ascii_in t f = further (further (in_ascii t test f) (in_left (ascii test) (range 128 255) (own (ascii test)))) (once (byte_of test))

  -- each byte passes, and is one
  abbrev pub are_in : List ℕ → Bool
  are_in w = list_all (λ b. nat_le b 255 && (test b || nat_le 128 b)) w

  pub bytes_in : (w : List ℕ) → are_in w ≡ true → Matches (star (byte_of test)) w
  bytes_in [] h = is_over
  bytes_in (b ∷ w) h =
      let p = and_parts (nat_le b 255 && (test b || nat_le 128 b)) (are_in w) h in
      let q = and_parts (nat_le b 255) (test b || nat_le 128 b) p.0 in
      is_more (on at_once) (byte_made test b (leb-true b 255 q.0) (at (or_cases (test b) (nat_le 128 b) q.1))) (bytes_in w p.1)
    where
      at : (test b ≡ true) ⊎ (nat_le 128 b ≡ true) → (test b ≡ true) ⊎ (128 ≤ b)
      at (inl t) = inl t
      at (inr l) = inr (leb-true 128 b l)

  pub word_in : (w : List ℕ) → are_in w ≡ true → Within (word w) (star (byte_of test))
  word_in w h = of_word w (star (byte_of test)) (bytes_in w h)

-- the ranges of a row lie beyond ASCII, and there is one
abbrev high_ranges : List (ℕ × ℕ) → Bool
high_ranges [] = true
high_ranges (r ∷ rs) = nat_le 128 r.0 && nat_le r.1 255 && high_ranges rs

-- each row has a range, and they lie there
abbrev high_rows_all : List (List (ℕ × ℕ)) → Bool
high_rows_all [] = true
high_rows_all ([] ∷ rows) = false
high_rows_all ((r ∷ rs) ∷ rows) = high_ranges (r ∷ rs) && high_rows_all rows

-- bytes beyond ASCII
abbrev AreHigh : List ℕ → Type 0
AreHigh [] = Unit {0}
AreHigh (b ∷ w) = (128 ≤ b) × (b ≤ 255) × AreHigh w

row_high : (rs : List (ℕ × ℕ)) (w : List ℕ) → high_ranges rs ≡ true → AreIn rs w → AreHigh w
row_high [] [] h p = tt
row_high [] (b ∷ w) h p = absurd p
row_high (r ∷ rs) [] h p = absurd p
row_high (r ∷ rs) (b ∷ w) h p =
    let q = and_parts (nat_le 128 r.0 && nat_le r.1 255) (high_ranges rs) h in
    let k = and_parts (nat_le 128 r.0) (nat_le r.1 255) q.0 in
    let low = leb-true 128 r.0 k.0 in
    let high = leb-true r.1 255 k.1 in
    let m = p.0 in
    let n = p.1 in
    (omega (arith, low, m), omega (arith, high, n), row_high rs w q.1 p.2)

-- one byte beyond ASCII, and others
record SomeHigh (w : List ℕ) : Type 0 where
  first : ℕ
  others : List ℕ
  low : 128 ≤ first
  high : first ≤ 255
  rest : AreHigh others
  is : first ∷ others ≡ w

rows_high : (rows : List (List (ℕ × ℕ))) (w : List ℕ) → high_rows_all rows ≡ true → InRows rows w → SomeHigh w
rows_high [] w h p = absurd p
rows_high ([] ∷ rows) w h p = cc
rows_high ((r ∷ rs) ∷ rows) [] h (inl p) = absurd p
rows_high ((r ∷ rs) ∷ rows) (b ∷ w) h (inl p) =
    let a = row_high (r ∷ rs) (b ∷ w) (and_parts (high_ranges (r ∷ rs)) (high_rows_all rows) h).0 p in
    record { first = b; others = w; low = a.0; high = a.1; rest = a.2; is = refl }
rows_high ((r ∷ rs) ∷ rows) w h (inr p) = rows_high rows w (and_parts (high_ranges (r ∷ rs)) (high_rows_all rows) h).1 p

beyond_high : {w : List ℕ} → Matches beyond_ascii w → SomeHigh w
unfolding beyond_ascii
beyond_high {w} d = rows_high (low_rows ++ (middle_rows ++ high_rows)) w refl (rows_shown (low_rows ++ (middle_rows ++ high_rows)) d)

high_stars : (test : ℕ → Bool) (w : List ℕ) → AreHigh w → Matches (star (byte_of test)) w
high_stars test [] h = is_over
high_stars test (b ∷ w) h = is_more (on at_once) (byte_made test b h.1 (inr h.0)) (high_stars test w h.2)

-- the bytes of a character, of which the first passes the one test and the others another one
pub character_in : (t first test : ℕ → Bool) → ((c : ℕ) → (is_character c && t c) ≡ true → first c ≡ true)
    → Within (character_of t) (chain_of (byte_of first) (star (byte_of test)))
character_in t first test f = both (ascii (λ c. is_character c && t c)) beyond_ascii (record { goes = λ w d. low_at (ascii_shown (λ c. is_character c && t c) d) }) (record { goes = λ w d. high_at (beyond_high d) })
  where
    low_at : {w : List ℕ} → Low (λ c. is_character c && t c) w → Matches (chain_of (byte_of first) (star (byte_of test))) w
    low_at {w} o =
        let l = o.low in
        subst (λ (z : List ℕ). Matches (chain_of (byte_of first) (star (byte_of test))) z) o.is
        (chain_made (byte_of first) (star (byte_of test)) (is_chain (on at_once) (byte_made first o.byte (omega (arith, l)) (inl (f o.byte o.passes))) is_over))

    high_at : {w : List ℕ} → SomeHigh w → Matches (chain_of (byte_of first) (star (byte_of test))) w
    high_at {w} o =
        subst (λ (z : List ℕ). Matches (chain_of (byte_of first) (star (byte_of test))) z) o.is
        (chain_made (byte_of first) (star (byte_of test)) (is_chain (on at_once) (byte_made first o.first o.high (inr o.low)) (high_stars test o.others o.rest)))

-- the same where all of them pass one test
pub characters_in : (t test : ℕ → Bool) → ((c : ℕ) → (is_character c && t c) ≡ true → test c ≡ true) → Within (character_of t) (star (byte_of test))
characters_in t test f = further (character_in t test test f) (more (byte_of test) (star (byte_of test)) (once (byte_of test)) (own (star (byte_of test))))

pub quotes : (between : ℕ → Expr) (others : ℕ → Expr) → Within (between 34) (others 34) → Within (between 39) (others 39) → Within (quoted between) (quoted others)
quotes between others f g =
    both (by between 34) (by between 39) (in_left (by others 34) (by others 39) (one 34 f)) (in_right (by others 34) (by others 39) (one 39 g))
  where
    by : (ℕ → Expr) → ℕ → Expr
    by e q = chain_of (range q q) (chain_of (e q) (range q q))

    one : (q : ℕ) → Within (between q) (others q) → Within (chain_of (range q q) (chain_of (between q) (range q q))) (chain_of (range q q) (chain_of (others q) (range q q)))
    one q f = in_chain (range q q) (chain_of (between q) (range q q)) (range q q) (chain_of (others q) (range q q)) (own (range q q)) (in_chain (between q) (range q q) (others q) (range q q) f (own (range q q)))
