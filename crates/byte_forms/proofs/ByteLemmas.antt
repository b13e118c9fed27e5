-- The ranges of a test match the bytes that pass.
use Rattle.std.proofs.Common.{◌≡◌, ◌⊎◌, inl, inr, ℕ, zero, suc, ◌<◌, ◌≤◌, Bool, true, false, List, [], ◌∷◌, Option, Some, None, refl, sym, ◌∙◌, ap, subst, arith}
use Rattle.std.specs.Prelude.{nat_le, if◌then◌else◌}
use Rattle.std.proofs.lemmas.Bool.{and_parts, and_from, leb-true, le-leb, cases_eq}
use Rattle.derivatives.specs.Expressions.{Expr, nothing, range, either, Matches, is_byte, is_left, is_right}
use Rattle.derivatives.specs.Derivatives.{either_of}
use Rattle.derivatives.proofs.NormalForms.{either_shown, either_made}
use Rattle.byte_forms.specs.Ranges.{ranges_below}
use Rattle.byte_forms.specs.Laws.{IsByteBelow, ByteIsMatched}

-- a byte of a range
pub record Between (first last : ℕ) (w : List ℕ) : Type 0 where
  pub byte : ℕ
  pub above : first ≤ byte
  pub below : byte ≤ last
  pub is : byte ∷ [] ≡ w

abbrev pub IsOpen : ℕ → Option ℕ → List ℕ → Type 0
IsOpen n None w = ⊥
IsOpen n (Some last) w = Between n last w

pub range_shown : (low high : ℕ) {w : List ℕ} → Matches (range low high) w → Between low high w
range_shown low high (is_byte {b = b} h) = let p = and_parts (nat_le low b) (nat_le b high) h in record { byte = b; above = leb-true low b p.0; below = leb-true b high p.1; is = refl }

range_made : (low high : ℕ) {w : List ℕ} → Between low high w → Matches (range low high) w
range_made low high {w} p = subst (λ (z : List ℕ). Matches (range low high) z) p.is (is_byte (and_from (nat_le low p.byte) (nat_le p.byte high) (le-leb low p.byte p.above) (le-leb p.byte high p.below)))

abbrev pub Found : (ℕ → Bool) → ℕ → Option ℕ → Expr → List ℕ → Type 0
Found test n o e w = IsByteBelow test n w ⊎ (IsOpen n o w ⊎ Matches e w)

lower : {test : ℕ → Bool} {n : ℕ} {w : List ℕ} → IsByteBelow test n w → IsByteBelow test (suc n) w
lower p = record { byte = p.byte; below = omega (arith, p.below); passes = p.passes; is = p.is }

this : {test : ℕ → Bool} (n : ℕ) {w : List ℕ} → test n ≡ true → (b : ℕ) → b ≡ n → b ∷ [] ≡ w → IsByteBelow test (suc n) w
this {test} n h b e i = record { byte = b; below = omega arith; passes = ap test e ∙ h; is = i }

pub shown_below : (test : ℕ → Bool) (n : ℕ) (o : Option ℕ) (e : Expr) {w : List ℕ} → Matches (ranges_below test n o e) w → Found test n o e w
shown_below test zero None e d = inr (inr d)
shown_below test zero (Some last) e d = at (either_shown (range zero last) e d)
  where
    at : {w : List ℕ} → Matches (either (range zero last) e) w → Found test zero (Some last) e w
    at (is_left d) = inr (inl (range_shown zero last d))
    at (is_right d) = inr (inr d)
shown_below test (suc n) None e {w} d = at (test n) refl d (λ f. shown_below test n (Some n) e f) (λ f. shown_below test n None e f)
  where
    opened : test n ≡ true → Found test n (Some n) e w → Found test (suc n) None e w
    opened h (inl p) = inl (lower p)
    opened h (inr (inl p)) = inl (this n h p.byte (omega (arith, p.above, p.below)) p.is)
    opened h (inr (inr f)) = inr (inr f)

    closed : Found test n None e w → Found test (suc n) None e w
    closed (inl p) = inl (lower p)
    closed (inr f) = inr f

    at : (b : Bool) → test n ≡ b → Matches (if b then ranges_below test n (Some n) e else ranges_below test n None e) w
        → (Matches (ranges_below test n (Some n) e) w → Found test n (Some n) e w) → (Matches (ranges_below test n None e) w → Found test n None e w) → Found test (suc n) None e w
    at true h d f g = opened h (f d)
    at false h d f g = closed (g d)
shown_below test (suc n) (Some last) e {w} d =
    at (test n) refl d (λ f. shown_below test n (Some last) e f) (λ f. shown_below test n None (either_of (range (suc n) last) e) f)
  where
    E : Expr
    E = either_of (range (suc n) last) e

    by : test n ≡ true → (p : Between n last w) → (p.byte ≡ n) ⊎ (p.byte ≡ n → ⊥) → Found test (suc n) (Some last) e w
    by h p (inl q) = inl (this n h p.byte q p.is)
    by h p (inr q) = inr (inl (record { byte = p.byte; above = omega (arith, p.above, q); below = p.below; is = p.is }))

    opened : test n ≡ true → Found test n (Some last) e w → Found test (suc n) (Some last) e w
    opened h (inl p) = inl (lower p)
    opened h (inr (inl p)) = by h p (cases_eq p.byte n)
    opened h (inr (inr f)) = inr (inr f)

    split : Matches (either (range (suc n) last) e) w → Found test (suc n) (Some last) e w
    split (is_left d) = inr (inl (range_shown (suc n) last d))
    split (is_right d) = inr (inr d)

    closed : Found test n None E w → Found test (suc n) (Some last) e w
    closed (inl p) = inl (lower p)
    closed (inr (inl p)) = absurd p
    closed (inr (inr f)) = split (either_shown (range (suc n) last) e f)

    at : (b : Bool) → test n ≡ b → Matches (if b then ranges_below test n (Some last) e else ranges_below test n None (either_of (range (suc n) last) e)) w
        → (Matches (ranges_below test n (Some last) e) w → Found test n (Some last) e w) → (Matches (ranges_below test n None (either_of (range (suc n) last) e)) w → Found test n None E w) → Found test (suc n) (Some last) e w
    at true h d f g = opened h (f d)
    at false h d f g = closed (g d)

-- the open range is not empty
abbrev pub IsWide : ℕ → Option ℕ → Type 0
IsWide n None = Unit {0}
IsWide n (Some last) = n ≤ last

-- what is found is matched
abbrev Makes : (ℕ → Bool) → ℕ → Option ℕ → Expr → List ℕ → Type 0
Makes test n o e w = Found test n o e w → Matches (ranges_below test n o e) w

not_this : (test : ℕ → Bool) (n b : ℕ) → test n ≡ false → test b ≡ true → b ≡ n → ⊥
not_this test n b h t q = let z : test n ≡ true = sym (ap test q) ∙ t in both (test n) z h
  where
    both : (b : Bool) → b ≡ true → b ≡ false → ⊥
    both b t h = cc

-- a byte that passes is the next one, or lies below it
next_by : {test : ℕ → Bool} {n : ℕ} {w : List ℕ} (last : ℕ) → n ≤ last → (p : IsByteBelow test (suc n) w) → (p.byte ≡ n) ⊎ (p.byte ≡ n → ⊥) → IsByteBelow test n w ⊎ Between n last w
next_by last h p (inl q) = inr (record { byte = p.byte; above = omega (arith, q); below = omega (arith, q, h); is = p.is })
next_by last h p (inr q) = inl (record { byte = p.byte; below = omega (arith, p.below, q); passes = p.passes; is = p.is })

pub made_below : (test : ℕ → Bool) (n : ℕ) (o : Option ℕ) (e : Expr) {w : List ℕ} → IsWide n o → Found test n o e w → Matches (ranges_below test n o e) w
made_below test zero o e l (inl p) = absurd (omega (arith, p.below))
made_below test zero None e l (inr (inl p)) = absurd p
made_below test zero None e l (inr (inr d)) = d
made_below test zero (Some last) e l (inr (inl p)) = either_made (range zero last) e (is_left (range_made zero last p))
made_below test zero (Some last) e l (inr (inr d)) = either_made (range zero last) e (is_right d)
made_below test (suc n) None e {w} l f = at (test n) refl (λ g. made_below test n (Some n) e (omega arith) g) (λ g. made_below test n None e tt g)
  where
    put : IsByteBelow test n w ⊎ Between n n w → Found test n (Some n) e w
    put (inl p) = inl p
    put (inr p) = inr (inl p)

    opened : Found test (suc n) None e w → Found test n (Some n) e w
    opened (inl p) = put (next_by n (omega arith) p (cases_eq p.byte n))
    opened (inr (inl p)) = absurd p
    opened (inr (inr d)) = inr (inr d)

    closed : test n ≡ false → Found test (suc n) None e w → Found test n None e w
    closed h (inl p) = let q = not_this test n p.byte h p.passes in inl (record { byte = p.byte; below = omega (arith, p.below, q); passes = p.passes; is = p.is })
    closed h (inr d) = inr d

    at : (b : Bool) → test n ≡ b → Makes test n (Some n) e w → Makes test n None e w → Matches (if b then ranges_below test n (Some n) e else ranges_below test n None e) w
    at true h g k = g (opened f)
    at false h g k = k (closed h f)
made_below test (suc n) (Some last) e {w} l f =
    at (test n) refl (λ g. made_below test n (Some last) e (omega (arith, l)) g) (λ g. made_below test n None (either_of (range (suc n) last) e) tt g)
  where
    E : Expr
    E = either_of (range (suc n) last) e

    put : IsByteBelow test n w ⊎ Between n last w → Found test n (Some last) e w
    put (inl p) = inl p
    put (inr p) = inr (inl p)

    opened : Found test (suc n) (Some last) e w → Found test n (Some last) e w
    opened (inl p) = put (next_by last (omega (arith, l)) p (cases_eq p.byte n))
    opened (inr (inl p)) = inr (inl (record { byte = p.byte; above = omega (arith, p.above); below = p.below; is = p.is }))
    opened (inr (inr d)) = inr (inr d)

    closed : test n ≡ false → Found test (suc n) (Some last) e w → Found test n None E w
    closed h (inl p) = let q = not_this test n p.byte h p.passes in inl (record { byte = p.byte; below = omega (arith, p.below, q); passes = p.passes; is = p.is })
    closed h (inr (inl p)) = inr (inr (either_made (range (suc n) last) e (is_left (range_made (suc n) last p))))
    closed h (inr (inr d)) = inr (inr (either_made (range (suc n) last) e (is_right d)))

    at : (b : Bool) → test n ≡ b → Makes test n (Some last) e w → Makes test n None E w → Matches (if b then ranges_below test n (Some last) e else ranges_below test n None E) w
    at true h g k = g (opened f)
    at false h g k = k (closed h f)

pub byte_is_matched : ByteIsMatched
byte_is_matched test n w = (λ d. shown (shown_below test n None nothing d), λ p. made_below test n None nothing tt (inl p))
  where
    shown : Found test n None nothing w → IsByteBelow test n w
    shown (inl p) = p
    shown (inr (inl p)) = absurd p
    shown (inr (inr d)) = elim d [ ]

-- tests that agree below the bound have the same ranges
same_choice : (s t : Bool) {x y z w : Expr} → s ≡ t → x ≡ z → y ≡ w → (if s then x else y) ≡ (if t then z else w)
same_choice true true e f g = f
same_choice false false e f g = g
same_choice true false e f g = absurd (differ (sym e))
  where
    differ : false ≡ true → ⊥
    differ d = cc
same_choice false true e f g = absurd (differ e)
  where
    differ : false ≡ true → ⊥
    differ d = cc

pub ranges_alike : (test other : ℕ → Bool) (n : ℕ) (o : Option ℕ) (e : Expr) → ((b : ℕ) → b < n → test b ≡ other b) → ranges_below test n o e ≡ ranges_below other n o e
ranges_alike test other zero None e h = refl
ranges_alike test other zero (Some last) e h = refl
ranges_alike test other (suc n) None e h =
    same_choice (test n) (other n) (h n (omega arith)) (ranges_alike test other n (Some n) e (λ b l. h b (omega (arith, l)))) (ranges_alike test other n None e (λ b l. h b (omega (arith, l))))
ranges_alike test other (suc n) (Some last) e h =
    same_choice (test n) (other n) (h n (omega arith)) (ranges_alike test other n (Some last) e (λ b l. h b (omega (arith, l))))
    (ranges_alike test other n None (either_of (range (suc n) last) e) (λ b l. h b (omega (arith, l))))
