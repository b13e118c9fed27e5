-- The sign that is read is the longest one that the bytes begin with.
use Rattle.std.proofs.Common.{◌≡◌, ◌≢◌, ◌∙◌, ℕ, ◌≤◌, Bool, true, false, List, [], ◌∷◌, length, refl, sym, ap, subst, arith, Option, Some, None}
use Rattle.std.specs.Prelude.{nat_le, ◌&&◌}
use Rattle.std.proofs.lemmas.Bool.{and_parts, leb-true}
use Rattle.php_syntax.specs.declared.token.Sign.{Sign}
use Rattle.php_syntax.specs.declared.token.Sign.TheVariants as s
use Rattle.php_syntax.specs.Tokens.{inline, variable, name, integer, text, template, sign}
use Rattle.php_syntax.specs.Spelling.{spelling_of}
use Rattle.lexical_grammar.specs.Characters.{begins}
use Rattle.lexical_grammar.specs.Steps.{Step, goes, refuses, gives}
use Rattle.lexical_grammar.specs.Signs.{all_signs, first_sign, sign_step}

-- what a step gives, where it gives a sign
abbrev sign_given : Option Step → Sign → Sign
sign_given (Some (goes (Some (sign x)) n next)) other = x
sign_given (Some (goes (Some (inline t)) n next)) other = other
sign_given (Some (goes (Some (variable t)) n next)) other = other
sign_given (Some (goes (Some (name t)) n next)) other = other
sign_given (Some (goes (Some (integer z)) n next)) other = other
sign_given (Some (goes (Some (text t)) n next)) other = other
sign_given (Some (goes (Some (template parts)) n next)) other = other
sign_given (Some (goes None n next)) other = other
sign_given (Some (refuses fault n)) other = other
sign_given None other = other

abbrev taken_by : Option Step → ℕ
taken_by (Some (goes token n next)) = n
taken_by (Some (refuses fault n)) = n
taken_by None = 0

-- a sign is one of these
pub data Among : Sign → List Sign → Type 0 where
  first : {x : Sign} {xs : List Sign} → Among x (x ∷ xs)
  later : {x y : Sign} {xs : List Sign} → Among x xs → Among x (y ∷ xs)

-- no sign is longer than so many bytes, nor than the one before it
abbrev pub descending : ℕ → List Sign → Bool
descending most [] = true
descending most (x ∷ xs) = nat_le (length (spelling_of x)) most && descending (length (spelling_of x)) xs

among_within : (most : ℕ) {y : Sign} {xs : List Sign} → descending most xs ≡ true → Among y xs → length (spelling_of y) ≤ most
among_within most {xs = []} falls among = elim among [ ]
among_within most {y = y} {xs = _ ∷ xs} falls first = leb-true (length (spelling_of y)) most (and_parts (nat_le (length (spelling_of y)) most) (descending (length (spelling_of y)) xs) falls).0
among_within most {y = y} {xs = x ∷ xs} falls (later among) =
    let both = and_parts (nat_le (length (spelling_of x)) most) (descending (length (spelling_of x)) xs) falls
    in omega (arith, leb-true (length (spelling_of x)) most both.0, among_within (length (spelling_of x)) both.1 among)

pub found : (xs : List Sign) (bytes : List ℕ) (x : Sign) (n : ℕ) → first_sign xs bytes ≡ gives (sign x) n → (begins (spelling_of x) bytes ≡ true) × (n ≡ length (spelling_of x))
found [] bytes x n e = absurd (cc)
found (y ∷ xs) bytes x n e = decide (begins (spelling_of y) bytes) refl (found xs bytes x n)
  where
    decide : (v : Bool) → begins (spelling_of y) bytes ≡ v → (first_sign xs bytes ≡ gives (sign x) n → (begins (spelling_of x) bytes ≡ true) × (n ≡ length (spelling_of x))) → (begins (spelling_of x) bytes ≡ true) × (n ≡ length (spelling_of x))
    decide true v more =
        let given : gives (sign y) (length (spelling_of y)) ≡ gives (sign x) n = rw v at e
        in let same : y ≡ x = ap (λ s. sign_given s y) given
        in (subst (λ z. begins (spelling_of z) bytes ≡ true) same v, sym (ap taken_by given) ∙ ap (λ z. length (spelling_of z)) same)
    decide false v more = more (rw v at e)

pub longest : (most : ℕ) {xs : List Sign} (bytes : List ℕ) (x : Sign) {y : Sign} (n : ℕ) → descending most xs ≡ true → Among y xs → first_sign xs bytes ≡ gives (sign x) n → begins (spelling_of y) bytes ≡ true → length (spelling_of y) ≤ n
longest most {xs = []} bytes x n falls among e fits = elim among [ ]
longest most {xs = _ ∷ xs} bytes x {y = y} n falls first e fits =
    let given : gives (sign y) (length (spelling_of y)) ≡ gives (sign x) n = rw fits at e
    in omega (arith, ap taken_by given)
longest most {xs = z ∷ xs} bytes x {y = y} n falls (later among) e fits = decide (begins (spelling_of z) bytes) refl (λ e'. longest (length (spelling_of z)) bytes x n both.1 among e' fits)
  where
    both : (nat_le (length (spelling_of z)) most ≡ true) × (descending (length (spelling_of z)) xs ≡ true)
    both = and_parts (nat_le (length (spelling_of z)) most) (descending (length (spelling_of z)) xs) falls

    decide : (v : Bool) → begins (spelling_of z) bytes ≡ v → (first_sign xs bytes ≡ gives (sign x) n → length (spelling_of y) ≤ n) → length (spelling_of y) ≤ n
    decide true v more =
        let given : gives (sign z) (length (spelling_of z)) ≡ gives (sign x) n = rw v at e
        in omega (arith, ap taken_by given, among_within (length (spelling_of z)) both.1 among)
    decide false v more = more (rw v at e)

pub none : {xs : List Sign} (bytes : List ℕ) {y : Sign} → Among y xs → first_sign xs bytes ≡ None → begins (spelling_of y) bytes ≡ false
none {xs = []} bytes among e = elim among [ ]
none {xs = _ ∷ xs} bytes {y = y} first e = decide (begins (spelling_of y) bytes) refl
  where
    decide : (v : Bool) → begins (spelling_of y) bytes ≡ v → begins (spelling_of y) bytes ≡ false
    decide true v = absurd (let given = rw v at e in cc)
    decide false v = v
none {xs = z ∷ xs} bytes {y = y} (later among) e = decide (begins (spelling_of z) bytes) refl (none bytes among)
  where
    decide : (v : Bool) → begins (spelling_of z) bytes ≡ v → (first_sign xs bytes ≡ None → begins (spelling_of y) bytes ≡ false) → begins (spelling_of y) bytes ≡ false
    decide true v more = absurd (let given = rw v at e in cc)
    decide false v more = more (rw v at e)

-- every sign but the casts is one of all
listed : (x : Sign) → x ≢ s.CastInt → x ≢ s.CastString → Among x all_signs
listed s.Identical int string = first
listed s.NotIdentical int string = later first
listed s.CoalesceAssign int string = later (later first)
listed s.Equal int string = later (later (later first))
listed s.NotEqual int string = later (later (later (later first)))
listed s.LessGreater int string = later (later (later (later (later first))))
listed s.LessEqual int string = later (later (later (later (later (later first)))))
listed s.GreaterEqual int string = later (later (later (later (later (later (later first))))))
listed s.DoubleArrow int string = later (later (later (later (later (later (later (later first)))))))
listed s.And int string = later (later (later (later (later (later (later (later (later first))))))))
listed s.Or int string = later (later (later (later (later (later (later (later (later (later first)))))))))
listed s.Coalesce int string = later (later (later (later (later (later (later (later (later (later (later first))))))))))
listed s.JoinAssign int string = later (later (later (later (later (later (later (later (later (later (later (later first)))))))))))
listed s.AddAssign int string = later (later (later (later (later (later (later (later (later (later (later (later (later first))))))))))))
listed s.SubAssign int string = later (later (later (later (later (later (later (later (later (later (later (later (later (later first)))))))))))))
listed s.MulAssign int string = later (later (later (later (later (later (later (later (later (later (later (later (later (later (later first))))))))))))))
listed s.RemAssign int string = later (later (later (later (later (later (later (later (later (later (later (later (later (later (later (later first)))))))))))))))
listed s.Increment int string = later (later (later (later (later (later (later (later (later (later (later (later (later (later (later (later (later first))))))))))))))))
listed s.Decrement int string = later (later (later (later (later (later (later (later (later (later (later (later (later (later (later (later (later (later first)))))))))))))))))
listed s.Assign int string = later (later (later (later (later (later (later (later (later (later (later (later (later (later (later (later (later (later (later first))))))))))))))))))
listed s.Less int string = later (later (later (later (later (later (later (later (later (later (later (later (later (later (later (later (later (later (later (later first)))))))))))))))))))
listed s.Greater int string = later (later (later (later (later (later (later (later (later (later (later (later (later (later (later (later (later (later (later (later (later first))))))))))))))))))))
listed s.Not int string = later (later (later (later (later (later (later (later (later (later (later (later (later (later (later (later (later (later (later (later (later (later first)))))))))))))))))))))
listed s.Dot int string = later (later (later (later (later (later (later (later (later (later (later (later (later (later (later (later (later (later (later (later (later (later (later first))))))))))))))))))))))
listed s.Plus int string = later (later (later (later (later (later (later (later (later (later (later (later (later (later (later (later (later (later (later (later (later (later (later (later first)))))))))))))))))))))))
listed s.Minus int string = later (later (later (later (later (later (later (later (later (later (later (later (later (later (later (later (later (later (later (later (later (later (later (later (later first))))))))))))))))))))))))
listed s.Star int string = later (later (later (later (later (later (later (later (later (later (later (later (later (later (later (later (later (later (later (later (later (later (later (later (later (later first)))))))))))))))))))))))))
listed s.Percent int string = later (later (later (later (later (later (later (later (later (later (later (later (later (later (later (later (later (later (later (later (later (later (later (later (later (later (later first))))))))))))))))))))))))))
listed s.Question int string = later (later (later (later (later (later (later (later (later (later (later (later (later (later (later (later (later (later (later (later (later (later (later (later (later (later (later (later first)))))))))))))))))))))))))))
listed s.Colon int string = later (later (later (later (later (later (later (later (later (later (later (later (later (later (later (later (later (later (later (later (later (later (later (later (later (later (later (later (later first))))))))))))))))))))))))))))
listed s.Comma int string = later (later (later (later (later (later (later (later (later (later (later (later (later (later (later (later (later (later (later (later (later (later (later (later (later (later (later (later (later (later first)))))))))))))))))))))))))))))
listed s.Semicolon int string = later (later (later (later (later (later (later (later (later (later (later (later (later (later (later (later (later (later (later (later (later (later (later (later (later (later (later (later (later (later (later first))))))))))))))))))))))))))))))
listed s.OpenParen int string = later (later (later (later (later (later (later (later (later (later (later (later (later (later (later (later (later (later (later (later (later (later (later (later (later (later (later (later (later (later (later (later first)))))))))))))))))))))))))))))))
listed s.CloseParen int string = later (later (later (later (later (later (later (later (later (later (later (later (later (later (later (later (later (later (later (later (later (later (later (later (later (later (later (later (later (later (later (later (later first))))))))))))))))))))))))))))))))
listed s.OpenBracket int string = later (later (later (later (later (later (later (later (later (later (later (later (later (later (later (later (later (later (later (later (later (later (later (later (later (later (later (later (later (later (later (later (later (later first)))))))))))))))))))))))))))))))))
listed s.CloseBracket int string = later (later (later (later (later (later (later (later (later (later (later (later (later (later (later (later (later (later (later (later (later (later (later (later (later (later (later (later (later (later (later (later (later (later (later first))))))))))))))))))))))))))))))))))
listed s.OpenBrace int string = later (later (later (later (later (later (later (later (later (later (later (later (later (later (later (later (later (later (later (later (later (later (later (later (later (later (later (later (later (later (later (later (later (later (later (later first)))))))))))))))))))))))))))))))))))
listed s.CloseBrace int string = later (later (later (later (later (later (later (later (later (later (later (later (later (later (later (later (later (later (later (later (later (later (later (later (later (later (later (later (later (later (later (later (later (later (later (later (later first))))))))))))))))))))))))))))))))))))
listed s.CastInt int string = absurd (int refl)
listed s.CastString int string = absurd (string refl)

pub sign_found : (bytes : List ℕ) (x : Sign) (n : ℕ) → sign_step bytes ≡ gives (sign x) n → (begins (spelling_of x) bytes ≡ true) × (n ≡ length (spelling_of x))
unfolding sign_step
sign_found bytes x n e = found all_signs bytes x n e

pub sign_longest : (bytes : List ℕ) (x y : Sign) (n : ℕ) → sign_step bytes ≡ gives (sign x) n → y ≢ s.CastInt → y ≢ s.CastString → begins (spelling_of y) bytes ≡ true → length (spelling_of y) ≤ n
unfolding sign_step
sign_longest bytes x y n e int string fits = longest 3 bytes x n refl (listed y int string) e fits

pub sign_none : (bytes : List ℕ) (y : Sign) → sign_step bytes ≡ None → y ≢ s.CastInt → y ≢ s.CastString → begins (spelling_of y) bytes ≡ false
unfolding sign_step
sign_none bytes y e int string = none bytes (listed y int string) e
