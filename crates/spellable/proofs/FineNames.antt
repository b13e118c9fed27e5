-- What is read as a name is one, and what is read as an integer is in range.
use Rattle.std.proofs.Common.{◌≡◌, ℕ, suc, ◌+◌, ◌<◌, pos, Bool, true, false, ◌&&◌, if◌then◌else◌, List, [], ◌∷◌, length, take, drop, refl, sym, arith, Option, Some, None}
use Rattle.std.specs.Prelude.{◌==◌, nat_le, nat_lt, codes}
use Rattle.std.specs.List.{prefix_len, list_all}
use Rattle.std.proofs.lemmas.Bool.Decides.{nat_tests}
use Rattle.php_syntax.specs.Tokens.{PlainKind, inline, variable, name, integer, text, template, sign, PlainPart, plain_part, read_part}
use Rattle.lexical_grammar.specs.Characters.{is_name_start, is_name_byte, is_digit, head_is, begins, name_length, digits_length, value_of, largest}
use Rattle.lexical_grammar.specs.Steps.{Step, goes, refuses, gives, faults, or_else}
use Rattle.lexical_grammar.specs.declared.fault.LexicalFault.TheVariants.{Float, BigInt, BadByte}
use Rattle.lexical_grammar.specs.Words.{name_step, variable_step, number_step, digits_step, goes_on_as_float, has_leading_zero}
use Rattle.lexical_grammar.specs.Spelled.{IsName}
use Rattle.spellable.specs.Spellable.{is_inline, is_unsigned}
use Rattle.spellable.proofs.CutRead.{AreKeys}

abbrev pub IsPart : PlainPart → Type 0
IsPart (plain_part t) = Unit {0}
IsPart (read_part x ks) = IsName x × AreKeys ks

abbrev pub EachPart : List PlainPart → Type 0
EachPart [] = Unit {0}
EachPart (p ∷ ps) = IsPart p × EachPart ps

-- some part, and not only one that reads nothing
abbrev pub ReadsSome : List PlainPart → Type 0
ReadsSome [] = ⊥
ReadsSome (plain_part t ∷ []) = ⊥
ReadsSome _ = Unit {0}

-- a token as the lexical grammar gives it
abbrev pub IsKind : PlainKind → Type 0
IsKind (inline t) = is_inline t ≡ true
IsKind (variable x) = IsName x
IsKind (name w) = IsName w
IsKind (integer z) = is_unsigned z ≡ true
IsKind (text t) = Unit {0}
IsKind (template ps) = EachPart ps × ReadsSome ps
IsKind (sign s) = Unit {0}

abbrev pub IsGiven : Option PlainKind → Type 0
IsGiven None = Unit {0}
IsGiven (Some k) = IsKind k

abbrev pub IsStep : Step → Type 0
IsStep (goes token n next) = IsGiven token
IsStep (refuses fault n) = Unit {0}

abbrev pub IsMaybeStep : Option Step → Type 0
IsMaybeStep None = Unit {0}
IsMaybeStep (Some s) = IsStep s

pub either_step : (a b : Option Step) → IsMaybeStep a → IsMaybeStep b → IsMaybeStep (or_else a b)
either_step None b f g = g
either_step (Some s) b f g = f

pub step_by : (t : Bool) (a b : Option Step) → (t ≡ true → IsMaybeStep a) → (t ≡ false → IsMaybeStep b) → IsMaybeStep (if t then a else b)
step_by true a b f g = f refl
step_by false a b f g = g refl

one_plus : (n : ℕ) → 1 + n ≡ suc n
one_plus n = omega arith

taken_all : (p : ℕ → Bool) (bytes : List ℕ) → list_all p (take (prefix_len p bytes) bytes) ≡ true
taken_all p [] = refl
taken_all p (b ∷ bytes) = by (p b) refl (taken_all p bytes)
  where
    by : (v : Bool) → p b ≡ v → list_all p (take (prefix_len p bytes) bytes) ≡ true → list_all p (take (if v then 1 + prefix_len p bytes else 0) (b ∷ bytes)) ≡ true
    by true e more = rw (one_plus (prefix_len p bytes)) (rw e more)
    by false e more = refl

pub start_passes : (b : ℕ) → is_name_start b ≡ true → is_name_byte b ≡ true
start_passes b h = rw h refl

-- where a name is at least one byte long, it is a name
pub name_taken : (bytes : List ℕ) → 0 < name_length bytes → IsName (take (name_length bytes) bytes)
name_taken [] h = absurd (omega arith)
name_taken (b ∷ bytes) h = by (is_name_start b) refl
  where
    by : (v : Bool) → is_name_start b ≡ v → IsName (take (name_length (b ∷ bytes)) (b ∷ bytes))
    by true e = rw e (rw (one_plus (prefix_len is_name_byte bytes)) (e, taken_all is_name_byte bytes))
    by false e = absurd (let none : name_length (b ∷ bytes) ≡ 0 = rw e refl in omega arith)

some_length : (n : ℕ) → (n == 0) ≡ false → 0 < n
some_length n h = grind (arith, nat_tests)

pub more_than_none : (n : ℕ) → nat_lt 0 n ≡ true → 0 < n
more_than_none n h = grind (arith, nat_tests)

pub both_of : (a b : Bool) → (a && b) ≡ true → b ≡ true
both_of true b h = h
both_of false b h = absurd (cc)

pub is_name_step : (bytes : List ℕ) → IsMaybeStep (name_step bytes)
unfolding name_step
is_name_step bytes = step_by (name_length bytes == 0) None (gives (name (take (name_length bytes) bytes)) (name_length bytes)) (λ h. tt) (λ h. name_taken bytes (some_length (name_length bytes) h))

pub is_variable_step : (bytes : List ℕ) → IsMaybeStep (variable_step bytes)
unfolding variable_step
is_variable_step bytes =
    let n = name_length (drop 1 bytes)
    in step_by (begins (codes "$") bytes && nat_lt 0 n) (gives (variable (take n (drop 1 bytes))) (1 + n)) None (λ h. name_taken (drop 1 bytes) (more_than_none n (both_of (begins (codes "$") bytes) (nat_lt 0 n) h))) (λ h. tt)

pub small : (n : ℕ) → nat_lt largest n ≡ false → nat_le n largest ≡ true
small n h = grind (arith, nat_tests)

-- what digits give, by four tests of them
abbrev digits_by : Bool → Bool → Bool → Bool → ℕ → ℕ → Option Step
digits_by float_follows zero_first large named n m =
    if float_follows then faults Float 0 else if zero_first then faults BadByte 1 else if large then faults BigInt 0 else if named then faults BadByte m else gives (integer (pos n)) m

is_digits_step : (float_follows zero_first large named : Bool) (n m : ℕ) → large ≡ nat_lt largest n
    → IsMaybeStep (digits_by float_follows zero_first large named n m)
is_digits_step true z l d n m e = tt
is_digits_step false true l d n m e = tt
is_digits_step false false true d n m e = tt
is_digits_step false false false true n m e = tt
is_digits_step false false false false n m e = small n (sym e)

pub is_number_step : (bytes : List ℕ) → IsMaybeStep (number_step bytes)
unfolding number_step
is_number_step bytes = by (nat_lt 0 (digits_length bytes)) (begins (codes ".") bytes && head_is is_digit (drop 1 bytes)) (take (digits_length bytes) bytes) (drop (digits_length bytes) bytes)
  where
    by : (some dotted : Bool) (digits rest : List ℕ) → IsMaybeStep (if some then digits_step digits rest else if dotted then faults Float 0 else None)
    by true dotted digits rest = is_digits_step (goes_on_as_float rest) (has_leading_zero digits) (nat_lt largest (value_of digits)) (head_is is_name_byte rest) (value_of digits) (length digits) refl
    by false true digits rest = tt
    by false false digits rest = tt
