-- Bytes outside PHP, as the lexical grammar gives them, are those that can be written: where the opener stands behind them, none begins in them.
use Rattle.std.proofs.Common.{◌≡◌, ◌∙◌, ℕ, suc, Bool, true, false, ◌&&◌, ◌||◌, if◌then◌else◌, List, [], ◌∷◌, ◌++◌, length, take, drop, refl, ap, sym, arith, Option, Some, None, take-append-drop}
use Rattle.std.specs.Prelude.{nat_eq, is_some, codes}
use Rattle.lexical_grammar.specs.Characters.{begins, before, lower, is_gap, is_line_end}
use Rattle.lexical_grammar.specs.Cuts.{is_opener, opener_step, php_opener}
use Rattle.php_syntax.specs.Tokens.{name}
use Rattle.lexical_grammar.specs.Steps.{Step, goes, inside, or_else}
use Rattle.spellable.specs.Spellable.{is_inline}
use Rattle.spellable.proofs.ShapeLemmas.{same_number}
use Rattle.spellable.proofs.CutOutside.{six_bytes, opener_more, is_php, opener}

-- `<?=` stands first
abbrev pub is_echo : ℕ → ℕ → ℕ → Bool
is_echo a b c = begins (codes "<?=") (a ∷ b ∷ c ∷ [])

pub or_false : (p q : Bool) → p ≡ false → q ≡ false → (p || q) ≡ false
or_false p q h k = rw (h, k) refl

pub one_false : (x : Bool) → (x && false) ≡ false
one_false true = refl
one_false false = refl

pub two_false : (x y : Bool) → (x && (y && false)) ≡ false
two_false true y = one_false y
two_false false y = refl

three_false : (x y z : Bool) → (x && (y && (z && false))) ≡ false
three_false true y z = two_false y z
three_false false y z = refl

four_false : (x y z u : Bool) → (x && (y && (z && (u && false)))) ≡ false
four_false true y z u = three_false y z u
four_false false y z u = refl

-- where the opener follows so many bytes, no opener begins in the first of them, but perhaps `<?=`
pub second_byte : (a : ℕ) → is_opener (a ∷ opener) ≡ false
second_byte a = six_bytes a 60 63 112 104 112 (32 ∷ []) ∙ or_false (is_echo a 60 63) (is_php a 60 63 112 104 && (is_gap 112 || is_line_end 112)) (one_false (nat_eq 60 a)) (ap (λ v. v && (is_gap 112 || is_line_end 112)) (one_false (nat_eq (lower a) 60)))

pub third_byte : (a b : ℕ) → is_opener (a ∷ b ∷ opener) ≡ false
third_byte a b = six_bytes a b 60 63 112 104 (112 ∷ 32 ∷ []) ∙ or_false (is_echo a b 60) (is_php a b 60 63 112 && (is_gap 104 || is_line_end 104)) (two_false (nat_eq 60 a) (nat_eq 63 b)) (ap (λ v. v && (is_gap 104 || is_line_end 104)) (two_false (nat_eq (lower a) 60) (nat_eq (lower b) 63)))

pub fourth_byte : (a b c : ℕ) → is_echo a b c ≡ false → is_opener (a ∷ b ∷ c ∷ opener) ≡ false
fourth_byte a b c h = six_bytes a b c 60 63 112 (104 ∷ 112 ∷ 32 ∷ []) ∙ or_false (is_echo a b c) (is_php a b c 60 63 && (is_gap 112 || is_line_end 112)) h (ap (λ v. v && (is_gap 112 || is_line_end 112)) (three_false (nat_eq (lower a) 60) (nat_eq (lower b) 63) (nat_eq (lower c) 112)))

pub fifth_byte : (a b c d : ℕ) → is_echo a b c ≡ false → is_opener (a ∷ b ∷ c ∷ d ∷ opener) ≡ false
fifth_byte a b c d h = six_bytes a b c d 60 63 (112 ∷ 104 ∷ 112 ∷ 32 ∷ []) ∙ or_false (is_echo a b c) (is_php a b c d 60 && (is_gap 63 || is_line_end 63)) h (ap (λ v. v && (is_gap 63 || is_line_end 63)) (four_false (nat_eq (lower a) 60) (nat_eq (lower b) 63) (nat_eq (lower c) 112) (nat_eq (lower d) 104)))

pub sixth_byte : (a b c d e : ℕ) → is_echo a b c ≡ false → is_opener (a ∷ b ∷ c ∷ d ∷ e ∷ opener) ≡ false
sixth_byte a b c d e h = six_bytes a b c d e 60 (63 ∷ 112 ∷ 104 ∷ 112 ∷ 32 ∷ []) ∙ or_false (is_echo a b c) (is_php a b c d e && (is_gap 60 || is_line_end 60)) h (one_false (is_php a b c d e))

-- where no opener begins, no `<?=` does
no_echo_of : (p : Bool) (echo : Step) (o : Option Step) → is_some (or_else (if p then Some echo else None) o) ≡ false → p ≡ false
no_echo_of true echo o h = absurd (cc)
no_echo_of false echo o h = refl

no_echo : (a b c : ℕ) (rest : List ℕ) → is_opener (a ∷ b ∷ c ∷ rest) ≡ false → is_echo a b c ≡ false
unfolding opener_step
no_echo a b c rest h = no_echo_of (is_echo a b c) (goes (Some (name (codes "echo"))) 3 inside) (php_opener (a ∷ b ∷ c ∷ rest)) h

-- a place where no opener begins is none where the opener follows in place of the rest
still_none : (b : ℕ) (s rest : List ℕ) → is_opener (b ∷ (s ++ rest)) ≡ false → is_opener (b ∷ (s ++ opener)) ≡ false
still_none a [] rest h = second_byte a
still_none a (b ∷ []) rest h = third_byte a b
still_none a (b ∷ c ∷ []) rest h = fourth_byte a b c (no_echo a b c rest h)
still_none a (b ∷ c ∷ d ∷ []) rest h = fifth_byte a b c d (no_echo a b c (d ∷ rest) h)
still_none a (b ∷ c ∷ d ∷ e ∷ []) rest h = sixth_byte a b c d e (no_echo a b c (d ∷ e ∷ rest) h)
still_none a (b ∷ c ∷ d ∷ e ∷ f ∷ s) rest h = opener_more (a ∷ b ∷ c ∷ d ∷ e ∷ f ∷ s) opener (omega arith) ∙ sym (opener_more (a ∷ b ∷ c ∷ d ∷ e ∷ f ∷ s) rest (omega arith)) ∙ h

abbrev Front : List ℕ → List ℕ
Front bytes = take (before is_opener bytes) bytes

pub at_opener : before is_opener opener ≡ 0
unfolding opener_step
at_opener = refl

-- the bytes before the first opener, with the opener behind them
front_before : (bytes : List ℕ) → before is_opener (Front bytes ++ opener) ≡ length (Front bytes)
front_before [] = at_opener
front_before (b ∷ bytes) = by (is_opener (b ∷ bytes)) refl (front_before bytes)
  where
    by : (v : Bool) → is_opener (b ∷ bytes) ≡ v → before is_opener (Front bytes ++ opener) ≡ length (Front bytes) → before is_opener (take (if v then 0 else suc (before is_opener bytes)) (b ∷ bytes) ++ opener) ≡ length (take (if v then 0 else suc (before is_opener bytes)) (b ∷ bytes))
    by true e more = at_opener
    by false e more =
        let whole : is_opener (b ∷ (Front bytes ++ drop (before is_opener bytes) bytes)) ≡ false = ap (λ w. is_opener (b ∷ w)) (take-append-drop (before is_opener bytes) bytes) ∙ e
        in rw (still_none b (Front bytes) (drop (before is_opener bytes) bytes) whole) (ap suc more)

pub front_is_inline : (b : ℕ) (bytes : List ℕ) → is_opener (b ∷ bytes) ≡ false → is_inline (Front (b ∷ bytes)) ≡ true
front_is_inline b bytes h = by (is_opener (b ∷ bytes)) h (front_before (b ∷ bytes))
  where
    by : (v : Bool) → v ≡ false → before is_opener (take (if v then 0 else suc (before is_opener bytes)) (b ∷ bytes) ++ opener) ≡ length (take (if v then 0 else suc (before is_opener bytes)) (b ∷ bytes)) → is_inline (take (if v then 0 else suc (before is_opener bytes)) (b ∷ bytes)) ≡ true
    by true e more = absurd (cc)
    by false e more = same_number (before is_opener ((b ∷ Front bytes) ++ opener)) (length (b ∷ Front bytes)) more
