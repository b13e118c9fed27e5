-- Bytes can stand outside PHP where there are some and no opener begins in them.
use Rattle.std.proofs.Common.{◌≡◌, ◌∙◌, ℕ, suc, ◌+◌, ◌<◌, ◌≤◌, Bool, true, false, not, ◌&&◌, ◌||◌, if◌then◌else◌, List, [], ◌∷◌, ◌++◌, length, drop, refl, ap, sym, arith, drop-cons, add-one, zero}
use Rattle.std.specs.Prelude.{◌==◌, nat_eq, codes}
use Rattle.std.specs.Char.{to_ascii_lowercase}
use Rattle.std.specs.Str.{str_eq_ignore_ascii_case}
use Rattle.std.proofs.lemmas.Bool.Decides.{nat_tests}
use Rattle.lexical_grammar.specs.Characters.{before, lower, is_gap, is_line_end, is_blank}
use Rattle.lexical_grammar.specs.Cuts.{is_opener}
use Rattle.spellable.specs.Spellable.{is_inline}
use Rattle.php_writer.specs.Openers.{opens, none_opens}
use Rattle.spellable.proofs.CutOutside.{six_bytes, is_php, opener}
use Rattle.spellable.proofs.FineInline.{is_echo, second_byte, third_byte, fourth_byte, fifth_byte, sixth_byte, or_false, one_false, two_false, at_opener}

lower_is : (b : ℕ) → to_ascii_lowercase b ≡ lower b
lower_is b = grind (arith, nat_tests)

php_is : (a b c d e : ℕ) → str_eq_ignore_ascii_case (a ∷ b ∷ c ∷ d ∷ e ∷ []) (codes "<?php") ≡ is_php a b c d e
php_is a b c d e = rw (lower_is a, lower_is b, lower_is c, lower_is d, lower_is e) refl

long : (a b c d e f : ℕ) (s : List ℕ) → opens (a ∷ b ∷ c ∷ d ∷ e ∷ f ∷ s) ≡ is_opener (a ∷ b ∷ c ∷ d ∷ e ∷ f ∷ (s ++ opener))
unfolding opens
long a b c d e f s = ap (λ v. is_echo a b c || (v && is_blank f)) (php_is a b c d e) ∙ sym (six_bytes a b c d e f (s ++ opener))

-- too short for `<?php` and a blank
short_by : (p q : Bool) (v : Bool) → (p ≡ false → v ≡ false) → (p ≡ true → v ≡ true) → (p || (q && false)) ≡ v
short_by true q v f g = sym (g refl)
short_by false q v f g = one_false q ∙ sym (f refl)

-- `<?=` opens whatever follows
echo_opens : (a b c d e f : ℕ) (s : List ℕ) → is_echo a b c ≡ true → is_opener (a ∷ b ∷ c ∷ d ∷ e ∷ f ∷ s) ≡ true
echo_opens a b c d e f s h = six_bytes a b c d e f s ∙ ap (λ v. v || (is_php a b c d e && (is_gap f || is_line_end f))) h

pub opens_is : (b : ℕ) (s : List ℕ) → opens (b ∷ s) ≡ is_opener (b ∷ (s ++ opener))
unfolding opens
opens_is a [] = or_false (nat_eq 60 a && false) (nat_eq (to_ascii_lowercase a) 60 && false && false) (one_false (nat_eq 60 a)) (one_false (nat_eq (to_ascii_lowercase a) 60 && false)) ∙ sym (second_byte a)
opens_is a (b ∷ []) = or_false (nat_eq 60 a && (nat_eq 63 b && false)) (str_eq_ignore_ascii_case (a ∷ b ∷ []) (codes "<?php") && false) (two_false (nat_eq 60 a) (nat_eq 63 b)) (one_false (str_eq_ignore_ascii_case (a ∷ b ∷ []) (codes "<?php"))) ∙ sym (third_byte a b)
opens_is a (b ∷ c ∷ []) = short_by (is_echo a b c) (str_eq_ignore_ascii_case (a ∷ b ∷ c ∷ []) (codes "<?php")) (is_opener (a ∷ b ∷ c ∷ opener)) (fourth_byte a b c) (echo_opens a b c 60 63 112 (104 ∷ 112 ∷ 32 ∷ []))
opens_is a (b ∷ c ∷ d ∷ []) = short_by (is_echo a b c) (str_eq_ignore_ascii_case (a ∷ b ∷ c ∷ d ∷ []) (codes "<?php")) (is_opener (a ∷ b ∷ c ∷ d ∷ opener)) (fifth_byte a b c d) (echo_opens a b c d 60 63 (112 ∷ 104 ∷ 112 ∷ 32 ∷ []))
opens_is a (b ∷ c ∷ d ∷ e ∷ []) = short_by (is_echo a b c) (str_eq_ignore_ascii_case (a ∷ b ∷ c ∷ d ∷ e ∷ []) (codes "<?php")) (is_opener (a ∷ b ∷ c ∷ d ∷ e ∷ opener)) (sixth_byte a b c d e) (echo_opens a b c d e 60 (63 ∷ 112 ∷ 104 ∷ 112 ∷ 32 ∷ []))
opens_is a (b ∷ c ∷ d ∷ e ∷ f ∷ s) = long a b c d e f s

by_opener : (v w : Bool) (m n : ℕ) → w ≡ (m == n) → ((if v then 0 else suc m) == suc n) ≡ (not v && w)
by_opener true w m n h = grind (arith, nat_tests)
by_opener false w m n h = grind (arith, nat_tests)

none_is : (t : List ℕ) → none_opens t ≡ (before is_opener (t ++ opener) == length t)
unfolding none_opens
none_is [] = sym (ap (λ n. n == 0) at_opener)
none_is (b ∷ t) = ap (λ v. not v && none_opens t) (opens_is b t) ∙ sym (by_opener (is_opener (b ∷ (t ++ opener))) (none_opens t) (before is_opener (t ++ opener)) (length t) (none_is t))

pub inline_is : (t : List ℕ) → 0 < length t → is_inline t ≡ none_opens t
inline_is [] h = absurd (omega arith)
inline_is (b ∷ t) h = sym (none_is (b ∷ t))

pub empty_is : (t : List ℕ) → length t ≡ 0 → is_inline t ≡ false
empty_is [] h = refl
empty_is (b ∷ t) h = absurd (omega arith)

pub none_drop : (t : List ℕ) (k : ℕ) → k < length t → none_opens (drop k t) ≡ (not (opens (drop k t)) && none_opens (drop (k + 1) t))
unfolding none_opens
none_drop t k h = rw (drop-cons t k 0, add-one) refl

pub none_end : (t : List ℕ) (k : ℕ) → length t ≤ k → none_opens (drop k t) ≡ true
unfolding none_opens
none_end [] zero h = refl
none_end [] (suc k) h = refl
none_end (b ∷ t) zero h = absurd (omega arith)
none_end (b ∷ t) (suc k) h = none_end t k (omega arith)

pub opens_here : (t : List ℕ) (k : ℕ) → k < length t → opens (drop k t) ≡ true → none_opens (drop k t) ≡ none_opens t → false ≡ none_opens t
opens_here t k h e same = sym (ap (λ v. not v && none_opens (drop (k + 1) t)) e) ∙ sym (none_drop t k h) ∙ same

pub opens_later : (t : List ℕ) (k : ℕ) → k < length t → opens (drop k t) ≡ false → none_opens (drop k t) ≡ none_opens t → none_opens (drop (k + 1) t) ≡ none_opens t
opens_later t k h e same = sym (ap (λ v. not v && none_opens (drop (k + 1) t)) e) ∙ sym (none_drop t k h) ∙ same
