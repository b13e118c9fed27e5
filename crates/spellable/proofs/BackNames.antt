-- The names that the grammar makes of terminals are spellable.
use Rattle.std.proofs.Common.{◌≡◌, ◌∙◌, ℕ, Bool, true, false, not, ◌&&◌, ◌||◌, if◌then◌else◌, List, [], ◌∷◌, refl, ap, sym, subst, arith, Option, Some, None}
use Rattle.std.specs.Prelude.{nat_eq, is_some, codes, bytes_eq}
use Rattle.std.specs.List.{list_all}
use Rattle.std.specs.Char.{to_ascii_lowercase}
use Rattle.std.specs.Str.{str_to_ascii_lowercase, str_eq_ignore_ascii_case}
use Rattle.std.proofs.lemmas.Bool.Decides.{nat_tests}
use Rattle.text_base.specs.Exactness.{exact_bytes}
use Rattle.script_grammar.specs.declared.keyword.Keyword.{Keyword}
use Rattle.script_grammar.specs.declared.keyword.Keyword.TheVariants as word
use Rattle.lexical_grammar.specs.Characters.{is_name_start, is_name_byte}
use Rattle.script_grammar.specs.Terminals.{same_bytes, find_word, loop_words, branch_words, jump_words, value_words, cased_word, first_of_two, keyword_of}
use Rattle.lexical_grammar.specs.Spelled.{IsName}
use Rattle.spellable.specs.Spellable.{is_name, is_call_name}
use Rattle.spellable.proofs.Halves.{halves}

pub and_true : (a b : Bool) → a ≡ true → b ≡ true → (a && b) ≡ true
and_true a b h k = rw (h, k) refl

pub name_of : (x : List ℕ) → IsName x → is_name x ≡ true
name_of [] h = absurd h
name_of (b ∷ more) h = and_true (is_name_start b) (list_all is_name_byte more) h.0 h.1

pub same_self : (xs : List ℕ) → same_bytes xs xs ≡ true
same_self [] = refl
same_self (x ∷ xs) = rw (self x) (same_self xs)
  where
    self : (n : ℕ) → nat_eq n n ≡ true
    self n = grind (arith, nat_tests)

-- letters in lower case
start_lower : (b : ℕ) → is_name_start b ≡ true → is_name_start (to_ascii_lowercase b) ≡ true
start_lower b h = grind (arith, nat_tests)

byte_lower : (b : ℕ) → is_name_byte b ≡ true → is_name_byte (to_ascii_lowercase b) ≡ true
byte_lower b h = grind (arith, nat_tests)

twice_lower : (b : ℕ) → to_ascii_lowercase (to_ascii_lowercase b) ≡ to_ascii_lowercase b
twice_lower b = grind (arith, nat_tests)

all_lower : (bytes : List ℕ) → list_all is_name_byte bytes ≡ true → list_all is_name_byte (str_to_ascii_lowercase bytes) ≡ true
all_lower [] h = refl
all_lower (b ∷ bytes) h = let both = halves (is_name_byte b) (list_all is_name_byte bytes) h in and_true (is_name_byte (to_ascii_lowercase b)) (list_all is_name_byte (str_to_ascii_lowercase bytes)) (byte_lower b both.0) (all_lower bytes both.1)

lower_name : (f : List ℕ) → IsName f → IsName (str_to_ascii_lowercase f)
lower_name [] h = h
lower_name (b ∷ more) h = (start_lower b h.0, all_lower more h.1)

lower_lower : (f : List ℕ) → str_to_ascii_lowercase (str_to_ascii_lowercase f) ≡ str_to_ascii_lowercase f
lower_lower [] = refl
lower_lower (b ∷ f) = ap (λ x. x ∷ str_to_ascii_lowercase (str_to_ascii_lowercase f)) (twice_lower b) ∙ ap (λ xs. to_ascii_lowercase b ∷ xs) (lower_lower f)

-- a word is found or not in any case
same_case : (f w : List ℕ) → str_eq_ignore_ascii_case (str_to_ascii_lowercase f) w ≡ str_eq_ignore_ascii_case f w
same_case f w = ap (λ x. bytes_eq x (str_to_ascii_lowercase w)) (lower_lower f)

same_found : (rows : List (List ℕ × Keyword)) (f : List ℕ) → find_word rows (str_to_ascii_lowercase f) ≡ find_word rows f
same_found [] f = refl
same_found (r ∷ rows) f = ap (λ b. if b then Some r.1 else find_word rows (str_to_ascii_lowercase f)) (same_case f r.0) ∙ ap (λ o. if str_eq_ignore_ascii_case f r.0 then Some r.1 else o) (same_found rows f)

neither_found : (a b : Option Keyword) → first_of_two a b ≡ None → (a ≡ None) × (b ≡ None)
neither_found None b h = (refl, h)
neither_found (Some k) b h = absurd (cc)

-- none of the three constants in any case
miscased : List ℕ → Bool
miscased w = str_eq_ignore_ascii_case w (codes "PHP_EOL") || (str_eq_ignore_ascii_case w (codes "PHP_INT_MAX") || str_eq_ignore_ascii_case w (codes "PHP_INT_MIN"))

cased_by : (a b c d : Bool) → (if a then Some word.PhpEol else (if b then Some word.PhpIntMax else (if c then Some word.PhpIntMin else (if d then Some word.Miscased else None)))) ≡ None → d ≡ false
cased_by false false false false h = refl
cased_by true b c d h = absurd (cc)
cased_by false true c d h = absurd (cc)
cased_by false false true d h = absurd (cc)
cased_by false false false true h = absurd (cc)

none_by : (a b c d : Bool) → (a ≡ true → d ≡ true) → (b ≡ true → d ≡ true) → (c ≡ true → d ≡ true) → d ≡ false → (if a then Some word.PhpEol else (if b then Some word.PhpIntMax else (if c then Some word.PhpIntMin else (if d then Some word.Miscased else None)))) ≡ None
none_by a b c true f g h e = absurd (cc)
none_by false false false false f g h e = refl
none_by true b c false f g h e = absurd (let x = f refl in cc)
none_by false true c false f g h e = absurd (let x = g refl in cc)
none_by false false true false f g h e = absurd (let x = h refl in cc)

is_case_of : (w c : List ℕ) → miscased c ≡ true → same_bytes w c ≡ true → miscased w ≡ true
is_case_of w c h same = let P : List ℕ → Type 0 = λ x. miscased x ≡ true in subst P (sym (exact_bytes w c same)) h

no_case : (w : List ℕ) → miscased w ≡ false → cased_word w ≡ None
unfolding miscased
no_case w h =
    none_by (same_bytes w (codes "PHP_EOL")) (same_bytes w (codes "PHP_INT_MAX")) (same_bytes w (codes "PHP_INT_MIN")) (miscased w)
    (is_case_of w (codes "PHP_EOL") refl) (is_case_of w (codes "PHP_INT_MAX") refl) (is_case_of w (codes "PHP_INT_MIN") refl) h

case_none : (w : List ℕ) → cased_word w ≡ None → miscased w ≡ false
unfolding miscased
case_none w h = cased_by (same_bytes w (codes "PHP_EOL")) (same_bytes w (codes "PHP_INT_MAX")) (same_bytes w (codes "PHP_INT_MIN")) (miscased w) h

same_miscased : (f : List ℕ) → miscased (str_to_ascii_lowercase f) ≡ miscased f
unfolding miscased
same_miscased f = rw (same_case f (codes "PHP_EOL"), same_case f (codes "PHP_INT_MAX"), same_case f (codes "PHP_INT_MIN")) refl

all_none : (a b c d e : Option Keyword) → a ≡ None → b ≡ None → c ≡ None → d ≡ None → e ≡ None → first_of_two a (first_of_two b (first_of_two c (first_of_two d e))) ≡ None
all_none a b c d e f g h i j = rw (f, g, h, i, j) refl

lower_no_keyword : (f : List ℕ) → keyword_of f ≡ None → keyword_of (str_to_ascii_lowercase f) ≡ None
lower_no_keyword f h =
    let one = neither_found (find_word loop_words f) (first_of_two (find_word branch_words f) (first_of_two (find_word jump_words f) (first_of_two (find_word value_words f) (cased_word f)))) h
    in let two = neither_found (find_word branch_words f) (first_of_two (find_word jump_words f) (first_of_two (find_word value_words f) (cased_word f))) one.1
    in let three = neither_found (find_word jump_words f) (first_of_two (find_word value_words f) (cased_word f)) two.1
    in let four = neither_found (find_word value_words f) (cased_word f) three.1
    in let l = str_to_ascii_lowercase f
    in all_none (find_word loop_words l) (find_word branch_words l) (find_word jump_words l) (find_word value_words l) (cased_word l)
    (same_found loop_words f ∙ one.0) (same_found branch_words f ∙ two.0) (same_found jump_words f ∙ three.0) (same_found value_words f ∙ four.0) (no_case l (same_miscased f ∙ case_none f four.1))

-- a name that is no keyword is, in lower case, the name of a call
pub lower_call_name : (f : List ℕ) → IsName f → keyword_of f ≡ None → is_call_name (str_to_ascii_lowercase f) ≡ true
lower_call_name f is none =
    let l = str_to_ascii_lowercase f
    in and_true (is_name l) (same_bytes (str_to_ascii_lowercase l) l && not (is_some (keyword_of l))) (name_of l (lower_name f is))
    (and_true (same_bytes (str_to_ascii_lowercase l) l) (not (is_some (keyword_of l))) (ap (λ x. same_bytes x l) (lower_lower f) ∙ same_self l) (ap (λ o. not (is_some o)) (lower_no_keyword f none)))
