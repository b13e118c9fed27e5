-- A text is cut into its lines, one after another.
use Rattle.std.proofs.Common.{◌≡◌, ◌∙◌, ◌≤◌, ◌+◌, ◌-◌, ◌++◌, ◌==◌, ℕ, zero, suc, Bool, true, false, List, [], ◌∷◌, length, map, take, drop, refl, sym, ap, subst, inl, inr, arith, eqb-true, if◌then◌else◌}
use Rattle.std.specs.Prelude.{◌⊎◌, slice_index}
use Rattle.std.specs.Str.{IsUtf8}
use Rattle.std.proofs.lemmas.List.{append-nil, append_assoc}
use Rattle.site_check.specs.Listed.{put_first, lines_of, without_return, lines_in, names_of, names_in, AreUtf8, IsFirstBad, line_length, HasRead}

-- the first line, and those behind it
pub first_line : (byte : ℕ) (bytes : List ℕ)
    → lines_of (byte ∷ bytes) ≡ take (line_length (byte ∷ bytes)) (byte ∷ bytes) ∷ lines_of (drop (suc (line_length (byte ∷ bytes))) (byte ∷ bytes))
first_line byte [] = by (byte == 10) refl where
  by : (b : Bool) → (byte == 10) ≡ b → lines_of (byte ∷ []) ≡ take (line_length (byte ∷ [])) (byte ∷ []) ∷ lines_of (drop (suc (line_length (byte ∷ []))) (byte ∷ []))
  by true e = rw e refl
  by false e = rw e refl
first_line byte (next ∷ bytes) = by (byte == 10) refl (first_line next bytes) where
  by : (b : Bool) → (byte == 10) ≡ b
      → lines_of (next ∷ bytes) ≡ take (line_length (next ∷ bytes)) (next ∷ bytes) ∷ lines_of (drop (suc (line_length (next ∷ bytes))) (next ∷ bytes))
      → lines_of (byte ∷ next ∷ bytes) ≡ take (line_length (byte ∷ next ∷ bytes)) (byte ∷ next ∷ bytes) ∷ lines_of (drop (suc (line_length (byte ∷ next ∷ bytes))) (byte ∷ next ∷ bytes))
  by true e rest = rw e refl
  by false e rest = rw e (ap (put_first byte) rest)

-- a line whose last byte is a CR, and one whose last byte is another
last_of : (bytes : List ℕ) → 1 ≤ length bytes → suc (length bytes) - 1 ≡ suc (length bytes - 1)
last_of bytes some = omega (arith, some)

pub return_cut : (line : List ℕ) → 1 ≤ length line → slice_index line (length line - 1) ≡ 13 → take (length line - 1) line ≡ without_return line
return_cut [] some e = absurd (omega (arith, some))
return_cut (byte ∷ []) some e = rw e refl
return_cut (byte ∷ next ∷ bytes) some e =
    let at = last_of (next ∷ bytes) (omega arith) in
    let rest : slice_index (next ∷ bytes) (length (next ∷ bytes) - 1) ≡ 13 = sym (ap (slice_index (byte ∷ next ∷ bytes)) at) ∙ e in
    ap (λ (n : ℕ). take n (byte ∷ next ∷ bytes)) at ∙ ap (λ (line : List ℕ). byte ∷ line) (return_cut (next ∷ bytes) (omega arith) rest)

pub return_kept : (line : List ℕ) → 1 ≤ length line → (slice_index line (length line - 1) ≡ 13 → ⊥) → line ≡ without_return line
return_kept [] some not = absurd (omega (arith, some))
return_kept (byte ∷ []) some not = by (byte == 13) refl where
  by : (b : Bool) → (byte == 13) ≡ b → byte ∷ [] ≡ without_return (byte ∷ [])
  by true e = absurd (not (eqb-true byte 13 e))
  by false e = rw e refl
return_kept (byte ∷ next ∷ bytes) some not =
    let at = last_of (next ∷ bytes) (omega arith) in
    ap (λ (line : List ℕ). byte ∷ line) (return_kept (next ∷ bytes) (omega arith) (λ e. not (ap (slice_index (byte ∷ next ∷ bytes)) at ∙ e)))

-- the names of a line before others
pub names_before : (line : List ℕ) (lines : List (List ℕ)) → names_of (line ∷ lines) ≡ names_of (line ∷ []) ++ names_of lines
names_before [] lines = refl
names_before (byte ∷ bytes) lines = refl

-- the lines of a text that is not empty
lines_so : (rest : List ℕ) (line : List ℕ) → (rest ≡ [] → ⊥) → line ≡ without_return (take (line_length rest) rest)
    → lines_in rest ≡ line ∷ lines_in (drop (suc (line_length rest)) rest)
lines_so [] line some is = absurd (some refl)
lines_so (byte ∷ bytes) line some is = ap (map without_return) (first_line byte bytes) ∙ ap (λ (l : List ℕ). l ∷ lines_in (drop (suc (line_length (byte ∷ bytes))) (byte ∷ bytes))) (sym is)

-- nothing is read yet
pub read_none : (text : List ℕ) (names : List (List ℕ)) → names ≡ [] → HasRead text text 1 names
read_none text names none = record {
  names_are = ap (λ (ns : List (List ℕ)). ns ++ names_in text) none;
  utf8 = λ all. all;
  first_bad = λ line is. is;
  bound = omega arith;
}

some_first : (rest : List ℕ) → (rest ≡ [] → ⊥) → (len : ℕ) → length (drop (suc len) rest) + 1 ≤ length rest
some_first [] some len = absurd (some refl)
some_first (byte ∷ bytes) some len = by bytes len where
  by : (xs : List ℕ) (n : ℕ) → length (drop n xs) + 1 ≤ suc (length xs)
  by [] zero = omega arith
  by [] (suc n) = omega arith
  by (x ∷ xs) zero = omega arith
  by (x ∷ xs) (suc n) = let rest = by xs n in omega (arith, rest)

-- one line more
pub read_more : (text rest line : List ℕ) (number : ℕ) (names names' : List (List ℕ)) → HasRead text rest number names → (rest ≡ [] → ⊥)
    → line ≡ without_return (take (line_length rest) rest) → IsUtf8 line → names' ≡ names ++ names_of (line ∷ [])
    → HasRead text (drop (suc (line_length rest)) rest) (suc number) names'
read_more text rest line number names names' read some is good more =
    let behind = drop (suc (line_length rest)) rest in
    let lines : lines_in rest ≡ line ∷ lines_in behind = lines_so rest line some is in
    record {
      names_are = ap (λ (ns : List (List ℕ)). ns ++ names_of (lines_in behind)) more ∙ append_assoc names (names_of (line ∷ [])) (names_of (lines_in behind))
          ∙ ap (λ (ns : List (List ℕ)). names ++ ns) (sym (names_before line (lines_in behind))) ∙ ap (λ (ls : List (List ℕ)). names ++ names_of ls) (sym lines) ∙ read.names_are;
      utf8 = λ all. read.utf8 (subst AreUtf8 (sym lines) (good, all));
      first_bad = λ at bad. read.first_bad at (subst (λ (ls : List (List ℕ)). IsFirstBad number ls at) (sym lines) (inr (good, bad)));
      bound = let before = read.bound in let fewer = some_first rest some (line_length rest) in omega (arith, before, fewer);
    }

-- a line that is none
pub read_bad : (text rest line : List ℕ) (number : ℕ) (names : List (List ℕ)) → HasRead text rest number names → (rest ≡ [] → ⊥)
    → line ≡ without_return (take (line_length rest) rest) → (IsUtf8 line → ⊥) → IsFirstBad 1 (lines_in text) number
read_bad text rest line number names read some is bad =
    read.first_bad number (subst (λ (ls : List (List ℕ)). IsFirstBad number ls number) (sym (lines_so rest line some is)) (inl (bad, refl)))

-- the whole list
pub read_all : (text rest : List ℕ) (number : ℕ) (names : List (List ℕ)) → HasRead text rest number names → rest ≡ [] → (names ≡ names_in text) × AreUtf8 (lines_in text)
read_all text rest number names read none =
    let all : HasRead text [] number names = subst (λ (r : List ℕ). HasRead text r number names) none read in
    (sym (append-nil names) ∙ all.names_are, all.utf8 tt)
