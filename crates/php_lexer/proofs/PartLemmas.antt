-- Templates in a loop over their places: the parts so far, the bytes behind them, and the row that is left.
use Rattle.std.proofs.Common.{◌≡◌, ◌∙◌, ℕ, ◌+◌, ◌<◌, ◌≤◌, true, false, List, [], ◌∷◌, ◌++◌, length, drop, refl, sym, ap, arith, append_assoc, add_assoc, zero-add}
use Rattle.std.proofs.lemmas.List.{length-drop, drop-drop}
use Rattle.php_syntax.specs.Tokens.{PlainPart, PlainKey, plain_part, read_part, template}
use Rattle.lexical_grammar.specs.Rows.{Found, item, wrong, over, missing, Row, whole, broken, endless, then_row, row}
use Rattle.lexical_grammar.specs.Texts.{Unit_of, byte, reads, with_byte, parts_of, kind_of_parts}
use Rattle.php_lexer.specs.Templates.{parts_row, has_end_of, bytes_part, parts_with, plain_with}
use Rattle.php_lexer.proofs.RowLemmas.{row_at_item, row_at_wrong, row_at_over, row_at_missing}

-- bytes before parts
abbrev pub before_parts : List ℕ → List PlainPart → List PlainPart
before_parts [] parts = parts
before_parts (b ∷ bytes) parts = with_byte b (before_parts bytes parts)

before_parts-append : (bytes : List ℕ) (b : ℕ) (parts : List PlainPart) → before_parts (bytes ++ b ∷ []) parts ≡ before_parts bytes (with_byte b parts)
before_parts-append [] b parts = refl
before_parts-append (a ∷ bytes) b parts = ap (with_byte a) (before_parts-append bytes b parts)

before_none : (bytes : List ℕ) → before_parts bytes [] ≡ bytes_part bytes
before_none [] = refl
before_none (b ∷ []) = refl
before_none (b ∷ c ∷ bytes) = ap (with_byte b) (before_none (c ∷ bytes))

before_read : (bytes : List ℕ) (x : List ℕ) (keys : List PlainKey) (parts : List PlainPart) → before_parts bytes (read_part x keys ∷ parts) ≡ bytes_part bytes ++ (read_part x keys ∷ parts)
before_read [] x keys parts = refl
before_read (b ∷ []) x keys parts = refl
before_read (b ∷ c ∷ bytes) x keys parts = ap (with_byte b) (before_read (c ∷ bytes) x keys parts)

-- parts and bytes, of so many bytes, before a row of parts
abbrev pub ahead_parts : List PlainPart → List ℕ → ℕ → Row PlainPart → Row PlainPart
ahead_parts parts bytes n (whole more m) = whole (parts ++ before_parts bytes more) (n + m)
ahead_parts parts bytes n (broken m) = broken (n + m)
ahead_parts parts bytes n endless = endless

ahead_parts_none : (r : Row PlainPart) → r ≡ ahead_parts [] [] 0 r
ahead_parts_none (whole more m) = ap (whole more) (sym (zero-add m))
ahead_parts_none (broken m) = ap broken (sym (zero-add m))
ahead_parts_none endless = refl

pub parts_begin : (r : Row PlainPart) → r ≡ ahead_parts [] [] 0 r
parts_begin r = ahead_parts_none r

ahead_byte : (parts : List PlainPart) (bytes : List ℕ) (n b k : ℕ) (r : Row Unit_of) → ahead_parts parts bytes n (parts_row (then_row (item (byte b) k) r)) ≡ ahead_parts parts (bytes ++ b ∷ []) (n + k) (parts_row r)
ahead_byte parts bytes n b k (whole units m) = ap (λ ps. whole (parts ++ ps) (n + (k + m))) (sym (before_parts-append bytes b (parts_of units))) ∙ ap (whole (parts ++ before_parts (bytes ++ b ∷ []) (parts_of units))) (sym (add_assoc n k m))
ahead_byte parts bytes n b k (broken m) = ap broken (sym (add_assoc n k m))
ahead_byte parts bytes n b k endless = refl

ahead_read : (parts : List PlainPart) (bytes : List ℕ) (n : ℕ) (x : List ℕ) (keys : List PlainKey) (k : ℕ) (r : Row Unit_of)
    → ahead_parts parts bytes n (parts_row (then_row (item (reads x keys) k) r)) ≡ ahead_parts ((parts ++ bytes_part bytes) ++ read_part x keys ∷ []) [] (n + k) (parts_row r)
ahead_read parts bytes n x keys k (whole units m) =
    ap (λ ps. whole (parts ++ ps) (n + (k + m))) (before_read bytes x keys (parts_of units)) ∙ ap (λ ps. whole ps (n + (k + m))) (sym (append_assoc parts (bytes_part bytes) (read_part x keys ∷ parts_of units)) ∙ sym (append_assoc (parts ++ bytes_part bytes) (read_part x keys ∷ []) (parts_of units)))
    ∙ ap (whole (((parts ++ bytes_part bytes) ++ read_part x keys ∷ []) ++ parts_of units)) (sym (add_assoc n k m))
ahead_read parts bytes n x keys k (broken m) = ap broken (sym (add_assoc n k m))
ahead_read parts bytes n x keys k endless = refl

positive : (bytes : List ℕ) (n k : ℕ) → 0 < k → k ≤ length (drop n bytes) → 0 < length (drop n bytes)
positive bytes n k p h = omega arith

ahead_unit : (parts : List PlainPart) (plain : List ℕ) (n : ℕ) (u : Unit_of) (k : ℕ) (r : Row Unit_of)
    → ahead_parts parts plain n (parts_row (then_row (item u k) r)) ≡ ahead_parts (parts_with parts plain u) (plain_with plain u) (n + k) (parts_row r)
ahead_unit parts plain n (byte b) k r = ahead_byte parts plain n b k r
ahead_unit parts plain n (reads x keys) k r = ahead_read parts plain n x keys k r

-- one unit more
pub parts_unit : (find : List ℕ → Found Unit_of) (bytes : List ℕ) (parts more : List PlainPart) (plain longer : List ℕ) (n : ℕ) (u : Unit_of) (k : ℕ) (here : List ℕ)
    → parts_row (row find 0 bytes) ≡ ahead_parts parts plain n (parts_row (row find 0 (drop n bytes))) → here ≡ drop n bytes → item u k ≡ find here → 0 < k → k ≤ length here
    → more ≡ parts_with parts plain u → longer ≡ plain_with plain u
    → parts_row (row find 0 bytes) ≡ ahead_parts more longer (n + k) (parts_row (row find 0 (drop (n + k) bytes)))
parts_unit find bytes parts more plain longer n u k here so_far at e p h put pushed =
    so_far ∙ ap (λ bs. ahead_parts parts plain n (parts_row (row find 0 bs))) (sym at) ∙ ap (λ r. ahead_parts parts plain n (parts_row r)) (row_at_item find here u k (sym e) p (omega arith))
    ∙ ahead_unit parts plain n u k (row find 0 (drop k here)) ∙ ap (λ ps. ahead_parts ps (plain_with plain u) (n + k) (parts_row (row find 0 (drop k here)))) (sym put)
    ∙ ap (λ bs. ahead_parts more bs (n + k) (parts_row (row find 0 (drop k here)))) (sym pushed) ∙ ap (λ bs. ahead_parts more longer (n + k) (parts_row (row find 0 bs))) (ap (drop k) at ∙ drop-drop k n bytes)

-- the end of the text
pub parts_over : (find : List ℕ → Found Unit_of) (bytes : List ℕ) (parts all : List PlainPart) (plain : List ℕ) (n k : ℕ) (here : List ℕ)
    → parts_row (row find 0 bytes) ≡ ahead_parts parts plain n (parts_row (row find 0 (drop n bytes))) → here ≡ drop n bytes → over k ≡ find here → all ≡ parts ++ bytes_part plain
    → whole all (n + k) ≡ parts_row (row find 0 bytes)
parts_over find bytes parts all plain n k here so_far at e pushed =
    sym (so_far ∙ ap (λ bs. ahead_parts parts plain n (parts_row (row find 0 bs))) (sym at) ∙ ap (λ r. ahead_parts parts plain n (parts_row r)) (row_at_over find here k (sym e))
    ∙ ap (λ ps. whole (parts ++ ps) (n + k)) (before_none plain) ∙ ap (λ ps. whole ps (n + k)) (sym pushed))

-- the bytes end before the text does
pub parts_missing : (find : List ℕ → Found Unit_of) (bytes : List ℕ) (parts : List PlainPart) (plain : List ℕ) (n : ℕ) (here : List ℕ)
    → parts_row (row find 0 bytes) ≡ ahead_parts parts plain n (parts_row (row find 0 (drop n bytes))) → here ≡ drop n bytes → missing ≡ find here → endless ≡ parts_row (row find 0 bytes)
parts_missing find bytes parts plain n here so_far at e =
    sym (so_far ∙ ap (λ bs. ahead_parts parts plain n (parts_row (row find 0 bs))) (sym at) ∙ ap (λ r. ahead_parts parts plain n (parts_row r)) (row_at_missing find here (sym e)))

broken_at : (parts : List PlainPart) (plain : List ℕ) (n k : ℕ) (r : Row Unit_of) → true ≡ has_end_of r → broken n ≡ ahead_parts parts plain n (parts_row (then_row (wrong k) r))
broken_at parts plain n k (whole units m) e = ap broken (omega arith)
broken_at parts plain n k (broken m) e = ap broken (omega arith)
broken_at parts plain n k endless e = cc

endless_at : (parts : List PlainPart) (plain : List ℕ) (n k : ℕ) (r : Row Unit_of) → false ≡ has_end_of r → endless ≡ ahead_parts parts plain n (parts_row (then_row (wrong k) r))
endless_at parts plain n k (whole units m) e = cc
endless_at parts plain n k (broken m) e = cc
endless_at parts plain n k endless e = refl

wrong_place : (find : List ℕ → Found Unit_of) (bytes : List ℕ) (parts : List PlainPart) (plain : List ℕ) (n k : ℕ) (here : List ℕ)
    → parts_row (row find 0 bytes) ≡ ahead_parts parts plain n (parts_row (row find 0 (drop n bytes))) → here ≡ drop n bytes → wrong k ≡ find here → 0 < k → k ≤ length here
    → ahead_parts parts plain n (parts_row (then_row (wrong k) (row find 0 (drop (n + k) bytes)))) ≡ parts_row (row find 0 bytes)
wrong_place find bytes parts plain n k here so_far at e p h =
    sym (so_far ∙ ap (λ bs. ahead_parts parts plain n (parts_row (row find 0 bs))) (sym at) ∙ ap (λ r. ahead_parts parts plain n (parts_row r)) (row_at_wrong find here k (sym e) p (omega arith))
    ∙ ap (λ bs. ahead_parts parts plain n (parts_row (then_row (wrong k) (row find 0 bs)))) (ap (drop k) at ∙ drop-drop k n bytes))

-- a wrong place, in a text that comes to its end, or does not
pub parts_broken : (find : List ℕ → Found Unit_of) (bytes : List ℕ) (parts : List PlainPart) (plain : List ℕ) (n k : ℕ) (here later : List ℕ)
    → parts_row (row find 0 bytes) ≡ ahead_parts parts plain n (parts_row (row find 0 (drop n bytes))) → here ≡ drop n bytes → wrong k ≡ find here → 0 < k → k ≤ length here
    → later ≡ drop (n + k) bytes → true ≡ has_end_of (row find 0 later) → broken n ≡ parts_row (row find 0 bytes)
parts_broken find bytes parts plain n k here later so_far at e p h at' end =
    broken_at parts plain n k (row find 0 (drop (n + k) bytes)) (end ∙ ap (λ bs. has_end_of (row find 0 bs)) at') ∙ wrong_place find bytes parts plain n k here so_far at e p h

pub parts_endless : (find : List ℕ → Found Unit_of) (bytes : List ℕ) (parts : List PlainPart) (plain : List ℕ) (n k : ℕ) (here later : List ℕ)
    → parts_row (row find 0 bytes) ≡ ahead_parts parts plain n (parts_row (row find 0 (drop n bytes))) → here ≡ drop n bytes → wrong k ≡ find here → 0 < k → k ≤ length here
    → later ≡ drop (n + k) bytes → false ≡ has_end_of (row find 0 later) → endless ≡ parts_row (row find 0 bytes)
parts_endless find bytes parts plain n k here later so_far at e p h at' end =
    endless_at parts plain n k (row find 0 (drop (n + k) bytes)) (end ∙ ap (λ bs. has_end_of (row find 0 bs)) at') ∙ wrong_place find bytes parts plain n k here so_far at e p h

end_of_item : {X : Type 0} (x : X) (k : ℕ) (r : Row X) → has_end_of (then_row (item x k) r) ≡ has_end_of r
end_of_item x k (whole xs m) = refl
end_of_item x k (broken m) = refl
end_of_item x k endless = refl

end_of_wrong : {X : Type 0} (k : ℕ) (r : Row X) → has_end_of (then_row (wrong k) r) ≡ has_end_of r
end_of_wrong k (whole xs m) = refl
end_of_wrong k (broken m) = refl
end_of_wrong k endless = refl

-- whether there is an end, in a loop over the places
pub end_past_item : {X : Type 0} (find : List ℕ → Found X) (bytes : List ℕ) (n : ℕ) (x : X) (k next : ℕ) (here : List ℕ)
    → has_end_of (row find 0 bytes) ≡ has_end_of (row find 0 (drop n bytes)) → here ≡ drop n bytes → item x k ≡ find here → (0 < k) × (k ≤ length here) → n ≤ length bytes → next ≡ n + k
    → (has_end_of (row find 0 bytes) ≡ has_end_of (row find 0 (drop next bytes))) × (next ≤ length bytes)
end_past_item find bytes n x k next here so_far at e within h next-is = (
  so_far ∙ ap (λ bs. has_end_of (row find 0 bs)) (sym at) ∙ ap has_end_of (row_at_item find here x k (sym e) within.0 (omega arith)) ∙ end_of_item x k (row find 0 (drop k here)) ∙ ap (λ bs. has_end_of (row find 0 bs)) (ap (drop k) at ∙ drop-drop k n bytes)
      ∙ ap (λ m. has_end_of (row find 0 (drop m bytes))) (sym next-is),
  omega (arith, ap length at, length-drop n bytes),
)

pub end_past_wrong : {X : Type 0} (find : List ℕ → Found X) (bytes : List ℕ) (n k next : ℕ) (here : List ℕ)
    → has_end_of (row find 0 bytes) ≡ has_end_of (row find 0 (drop n bytes)) → here ≡ drop n bytes → wrong k ≡ find here → (0 < k) × (k ≤ length here) → n ≤ length bytes → next ≡ n + k
    → (has_end_of (row find 0 bytes) ≡ has_end_of (row find 0 (drop next bytes))) × (next ≤ length bytes)
end_past_wrong find bytes n k next here so_far at e within h next-is = (
  so_far ∙ ap (λ bs. has_end_of (row find 0 bs)) (sym at) ∙ ap has_end_of (row_at_wrong find here k (sym e) within.0 (omega arith)) ∙ end_of_wrong k (row find 0 (drop k here)) ∙ ap (λ bs. has_end_of (row find 0 bs)) (ap (drop k) at ∙ drop-drop k n bytes)
      ∙ ap (λ m. has_end_of (row find 0 (drop m bytes))) (sym next-is),
  omega (arith, ap length at, length-drop n bytes),
)

pub end_over : {X : Type 0} (find : List ℕ → Found X) (bytes : List ℕ) (n k : ℕ) (here : List ℕ)
    → has_end_of (row find 0 bytes) ≡ has_end_of (row find 0 (drop n bytes)) → here ≡ drop n bytes → over k ≡ find here → true ≡ has_end_of (row find 0 bytes)
end_over find bytes n k here so_far at e = sym (so_far ∙ ap (λ bs. has_end_of (row find 0 bs)) (sym at) ∙ ap has_end_of (row_at_over find here k (sym e)))

pub end_missing : {X : Type 0} (find : List ℕ → Found X) (bytes : List ℕ) (n : ℕ) (here : List ℕ)
    → has_end_of (row find 0 bytes) ≡ has_end_of (row find 0 (drop n bytes)) → here ≡ drop n bytes → missing ≡ find here → false ≡ has_end_of (row find 0 bytes)
end_missing find bytes n here so_far at e = sym (so_far ∙ ap (λ bs. has_end_of (row find 0 bs)) (sym at) ∙ ap has_end_of (row_at_missing find here (sym e)))

-- two parts or more, or one that is read, are a template
pub template_of_many : (parts : List PlainPart) (last : PlainPart) → 0 < length parts → kind_of_parts (parts ++ last ∷ []) ≡ template (parts ++ last ∷ [])
template_of_many [] last h = absurd (omega arith)
template_of_many (plain_part t ∷ []) last h = refl
template_of_many (read_part x keys ∷ []) last h = refl
template_of_many (plain_part t ∷ p ∷ parts) last h = refl
template_of_many (read_part x keys ∷ p ∷ parts) last h = refl

pub template_of_read : (parts : List PlainPart) (x : List ℕ) (keys : List PlainKey) → kind_of_parts (parts ++ read_part x keys ∷ []) ≡ template (parts ++ read_part x keys ∷ [])
template_of_read [] x keys = refl
template_of_read (p ∷ parts) x keys = template_of_many (p ∷ parts) (read_part x keys) (omega arith)
