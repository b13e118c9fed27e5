-- Texts of bytes, and texts of ASCII.
use Rattle.std.proofs.Common.{◌≡◌, ◌⊎◌, inl, inr, ℕ, ◌<◌, ◌≤◌, Bool, true, false, List, [], ◌∷◌, ◌++◌, refl, sym, ◌∙◌, ap, subst, arith}
use Rattle.std.specs.Prelude.{nat_lt, ◌&&◌, not, ◌==◌, ◌||◌}
use Rattle.std.specs.List.{list_all}
use Rattle.std.proofs.lemmas.Bool.{and_parts, and_from, lt-ltb, ltb-true}
use Rattle.std.proofs.lemmas.Bool.Decides.{nat_tests}
use Rattle.std.proofs.lemmas.List.Folds.{list_all-append}
use Rattle.xml_text.specs.Characters.{is_blank}
use Rattle.xml_text.specs.Names.{is_name}
use Rattle.derivatives.specs.Expressions.{Expr, Matches}
use Rattle.page_model.specs.Parts.{is_quote}
use Rattle.page_model.specs.Prolog.{IsSpace}
use Rattle.page_forms.specs.Words.{one_of_words, blanks, gap, name_form}
use Rattle.page_forms.proofs.NameForms.{blank_small, spells_blanks, spells_gap, spells_name}
use Rattle.page_forms.proofs.Spelling.{Runs, over, further}
use Rattle.page_forms.proofs.WordForms.{IsWordOf, spells_words, name_ascii}
use Rattle.coarse_forms.specs.CoarseForms.{byte_of, value_bytes}
use Rattle.coarse_forms.specs.Laws.{OfBytes}
use Rattle.coarse_forms.proofs.Bytes.{Taken, byte_shown, byte_made}
use Rattle.broken_forms.proofs.Telling.{Tells, tells_as, tells_star, tells_spelled}

-- both parts of a text of bytes are such
pub bytes_apart : (u v : List ℕ) → OfBytes (u ++ v) → OfBytes u × OfBytes v
bytes_apart u v h = and_parts (list_all (λ b. nat_lt b 256) u) (list_all (λ b. nat_lt b 256) v) (sym (list_all-append (λ b. nat_lt b 256) u v) ∙ h)

pub low_blanks : (cs : List ℕ) → list_all is_blank cs ≡ true → list_all (λ c. nat_lt c 128) cs ≡ true
low_blanks [] h = refl
low_blanks (c ∷ cs) h =
    let p = and_parts (is_blank c) (list_all is_blank cs) h in
    and_from (nat_lt c 128) (list_all (λ c. nat_lt c 128) cs) (lt-ltb c 128 (blank_small c p.0)) (low_blanks cs p.1)

pub tells_blanks : Tells blanks (λ w. list_all is_blank w ≡ true)
tells_blanks = tells_spelled spells_blanks low_blanks

pub tells_gap : Tells gap IsSpace
tells_gap = tells_spelled spells_gap (λ cs s. low_blanks cs s.blank)

pub tells_name : Tells name_form (λ w. is_name w ≡ true)
tells_name = tells_spelled spells_name name_ascii

-- one of the words that are names
pub tells_words : (names : List (List ℕ)) → Tells (one_of_words is_name names) (IsWordOf is_name names)
tells_words names = tells_spelled (spells_words is_name name_ascii names) (λ cs i. name_ascii cs i.passes)

-- what may stand in these quotes
abbrev pub loose_byte : ℕ → ℕ → Bool
loose_byte q c = not (c == 60 || c == q)

abbrev pub Value : ℕ → List ℕ → Type 0
Value q w = (list_all (loose_byte q) w ≡ true) × OfBytes w

tells_byte_of : (test : ℕ → Bool) → Tells (byte_of test) (Taken test)
tells_byte_of test = record { shown = λ w d. byte_shown test d; made = λ w t. subst (λ (z : List ℕ). Matches (byte_of test) z) t.is (byte_made test t.byte t.below t.passes) }

pub tells_value : (q : ℕ) → is_quote q ≡ true → Tells (value_bytes q) (Value q)
tells_value q h = tells_as (tells_star (tells_byte_of (loose_byte q))) (λ w r. into r) (λ w v. from w v.0 v.1)
  where
    high : (c : ℕ) → 128 ≤ c → loose_byte q c ≡ true
    high c l = grind (arith, nat_tests)

    passes : (c : ℕ) → (loose_byte q c ≡ true) ⊎ (128 ≤ c) → loose_byte q c ≡ true
    passes c (inl e) = e
    passes c (inr l) = high c l

    into : {w : List ℕ} → Runs (Taken (loose_byte q)) w → Value q w
    into over = (refl, refl)
    into (further {first = first} {more = more} t r) =
        let v = into r in
        let l = t.below in
        subst (λ (z : List ℕ). Value q (z ++ more)) t.is
        (and_from (loose_byte q t.byte) (list_all (loose_byte q) more) (passes t.byte t.passes) v.0, and_from (nat_lt t.byte 256) (list_all (λ b. nat_lt b 256) more) (lt-ltb t.byte 256 (omega (arith, l))) v.1)

    from : (w : List ℕ) → list_all (loose_byte q) w ≡ true → OfBytes w → Runs (Taken (loose_byte q)) w
    from [] a b = over
    from (c ∷ w) a b =
        let p = and_parts (loose_byte q c) (list_all (loose_byte q) w) a in
        let k = and_parts (nat_lt c 256) (list_all (λ b. nat_lt b 256) w) b in
        further {first = c ∷ []} (record { byte = c; below = (let l = ltb-true c 256 k.0 in omega (arith, l)); passes = inl p.0; is = refl }) (from w p.1 k.1)
