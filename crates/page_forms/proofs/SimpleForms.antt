-- Characters, the byte order mark and end tags.
use Rattle.std.proofs.Common.{◌≡◌, ◌⊎◌, inl, inr, ℕ, ◌<◌, ◌≤◌, Bool, true, false, List, [], ◌∷◌, ◌++◌, refl, sym, ◌∙◌, ap, subst, append-nil, arith}
use Rattle.std.specs.Prelude.{not, ◌==◌, ◌&&◌, ◌||◌, nat_lt, nat_le, codes}
use Rattle.std.specs.Char.{encode_utf8}
use Rattle.std.specs.List.{list_all}
use Rattle.std.specs.Str.{encode_utf8_all}
use Rattle.std.proofs.lemmas.Str.{encode_same}
use Rattle.std.proofs.lemmas.Bool.{and_parts, and_from, and_left, or_parts, or_from, not-true, not_from_false, eqb-false, ne_eqb, cases_lt, cases_eq, leb-true, le-leb, lt-ltb}
use Rattle.std.proofs.lemmas.Bool.Decides.{nat_tests}
use Rattle.xml_text.specs.Characters.{is_blank, is_character}
use Rattle.xml_text.specs.Names.{is_name}
use Rattle.derivatives.specs.Expressions.{Expr, Matches}
use Rattle.page_model.specs.PageTokens.{piece_bytes}
use Rattle.page_model.specs.Parts.{character, is_plain}
use Rattle.page_model.specs.Pieces.{Piece, mark, end_tag, leaf, piece_then, may_follow}
use Rattle.page_model.specs.Places.{Place, at_beginning, behind_mark, behind}
use Rattle.page_forms.specs.Laws.{BlanksAreSpelled, BracketIsSpelled, TextIsSpelled, MarkIsSpelled, EndTagsAreSpelled}
use Rattle.page_forms.specs.Simple.{is_mark, bracket_form, is_text, text_form, beyond_but_mark, mark_form, end_tag_form}
use Rattle.page_forms.specs.Words.{character_of, by_rows, low_rows, middle_rows, rows_but_mark, high_rows, later_byte}
use Rattle.page_forms.proofs.Characters.{of_two, of_e0, of_e1, of_ed, of_ee, of_ef, of_ef_bf}
use Rattle.page_forms.proofs.Classes.{spells_ascii}
use Rattle.page_forms.proofs.NameForms.{spells_blank, spells_blanks}
use Rattle.page_forms.proofs.OneCharacter.{IsBeyond, InRows, AreIn, in_two, in_three, high_shown, beyond_made, rows_shown, rows_made, spells_character, IsCharacterOf}
use Rattle.page_forms.proofs.Spelling.{Spells, Spelled, One, Chained, put_together, spells_chain, spells_either, spells_word, spells_as, is_form_of, word_shown, word_made}
use Rattle.page_forms.proofs.WordForms.{name_ascii}

-- White space.

blank_plain : (c : ℕ) → is_blank c ≡ true → is_plain c ≡ true
blank_plain c h = grind (arith, nat_tests)

pub blanks_are_spelled : BlanksAreSpelled
blanks_are_spelled = is_form_of (spells_as spells_blank into from)
  where
    into : (cs : List ℕ) → One is_blank cs → (p : Piece) × ((c : ℕ) × (p ≡ leaf (character c)) × (is_blank c ≡ true)) × (piece_then p [] ≡ cs)
    into cs o = (leaf (character o.character), (o.character, refl, o.passes), o.is)

    from : (cs : List ℕ) → ((p : Piece) × ((c : ℕ) × (p ≡ leaf (character c)) × (is_blank c ≡ true)) × (piece_then p [] ≡ cs)) → One is_blank cs
    from cs q = record { character = q.1.0; passes = q.1.2; is = sym (ap (λ (z : Piece). piece_then z []) q.1.1) ∙ q.2 }

-- The bracket.

pub bracket_is_spelled : BracketIsSpelled
unfolding encode_utf8
bracket_is_spelled bytes = (
  λ d. (leaf (character 93), refl, sym (word_shown (93 ∷ []) d)),
  λ q. subst (λ (z : List ℕ). Matches bracket_form z) (ap piece_bytes (sym q.1) ∙ q.2) (word_made (93 ∷ [])),
)

-- Text.

-- a character of text at a place
abbrev IsText : Place → ℕ → Bool
IsText place c = is_character c && is_text place c

text_parts : (place : Place) (c : ℕ) → IsText place c ≡ true → (is_plain c ≡ true) × (is_mark c ≡ false) × (may_follow place (character c) ≡ true)
text_parts place c h =
    let p = and_parts (is_character c) (is_text place c) h in
    let q = and_parts (not (c == 60 || c == 38 || is_mark c)) (may_follow place (character c)) p.1 in
    let r = or_parts (c == 60 || c == 38) (is_mark c) (not-true (c == 60 || c == 38 || is_mark c) q.0) in
    (and_from (is_character c) (not (c == 60 || c == 38)) p.0 (not_from_false (c == 60 || c == 38) r.0), r.1, q.1)

parts_text : (place : Place) (c : ℕ) → is_plain c ≡ true → is_mark c ≡ false → may_follow place (character c) ≡ true → IsText place c ≡ true
parts_text place c h b m =
    let p = and_parts (is_character c) (not (c == 60 || c == 38)) h in
    and_from (is_character c) (is_text place c) p.0
    (and_from (not (c == 60 || c == 38 || is_mark c)) (may_follow place (character c)) (not_from_false (c == 60 || c == 38 || is_mark c) (or_from (c == 60 || c == 38) (is_mark c) (not-true (c == 60 || c == 38) p.1) b)) m)

beyond_is : (c : ℕ) → 128 ≤ c → (c == 60 || c == 38 || is_mark c) ≡ false
beyond_is c l = grind (arith, nat_tests)

beyond_follows : (k c : ℕ) → 128 ≤ c → may_follow (behind k) (character c) ≡ true
beyond_follows k c l = not_from_false (c == 62 && k == 2) (and_left (c == 62) (k == 2) (ne_eqb c 62 (λ e. absurd (omega (arith, l, e)))))

-- The characters beyond ASCII but for the mark.

record IsOther (w : List ℕ) : Type 0 where
  beyond : IsBeyond w
  other : beyond.code ≡ 0xFEFF → ⊥

-- the bytes of the mark
mark_is : encode_utf8 0xFEFF ≡ 0xEF ∷ 0xBB ∷ 0xBF ∷ []
unfolding encode_utf8
mark_is = refl

no_mark : (w : List ℕ) → (w ≡ 0xEF ∷ 0xBB ∷ 0xBF ∷ [] → ⊥) → IsBeyond w → IsOther w
no_mark w n b = record { beyond = b; other = λ e. n (sym b.bytes ∙ ap encode_utf8 e ∙ mark_is) }

second_byte : (b c d x y z : ℕ) → (let w : List ℕ = b ∷ c ∷ d ∷ [] in w ≡ x ∷ y ∷ z ∷ []) → c ≡ y
second_byte b c d x y z e = cc

first_byte : (b x : ℕ) (u v : List ℕ) → (let w : List ℕ = b ∷ u in w ≡ x ∷ v) → b ≡ x
first_byte b x u v e = cc

third_byte : (b c d x y z : ℕ) → (let w : List ℕ = b ∷ c ∷ d ∷ [] in w ≡ x ∷ y ∷ z ∷ []) → d ≡ z
third_byte b c d x y z e = cc

-- a first byte other than EF
led_otherwise : (r : ℕ × ℕ) (rs : List (ℕ × ℕ)) → (r.1 < 0xEF) ⊎ (0xEF < r.0) → (w : List ℕ) → AreIn (r ∷ rs) w → w ≡ 0xEF ∷ 0xBB ∷ 0xBF ∷ [] → ⊥
led_otherwise r rs h [] p e = absurd p
led_otherwise r rs (inl h) (b ∷ w) p e = let q = first_byte b 0xEF w (0xBB ∷ 0xBF ∷ []) e in omega (arith, p.1, h, q)
led_otherwise r rs (inr h) (b ∷ w) p e = let q = first_byte b 0xEF w (0xBB ∷ 0xBF ∷ []) e in omega (arith, p.0, h, q)

second_otherwise : (r s t : ℕ × ℕ) → (s.1 < 0xBB) ⊎ (0xBB < s.0) → (w : List ℕ) → AreIn (r ∷ s ∷ t ∷ []) w → w ≡ 0xEF ∷ 0xBB ∷ 0xBF ∷ [] → ⊥
second_otherwise r s t h [] p e = absurd p
second_otherwise r s t h (b ∷ []) p e = absurd p.2
second_otherwise r s t h (b ∷ c ∷ []) p e = absurd p.2.2
second_otherwise r s t (inl h) (b ∷ c ∷ d ∷ []) p e = let q = second_byte b c d 0xEF 0xBB 0xBF e in let l = p.2.1 in omega (arith, l, h, q)
second_otherwise r s t (inr h) (b ∷ c ∷ d ∷ []) p e = let q = second_byte b c d 0xEF 0xBB 0xBF e in let l = p.2.0 in omega (arith, l, h, q)
second_otherwise r s t h (b ∷ c ∷ d ∷ f ∷ w) p e = absurd p.2.2.2

third_otherwise : (r s t : ℕ × ℕ) → t.1 < 0xBF → (w : List ℕ) → AreIn (r ∷ s ∷ t ∷ []) w → w ≡ 0xEF ∷ 0xBB ∷ 0xBF ∷ [] → ⊥
third_otherwise r s t h [] p e = absurd p
third_otherwise r s t h (b ∷ []) p e = absurd p.2
third_otherwise r s t h (b ∷ c ∷ []) p e = absurd p.2.2
third_otherwise r s t h (b ∷ c ∷ d ∷ []) p e = let q = third_byte b c d 0xEF 0xBB 0xBF e in let l = p.2.2.1 in omega (arith, l, h, q)
third_otherwise r s t h (b ∷ c ∷ d ∷ f ∷ w) p e = absurd p.2.2.2

high_otherwise : (w : List ℕ) → InRows high_rows w → w ≡ 0xEF ∷ 0xBB ∷ 0xBF ∷ [] → ⊥
high_otherwise w (inl p) e = led_otherwise (0xF0, 0xF0) ((0x90, 0xBF) ∷ later_byte ∷ later_byte ∷ []) (inr (omega arith)) w p e
high_otherwise w (inr (inl p)) e = led_otherwise (0xF1, 0xF3) (later_byte ∷ later_byte ∷ later_byte ∷ []) (inr (omega arith)) w p e
high_otherwise w (inr (inr (inl p))) e = led_otherwise (0xF4, 0xF4) ((0x80, 0x8F) ∷ later_byte ∷ later_byte ∷ []) (inr (omega arith)) w p e
high_otherwise w (inr (inr (inr p))) e = absurd p

abbrev Rows : List ℕ → Type 0
Rows w = InRows (low_rows ++ (rows_but_mark ++ high_rows)) w

abbrev AllRows : List ℕ → Type 0
AllRows w = InRows (low_rows ++ (middle_rows ++ high_rows)) w

other_shown : (w : List ℕ) → Rows w → IsOther w
other_shown w (inl p) = no_mark w (led_otherwise (0xC2, 0xDF) (later_byte ∷ []) (inl (omega arith)) w p) (in_two (0xC2, 0xDF) later_byte of_two w p)
other_shown w (inr (inl p)) = no_mark w (led_otherwise (0xE0, 0xE0) ((0xA0, 0xBF) ∷ later_byte ∷ []) (inl (omega arith)) w p) (in_three (0xE0, 0xE0) (0xA0, 0xBF) later_byte of_e0 w p)
other_shown w (inr (inr (inl p))) = no_mark w (led_otherwise (0xE1, 0xEC) (later_byte ∷ later_byte ∷ []) (inl (omega arith)) w p) (in_three (0xE1, 0xEC) later_byte later_byte of_e1 w p)
other_shown w (inr (inr (inr (inl p)))) = no_mark w (led_otherwise (0xED, 0xED) ((0x80, 0x9F) ∷ later_byte ∷ []) (inl (omega arith)) w p) (in_three (0xED, 0xED) (0x80, 0x9F) later_byte of_ed w p)
other_shown w (inr (inr (inr (inr (inl p))))) = no_mark w (led_otherwise (0xEE, 0xEE) (later_byte ∷ later_byte ∷ []) (inl (omega arith)) w p) (in_three (0xEE, 0xEE) later_byte later_byte of_ee w p)
other_shown w (inr (inr (inr (inr (inr (inl p)))))) =
    no_mark w (second_otherwise (0xEF, 0xEF) (0x80, 0xBA) later_byte (inl (omega arith)) w p)
    (in_three (0xEF, 0xEF) (0x80, 0xBA) later_byte (λ b c d l h cl ch dl dh. of_ef b c d l h cl (omega (arith, ch)) dl dh) w p)
other_shown w (inr (inr (inr (inr (inr (inr (inl p))))))) =
    no_mark w (third_otherwise (0xEF, 0xEF) (0xBB, 0xBB) (0x80, 0xBE) (omega arith) w p)
    (in_three (0xEF, 0xEF) (0xBB, 0xBB) (0x80, 0xBE) (λ b c d l h cl ch dl dh. of_ef b c d l h (omega (arith, cl)) (omega (arith, ch)) dl (omega (arith, dh))) w p)
other_shown w (inr (inr (inr (inr (inr (inr (inr (inl p)))))))) =
    no_mark w (second_otherwise (0xEF, 0xEF) (0xBC, 0xBE) later_byte (inr (omega arith)) w p)
    (in_three (0xEF, 0xEF) (0xBC, 0xBE) later_byte (λ b c d l h cl ch dl dh. of_ef b c d l h (omega (arith, cl)) ch dl dh) w p)
other_shown w (inr (inr (inr (inr (inr (inr (inr (inr (inl p))))))))) =
    no_mark w (third_otherwise (0xEF, 0xEF) (0xBF, 0xBF) (0x80, 0xBD) (omega arith) w p) (in_three (0xEF, 0xEF) (0xBF, 0xBF) (0x80, 0xBD) of_ef_bf w p)
other_shown w (inr (inr (inr (inr (inr (inr (inr (inr (inr p))))))))) = no_mark w (high_otherwise w p) (high_shown w p)

-- the rows of the middle, without the mark
middle_made : (w : List ℕ) → (w ≡ 0xEF ∷ 0xBB ∷ 0xBF ∷ [] → ⊥) → AreIn ((0xEF, 0xEF) ∷ (0x80, 0xBE) ∷ later_byte ∷ []) w → InRows (rows_but_mark ++ high_rows) w
middle_made [] n p = absurd p
middle_made (b ∷ []) n p = absurd p.2
middle_made (b ∷ c ∷ []) n p = absurd p.2.2
middle_made (b ∷ c ∷ d ∷ []) n p = at (cases_lt c 0xBB) (cases_eq c 0xBB) (cases_eq d 0xBF)
  where
    bl : 0xEF ≤ b
    bl = p.0

    bh : b ≤ 0xEF
    bh = p.1

    cl : 0x80 ≤ c
    cl = p.2.0

    ch : c ≤ 0xBE
    ch = p.2.1

    dl : 0x80 ≤ d
    dl = p.2.2.0

    dh : d ≤ 0xBF
    dh = p.2.2.1

    same : c ≡ 0xBB → d ≡ 0xBF → b ∷ c ∷ d ∷ [] ≡ 0xEF ∷ 0xBB ∷ 0xBF ∷ []
    same q r = let e : b ≡ 0xEF = omega (arith, bl, bh) in cc

    at : (c < 0xBB) ⊎ (0xBB ≤ c) → (c ≡ 0xBB) ⊎ (c ≡ 0xBB → ⊥) → (d ≡ 0xBF) ⊎ (d ≡ 0xBF → ⊥) → InRows (rows_but_mark ++ high_rows) (b ∷ c ∷ d ∷ [])
    at (inl l) q r = inl (bl, bh, (cl, omega (arith, l), (dl, dh, tt)))
    at (inr l) (inl q) (inl r) = absurd (n (same q r))
    at (inr l) (inl q) (inr r) = inr (inl (bl, bh, (l, omega (arith, q), (dl, omega (arith, dh, r), tt))))
    at (inr l) (inr q) r = inr (inr (inl (bl, bh, (omega (arith, l, q), ch, (dl, dh, tt)))))
middle_made (b ∷ c ∷ d ∷ f ∷ w) n p = absurd p.2.2.2

other_made : (w : List ℕ) → (w ≡ 0xEF ∷ 0xBB ∷ 0xBF ∷ [] → ⊥) → AllRows w → Rows w
other_made w n (inl p) = inl p
other_made w n (inr (inl p)) = inr (inl p)
other_made w n (inr (inr (inl p))) = inr (inr (inl p))
other_made w n (inr (inr (inr (inl p)))) = inr (inr (inr (inl p)))
other_made w n (inr (inr (inr (inr (inl p))))) = inr (inr (inr (inr (inl p))))
other_made w n (inr (inr (inr (inr (inr (inl p)))))) = inr (inr (inr (inr (inr (middle_made w n p)))))
other_made w n (inr (inr (inr (inr (inr (inr (inl p))))))) = inr (inr (inr (inr (inr (inr (inr (inr (inl p))))))))
other_made w n (inr (inr (inr (inr (inr (inr (inr p))))))) = inr (inr (inr (inr (inr (inr (inr (inr (inr p))))))))

-- a character beyond ASCII that is not the mark
abbrev NotMark : ℕ → Bool
NotMark c = nat_le 128 c && (is_character c && not (c == 0xFEFF))

spells_but_mark : Spells beyond_but_mark (One NotMark)
unfolding beyond_but_mark
spells_but_mark = record { shown = λ w d. shown_at w (other_shown w (rows_shown (low_rows ++ (rows_but_mark ++ high_rows)) d)); made = λ cs o. made_at cs o }
  where
    shown_at : (w : List ℕ) → IsOther w → Spelled (One NotMark) w
    shown_at w p =
        let b = p.beyond in
        record {
          characters = b.code ∷ [];
          are = record {
            character = b.code;
            passes = and_from (nat_le 128 b.code) (is_character b.code && not (b.code == 0xFEFF)) (le-leb 128 b.code b.beyond)
                (and_from (is_character b.code) (not (b.code == 0xFEFF)) b.is (not_from_false (b.code == 0xFEFF) (ne_eqb b.code 0xFEFF p.other)));
            is = refl;
          };
          is = append-nil (encode_utf8 b.code) ∙ b.bytes;
        }

    not_its_bytes : (c : ℕ) → (c == 0xFEFF) ≡ false → encode_utf8 c ≡ 0xEF ∷ 0xBB ∷ 0xBF ∷ [] → ⊥
    not_its_bytes c h e =
        let g : encode_utf8 c ++ [] ≡ encode_utf8 0xFEFF ++ [] = ap (λ (z : List ℕ). z ++ []) (e ∙ sym mark_is) in
        eqb-false c 0xFEFF h (encode_same c 0xFEFF [] [] g).0

    made_at : (cs : List ℕ) → One NotMark cs → Matches (by_rows (low_rows ++ (rows_but_mark ++ high_rows))) (encode_utf8_all cs)
    made_at cs o =
        let p = and_parts (nat_le 128 o.character) (is_character o.character && not (o.character == 0xFEFF)) o.passes in
        let q = and_parts (is_character o.character) (not (o.character == 0xFEFF)) p.1 in
        subst (λ (z : List ℕ). Matches (by_rows (low_rows ++ (rows_but_mark ++ high_rows))) z) (sym (append-nil (encode_utf8 o.character)) ∙ ap encode_utf8_all o.is)
        (rows_made (low_rows ++ (rows_but_mark ++ high_rows)) (encode_utf8 o.character)
        (other_made (encode_utf8 o.character) (not_its_bytes o.character (not-true (o.character == 0xFEFF) q.1)) (beyond_made o.character (leb-true 128 o.character p.0) q.0)))

beginning_into : (cs : List ℕ) → One (λ c. nat_lt c 128 && IsText at_beginning c) cs ⊎ One NotMark cs → One (IsText at_beginning) cs
beginning_into cs (inl o) = record { character = o.character; passes = (and_parts (nat_lt o.character 128) (IsText at_beginning o.character) o.passes).1; is = o.is }
beginning_into cs (inr o) =
    let p = and_parts (nat_le 128 o.character) (is_character o.character && not (o.character == 0xFEFF)) o.passes in
    let q = and_parts (is_character o.character) (not (o.character == 0xFEFF)) p.1 in
    let l = leb-true 128 o.character p.0 in
    record {
      character = o.character;
      passes = and_from (is_character o.character) (is_text at_beginning o.character) q.0
          (and_from (not (o.character == 60 || o.character == 38 || is_mark o.character)) (not (o.character == 0xFEFF)) (not_from_false (o.character == 60 || o.character == 38 || is_mark o.character) (beyond_is o.character l)) q.1);
      is = o.is;
    }

beginning_from : (cs : List ℕ) → One (IsText at_beginning) cs → One (λ c. nat_lt c 128 && IsText at_beginning c) cs ⊎ One NotMark cs
beginning_from cs o = at (cases_lt o.character 128)
  where
    at : (o.character < 128) ⊎ (128 ≤ o.character) → One (λ c. nat_lt c 128 && IsText at_beginning c) cs ⊎ One NotMark cs
    at (inl l) = inl (record { character = o.character; passes = and_from (nat_lt o.character 128) (IsText at_beginning o.character) (lt-ltb o.character 128 l) o.passes; is = o.is })
    at (inr l) =
        let p = and_parts (is_character o.character) (is_text at_beginning o.character) o.passes in
        let q = and_parts (not (o.character == 60 || o.character == 38 || is_mark o.character)) (not (o.character == 0xFEFF)) p.1 in
        inr (record { character = o.character; passes = and_from (nat_le 128 o.character) (is_character o.character && not (o.character == 0xFEFF)) (le-leb 128 o.character l) (and_from (is_character o.character) (not (o.character == 0xFEFF)) p.0 q.1); is = o.is })

text_beyond : (place : Place) (c : ℕ) → 128 ≤ c → may_follow place (character c) ≡ true → is_text place c ≡ true
text_beyond place c l m = and_from (not (c == 60 || c == 38 || is_mark c)) (may_follow place (character c)) (not_from_false (c == 60 || c == 38 || is_mark c) (beyond_is c l)) m

spells_text : (place : Place) → Spells (text_form place) (One (IsText place))
spells_text at_beginning = spells_as (spells_either (spells_ascii (IsText at_beginning)) spells_but_mark) beginning_into beginning_from
spells_text behind_mark = spells_character (is_text behind_mark) (λ c l. text_beyond behind_mark c l refl)
spells_text (behind k) = spells_character (is_text (behind k)) (λ c l. text_beyond (behind k) c l (beyond_follows k c l))

abbrev IsOne : Place → Piece → Type 0
IsOne place p = (c : ℕ) × (p ≡ leaf (character c)) × (is_plain c ≡ true) × (is_mark c ≡ false) × (may_follow place (character c) ≡ true)

pub text_is_spelled : TextIsSpelled
text_is_spelled place = is_form_of (spells_as (spells_text place) into from)
  where
    into : (cs : List ℕ) → One (IsText place) cs → (p : Piece) × IsOne place p × (piece_then p [] ≡ cs)
    into cs o = let t = text_parts place o.character o.passes in (leaf (character o.character), (o.character, refl, t.0, t.1, t.2), o.is)

    from : (cs : List ℕ) → ((p : Piece) × IsOne place p × (piece_then p [] ≡ cs)) → One (IsText place) cs
    from cs q = record { character = q.1.0; passes = parts_text place q.1.0 q.1.2 q.1.3 q.1.4; is = sym (ap (λ (z : Piece). piece_then z []) q.1.1) ∙ q.2 }

-- The mark.

mark_bytes : piece_bytes mark ≡ 0xEF ∷ 0xBB ∷ 0xBF ∷ []
mark_bytes = append-nil (encode_utf8 0xFEFF) ∙ mark_is

pub mark_is_spelled : MarkIsSpelled
mark_is_spelled bytes = (
  λ d. (mark, refl, mark_bytes ∙ sym (word_shown (0xEF ∷ 0xBB ∷ 0xBF ∷ []) d)),
  λ q. subst (λ (z : List ℕ). Matches mark_form z) (sym mark_bytes ∙ ap piece_bytes (sym q.1) ∙ q.2) (word_made (0xEF ∷ 0xBB ∷ 0xBF ∷ [])),
)

-- End tags.

abbrev Parts : List ℕ → List ℕ → Type 0
Parts name = Chained (λ cs. codes "</" ≡ cs) (Chained (λ cs. name ≡ cs) (Chained (λ cs. list_all is_blank cs ≡ true) (λ cs. codes ">" ≡ cs)))

abbrev IsEnd : List ℕ → Piece → Type 0
IsEnd name p = (space : List ℕ) × (p ≡ end_tag name space) × (list_all is_blank space ≡ true)

pub end_tags_are_spelled : EndTagsAreSpelled
end_tags_are_spelled name named =
    is_form_of (spells_as (spells_chain (spells_word (codes "</") refl) (spells_chain (spells_word name (name_ascii name named)) (spells_chain spells_blanks (spells_word (codes ">") refl)))) into from)
  where
    into : (cs : List ℕ) → Parts name cs → (p : Piece) × IsEnd name p × (piece_then p [] ≡ cs)
    into cs a =
        let b = a.goes_on in
        let c = b.goes_on in
        (end_tag name c.first, (c.first, refl, c.begins), put_together a.begins (put_together b.begins (put_together refl c.goes_on c.is) b.is) a.is)

    from : (cs : List ℕ) → ((p : Piece) × IsEnd name p × (piece_then p [] ≡ cs)) → Parts name cs
    from cs q = record {
      first = codes "</";
      second = name ++ (q.1.0 ++ codes ">");
      begins = refl;
      goes_on = record {
        first = name;
        second = q.1.0 ++ codes ">";
        begins = refl;
        goes_on = record { first = q.1.0; second = codes ">"; begins = q.1.2; goes_on = refl; is = refl };
        is = refl;
      };
      is = sym (ap (λ (z : Piece). piece_then z []) q.1.1) ∙ q.2;
    }
