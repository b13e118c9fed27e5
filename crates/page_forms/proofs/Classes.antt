-- Classes of bytes are spelled by their ranges.
use Rattle.std.proofs.Common.{◌≡◌, ℕ, Bool, List, [], ◌∷◌, ◌++◌, refl, sym, ◌∙◌, ap, subst}
use Rattle.std.specs.Prelude.{nat_lt, ◌&&◌}
use Rattle.std.specs.Str.{encode_utf8_all}
use Rattle.std.proofs.lemmas.Bool.{and_parts, and_from, ltb-true, lt-ltb}
use Rattle.std.proofs.lemmas.Str.{encode_ascii}
use Rattle.derivatives.specs.Expressions.{Matches}
use Rattle.byte_forms.specs.Laws.{IsByteBelow}
use Rattle.byte_forms.proofs.ByteLemmas.{byte_is_matched}
use Rattle.page_forms.specs.Words.{ascii}
use Rattle.page_forms.proofs.Spelling.{Spells, Spelled, One}

pub spells_ascii : (test : ℕ → Bool) → Spells (ascii test) (One (λ c. nat_lt c 128 && test c))
unfolding ascii
spells_ascii test = record { shown = λ w d. shown_at ((byte_is_matched test 128 w).0 d); made = λ cs o. made_at cs o }
  where
    shown_at : {w : List ℕ} → IsByteBelow test 128 w → Spelled (One (λ c. nat_lt c 128 && test c)) w
    shown_at p = record {
      characters = p.byte ∷ [];
      are = record { character = p.byte; passes = and_from (nat_lt p.byte 128) (test p.byte) (lt-ltb p.byte 128 p.below) p.passes; is = refl };
      is = ap (λ (z : List ℕ). z ++ []) (encode_ascii p.byte p.below) ∙ p.is;
    }

    made_at : (cs : List ℕ) → One (λ c. nat_lt c 128 && test c) cs → Matches (ascii test) (encode_utf8_all cs)
    made_at cs o =
        let p = and_parts (nat_lt o.character 128) (test o.character) o.passes in
        let l = ltb-true o.character 128 p.0 in
        subst (λ (z : List ℕ). Matches (ascii test) z) (ap (λ (z : List ℕ). z ++ []) (sym (encode_ascii o.character l)) ∙ ap encode_utf8_all o.is)
        ((byte_is_matched test 128 (o.character ∷ [])).1 (record { byte = o.character; below = l; passes = p.1; is = refl }))
