-- What may be quoted in an attribute may stand in its value, and is not the quote.
use Rattle.std.proofs.Common.{◌≡◌, ℕ, Bool, true, false, not, ◌&&◌, ◌||◌, List, [], ◌∷◌, refl}
use Rattle.std.specs.Prelude.{nat_eq}
use Rattle.std.specs.List.{list_all}
use Rattle.std.proofs.lemmas.Bool.{and_parts, and_from}
use Rattle.xml_text.specs.Characters.{is_character}
use Rattle.page_model.specs.Parts.{may_be_quoted}
use Rattle.page_steps.specs.ValueSteps.{may_stand}
use Rattle.attribute_steps.specs.Among.{is_free}

quoted_parts : (a b c : Bool) → (a && not (b || c)) ≡ true → ((a && not b) ≡ true) × (not c ≡ true)
quoted_parts true true c h = cc
quoted_parts true false true h = cc
quoted_parts true false false h = (refl, refl)
quoted_parts false b c h = cc

quoted_from : (a b c : Bool) → (a && not b) ≡ true → not c ≡ true → (a && not (b || c)) ≡ true
quoted_from true true c h g = cc
quoted_from true false true h g = cc
quoted_from true false false h g = refl
quoted_from false b c h g = cc

pub record Quoted (quote : ℕ) (value : List ℕ) : Type 0 where
  pub stand : list_all may_stand value ≡ true
  pub free : list_all (is_free quote) value ≡ true

pub to_quoted : (quote : ℕ) (value : List ℕ) → list_all (may_be_quoted quote) value ≡ true → Quoted quote value
to_quoted quote [] h = record { stand = refl; free = refl }
to_quoted quote (c ∷ cs) h =
    let p = and_parts (may_be_quoted quote c) (list_all (may_be_quoted quote) cs) h in
    let q = quoted_parts (is_character c) (nat_eq c 60) (nat_eq c quote) p.0 in
    let m = to_quoted quote cs p.1 in
    record { stand = and_from (may_stand c) (list_all may_stand cs) q.0 m.stand; free = and_from (is_free quote c) (list_all (is_free quote) cs) q.1 m.free }

pub from_quoted : (quote : ℕ) (value : List ℕ) → list_all may_stand value ≡ true → list_all (is_free quote) value ≡ true → list_all (may_be_quoted quote) value ≡ true
from_quoted quote [] h g = refl
from_quoted quote (c ∷ cs) h g =
    let p = and_parts (may_stand c) (list_all may_stand cs) h in
    let q = and_parts (is_free quote c) (list_all (is_free quote) cs) g in
    and_from (may_be_quoted quote c) (list_all (may_be_quoted quote) cs) (quoted_from (is_character c) (nat_eq c 60) (nat_eq c quote) p.0 q.0) (from_quoted quote cs p.1 q.1)
