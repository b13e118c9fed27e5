-- One of some words.
use Rattle.std.proofs.Common.{◌≡◌, ◌⊎◌, inl, inr, ℕ, Bool, true, false, List, [], ◌∷◌, refl, sym, ◌∙◌, ap, subst}
use Rattle.std.specs.Prelude.{nat_lt, bytes_eq, ◌||◌, if◌then◌else◌}
use Rattle.std.specs.List.{list_all, list_any}
use Rattle.std.proofs.lemmas.Bool.{and_parts, and_from, or_cases, or_left, or_right, lt-ltb}
use Rattle.xml_text.specs.Names.{begins_name, in_name, is_name, is_name_token}
use Rattle.derivatives.specs.Expressions.{nothing, Matches}
use Rattle.derivatives.specs.Derivatives.{either_of}
use Rattle.page_model.proofs.Names.{same_bytes, equal_bytes}
use Rattle.page_forms.specs.Words.{word, one_of_words}
use Rattle.page_forms.proofs.NameForms.{name_small, begins_small}
use Rattle.page_forms.proofs.Spelling.{Spells, Spelled, spells_word, spells_either, spells_as}

-- one of the words, and it passes the test
pub record IsWordOf (test : List ℕ → Bool) (ws : List (List ℕ)) (cs : List ℕ) : Type 0 where
  pub passes : test cs ≡ true
  pub among : list_any (bytes_eq cs) ws ≡ true

pub spells_nothing : Spells nothing (λ cs. ⊥)
spells_nothing = record { shown = λ w d. shown_at d; made = λ cs a. absurd a }
  where
    shown_at : {w : List ℕ} → Matches nothing w → Spelled (λ cs. ⊥) w
    shown_at d = elim d [ ]

both : (b : Bool) → b ≡ true → b ≡ false → ⊥
both b t f = cc

pub spells_words : (test : List ℕ → Bool) → ((w : List ℕ) → test w ≡ true → list_all (λ c. nat_lt c 128) w ≡ true) → (ws : List (List ℕ)) → Spells (one_of_words test ws) (IsWordOf test ws)
spells_words test small [] = spells_as spells_nothing (λ cs a. absurd a) none
  where
    no : false ≡ true → ⊥
    no e = cc

    none : (cs : List ℕ) → IsWordOf test [] cs → ⊥
    none cs i = no i.among
spells_words test small (w ∷ ws) = at (test w) refl (spells_words test small ws)
  where
    into : test w ≡ true → (cs : List ℕ) → (w ≡ cs) ⊎ IsWordOf test ws cs → IsWordOf test (w ∷ ws) cs
    into h cs (inl e) = record { passes = ap test (sym e) ∙ h; among = or_left (bytes_eq cs w) (list_any (bytes_eq cs) ws) (equal_bytes cs w (sym e)) }
    into h cs (inr i) = record { passes = i.passes; among = or_right (bytes_eq cs w) (list_any (bytes_eq cs) ws) i.among }

    from : (cs : List ℕ) → IsWordOf test (w ∷ ws) cs → (w ≡ cs) ⊎ IsWordOf test ws cs
    from cs i = by (or_cases (bytes_eq cs w) (list_any (bytes_eq cs) ws) i.among)
      where
        by : (bytes_eq cs w ≡ true) ⊎ (list_any (bytes_eq cs) ws ≡ true) → (w ≡ cs) ⊎ IsWordOf test ws cs
        by (inl e) = inl (sym (same_bytes cs w e))
        by (inr m) = inr (record { passes = i.passes; among = m })

    wider : (cs : List ℕ) → IsWordOf test ws cs → IsWordOf test (w ∷ ws) cs
    wider cs i = record { passes = i.passes; among = or_right (bytes_eq cs w) (list_any (bytes_eq cs) ws) i.among }

    narrow : test w ≡ false → (cs : List ℕ) → (w ≡ cs) ⊎ IsWordOf test ws cs → test cs ≡ true → IsWordOf test ws cs
    narrow h cs (inl e) t = absurd (both (test cs) t (ap test (sym e) ∙ h))
    narrow h cs (inr i) t = i

    at : (b : Bool) → test w ≡ b → Spells (one_of_words test ws) (IsWordOf test ws) → Spells (if b then either_of (word w) (one_of_words test ws) else one_of_words test ws) (IsWordOf test (w ∷ ws))
    at true h s = spells_as (spells_either (spells_word w (small w h)) s) (into h) from
    at false h s = spells_as s wider (λ cs i. narrow h cs (from cs i) i.passes)

all_small : (cs : List ℕ) → list_all in_name cs ≡ true → list_all (λ c. nat_lt c 128) cs ≡ true
all_small [] h = refl
all_small (c ∷ cs) h = let p = and_parts (in_name c) (list_all in_name cs) h in and_from (nat_lt c 128) (list_all (λ c. nat_lt c 128) cs) (lt-ltb c 128 (name_small c p.0)) (all_small cs p.1)

-- names are of ASCII
pub name_ascii : (cs : List ℕ) → is_name cs ≡ true → list_all (λ c. nat_lt c 128) cs ≡ true
name_ascii [] h = refl
name_ascii (c ∷ cs) h =
    let p = and_parts (begins_name c) (list_all in_name cs) h in
    and_from (nat_lt c 128) (list_all (λ c. nat_lt c 128) cs) (lt-ltb c 128 (begins_small c p.0)) (all_small cs p.1)

pub token_ascii : (cs : List ℕ) → is_name_token cs ≡ true → list_all (λ c. nat_lt c 128) cs ≡ true
token_ascii [] h = refl
token_ascii (c ∷ cs) h = all_small (c ∷ cs) h
