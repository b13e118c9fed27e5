-- One character more, and then the end of a piece.
use Rattle.std.proofs.Common.{◌≡◌, ℕ, Bool, true, false, List, [], ◌∷◌, refl, ◌∙◌, ap}
use Rattle.std.specs.Prelude.{if◌then◌else◌}
use Rattle.text_base.specs.declared.page_token.PageToken.{PageToken}
use Rattle.xml_text.specs.Characters.{is_character}
use Rattle.dtd_model.specs.Table.{Table}
use Rattle.page_model.specs.Places.{Place}
use Rattle.piece_steps.specs.Readers.{Move, go, done, fail, whole, next as by_move, ends}
use Rattle.page_model.specs.Fronts.{Open, kept_place}
use Rattle.page_steps.specs.PageSteps.{OpenMove, open_move, PageState, put_place, page_step, page_reader}
use Rattle.page_endings.specs.Laws.{at_open, Ends}

pub if_true : {A : Type 0} (b : Bool) (x y : A) → b ≡ true → (if b then x else y) ≡ x
if_true true x y h = refl
if_true false x y h = cc

pub if_false : {A : Type 0} (b : Bool) (x y : A) → b ≡ false → (if b then x else y) ≡ y
if_false true x y h = cc
if_false false x y h = refl

module _ (table : Table) where
  stepped : (place : Place) (o : Open) (c : ℕ) (m : OpenMove) → is_character c ≡ true → open_move table place o c ≡ m
      → page_step table (at_open place o) c ≡ put_place place m
  unfolding page_step
  stepped place o c m h e =
      ap (λ (b : Bool). let z : Move Place PageToken PageState = if b then put_place place (open_move table place o c) else fail in z) h
      ∙ ap (put_place place) e

  -- a character that leads on
  pub goes : (o g : Open) (c : ℕ) → is_character c ≡ true → ((place : Place) → open_move table place o c ≡ go g) → Ends table g → Ends table o
  goes o g c h e (text, more) = (c ∷ text, λ place. at place (more (kept_place g [] place)))
    where
      at : (place : Place) → (next : Place) × (tokens : List PageToken) × (ends (page_reader table) (at_open (kept_place g [] place) g) text ≡ whole next tokens [])
          → (next : Place) × (tokens : List PageToken) × (ends (page_reader table) (at_open place o) (c ∷ text) ≡ whole next tokens [])
      at place (next, tokens, q) = (
        next,
        tokens,
        ap (λ (m : Move Place PageToken PageState). by_move m (λ z. ends (page_reader table) z text) text) (stepped place o c (go g) h (e place)) ∙ q,
      )

  -- a character that ends the piece
  pub ended : (o : Open) (c : ℕ) → is_character c ≡ true
      → ((place : Place) → (next : Place) × (tokens : List PageToken) × (open_move table place o c ≡ done next tokens)) → Ends table o
  ended o c h e = (c ∷ [], λ place. at place (e place))
    where
      at : (place : Place) → (next : Place) × (tokens : List PageToken) × (open_move table place o c ≡ done next tokens)
          → (next : Place) × (tokens : List PageToken) × (ends (page_reader table) (at_open place o) (c ∷ []) ≡ whole next tokens [])
      at place (next, tokens, q) = (
        next,
        tokens,
        ap (λ (m : Move Place PageToken PageState). by_move m (λ z. ends (page_reader table) z []) []) (stepped place o c (done next tokens) h q),
      )

  -- what ends a piece, with its first character
  abbrev pub Led : Open → ℕ → Type 0
  Led o c = (text : List ℕ) × ((place : Place) → (next : Place) × (tokens : List PageToken) × (ends (page_reader table) (at_open place o) (c ∷ text) ≡ whole next tokens []))

  pub leads : (o g : Open) (c : ℕ) → is_character c ≡ true → ((place : Place) → open_move table place o c ≡ go g) → Ends table g → Led o c
  leads o g c h e (text, more) = (text, λ place. at place (more (kept_place g [] place)))
    where
      at : (place : Place) → (next : Place) × (tokens : List PageToken) × (ends (page_reader table) (at_open (kept_place g [] place) g) text ≡ whole next tokens [])
          → (next : Place) × (tokens : List PageToken) × (ends (page_reader table) (at_open place o) (c ∷ text) ≡ whole next tokens [])
      at place (next, tokens, q) = (
        next,
        tokens,
        ap (λ (m : Move Place PageToken PageState). by_move m (λ z. ends (page_reader table) z text) text) (stepped place o c (go g) h (e place)) ∙ q,
      )

  pub leads_out : (o : Open) (c : ℕ) → is_character c ≡ true → ((place : Place) → (next : Place) × (tokens : List PageToken) × (open_move table place o c ≡ done next tokens)) → Led o c
  leads_out o c h e = ([], λ place. at place (e place))
    where
      at : (place : Place) → (next : Place) × (tokens : List PageToken) × (open_move table place o c ≡ done next tokens)
          → (next : Place) × (tokens : List PageToken) × (ends (page_reader table) (at_open place o) (c ∷ []) ≡ whole next tokens [])
      at place (next, tokens, q) = (
        next,
        tokens,
        ap (λ (m : Move Place PageToken PageState). by_move m (λ z. ends (page_reader table) z []) []) (stepped place o c (done next tokens) h q),
      )
