-- The reader of a page, one character more in an open piece.
use Rattle.std.proofs.Common.{◌≡◌, ℕ, Bool, true, false, List, ◌∷◌, refl, ◌∙◌, ap}
use Rattle.std.specs.Prelude.{if◌then◌else◌}
use Rattle.text_base.specs.declared.page_token.PageToken.{PageToken}
use Rattle.xml_text.specs.Characters.{is_character}
use Rattle.dtd_model.specs.Table.{Table}
use Rattle.page_model.specs.Places.{Place}
use Rattle.piece_steps.specs.Readers.{Move, go, fail, Outcome, whole, next, ends}
use Rattle.page_model.specs.Fronts.{Open}
use Rattle.page_steps.specs.PageSteps.{OpenMove, open_move, PageState, put_place, page_step, page_reader, is_inside}
use Rattle.page_insides.specs.Laws.{settle, read}
use Rattle.page_insides.proofs.Settled.{kept_settled}

-- reading on behind a move
abbrev pub behind_move : Table → Place → OpenMove → List ℕ → Outcome Place PageToken PageState
behind_move table place m rest = next (put_place (settle place) m) (λ g. ends (page_reader table) g rest) rest

pub page_more : (table : Table) (place : Place) (o : Open) (c : ℕ) (m : OpenMove) (rest : List ℕ) → is_character c ≡ true → open_move table (settle place) o c ≡ m → read table place o (c ∷ rest) ≡ behind_move table place m rest
unfolding page_step
page_more table place o c m rest h e =
    ap (λ (b : Bool). let z : Move Place PageToken PageState = if b then put_place (settle place) (open_move table (settle place) o c) else fail in next z (λ g. ends (page_reader table) g rest) rest) h
    ∙ ap (λ (m : OpenMove). behind_move table place m rest) e

-- the piece goes on
pub on_is : (table : Table) (place : Place) (p : Open) (rest : List ℕ) → is_inside p ≡ true → behind_move table place (go p) rest ≡ read table place p rest
on_is table place p rest h = ap (λ (q : Place). ends (page_reader table) (record { place = q; inside = p }) rest) (kept_settled p place h)

pub page_on : (table : Table) (place : Place) (o : Open) (c : ℕ) (p : Open) (rest : List ℕ) → is_character c ≡ true → is_inside p ≡ true → open_move table (settle place) o c ≡ go p → read table place o (c ∷ rest) ≡ read table place p rest
page_on table place o c p rest h q e = page_more table place o c (go p) rest h e ∙ on_is table place p rest q

-- back: the character was one of XML, and led on
pub record Led (table : Table) (place : Place) (o : Open) (c : ℕ) (rest : List ℕ) (out : Outcome Place PageToken PageState) : Type 0 where
  pub character : is_character c ≡ true
  pub leads : behind_move table place (open_move table (settle place) o c) rest ≡ out

pub page_back : (table : Table) (place next_place : Place) (o : Open) (c : ℕ) (cs : List ℕ) (given : List PageToken) (rest : List ℕ) → read table place o (c ∷ cs) ≡ whole next_place given rest → Led table place o c cs (whole next_place given rest)
unfolding page_step
page_back table place next_place o c cs given rest e = at (is_character c) refl e
  where
    at : (b : Bool) → is_character c ≡ b → (let z : Move Place PageToken PageState = if b then put_place (settle place) (open_move table (settle place) o c) else fail in next z (λ g. ends (page_reader table) g cs) cs ≡ whole next_place given rest)
        → Led table place o c cs (whole next_place given rest)
    at true h e = record { character = h; leads = e }
    at false h e = cc
