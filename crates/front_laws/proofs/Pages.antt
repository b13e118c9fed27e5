-- The open piece of a page behind characters, where each leads on.
use Rattle.std.proofs.Common.{◌≡◌, ℕ, Bool, true, false, List, [], ◌∷◌, ◌++◌, Option, Some, None, refl, sym, ◌∙◌, ap}
use Rattle.std.specs.Prelude.{if◌then◌else◌}
use Rattle.std.specs.Option.{option_and_then}
use Rattle.text_base.specs.declared.page_token.PageToken.{PageToken}
use Rattle.xml_text.specs.Characters.{is_character}
use Rattle.dtd_model.specs.Table.{Table}
use Rattle.page_model.specs.Places.{Place}
use Rattle.piece_steps.specs.Insides.{Turn, on as turn_on, out, stop, inside}
use Rattle.piece_steps.specs.Readers.{Move, go, done, fail}
use Rattle.page_model.specs.Fronts.{Open}
use Rattle.page_steps.specs.PageSteps.{OpenMove, open_move}
use Rattle.front_laws.proofs.Folds.{Folds, From, folded, here, onto, nowhere, on, somewhere, either, behind_step, computed, Led, Embeds, any_symbol, same}

-- where a move leads on
abbrev pub goes : {P T S : Type 0} → Move P T S → Option S
goes (go s) = Some s
goes (done place tokens) = None
goes fail = None

abbrev pub open_step : Table → Place → Open → ℕ → Option Open
open_step table place o c = if is_character c then goes (open_move table place o c) else None

-- from the open piece the characters lead to this one, if they lead on
pub record Leads (table : Table) (place : Place) (o : Open) (text : List ℕ) (w : Open) : Type 0 where
  pub folds : Folds (open_step table place) o text w

-- behind a move
pub record Next (table : Table) (place : Place) (m : OpenMove) (text : List ℕ) (w : Open) : Type 0 where
  pub from : From (open_step table place) (goes m) text w

pub leads_here : {table : Table} {place : Place} {o w : Open} → o ≡ w → Leads table place o [] w
leads_here e = record { folds = here e }

pub leads_onto : {table : Table} {place : Place} {o w : Open} {a rest : List ℕ} (mid : Open) → Leads table place o a mid → Leads table place mid rest w → Leads table place o (a ++ rest) w
leads_onto mid f g = record { folds = onto mid f.folds g.folds }

pub more : {table : Table} {place : Place} {cs : List ℕ} {w : Open} (o : Open) (c : ℕ) → Next table place (open_move table place o c) cs w → Leads table place o (c ∷ cs) w
more {table} {place} {cs} {w} o c f = record { folds = on (either (is_character c) (goes (open_move table place o c)) None (λ h. f.from) (λ h. nowhere)) }

-- where two open pieces do the same with a character
pub as_from : {table : Table} {place : Place} {cs : List ℕ} {w : Open} {c : ℕ} (o p : Open) → open_step table place o c ≡ open_step table place p c → Leads table place p (c ∷ cs) w → Leads table place o (c ∷ cs) w
as_from {table} {place} {cs} {w} {c} o p e f = record { folds = record { is = λ x q. f.folds.is x (ap (option_and_then (λ g. folded (open_step table place) g cs)) (sym e) ∙ q) } }

-- behind the first character
pub leads_behind : {table : Table} {place : Place} {cs : List ℕ} {w : Open} {c : ℕ} (o p : Open) → open_step table place o c ≡ Some p → Leads table place o (c ∷ cs) w → Leads table place p cs w
leads_behind o p e f = record { folds = behind_step p e f.folds }

-- where what is open is computed
pub leads_computed : {table : Table} {place : Place} {o w : Open} {text : List ℕ} → folded (open_step table place) o text ≡ Some w → Leads table place o text w
leads_computed {table} {place} {o} {w} {text} e = record { folds = computed w e }

pub go_on : {table : Table} {place : Place} {p : Open} {cs : List ℕ} {w : Open} → Leads table place p cs w → Next table place (go p) cs w
go_on f = record { from = somewhere f.folds }

pub ended : {table : Table} {place next : Place} {tokens : List PageToken} {cs : List ℕ} {w : Open} → Next table place (done next tokens) cs w
ended = record { from = nowhere }

pub dead : {table : Table} {place : Place} {cs : List ℕ} {w : Open} → Next table place fail cs w
dead = record { from = nowhere }

pub by_test : {table : Table} {place : Place} {cs : List ℕ} {w : Open} (b : Bool) (x y : OpenMove) → (b ≡ true → Next table place x cs w) → (b ≡ false → Next table place y cs w) → Next table place (if b then x else y) cs w
by_test true x y p q = p refl
by_test false x y p q = q refl

-- what cannot be is not so
pub not_both : {A : Type 0} (b : Bool) → b ≡ true → b ≡ false → A
not_both true p q = cc
not_both false p q = cc

-- Small machines inside.

abbrev pub turn_goes : {B : Type 0} → Turn B → Option B
turn_goes (turn_on g) = Some g
turn_goes out = None
turn_goes stop = None

pub turn_embeds : {B : Type 0} (table : Table) (place : Place) (wrap : B → Open) (turn : B → ℕ → Turn B) (next : Place) (tokens : List PageToken)
    → ((b : B) (c : ℕ) → open_move table place (wrap b) c ≡ inside wrap (done next tokens) (turn b c)) → Embeds (λ b c. turn_goes (turn b c)) (open_step table place) wrap any_symbol
turn_embeds {B} table place wrap turn next tokens is b c z h e = at (is_character c) (turn b c) refl (ap (λ (m : OpenMove). if is_character c then goes m else None) (sym (is b c)) ∙ e)
  where
    at : (x : Bool) (t : Turn B) → turn b c ≡ t → (let m : OpenMove = inside wrap (done next tokens) t in if x then goes m else None) ≡ Some z → Led (λ b c. turn_goes (turn b c)) wrap b c z
    at true (turn_on g) q e = record { g = g; led = ap turn_goes q; is = sym (same (wrap g) z e) }
    at true out q e = cc
    at true stop q e = cc
    at false t q e = cc
