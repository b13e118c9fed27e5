-- The states of an element decide what it may hold.
use Rattle.std.proofs.Common.{◌≡◌, ℕ, Bool, true, false, ◌&&◌, List, [], ◌∷◌, ◌++◌, refl, ap, ◌∙◌, Option, Some, None}
use Rattle.std.specs.Prelude.{if◌then◌else◌, nat_lt, nat_eq}
use Rattle.std.specs.List.{list_all, list_any}
use Rattle.dtd_model.specs.Table.{Holding, nothing, anything, text_and, children}
use Rattle.dtd_model.specs.Matches.{matches}
use Rattle.content_automata.specs.Positions.{Position, places_of}
use Rattle.content_automata.specs.Sets.{names, set_step, set_walk, first_set, is_whole}
use Rattle.content_automata.proofs.Deciding.{sets_decide}
use Rattle.content_automata.specs.Shapes.{Shape, any, text, model, shape, one_state, first_state, state_behind, states_walk, then_some}

chosen : (x : Bool) (flags : List Bool) (f g : List Bool → Option (List Bool)) → f flags ≡ g flags → then_some (if x then Some flags else None) f ≡ (if x then g flags else None)
chosen true flags f g e = e
chosen false flags f g e = refl

-- of a model the states are the sets of positions
pub model_walk : (count : ℕ) (first : List Bool) (places : List Position) (flags : List Bool) (es : List ℕ) → states_walk count (model first places) flags es ≡ set_walk places flags es
model_walk count first places flags [] = refl
model_walk count first places flags (e ∷ es) =
    chosen (names places flags e) (set_step places flags e) (λ (f : List Bool). states_walk count (model first places) f es) (λ (f : List Bool). set_walk places f es) (model_walk count first places (set_step places flags e) es)

stays : (x : Bool) (f : List Bool → Option (List Bool)) (rest : Bool) → is_whole (f one_state) ≡ rest → is_whole (then_some (if x then Some one_state else None) f) ≡ (x && rest)
stays true f rest e = e
stays false f rest e = refl

any_walk : (count : ℕ) (es : List ℕ) → is_whole (states_walk count any one_state es) ≡ list_all (λ e. nat_lt e count) es
any_walk count [] = refl
any_walk count (e ∷ es) = stays (nat_lt e count) (λ (f : List Bool). states_walk count any f es) (list_all (λ e. nat_lt e count) es) (any_walk count es)

text_walk : (count : ℕ) (allowed es : List ℕ) → is_whole (states_walk count (text allowed) one_state es) ≡ list_all (λ e. list_any (nat_eq e) allowed) es
text_walk count allowed [] = refl
text_walk count allowed (e ∷ es) = stays (list_any (nat_eq e) allowed) (λ (f : List Bool). states_walk count (text allowed) f es) (list_all (λ e. list_any (nat_eq e) allowed) es) (text_walk count allowed es)

-- children lead to a state in which a match may end exactly where they match
pub states_decide : (count : ℕ) (h : Holding) (es : List ℕ) → is_whole (states_walk count (shape h) (first_state (shape h)) es) ≡ matches count h es
states_decide count nothing [] = refl
states_decide count nothing (e ∷ es) = refl
states_decide count anything es = any_walk count es
states_decide count (text_and allowed) es = text_walk count allowed es
states_decide count (children m) es = ap is_whole (model_walk count (first_set m) (places_of m) (first_set m) es) ∙ sets_decide m es

joined : (x : Option (List Bool)) (f g : List Bool → Option (List Bool)) → ((flags : List Bool) → f flags ≡ g flags) → then_some x f ≡ then_some x g
joined None f g e = refl
joined (Some flags) f g e = e flags

-- some children and then others
pub walk_append : (count : ℕ) (s : Shape) (flags : List Bool) (es fs : List ℕ) → states_walk count s flags (es ++ fs) ≡ then_some (states_walk count s flags es) (λ (f : List Bool). states_walk count s f fs)
walk_append count s flags [] fs = refl
walk_append count s flags (d ∷ es) fs =
    joined (state_behind count s flags d) (λ (f : List Bool). states_walk count s f (es ++ fs)) (λ (f : List Bool). then_some (states_walk count s f es) (λ (g : List Bool). states_walk count s g fs)) (λ (f : List Bool). walk_append count s f es fs)
    ∙ two (state_behind count s flags d)
  where
    two : (x : Option (List Bool)) → then_some x (λ (f : List Bool). then_some (states_walk count s f es) (λ (g : List Bool). states_walk count s g fs)) ≡ then_some (then_some x (λ (f : List Bool). states_walk count s f es)) (λ (g : List Bool). states_walk count s g fs)
    two None = refl
    two (Some f) = refl

-- one child more
pub walk_more : (count : ℕ) (s : Shape) (flags : List Bool) (es : List ℕ) (e : ℕ) → states_walk count s flags (es ++ e ∷ []) ≡ then_some (states_walk count s flags es) (λ (f : List Bool). state_behind count s f e)
walk_more count s flags es e =
    walk_append count s flags es (e ∷ [])
    ∙ joined (states_walk count s flags es) (λ (f : List Bool). states_walk count s f (e ∷ [])) (λ (f : List Bool). state_behind count s f e) (λ (f : List Bool). last (state_behind count s f e))
  where
    last : (x : Option (List Bool)) → then_some x (λ (f : List Bool). Some f) ≡ x
    last None = refl
    last (Some f) = refl
