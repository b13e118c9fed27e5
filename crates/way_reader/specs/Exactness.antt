-- Equality of ways and of states is exact.
use Rattle.std.specs.Prelude.{◌≡◌, ◌&&◌, true, List, Bool, refl}
use Rattle.std.specs.Cmp.{first_so, second_so}
use Rattle.std.specs.Cmp.Lexicographic.{pointwise}
use Rattle.std.proofs.Common.{rules, ap, ◌∙◌}
use Rattle.text_base.specs.Exactness.{IsExact}
use Rattle.text_base.specs.declared.page_token.PageToken.{PageToken}
use Rattle.text_base.specs.contracts.page_token.PageTokenPartialEq.TheImpl as tokens
use Rattle.byte_readers.specs.declared.emit.Emit.{Emit}
use Rattle.byte_readers.specs.declared.emit.Emit.TheVariants.{Nothing, One, Two}
use Rattle.byte_readers.specs.contracts.emit.EmitPartialEq.TheImpl as emits
use Rattle.partial_derivatives.specs.Exactness.{exact_row}
use Rattle.partial_derivatives.specs.PartExactness.{exact_part}
use Rattle.partial_derivatives.specs.declared.part.Part.{Part}
use Rattle.partial_derivatives.specs.contracts.part.PartPartialEq.TheImpl as parts
use Rattle.way_reader.specs.declared.way.Spot.{Spot}
use Rattle.way_reader.specs.declared.way.Way.{Way}
use Rattle.way_reader.specs.declared.way.WayState.{WayState}
use Rattle.way_reader.specs.declared.way.WayState.TheVariants.{Failed, At, Inside}
use Rattle.way_reader.specs.contracts.way.SpotPartialEq.TheImpl as spots
use Rattle.way_reader.specs.contracts.way.WayPartialEq.TheImpl as ways
use Rattle.way_reader.specs.contracts.way.WayStatePartialEq.TheImpl as states

exact_token : IsExact (tokens.ghosts).eq
exact_token = search rules

exact_emit : (a b : Emit) → (emits.ghosts).eq a b ≡ true → a ≡ b
exact_emit Nothing Nothing e = refl
exact_emit Nothing (One t) e = cc
exact_emit Nothing (Two t u) e = cc
exact_emit (One t) Nothing e = cc
exact_emit (One t) (One s) e = ap (λ (x : PageToken). One x) (exact_token t s e)
exact_emit (One t) (Two s u) e = cc
exact_emit (Two t u) Nothing e = cc
exact_emit (Two t u) (One s) e = cc
exact_emit (Two t u) (Two s v) e =
    let p : t ≡ s = exact_token t s (first_so ((tokens.ghosts).eq t s) ((tokens.ghosts).eq u v) e) in
    let q : u ≡ v = exact_token u v (second_so ((tokens.ghosts).eq t s) ((tokens.ghosts).eq u v) e) in
    ap (λ (x : PageToken). Two x u) p ∙ ap (λ (x : PageToken). Two s x) q

exact_spot : IsExact (spots.ghosts).eq
exact_spot = search rules

-- ways that are found equal are one
pub exact_way : (a b : Way) → (ways.ghosts).eq a b ≡ true → a ≡ b
exact_way a b e =
    let rest : Bool = (emits.ghosts).eq a.emit b.emit && (spots.ghosts).eq a.to b.to in
    let p : a.parts ≡ b.parts = exact_row exact_part a.parts b.parts (first_so (pointwise (parts.ghosts).eq a.parts b.parts) rest e) in
    let more : rest ≡ true = second_so (pointwise (parts.ghosts).eq a.parts b.parts) rest e in
    let q : a.emit ≡ b.emit = exact_emit a.emit b.emit (first_so ((emits.ghosts).eq a.emit b.emit) ((spots.ghosts).eq a.to b.to) more) in
    let r : a.to ≡ b.to = exact_spot a.to b.to (second_so ((emits.ghosts).eq a.emit b.emit) ((spots.ghosts).eq a.to b.to) more) in
    ap (λ (x : List Part). let y : Way = record { parts = x; emit = a.emit; to = a.to } in y) p
    ∙ ap (λ (x : Emit). let y : Way = record { parts = b.parts; emit = x; to = a.to } in y) q
    ∙ ap (λ (x : Spot). let y : Way = record { parts = b.parts; emit = b.emit; to = x } in y) r

-- and so it is with states
pub exact_state : (a b : WayState) → (states.ghosts).eq a b ≡ true → a ≡ b
exact_state Failed Failed e = refl
exact_state Failed (At s) e = cc
exact_state Failed (Inside ws) e = cc
exact_state (At s) Failed e = cc
exact_state (At s) (At t) e = ap (λ (x : Spot). At x) (exact_spot s t e)
exact_state (At s) (Inside ws) e = cc
exact_state (Inside ws) Failed e = cc
exact_state (Inside ws) (At s) e = cc
exact_state (Inside ws) (Inside vs) e = ap (λ (x : List Way). Inside x) (exact_row exact_way ws vs e)
