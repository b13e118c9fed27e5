-- What can be read at the front, with its actions, and what is done with the rest.
use Rattle.std.proofs.Common.{◌≡◌, ◌∙◌, Bool, true, false, List, ap}
use Rattle.script_grammar.specs.Terminals.{Terminal}
use Rattle.expr_machine.specs.Actions.{Action}

-- what may be said of the terminals left to read and the actions left to do
abbrev pub Rest : Type 1
Rest = List Terminal → List Action → Type 0

-- something with these terminals and actions stands at the front, and the rest is as said
pub record Ahead (t : List Terminal → List Terminal) (a : List Action → List Action) (k : List Terminal → List Action → Type 0) (ts : List Terminal) (acts : List Action) : Type 0 where
  pub left : List Terminal
  pub later : List Action
  pub reads : ts ≡ t left
  pub does : acts ≡ a later
  pub goes_on : k left later

-- one of several things that have terminals and actions stands at the front
abbrev pub Reads : {X : Type 0} → (X → List Terminal → List Terminal) → (X → List Action → List Action) → Rest → Rest
Reads {X = X} t a k = λ ts acts. (x : X) × Ahead (t x) (a x) k ts acts

-- two things, one behind the other
pub joined : {t t' : List Terminal → List Terminal} {a a' : List Action → List Action} {k k' : List Terminal → List Action → Type 0} {ts : List Terminal} {acts : List Action}
    → (p : Ahead t a k ts acts) → Ahead t' a' k' p.left p.later → Ahead (λ us. t (t' us)) (λ bs. a (a' bs)) k' ts acts
joined {t = t} {a = a} p q = record { left = q.left; later = q.later; reads = p.reads ∙ ap t q.reads; does = p.does ∙ ap a q.does; goes_on = q.goes_on }

-- the same behind some terminals, and behind some actions
pub after : {t' : List Terminal → List Terminal} {a' : List Action → List Action} {k : List Terminal → List Action → Type 0} {ts : List Terminal} {acts : List Action} (t : List Terminal → List Terminal) (a : List Action → List Action)
    → Ahead t' a' k ts acts → Ahead (λ us. t (t' us)) (λ bs. a (a' bs)) k (t ts) (a acts)
after t a p = record { left = p.left; later = p.later; reads = ap t p.reads; does = ap a p.does; goes_on = p.goes_on }

-- the same at an equal list of terminals
pub moved : {t : List Terminal → List Terminal} {a : List Action → List Action} {k : List Terminal → List Action → Type 0} {ts us : List Terminal} {acts : List Action} → us ≡ ts → Ahead t a k ts acts → Ahead t a k us acts
moved e p = record { left = p.left; later = p.later; reads = e ∙ p.reads; does = p.does; goes_on = p.goes_on }

-- the same actions where they are spelled in another way
pub respelled : {t : List Terminal → List Terminal} {a : List Action → List Action} {k : List Terminal → List Action → Type 0} {ts : List Terminal} {acts : List Action} (a' : List Action → List Action)
    → ((r : List Action) → a r ≡ a' r) → Ahead t a k ts acts → Ahead t a' k ts acts
respelled a' e p = record { left = p.left; later = p.later; reads = p.reads; does = p.does ∙ e p.later; goes_on = p.goes_on }

-- the same with something else that goes on
pub refilled : {t : List Terminal → List Terminal} {a : List Action → List Action} {k : List Terminal → List Action → Type 0} {ts : List Terminal} {acts : List Action} (k' : List Terminal → List Action → Type 0)
    → (p : Ahead t a k ts acts) → k' p.left p.later → Ahead t a k' ts acts
refilled k' p h = record { left = p.left; later = p.later; reads = p.reads; does = p.does; goes_on = h }

-- one of two, by a test
abbrev pub OneOf : Bool → Type 0 → Type 0 → Type 0
OneOf true A B = A
OneOf false A B = B
