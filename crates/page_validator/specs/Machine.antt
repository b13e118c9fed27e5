-- A machine that goes over the tokens of a page with a stack of its open elements, each with the state of its content
-- model. Nobody has to believe it: a law says that it accepts exactly the tokens of a tree.
use Rattle.std.specs.Prelude.{ℕ, Bool, true, false, ◌==◌, ◌&&◌, if◌then◌else◌, List, [], ◌∷◌, length, Option, Some, None, codes, nat_lt, slice_get}
use Rattle.text_base.specs.declared.page_token.PageToken.{PageToken}
use Rattle.text_base.specs.declared.page_token.PageToken.TheVariants as token
use Rattle.dtd_model.specs.declared.dtd.DoctypeRule.{DoctypeRule}
use Rattle.dtd_model.specs.declared.dtd.DoctypeRule.TheVariants.{Strict, Free}
use Rattle.dtd_model.specs.Table.{Rule, Table, Holding, nothing}
use Rattle.content_automata.specs.Tables.{first_at, next_at, ends_at}
use Rattle.content_automata.specs.Tables as automata
use Rattle.page_model.specs.Valid.{Sort, blank, text, remark, is_between, may_hold, place_of}

-- before the document type declaration, behind it, or with the root begun
pub data Stage : Type 0 where
  before_type : Stage
  behind_type : Stage
  root_begun : Stage

-- an open element and the state of its content model
abbrev pub Open : Type 0
Open = ℕ × ℕ

-- how far the page is: the stage, and the open elements, the innermost first
abbrev pub State : Type 0
State = Stage × List Open

-- whether the root may begin at this stage; a strict definition wants a document type declaration before it
abbrev pub may_begin : DoctypeRule → Stage → Bool
may_begin Free before_type = true
may_begin Strict before_type = false
may_begin rule behind_type = true
may_begin rule root_begun = false

-- what an element may hold by its rule; nothing where it has none
abbrev pub holding_of : Option Rule → Holding
holding_of None = nothing
holding_of (Some r) = r.holding

-- what the element of this number may hold; nothing where none has it
abbrev pub holding_at : Table → ℕ → Holding
holding_at d e = holding_of (slice_get d.elements e)

-- behind a child: the state of the element that it stands in, and its own
abbrev pub with_child : Stage → ℕ → ℕ → ℕ → List Open → Option ℕ → Option State
with_child stage e first f outer None = None
with_child stage e first f outer (Some next) = Some (stage, (e, first) ∷ (f, next) ∷ outer)

-- a start tag where these elements are open: that of the root, which is `html`, or of a child that the element around it may have there
abbrev pub begun : Table → automata.Table → Stage → List Open → ℕ → Option State
begun d t stage [] e = if may_begin d.doctype stage && e == place_of d.elements (codes "html")
    then Some (root_begun, (e, first_at t e) ∷ []) else None
begun d t stage ((f, s) ∷ outer) e = with_child stage e (first_at t e) f outer (next_at t s e)

-- a start tag of the element of this number, which has to be one of the declared
abbrev pub opened : Table → automata.Table → State → ℕ → Option State
opened d t state e = if nat_lt e (length d.elements) then begun d t state.0 state.1 e else None

-- an end tag: that of the innermost open element, whose content may end there
abbrev pub popped : automata.Table → Stage → List Open → ℕ → Option State
popped t stage [] e = None
popped t stage ((f, s) ∷ outer) e = if f == e && ends_at t s then Some (stage, outer) else None

-- whether what is no element may stand there: in the innermost open element, or outside the root, by its sort
abbrev pub may_stand : Table → List Open → Sort → Bool
may_stand d [] sort = is_between sort
may_stand d ((f, s) ∷ outer) sort = may_hold (holding_at d f) sort

-- what is no element, and leaves the state as it is
abbrev pub single : Table → State → Sort → Option State
single d state sort = if may_stand d state.1 sort then Some state else None

-- the document type declaration: at most one, and before the root
abbrev pub typed : Stage → List Open → Option State
typed before_type [] = Some (behind_type, [])
typed before_type (o ∷ outer) = None
typed behind_type outer = None
typed root_begun outer = None

-- the state behind one token more; None where it may not stand there
abbrev pub step : Table → automata.Table → State → PageToken → Option State
step d t state token.Doctype = typed state.0 state.1
step d t state (token.Start e) = opened d t state e.0
step d t state (token.End e) = popped t state.0 state.1 e.0
step d t state token.Blank = single d state blank
step d t state token.Text = single d state text
step d t state token.Misc = single d state remark
step d t state token.Bad = None

-- all is closed behind the root
abbrev pub is_done : Stage → List Open → Bool
is_done root_begun [] = true
is_done root_begun (o ∷ outer) = false
is_done before_type outer = false
is_done behind_type outer = false

-- what is asked of the state, if there is one
abbrev pub and_on : Option State → (State → Bool) → Bool
and_on None next = false
and_on (Some state) next = next state

-- the tokens lead from the state to the end
abbrev pub accepts : Table → automata.Table → State → List PageToken → Bool
accepts d t state [] = is_done state.0 state.1
accepts d t state (token ∷ tokens) = and_on (step d t state token) (λ next. accepts d t next tokens)

-- before the first token, with no element open
abbrev pub start : State
start = (before_type, [])
