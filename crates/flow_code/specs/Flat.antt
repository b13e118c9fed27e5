-- The points of a program, numbered through all its functions: first those of the statements outside functions.
use Rattle.std.specs.Prelude.{ℕ, ◌+◌, Bool, true, false, List, [], ◌∷◌, ◌++◌, map, length}
use Rattle.php_syntax.specs.Trees.{PlainParam, PlainFunction}
use Rattle.plain_values.specs.Plain.{null}
use Rattle.script_meaning.specs.Programs.{PlainProgram}
use Rattle.flow_code.specs.Points.{PlainPoint, literal_source, set_point, return_point, PlainFlowFunction, PlainFlow}
use Rattle.flow_code.specs.Variables.{variables_of}
use Rattle.flow_code.specs.Code.{Block}
use Rattle.flow_code.specs.Expressions.{Scope, variable}
use Rattle.flow_code.specs.Completion.{reaches_end}
use Rattle.flow_code.specs.Statements.{block}

-- what names stand for in a function whose first slot this is
unfoldable pub scope_of : List PlainFunction → PlainFunction → ℕ → Scope
unfolding variables_of
scope_of table f slot = record { base = slot; names = variables_of f; functions = table }

-- the code of a function's body, with the function's variables from this slot on
unfoldable pub body_of_function : List PlainFunction → PlainFunction → ℕ → Block
unfolding scope_of block
body_of_function table f slot = block (scope_of table f slot) f.body_of

-- the points at the end of a body, from this point on, by whether it can be reached: there null is returned, by way of a slot
abbrev pub end_points : Bool → ℕ → ℕ → List PlainPoint
end_points true end slot = set_point slot (literal_source null) (end + 1) ∷ return_point slot ∷ []
end_points false end slot = []

-- how many slots they have
abbrev pub end_slots : Bool → ℕ
end_slots true = 1
end_slots false = 0

-- a function from a point and a slot on: its variables have the first slots; at the end of its body it returns null, where that end can be
-- reached
unfoldable pub flat_function : List PlainFunction → PlainFunction → ℕ → ℕ → PlainFlowFunction
unfolding body_of_function variable reaches_end
flat_function table f point slot =
    let body : Block = body_of_function table f slot in
    let free = slot + length (variables_of f) in
    let end = point + body.size in
    record {
      entry_of = point;
      params_of = map (λ (p : PlainParam). variable (scope_of table f slot) p.name_of) f.params_of;
      first_slot_of = slot;
      slots_of = length (variables_of f) + body.slots + end_slots (reaches_end f.body_of);
      first_point_of = point;
      points_of = body.points (record { stop = end; again = end }) point free
          ++ end_points (reaches_end f.body_of) end (free + body.slots);
    }

-- functions in their order, from a point and a slot on: each one's points and slots begin where those of the one before it end
unfoldable pub flat_functions : List PlainFunction → List PlainFunction → ℕ → ℕ → List PlainFlowFunction
unfolding flat_function
flat_functions table [] point slot = []
flat_functions table (f ∷ fs) point slot =
    let first : PlainFlowFunction = flat_function table f point slot in
    first ∷ flat_functions table fs (point + length first.points_of) (slot + first.slots_of)

-- the statements outside functions, as a function without parameters
unfoldable pub main_function : PlainProgram → PlainFunction
main_function program = record { name_of = []; params_of = []; body_of = program.main_of }

-- a program's points: function 0 is the statements outside functions, and the program's functions follow in their order from 1 on
unfoldable pub flat : PlainProgram → PlainFlow
unfolding flat_functions main_function
flat program = record { functions_of = flat_functions program.functions_of (main_function program ∷ program.functions_of) 0 0 }
