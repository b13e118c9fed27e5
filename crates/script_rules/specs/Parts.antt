-- The parts of a script of PHP, each with what the language leaves out of it.
use Rattle.std.specs.Prelude.{ℕ, Bool, true, false, nat_eq, nat_lt, ◌||◌, ◌+◌, max, List, [], ◌∷◌, Option, Some, None, if◌then◌else◌, slice_get, slice_index_or, take, drop}
use Rattle.text_base.specs.declared.limits.TheConstants.{HEIGHT_LIMIT}
use Rattle.lr_tables.specs.declared.rule.Rule.{Rule}
use Rattle.lr_tables.specs.Grammars.{side, head}
use Rattle.lr_tables.specs.Values.{Meaning}
use Rattle.php_syntax.specs.Tokens.{PlainToken}
use Rattle.php_syntax.specs.Trees.{PlainPath, no_keys, more_keys}
use Rattle.php_syntax.specs.Height.{height, maybe_height, exprs_height, items_height, stmts_height, arms_height, params_height, functions_height, file_height}
use Rattle.php_grammar.specs.declared.actions.Action.{Action}
use Rattle.php_grammar.specs.declared.actions.Action.TheVariants as action
use Rattle.php_grammar.specs.declared.actions.TheConstants.{ACTIONS}
use Rattle.php_grammar.specs.declared.form.Form.{Form}
use Rattle.php_grammar.specs.declared.form.Form.TheVariants as form
use Rattle.php_grammar.specs.declared.forms.TheConstants.{FORMS}
use Rattle.php_grammar.specs.declared.rules.TheConstants.{RULES}
use Rattle.script_grammar.specs.Rules.{all_keyed}
use Rattle.php_trees.specs.Kinds.{kind_of}
use Rattle.php_trees.specs.Values.{loose, choice, Argument, given, quotes_flag, Value, leaf, absent, expr, place, quotes, printing, including, quitting, exprs, arguments, items, stmts, branch, params, function, file}
use Rattle.php_trees.specs.Actions.{of_two, and_then, act}
use Rattle.php_trees.specs.Reads.{language}

-- a form that is left out, and where it begins
pub record LeftOut : Type 0 where
  pub form : Form
  pub at : ℕ

-- A part of a script: where its first token stands, if it has one; what it stands for, if the language has it; the first form in it that
-- the language leaves out; and whether something in it is higher than may be.
pub record Part : Type 0 where
  pub begins : Option ℕ
  pub value : Option Value
  pub left_out : Option LeftOut
  pub high : Bool

-- the first of two, if it is there, and else the second
abbrev pub or_else : {A : Type 0} → Option A → Option A → Option A
or_else None b = b
or_else (Some a) b = Some a

-- where the first token of parts stands
abbrev pub first_place : List Part → Option ℕ
first_place [] = None
first_place (p ∷ ps) = or_else p.begins (first_place ps)

-- the first form that is left out of parts
abbrev pub first_left_out : List Part → Option LeftOut
first_left_out [] = None
first_left_out (p ∷ ps) = or_else p.left_out (first_left_out ps)

-- what parts stand for, if each stands for something
abbrev pub all_values : List Part → Option (List Value)
all_values [] = Some []
all_values (p ∷ ps) = of_two (λ v vs. v ∷ vs) p.value (all_values ps)

-- whether something in parts is too high
abbrev pub any_high : List Part → Bool
any_high [] = false
any_high (p ∷ ps) = p.high || any_high ps

-- the height of the highest argument
abbrev pub arguments_height : List Argument → ℕ
arguments_height [] = 0
arguments_height (given s e ∷ gs) = max (height e) (arguments_height gs)
arguments_height (quotes_flag ∷ gs) = arguments_height gs

-- the height of a member by keys, of what is so high; a key that is left out counts as a leaf does
abbrev pub read_height : ℕ → PlainPath → ℕ
read_height n no_keys = n
read_height n (more_keys k ks) = read_height (1 + max n (maybe_height k)) ks

-- the height of the highest tree in a value: of a variable with keys that of its member, of arms that of their `if`
abbrev pub value_height : Value → ℕ
value_height (leaf k) = 0
value_height absent = 0
value_height (expr s e) = height e
value_height (place x ks) = read_height 1 ks
value_height quotes = 0
value_height (printing e) = height e
value_height (including t) = 0
value_height (quitting m) = maybe_height m
value_height (exprs es) = exprs_height es
value_height (arguments gs) = arguments_height gs
value_height (items is hole) = items_height is
value_height (stmts ss) = stmts_height ss
value_height (branch arms others) = 1 + max (arms_height arms) (stmts_height others)
value_height (params ps) = params_height ps
value_height (function f) = functions_height (f ∷ [])
value_height (file f) = file_height f

-- whether a value, if there is one, is higher than may be
abbrev pub is_high : Option Value → Bool
is_high None = false
is_high (Some v) = nat_lt HEIGHT_LIMIT (value_height v)

-- What stands alone, or in few places: as a part of what has no value it is what is left out.
abbrev pub misplaced : Value → Option Form
misplaced quotes = Some form.Constant
misplaced (printing e) = Some form.InnerPrint
misplaced (including t) = Some form.InnerInclude
misplaced (quitting m) = Some form.InnerExit
misplaced (expr loose e) = Some form.InnerAssignment
misplaced (expr choice e) = Some form.InnerChoice
misplaced (items is true) = Some form.MissingItem
misplaced (place x ks) = if all_keyed ks then None else Some form.EmptyKey
misplaced _ = None

-- where a part begins; 0 where it has no token
abbrev pub place_or_0 : Option ℕ → ℕ
place_or_0 None = 0
place_or_0 (Some at) = at

-- a form at a place
abbrev pub form_at : ℕ → Option Form → Option LeftOut
form_at at None = None
form_at at (Some f) = Some (record { form = f; at = at })

-- the first part that stands where it may not
abbrev pub first_misplaced : List Part → Option LeftOut
first_misplaced [] = None
first_misplaced (p ∷ ps) = or_else (form_at (place_or_0 p.begins) (and_then p.value misplaced)) (first_misplaced ps)

-- the form that a rule of this number is
abbrev pub form_by : ℕ → Form
form_by p = slice_index_or FORMS p form.Other

-- what a rule of this number makes
abbrev pub action_by : ℕ → Action
action_by p = slice_index_or ACTIONS p action.Outside

-- whether a rule goes on with what it makes itself, as `expression OR expression`
abbrev pub continues : Option Rule → Bool
continues None = false
continues (Some r) = nat_eq (head (side r)) r.left

-- Where the form of a rule begins: with its first token, or, where the rule goes on with what it makes, with the first one behind that.
abbrev pub own_place : Bool → List Part → ℕ
own_place true ps = place_or_0 (or_else (first_place (drop 1 ps)) (first_place ps))
own_place false ps = place_or_0 (first_place ps)

-- the forms that are left out before that of a rule begins
abbrev pub left_out_before : Bool → List Part → Option LeftOut
left_out_before true ps = first_left_out (take 1 ps)
left_out_before false ps = None

-- the form of what breaks a rule beside the grammar: of a function it is a `break` outside of loops
abbrev pub broken_form : Action → Form → Form
broken_form action.Function f = form.Jump
broken_form _ f = f

-- what is left out where the parts of a rule stand for something and it does not: it makes nothing, or what breaks a rule
abbrev pub own_left_out : ℕ → ℕ → List Part → Option Value → Option LeftOut
own_left_out p at ps None = or_else (first_misplaced ps) (Some (record { form = form_by p; at = at }))
own_left_out p at ps (Some v) = Some (record { form = broken_form (action_by p) (form_by p); at = at })

-- whether a rule is outside of the language
abbrev pub is_outside : Action → Bool
is_outside action.Outside = true
is_outside _ = false

-- The first form that is left out of a part that stands for nothing, by the order in which they begin: a rule that is outside of the
-- language, or, where each part stands for something, a rule that makes nothing of them.
abbrev pub left_out_by : ℕ → List Part → Bool → Option Value → Option LeftOut
left_out_by p ps outside (Some v) = None
left_out_by p ps true None =
    or_else (left_out_before (continues (slice_get RULES p)) ps) (Some (record { form = form_by p; at = own_place (continues (slice_get RULES p)) ps }))
left_out_by p ps false None =
    or_else (first_left_out ps) (own_left_out p (own_place (continues (slice_get RULES p)) ps) ps (and_then (all_values ps) (act p)))

-- what a rule makes of its parts
abbrev pub value_by : ℕ → List Part → Option Value
value_by p ps = and_then (all_values ps) (language.act p)

-- a part by its rule
abbrev pub judge : ℕ → List Part → Part
judge p ps = record {
  begins = first_place ps;
  value = value_by p ps;
  left_out = left_out_by p ps (is_outside (action_by p)) (value_by p ps);
  high = any_high ps || is_high (value_by p ps);
}

-- a token as a part
abbrev pub token_part : PlainToken → Part
token_part t = record { begins = Some t.at; value = Some (leaf t.kind); left_out = None; high = false }

-- what PHP's derivations mean, with what the language leaves out of them
abbrev pub judged : Meaning
judged = record { Token = PlainToken; Value = Part; kind = λ t. kind_of t.kind; leaf = token_part; act = λ p ps. Some (judge p ps) }
