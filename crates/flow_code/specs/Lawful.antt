-- What every program of points keeps, so that whoever takes one asks nothing more of it.
use Rattle.std.specs.Prelude.{◌≡◌, ◌≢◌, ◌≤◌, ◌<◌, ◌+◌, ⊤, ℕ, ℤ, true, false, slice_get, List, [], ◌∷◌, ◌++◌, length, Option, Some, None, All, flat_map}
use Rattle.text_base.specs.declared.limits.TheConstants.{TEXT_LIMIT}
use Rattle.plain_values.specs.Plain.{Plain, array}
use Rattle.php_syntax.specs.declared.tree.ArithSign.{ArithSign}
use Rattle.php_syntax.specs.declared.tree.CompareSign.{CompareSign}
use Rattle.plain_values.specs.Numeric.{is_in_range}
use Rattle.plain_values.specs.Lawful.{IsValue}
use Rattle.builtin_meaning.specs.declared.builtin.Builtin.{Builtin}
use Rattle.builtin_meaning.specs.declared.builtin.Builtin.TheVariants as builtin
use Rattle.op_system.specs.declared.op.Op.{Op}
use Rattle.op_system.specs.declared.op.Op.TheVariants as op
use Rattle.flow_code.specs.declared.source.Work.{Work}
use Rattle.flow_code.specs.declared.source.Work.TheVariants as work
use Rattle.flow_code.specs.Points.{PlainKeyRef, int_ref, text_ref, read_ref, PlainSource, literal_source, copy_source, super_source, member_source, array_source, put_source, concat_source, repeat_source, implode_source, explode_source, apply_source, number_source, truth_source, PlainPoint, set_point, call_point, print_point, echo_point, branch_point, jump_point, begin_point, next_point, key_point, value_point, return_point, quit_point, PlainFlowFunction, PlainFlow, function_at}

-- the slots that a key reads: one where the key is not written out in the script
abbrev pub key_slots : PlainKeyRef → List ℕ
key_slots (int_ref z) = []
key_slots (text_ref t) = []
key_slots (read_ref x) = x ∷ []

-- the slots that a key reads, if one is written; `[]` and an array item without a key read none
abbrev pub maybe_key_slots : Option PlainKeyRef → List ℕ
maybe_key_slots None = []
maybe_key_slots (Some k) = key_slots k

-- the slots that an array item reads: that of its key, if one is read, and then that of its value
abbrev pub item_slots : (Option PlainKeyRef × ℕ) → List ℕ
item_slots item = maybe_key_slots item.0 ++ item.1 ∷ []

-- the slots that a source reads
unfoldable pub source_reads : PlainSource → List ℕ
source_reads (literal_source v) = []
source_reads (copy_source x) = x ∷ []
source_reads (super_source name) = []
source_reads (member_source x k) = x ∷ key_slots k
source_reads (array_source items) = flat_map item_slots items
source_reads (put_source x path v) = x ∷ flat_map maybe_key_slots path ++ v ∷ []
source_reads (concat_source xs) = xs
source_reads (repeat_source from f args) = from ∷ args
source_reads (implode_source sep from f args) = sep ∷ from ∷ args
source_reads (explode_source operation from f args) = from ∷ args
source_reads (apply_source operation from f args) = from ∷ args
source_reads (number_source work args) = args
source_reads (truth_source work args) = args

-- the slots that a point reads
unfoldable pub reads : PlainPoint → List ℕ
unfolding source_reads
reads (set_point x source next) = source_reads source
reads (call_point x n args next) = args
reads (print_point bytes next) = []
reads (echo_point x next) = x ∷ []
reads (branch_point x a b) = x ∷ []
reads (jump_point next) = []
reads (begin_point x from next) = from ∷ []
reads (next_point x more done) = x ∷ []
reads (key_point x from next) = from ∷ []
reads (value_point x from next) = from ∷ []
reads (return_point x) = x ∷ []
reads (quit_point None) = []
reads (quit_point (Some x)) = x ∷ []

-- the slot that a point sets
unfoldable pub sets : PlainPoint → Option ℕ
sets (set_point x source next) = Some x
sets (call_point x f args next) = Some x
sets (print_point bytes next) = None
sets (echo_point x next) = None
sets (branch_point x a b) = None
sets (jump_point next) = None
sets (begin_point x from next) = Some x
sets (next_point x more done) = None
sets (key_point x from next) = Some x
sets (value_point x from next) = Some x
sets (return_point x) = None
sets (quit_point x) = None

-- the points where it may go on
unfoldable pub nexts : PlainPoint → List ℕ
nexts (set_point x source next) = next ∷ []
nexts (call_point x f args next) = next ∷ []
nexts (print_point bytes next) = next ∷ []
nexts (echo_point x next) = next ∷ []
nexts (branch_point x a b) = a ∷ b ∷ []
nexts (jump_point next) = next ∷ []
nexts (begin_point x from next) = next ∷ []
nexts (next_point x more done) = more ∷ done ∷ []
nexts (key_point x from next) = next ∷ []
nexts (value_point x from next) = next ∷ []
nexts (return_point x) = []
nexts (quit_point x) = []

-- the slot is one of the function's own
pub record IsOwnSlot (g : PlainFlowFunction) (x : ℕ) : Type 0 where
  pub least : g.first_slot_of ≤ x
  pub most : x < g.first_slot_of + g.slots_of

-- the point is one of the function's own
pub record IsOwnPoint (g : PlainFlowFunction) (p : ℕ) : Type 0 where
  pub least : g.first_point_of ≤ p
  pub most : p < g.first_point_of + length g.points_of

-- a key that stands in the script is a key of a run
abbrev pub IsKeyLiteral : PlainKeyRef → Type 0
IsKeyLiteral (int_ref z) = is_in_range z ≡ true
IsKeyLiteral (text_ref t) = length t ≤ TEXT_LIMIT
IsKeyLiteral (read_ref x) = ⊤

-- a key that may be left out; where it stands in the script it is a key of a run
abbrev pub IsMaybeKey : Option PlainKeyRef → Type 0
IsMaybeKey None = ⊤
IsMaybeKey (Some k) = IsKeyLiteral k

-- the key of an array item, if it has one, is a key of a run where it stands in the script
abbrev pub IsItemKey : (Option PlainKeyRef × ℕ) → Type 0
IsItemKey item = IsMaybeKey item.0

-- a literal is a value of a run, and no array
abbrev pub IsLiteral : Plain → Type 0
IsLiteral (array ps) = ⊥
IsLiteral v = IsValue v

-- the operation stands for this function of PHP by its arguments, on the text in the slot that it changes
pub data IsOperationOf : Op → ℕ → Builtin → List ℕ → Type 0 where
  html : (x : ℕ) → IsOperationOf op.Html x builtin.Htmlspecialchars (x ∷ [])
  replace : (search with : List ℕ) (a b x : ℕ) → IsOperationOf (op.Replace search with) x builtin.StrReplace (a ∷ b ∷ x ∷ [])
  -- an empty search
  same : (a b x : ℕ) → IsOperationOf op.Same x builtin.StrReplace (a ∷ b ∷ x ∷ [])
  any : (a b x : ℕ) → IsOperationOf op.Any x builtin.StrReplace (a ∷ b ∷ x ∷ [])
  cut_from : (start : ℤ) (x b : ℕ) → IsOperationOf (op.Cut start None) x builtin.Substr (x ∷ b ∷ [])
  cut_out : (start len : ℤ) (x b c : ℕ) → IsOperationOf (op.Cut start (Some len)) x builtin.Substr (x ∷ b ∷ c ∷ [])
  part_from : (x b : ℕ) → IsOperationOf op.Factor x builtin.Substr (x ∷ b ∷ [])
  part_out : (x b c : ℕ) → IsOperationOf op.Factor x builtin.Substr (x ∷ b ∷ c ∷ [])
  lower : (x : ℕ) → IsOperationOf op.Lower x builtin.Strtolower (x ∷ [])
  upper : (x : ℕ) → IsOperationOf op.Upper x builtin.Strtoupper (x ∷ [])
  first : (x : ℕ) → IsOperationOf op.First x builtin.Ucfirst (x ∷ [])
  trim : (x : ℕ) → IsOperationOf (op.Trim true true) x builtin.Trim (x ∷ [])
  trim_left : (x : ℕ) → IsOperationOf (op.Trim true false) x builtin.Ltrim (x ∷ [])
  trim_right : (x : ℕ) → IsOperationOf (op.Trim false true) x builtin.Rtrim (x ∷ [])
  breaks : (x : ℕ) → IsOperationOf op.Breaks x builtin.Nl2br (x ∷ [])
  url : (x : ℕ) → IsOperationOf op.Url x builtin.Urlencode (x ∷ [])
  raw_url : (x : ℕ) → IsOperationOf op.RawUrl x builtin.Rawurlencode (x ∷ [])
  slashes : (x : ℕ) → IsOperationOf op.Slashes x builtin.Addslashes (x ∷ [])

-- `explode`
pub data IsSplittingOf : Op → ℕ → Builtin → List ℕ → Type 0 where
  piece : (sep : List ℕ) (a x : ℕ) → IsSplittingOf (op.Piece sep) x builtin.Explode (a ∷ x ∷ [])
  part : (a x : ℕ) → IsSplittingOf op.Factor x builtin.Explode (a ∷ x ∷ [])

-- an operation whose result is an integer
pub data GivesNumber : Work → List ℕ → Type 0 where
  arithmetic : (sign : ArithSign) (a b : ℕ) → GivesNumber (work.Arith sign) (a ∷ b ∷ [])
  negation : (a : ℕ) → GivesNumber work.Neg (a ∷ [])
  up : (a : ℕ) → GivesNumber work.Up (a ∷ [])
  down : (a : ℕ) → GivesNumber work.Down (a ∷ [])
  strlen : (a : ℕ) → GivesNumber (work.Builtin builtin.Strlen) (a ∷ [])
  count : (a : ℕ) → GivesNumber (work.Builtin builtin.Count) (a ∷ [])
  intval : (a : ℕ) → GivesNumber (work.Builtin builtin.Intval) (a ∷ [])
  intdiv : (a b : ℕ) → GivesNumber (work.Builtin builtin.Intdiv) (a ∷ b ∷ [])

-- an operation whose result is a truth value
pub data GivesTruth : Work → List ℕ → Type 0 where
  comparison : (sign : CompareSign) (a b : ℕ) → GivesTruth (work.Compare sign) (a ∷ b ∷ [])
  negation : (a : ℕ) → GivesTruth work.Not (a ∷ [])
  isset : (args : List ℕ) → GivesTruth work.Isset args
  empty : (a : ℕ) → GivesTruth work.Empty (a ∷ [])
  not_null : (a : ℕ) → GivesTruth work.NotNull (a ∷ [])
  as_truth : (a : ℕ) → GivesTruth work.AsTruth (a ∷ [])
  is_array : (a : ℕ) → GivesTruth (work.Builtin builtin.IsArray) (a ∷ [])
  is_string : (a : ℕ) → GivesTruth (work.Builtin builtin.IsString) (a ∷ [])

-- the parts of a source are of its form
abbrev pub SourceFits : PlainSource → Type 0
SourceFits (literal_source v) = IsLiteral v
SourceFits (copy_source x) = ⊤
SourceFits (super_source name) = ⊤
SourceFits (member_source x k) = IsKeyLiteral k
SourceFits (array_source items) = All IsItemKey items
SourceFits (put_source x path v) = (path ≢ []) × All IsMaybeKey path
SourceFits (concat_source xs) = ⊤
SourceFits (repeat_source from f args) = (f ≡ builtin.StrRepeat) × ((n : ℕ) × (args ≡ from ∷ n ∷ []))
SourceFits (implode_source sep from f args) = (f ≡ builtin.Implode) × (args ≡ sep ∷ from ∷ [])
SourceFits (explode_source operation from f args) = IsSplittingOf operation from f args
SourceFits (apply_source operation from f args) = IsOperationOf operation from f args
SourceFits (number_source sign args) = GivesNumber sign args
SourceFits (truth_source sign args) = GivesTruth sign args

-- the parts of a point are of its form; a call hands in one value for each parameter of a function that there is
abbrev pub PartsFit : List PlainFlowFunction → PlainPoint → Type 0
PartsFit fs (call_point x n args next) = (g : PlainFlowFunction) × (slice_get fs n ≡ Some g) × (length args ≡ length g.params_of)
PartsFit fs (set_point x source next) = SourceFits source
PartsFit fs _ = ⊤

-- a point of a function reads and sets slots of the function alone, and goes on at points of the function alone
pub record PointFits (fs : List PlainFlowFunction) (g : PlainFlowFunction) (i : PlainPoint) : Type 0 where
  pub reads_own : All (IsOwnSlot g) (reads i)
  pub sets_own : (x : ℕ) → sets i ≡ Some x → IsOwnSlot g x
  pub stays : All (IsOwnPoint g) (nexts i)
  pub parts : PartsFit fs i

-- the function is entered at a point of its own, its parameters are slots of its own, and each of its points fits in it
pub record FunctionFits (fs : List PlainFlowFunction) (g : PlainFlowFunction) : Type 0 where
  pub entry : IsOwnPoint g g.entry_of
  pub params : All (IsOwnSlot g) g.params_of
  pub points : All (PointFits fs g) g.points_of

-- the functions are numbered on from a point and a slot
unfoldable pub AreNumbered : List PlainFlowFunction → ℕ → ℕ → Type 0
AreNumbered [] p t = ⊤
AreNumbered (f ∷ fs) p t = (f.first_point_of ≡ p) × (f.first_slot_of ≡ t) × AreNumbered fs (p + length f.points_of) (t + f.slots_of)

-- there is a first function, without parameters; points and slots are numbered through; and each function is of its form
pub record IsFlow (flow : PlainFlow) : Type 0 where
  pub main : PlainFlowFunction
  pub is_main : function_at flow 0 ≡ Some main
  pub no_params : main.params_of ≡ []
  pub numbered : AreNumbered flow.functions_of 0 0
  pub functions : All (FunctionFits flow.functions_of) flow.functions_of
