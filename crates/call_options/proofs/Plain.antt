-- The values that a file gives are values that words may have.
use Rattle.std.proofs.Common.{◌≡◌, ◌==◌, ◌++◌, ◌&&◌, ◌<◌, ◌^◌, ap, ℕ, ℤ, pos, negsuc, Bool, true, false, not, List, [], ◌∷◌, Option, Some, None, length, get_or, refl, sym, subst, arith, true≢false, ne_eqb}
use Rattle.std.proofs.lemmas.Option.{same_Some}
use Rattle.std.proofs.lemmas.Fmt.{decimal_nonempty, first_decimal}
use Rattle.std.specs.Prelude.{if◌then◌else◌, option_and_then, nat_lt}
use Rattle.std.specs.Fmt.{decimal}
use Rattle.toml.specs.Data.{Data, string, integer, float, boolean, datetime, array, table, Members, no_members, member}
use Rattle.command_words.specs.Canonical.{IsPlain}
use Rattle.call_options.specs.Members.{Setting, Kind, name, number, kind_of, is_plain, name_value, number_text, value_of, said_by, first_refused, setting_list, settings_in}
use Rattle.call_options.specs.Outcome.{Outcome, not_toml, refused, gives, outcome, outcome_of, options_or, parsed}

no_value : {P : Type 0} (v : List ℕ) → None ≡ Some v → P
no_value v e = cc

not_true : (a : Bool) → not a ≡ true → a ≡ false
not_true true e = sym e
not_true false e = refl

plain_text : (text : List ℕ) → is_plain text ≡ true → IsPlain text
plain_text [] e = absurd (true≢false (sym e))
plain_text (b ∷ []) e = tt
plain_text (b ∷ c ∷ bs) e = not_true (b == 45) e

digits_plain : (ds : List ℕ) → 0 < length ds → 48 < get_or ds 0 0 → IsPlain ds
digits_plain [] some high = absurd (omega arith)
digits_plain (d ∷ []) some high = tt
digits_plain (d ∷ e ∷ ds) some high = ne_eqb d 45 (λ same. omega (arith, high, same))

decimal_plain : (n : ℕ) → 0 < n → n < 2 ^ 64 → IsPlain (decimal n)
decimal_plain n some small = digits_plain (decimal n) (decimal_nonempty n small) (first_decimal n some small)

within : (n : ℕ) → (nat_lt 0 n && nat_lt n 100000000) ≡ true → (0 < n) × (n < 2 ^ 64)
within n e = (grind arith, grind arith)

number_plain : (z : ℤ) (v : List ℕ) → number_text z ≡ Some v → IsPlain v
number_plain (negsuc n) v e = no_value v e
number_plain (pos n) v e = by (nat_lt 0 n && nat_lt n 100000000) refl e
  where
    by : (t : Bool) → (nat_lt 0 n && nat_lt n 100000000) ≡ t → (if t then Some (decimal n) else None) ≡ Some v → IsPlain v
    by true t e = let w = within n t in subst IsPlain (same_Some (decimal n) v e) (decimal_plain n w.0 w.1)
    by false t e = no_value v e

name_plain : (held : Data) (v : List ℕ) → name_value held ≡ Some v → IsPlain v
name_plain (string text) v e = by (is_plain text) refl e
  where
    by : (t : Bool) → is_plain text ≡ t → (if t then Some text else None) ≡ Some v → IsPlain v
    by true t e = subst IsPlain (same_Some text v e) (plain_text text t)
    by false t e = no_value v e
name_plain (integer z) v e = no_value v e
name_plain (float x) v e = no_value v e
name_plain (boolean b) v e = no_value v e
name_plain (datetime dt) v e = no_value v e
name_plain (array ds) v e = no_value v e
name_plain (table ms) v e = no_value v e

value_plain : (held : Data) (kind : Kind) (v : List ℕ) → value_of held kind ≡ Some v → IsPlain v
value_plain held name v e = name_plain held v e
value_plain (string text) number v e = no_value v e
value_plain (integer z) number v e = number_plain z v e
value_plain (float x) number v e = no_value v e
value_plain (boolean b) number v e = no_value v e
value_plain (datetime dt) number v e = no_value v e
value_plain (array ds) number v e = no_value v e
value_plain (table ms) number v e = no_value v e

kind_plain : (held : Data) (kind : Option Kind) (v : List ℕ) → option_and_then (value_of held) kind ≡ Some v → IsPlain v
kind_plain held None v e = no_value v e
kind_plain held (Some kind) v e = value_plain held kind v e

-- each value is one that words may have
abbrev pub ArePlain : List Setting → Type 0
ArePlain [] = Unit {0}
ArePlain (setting ∷ settings) = IsPlain setting.1 × ArePlain settings

list_plain : (option_name : List ℕ) (value : Option (List ℕ)) (settings : List Setting) → ((v : List ℕ) → value ≡ Some v → IsPlain v) → ArePlain settings → ArePlain (setting_list option_name value ++ settings)
list_plain option_name None settings is more = more
list_plain option_name (Some v) settings is more = (is v refl, more)

members_plain : (found : Members) → ArePlain (settings_in found)
members_plain no_members = tt
members_plain (member member_name held rest) =
    list_plain member_name (said_by member_name held) (settings_in rest) (λ v e. kind_plain held (kind_of member_name) v e) (members_plain rest)

-- the options of an outcome
abbrev given_by : Outcome → List Setting
given_by not_toml = []
given_by (refused member_name) = []
given_by (gives settings) = settings

-- no outcome of the other kinds gives options
abbrev DoesGive : Outcome → Type 0
DoesGive not_toml = ⊥
DoesGive (refused member_name) = ⊥
DoesGive (gives settings) = Unit {0}

options_plain : (bad : Option (List ℕ)) (found : Members) (settings : List Setting) → options_or bad (settings_in found) ≡ gives settings → ArePlain settings
options_plain None found settings e = subst ArePlain (ap given_by e) (members_plain found)
options_plain (Some member_name) found settings e = absurd (subst DoesGive (sym e) tt)

table_plain : (table : Option Members) (settings : List Setting) → outcome_of table ≡ gives settings → ArePlain settings
table_plain None settings e = absurd (subst DoesGive (sym e) tt)
table_plain (Some found) settings e = options_plain (first_refused found) found settings e

-- the options that a file gives
pub file_plain : (file : List ℕ) (settings : List Setting) → outcome file ≡ gives settings → ArePlain settings
file_plain file settings e = table_plain (parsed file) settings e
