-- What is left out, and what is not, of a whole script.
use Rattle.std.proofs.Common.{◌≡◌, ℕ, Bool, true, false, List, [], ◌∷◌, refl, sym, ◌∙◌, ap, subst, Option, Some, None, if◌then◌else◌}
use Rattle.std.specs.Prelude.{slice_get}
use Rattle.lr_tables.specs.Grammars.{Grammar}
use Rattle.lr_tables.specs.Values.{Has, token, made, HasValue}
use Rattle.lr_tables.proofs.Complete.{tables_of}
use Rattle.lr_tables.proofs.Making.{have_one_value}
use Rattle.php_syntax.specs.Tokens.{PlainKind, PlainToken}
use Rattle.php_syntax.specs.Trees.{PlainFile}
use Rattle.php_grammar.specs.Certificate.{certificate}
use Rattle.php_grammar.specs.Php.{php}
use Rattle.php_grammar.specs.declared.rules.TheConstants.{RULES}
use Rattle.php_grammar.proofs.AreGood.{are_good}
use Rattle.php_trees.specs.Values.{Value, file}
use Rattle.php_trees.specs.Rules.{keeps, kept}
use Rattle.php_trees.specs.Actions.{act, and_then}
use Rattle.php_trees.specs.Reads.{language, parts, ReadAs}
use Rattle.script_rules.specs.Parts.{LeftOut, Part, or_else, first_left_out, first_misplaced, own_left_out, left_out_before, continues, own_place, form_by, is_outside, action_by, left_out_by, value_by, all_values, judged}
use Rattle.script_rules.specs.Refused.{IsReadWhole, IsReadAsNone, IsOneForm}
use Rattle.script_rules.proofs.Judged.{value_of_part, part_of_value}

some_is : {A : Type 0} {a b : A} → Some a ≡ Some b → a ≡ b
some_is e = cc

none_some : {A : Type 0} {x : A} {P : Type 0} → None ≡ Some x → P
none_some e = cc

some_none : {A : Type 0} {x : A} {P : Type 0} → Some x ≡ None → P
some_none e = cc

-- what has a value keeps the rules beside the grammar
if_kept : (b : Bool) (w v : Value) → keeps w ≡ b → (if b then Some w else None) ≡ Some v → keeps v ≡ true
if_kept true w v e h = ap keeps (sym (some_is h)) ∙ e
if_kept false w v e h = none_some h

kept_keeps : (o : Option Value) (v : Value) → kept o ≡ Some v → keeps v ≡ true
kept_keeps None v h = none_some h
kept_keeps (Some w) v h = if_kept (keeps w) w v refl h

pub value_keeps : {g : Grammar} {prev x : ℕ} {from rest : List PlainKind} {v : Value} → Has g language prev x from rest v → keeps v ≡ true
value_keeps (token prev k rest e) = refl
value_keeps (made prev p r from rest vs v got open_ free hs makes) = kept_keeps (act p vs) v makes

-- where a part stands for something, nothing is left out of it
whole_by : (p : ℕ) (ps : List Part) (outside : Bool) (o : Option Value) (v : Value) → o ≡ Some v → left_out_by p ps outside o ≡ None
whole_by p ps outside None v e = none_some e
whole_by p ps outside (Some w) v e = refl

pub nothing_left_out : {g : Grammar} {prev x : ℕ} {from rest : List PlainToken} {part : Part} → Has g judged prev x from rest part → (v : Value) → part.value ≡ Some v → part.left_out ≡ None
nothing_left_out (token prev t rest e) v is = refl
nothing_left_out (made prev p r from rest ps part got open_ free hs makes) v is =
    let same = some_is makes in
    ap (λ (q : Part). q.left_out) (sym same) ∙ whole_by p ps (is_outside (action_by p)) (value_by p ps) v (ap (λ (q : Part). q.value) same ∙ is)

-- and where it stands for nothing, something is
pub record SomeLeftOut (o : Option LeftOut) : Type 0 where
  pub found : LeftOut
  pub is : o ≡ Some found

or_some : (o : Option LeftOut) (l : LeftOut) → SomeLeftOut (or_else o (Some l))
or_some None l = record { found = l; is = refl }
or_some (Some k) l = record { found = k; is = refl }

or_other : (o p : Option LeftOut) → SomeLeftOut p → SomeLeftOut (or_else o p)
or_other None p h = h
or_other (Some k) p h = record { found = k; is = refl }

own_some : (p at : ℕ) (ps : List Part) (o : Option Value) → SomeLeftOut (own_left_out p at ps o)
own_some p at ps None = or_some (first_misplaced ps) (record { form = form_by p; at = at })
own_some p at ps (Some v) = record { found = _; is = refl }

left_out_none : (p : ℕ) (ps : List Part) (outside : Bool) → SomeLeftOut (left_out_by p ps outside None)
left_out_none p ps true = or_some (left_out_before (continues (slice_get RULES p)) ps) (record { form = form_by p; at = own_place (continues (slice_get RULES p)) ps })
left_out_none p ps false = or_other (first_left_out ps) _ (own_some p (own_place (continues (slice_get RULES p)) ps) ps (and_then (all_values ps) (act p)))

left_out_some : (p : ℕ) (ps : List Part) (outside : Bool) (o : Option Value) → o ≡ None → SomeLeftOut (left_out_by p ps outside o)
left_out_some p ps outside None e = left_out_none p ps outside
left_out_some p ps outside (Some v) e = some_none e

pub something_left_out : {g : Grammar} {prev x : ℕ} {from rest : List PlainToken} {part : Part} → Has g judged prev x from rest part → part.value ≡ None → SomeLeftOut part.left_out
something_left_out (token prev t rest e) is = some_none is
something_left_out (made prev p r from rest ps part got open_ free hs makes) is =
    let same = some_is makes in
    let h = left_out_some p ps (is_outside (action_by p)) (value_by p ps) (ap (λ (q : Part). q.value) same ∙ is) in
    record { found = h.found; is = ap (λ (q : Part). q.left_out) (sym same) ∙ h.is }

-- a script is one part at most
pub one_part : (tokens : List PlainToken) (one other : Part) → HasValue php.grammar judged tokens one → HasValue php.grammar judged tokens other → one ≡ other
one_part tokens one other = have_one_value php certificate (tables_of php certificate are_good) judged tokens one other

no_tokens : (ts : List PlainToken) → parts ts ≡ [] → ts ≡ []
no_tokens [] e = refl
no_tokens (t ∷ ts) e = absurd (full e)
  where
    full : {k : PlainKind} {ks : List PlainKind} → k ∷ ks ≡ [] → ⊥
    full e = cc

-- what is read as a tree is judged to stand for it
pub record Whole (tokens : List PlainToken) (tree : PlainFile) : Type 0 where
  pub part : Part
  pub has : HasValue php.grammar judged tokens part
  pub stands : part.value ≡ Some (file tree)

pub whole_of_read : (tokens : List PlainToken) (tree : PlainFile) → ReadAs tokens tree → Whole tokens tree
whole_of_read tokens tree r =
    let j = part_of_value php.grammar r.derived tokens refl in
    record { part = j.part; has = subst (λ (ts : List PlainToken). Has php.grammar judged 0 php.grammar.start tokens ts j.part) (no_tokens j.left j.are) j.has; stands = j.stands }

-- the laws

pub is_read_whole : IsReadWhole
is_read_whole tokens whole tree has is =
    let derived = value_of_part php.grammar has (file tree) is in
    record { derived = derived; fits = value_keeps derived }

pub is_read_as_none : IsReadAsNone
is_read_as_none tokens found tree left r =
    let w = whole_of_read tokens tree r in
    let same = one_part tokens w.part left.whole w.has left.derived in
    some_none (sym left.is ∙ nothing_left_out left.derived (file tree) (ap (λ (q : Part). q.value) (sym same) ∙ w.stands))

pub is_one_form : IsOneForm
is_one_form tokens one other a b = some_is (sym a.is ∙ ap (λ (q : Part). q.left_out) (one_part tokens a.whole b.whole a.derived b.derived) ∙ b.is)
