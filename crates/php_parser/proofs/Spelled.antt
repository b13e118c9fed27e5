-- What a reading says of the trees that the tokens spell.
use Rattle.std.proofs.Common.{◌≡◌, ℕ, Bool, true, false, List, refl, ap, sym, ◌∙◌, subst}
use Rattle.std.specs.Prelude.{Option, Some, None, nat_le, if◌then◌else◌, ◌≤◌, ◌<◌}
use mathlib.Core.Logic.{inl, inr}
use Rattle.std.proofs.lemmas.Bool.{leb-true, leb-false}
use native.Mathlib.Omega.{arith}
use Rattle.php_syntax.specs.Tokens.{PlainToken}
use Rattle.script_grammar.specs.Terminals.{Terminal, terminals}
use Rattle.php_syntax.specs.Trees.{PlainFile, plain_file}
use Rattle.script_grammar.specs.Statements.{FileForm, file_terminals, file_tree, file_nearest}
use Rattle.script_grammar.specs.Rules.{file_fits}
use Rattle.php_syntax.specs.Height.{file_height}
use Rattle.script_grammar.specs.Grammar.{SpellsTree, IsTooDeep, most_open}
use Rattle.php_syntax.specs.declared.tree.FileTree.{FileTree}
use Rattle.stmt_parser.specs.declared.reader.Reading.{Reading}
use Rattle.stmt_parser.specs.declared.reader.Reading.TheVariants as reading
use Rattle.stmt_parser.specs.Readings.{IsReading}
use Rattle.stmt_machine.specs.Actions.{StmtAction}
use Rattle.stmt_machine.specs.Postfix.{file_actions}
use Rattle.stmt_machine.specs.Made.{Made, nothing_made, on_some, execute_stmts, file_of}
use Rattle.stmt_machine.specs.Reading.{file_at, makes_file}

-- the tree, where it is at most 200 high
abbrev pub kept_tree : PlainFile → Option PlainFile
kept_tree tree = if nat_le (file_height tree) 200 then Some tree else None

-- the three laws of reading
abbrev pub Complete : Type 0
Complete = (f : FileForm) → file_nearest f ≡ true → file_at (file_terminals f) ≡ Some (file_actions f)

abbrev pub Sound : Type 0
Sound = (ts : List Terminal) (acts : List StmtAction) → file_at ts ≡ Some acts → (f : FileForm) × (file_terminals f ≡ ts) × (file_nearest f ≡ true) × (file_actions f ≡ acts)

abbrev pub Makes : Type 0
Makes = (f : FileForm) → on_some (execute_stmts (file_actions f) nothing_made) (λ m. Some (file_of m)) ≡ (if file_fits (file_tree f) then Some (kept_tree (file_tree f)) else None)

-- what is made of a file whose actions are known
made_by : (read : Option (List StmtAction)) (acts : List StmtAction) → read ≡ Some acts
    → on_some (on_some read (λ acts. execute_stmts acts nothing_made)) (λ m. Some (file_of m)) ≡ on_some (execute_stmts acts nothing_made) (λ m. Some (file_of m))
made_by read acts e = ap (λ r. on_some (on_some r (λ acts. execute_stmts acts nothing_made)) (λ m. Some (file_of m))) e

fitting : (b : Bool) (x : Option PlainFile) → b ≡ true → (if b then Some x else None) ≡ Some x
fitting b x e = ap (λ c. if c then Some x else None) e

-- of tokens that spell a tree that tree is made, where it is at most 200 high
pub spelled_made : Complete → Makes → (tokens : List PlainToken) (tree : PlainFile) → SpellsTree tokens tree → on_some (makes_file (terminals tokens)) (λ m. Some (file_of m)) ≡ Some (kept_tree tree)
spelled_made complete makes tokens tree s =
    made_by (file_at (terminals tokens)) (file_actions s.form) (ap file_at (sym s.spelled) ∙ complete s.form s.nearest_if)
    ∙ makes s.form ∙ fitting (file_fits (file_tree s.form)) (kept_tree (file_tree s.form)) (ap file_fits s.made ∙ s.fits) ∙ ap (λ t. Some (kept_tree t)) s.made

-- what is made is that of a tree that the tokens spell
pub record Spelled (tokens : List PlainToken) (m : Made) : Type 0 where
  pub tree : PlainFile
  pub spells : SpellsTree tokens tree
  pub kept : file_of m ≡ kept_tree tree

some_injective : {A : Type 0} (a b : A) → Some a ≡ Some b → a ≡ b
some_injective a b e = cc

fits_or_not : (tokens : List PlainToken) (m : Made) (f : FileForm) (b : Bool) → file_fits (file_tree f) ≡ b → file_terminals f ≡ terminals tokens → file_nearest f ≡ true
    → Some (file_of m) ≡ (if b then Some (kept_tree (file_tree f)) else None) → Spelled tokens m
fits_or_not tokens m f true fits spelled nearest e = record {
  tree = file_tree f;
  spells = record { form = f; spelled = spelled; made = refl; nearest_if = nearest; fits = fits };
  kept = some_injective (file_of m) (kept_tree (file_tree f)) e;
}
fits_or_not tokens m f false fits spelled nearest e = absurd cc

of_actions : Makes → (tokens : List PlainToken) (m : Made) (f : FileForm) → file_terminals f ≡ terminals tokens → file_nearest f ≡ true → execute_stmts (file_actions f) nothing_made ≡ Some m → Spelled tokens m
of_actions makes tokens m f spelled nearest e =
    fits_or_not tokens m f (file_fits (file_tree f)) refl spelled nearest (sym (ap (λ x. on_some x (λ m. Some (file_of m))) e) ∙ makes f)

of_read : Sound → Makes → (tokens : List PlainToken) (m : Made) (read : Option (List StmtAction)) → file_at (terminals tokens) ≡ read → on_some read (λ acts. execute_stmts acts nothing_made) ≡ Some m → Spelled tokens m
of_read sound makes tokens m None r e = absurd cc
of_read sound makes tokens m (Some acts) r e =
    let f = sound (terminals tokens) acts r
    in of_actions makes tokens m f.0 f.1 f.2 (ap (λ a. execute_stmts a nothing_made) f.3 ∙ e)

pub made_spelled : Sound → Makes → (tokens : List PlainToken) (m : Made) → makes_file (terminals tokens) ≡ Some m → Spelled tokens m
made_spelled sound makes tokens m e = of_read sound makes tokens m (file_at (terminals tokens)) refl e

-- a tree that is kept is at most 200 high, and one that is not is higher
kept_by : (t tree : PlainFile) (b : Bool) → nat_le (file_height t) 200 ≡ b → (if b then Some t else None) ≡ Some tree → (t ≡ tree) × (file_height t ≤ 200)
kept_by t tree true e k = (some_injective t tree k, leb-true _ _ e)
kept_by t tree false e k = absurd cc

kept_some : (t tree : PlainFile) → kept_tree t ≡ Some tree → (t ≡ tree) × (file_height t ≤ 200)
kept_some t tree k = kept_by t tree (nat_le (file_height t) 200) refl k

lost_by : (t : PlainFile) (b : Bool) → nat_le (file_height t) 200 ≡ b → (if b then Some t else None) ≡ None → 200 < file_height t
lost_by t true e k = absurd cc
lost_by t false e k = leb-false _ _ e

kept_none : (t : PlainFile) → kept_tree t ≡ None → 200 < file_height t
kept_none t k = lost_by t (nat_le (file_height t) 200) refl k

-- a file that was read
pub tree_read : Sound → Makes → (tokens : List PlainToken) (m : Made) (tree : PlainFile) → makes_file (terminals tokens) ≡ Some m → file_of m ≡ Some tree → SpellsTree tokens tree × (file_height tree ≤ 200)
tree_read sound makes tokens m tree e k =
    let s = made_spelled sound makes tokens m e
    in let kept = kept_some s.tree tree (sym s.kept ∙ k)
    in (subst (SpellsTree tokens) kept.0 s.spells, subst (λ t. file_height t ≤ 200) kept.0 kept.1)

-- what was made is that of any tree that the tokens spell
made_of_spelled : Complete → Makes → (tokens : List PlainToken) (m : Made) (tree : PlainFile) → makes_file (terminals tokens) ≡ Some m → SpellsTree tokens tree → file_of m ≡ kept_tree tree
made_of_spelled complete makes tokens m tree e s =
    some_injective (file_of m) (kept_tree tree) (sym (ap (λ x. on_some x (λ m. Some (file_of m))) e) ∙ spelled_made complete makes tokens tree s)

pub only_tree_read : Complete → Makes → (tokens : List PlainToken) (m : Made) (tree : PlainFile) → makes_file (terminals tokens) ≡ Some m → file_of m ≡ Some tree → (other : PlainFile) → SpellsTree tokens other → other ≡ tree
only_tree_read complete makes tokens m tree e k other s = (kept_some other tree (sym (made_of_spelled complete makes tokens m other e s) ∙ k)).0

-- a file that is too high
pub tall_read : Sound → Makes → (tokens : List PlainToken) (m : Made) → makes_file (terminals tokens) ≡ Some m → file_of m ≡ None → IsTooDeep tokens
tall_read sound makes tokens m e k =
    let s = made_spelled sound makes tokens m e
    in inr (s.tree, s.spells, kept_none s.tree (sym s.kept ∙ k))

-- tokens that were not read
none_spelled : (x : Option (Option PlainFile)) (kept : Option PlainFile) → x ≡ None → x ≡ Some kept → ⊥
none_spelled x kept e k = cc

pub none_read : Complete → Makes → (tokens : List PlainToken) → makes_file (terminals tokens) ≡ None → (tree : PlainFile) → SpellsTree tokens tree → ⊥
none_read complete makes tokens e tree s = none_spelled _ (kept_tree tree) (ap (λ x. on_some x (λ m. Some (file_of m))) e) (spelled_made complete makes tokens tree s)

pub not_too_deep : Complete → Makes → (tokens : List PlainToken) → makes_file (terminals tokens) ≡ None → most_open 0 (terminals tokens) ≤ 200 → IsTooDeep tokens → ⊥
not_too_deep complete makes tokens e few (inl many) = absurd (omega (arith, few, many))
not_too_deep complete makes tokens e few (inr tall) = none_read complete makes tokens e tall.0 tall.1

-- the answers of the reader
pub file_is : (made : Option Made) (r : Reading) (tree : FileTree) → IsReading made r → r ≡ reading.File tree → (m : Made) × (made ≡ Some m) × (file_of m ≡ Some (plain_file tree))
file_is made r tree h e = subst (IsReading made) e h

pub tall_is : (made : Option Made) (r : Reading) (at : ℕ) → IsReading made r → r ≡ reading.Tall at → (m : Made) × (made ≡ Some m) × (file_of m ≡ None)
tall_is made r at h e = subst (IsReading made) e h

pub stuck_is : (made : Option Made) (r : Reading) (at : ℕ) → IsReading made r → r ≡ reading.Stuck at → made ≡ None
stuck_is made r at h e = subst (IsReading made) e h

-- tokens that are not too deep spell at most one tree
low : (tokens : List PlainToken) (tree : PlainFile) → (IsTooDeep tokens → ⊥) → SpellsTree tokens tree → kept_tree tree ≡ Some tree
low tokens tree shallow s = low_by tree (nat_le (file_height tree) 200) refl (λ high. shallow (inr (tree, s, high)))
  where
    low_by : (t : PlainFile) (b : Bool) → nat_le (file_height t) 200 ≡ b → (200 < file_height t → ⊥) → (if b then Some t else None) ≡ Some t
    low_by t true e h = refl
    low_by t false e h = absurd (h (leb-false _ _ e))

of_made : Complete → Makes → (tokens : List PlainToken) (a b : PlainFile) → (x : Option Made) → makes_file (terminals tokens) ≡ x → (IsTooDeep tokens → ⊥) → SpellsTree tokens a → SpellsTree tokens b → a ≡ b
of_made complete makes tokens a b None e shallow s t = absurd (none_read complete makes tokens e a s)
of_made complete makes tokens a b (Some m) e shallow s t =
    some_injective a b (sym (low tokens a shallow s) ∙ sym (made_of_spelled complete makes tokens m a e s) ∙ made_of_spelled complete makes tokens m b e t ∙ low tokens b shallow t)

pub only_one_tree : Complete → Makes → (tokens : List PlainToken) (a b : PlainFile) → (IsTooDeep tokens → ⊥) → SpellsTree tokens a → SpellsTree tokens b → a ≡ b
only_one_tree complete makes tokens a b shallow s t = of_made complete makes tokens a b (makes_file (terminals tokens)) refl shallow s t
