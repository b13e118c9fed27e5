-- A program whose text comes from an included file: `t.php` is `<?php include 'a.php';`, and `a.php` inline text.
use Rattle.std.proofs.Common.{◌≡◌, ◌≤◌, ◌∙◌, ℕ, zero, suc, List, [], ◌∷◌, length, Option, Some, None, inl, inr, refl, sym, ap, subst, codes, arith, lit≤}
use Rattle.std.specs.Prelude.{◌⊎◌, if◌then◌else◌, bytes_eq}
use Rattle.std.specs.List.{Contains}
use Rattle.std.specs.Str.{is_utf8, chars}
use Rattle.std.specs.Str.Lossy.{utf8_valid_len}
use lib.Utf8.{encode}
use Rattle.php_syntax.specs.declared.token.Sign.TheVariants as sign
use Rattle.script_grammar.specs.declared.keyword.Keyword.TheVariants as word
use Rattle.php_syntax.specs.Tokens.{PlainToken, inline, name, text, sign}
use Rattle.php_syntax.specs.Trees.{PlainStmts, PlainFile, inline_stmt, include_stmt, no_stmts, more_stmts}
use Rattle.php_syntax.specs.Height.{stmts_nodes, stmts_height}
use Rattle.lexical_grammar.specs.Cuts.{Cuts, at_end, after_token, after_blank, step, opener_step, lexeme_step, between_step, word_step, text_step, mark_step, blank_step, line_comment_step, block_comment_step, leaving_step}
use Rattle.lexical_grammar.specs.Words.{name_step, variable_step, number_step}
use Rattle.lexical_grammar.specs.Signs.{sign_step, cast_step}
use Rattle.lexical_grammar.specs.Rows.{row}
use Rattle.lexical_grammar.specs.Texts.{single_step, double_step}
use Rattle.lexical_grammar.specs.Heredocs.{heredoc_step, nowdoc_step}
use Rattle.script_grammar.specs.Statements.{inline_form, include_form, stmt_part, end_of_file, stmt_terminals, stmt_trees, nearest}
use Rattle.script_grammar.specs.Rules.{stmt_fits}
use Rattle.script_grammar.specs.Grammar.{SpellsTree, IsTooDeep}
use Rattle.io_edge.specs.Told.{Content, untold, known}
use Rattle.script_meaning.specs.Programs.{PlainProgram}
use Rattle.io_edge.specs.Names.{normal, normal_parts, beside}
use Rattle.program_rules.specs.Files.{Held, found_name, with_found_names, HasScript, HasTree, HasOneScript, HasOneTree}
use Rattle.program_rules.specs.Includes.{Reads, itself, included, Writes, Asks, to_read, first, LeadsTo, directly, through, includes_in, includes_of_file}
use Rattle.program_rules.specs.Bodies.{with_bodies, file_with_bodies}
use Rattle.program_rules.specs.Expansion.{StandsFor, stands}
use Rattle.program_rules.specs.Limits.{one_each, HasPlaces, counted}
use Rattle.program_rules.specs.Limits as limits
use Rattle.program_rules.specs.Calls.{calls_of_program}
use Rattle.program_rules.specs.Rules.{DefinesTwice, KeepsRules}
use Rattle.program_rules.specs.Programs.{ReadFile, functions_in, HasNoCycle, IsProgram}
use Rattle.program_rules.specs.Programs as programs
use Rattle.program_files.specs.Order.{Reached, begun, next}
use Rattle.include_expansion.specs.FileCalls.{calls_in_files}
use Rattle.include_expansion.proofs.ReadLemmas.{are_read}
use Rattle.program_loader.specs.Told.{TellsAll, AreShort, HoldsProgram}

-- what the two files hold
abbrev outer : List ℕ
outer = codes "<?php include 'a.php';"

abbrev pub inner : List ℕ
inner = codes "<html><body><p>x</p></body></html>"

abbrev bytes_at : List ℕ → Option (List ℕ)
bytes_at path = if bytes_eq path (codes "t.php") then Some outer else (if bytes_eq path (codes "a.php") then Some inner else None)

abbrev held : Held
held = record { main = codes "t.php"; bytes = bytes_at }

-- their tokens
abbrev outer_tokens : List PlainToken
outer_tokens = record { kind = name (codes "include"); at = 6 } ∷ record { kind = text (codes "a.php"); at = 14 } ∷ record { kind = sign sign.Semicolon; at = 21 } ∷ []

abbrev inner_tokens : List PlainToken
inner_tokens = record { kind = inline inner; at = 0 } ∷ []

outer_cut : Cuts outer outer_tokens
unfolding step opener_step lexeme_step between_step word_step text_step mark_step blank_step line_comment_step block_comment_step leaving_step name_step variable_step number_step sign_step cast_step row single_step double_step heredoc_step nowdoc_step
outer_cut = after_blank refl (after_token refl (after_blank refl (after_token refl (after_token refl at_end))))

inner_cut : Cuts inner inner_tokens
unfolding step opener_step
inner_cut = after_token refl at_end

-- and their trees
abbrev outer_tree : PlainFile
outer_tree = record { body_of = more_stmts (include_stmt (codes "a.php")) no_stmts; functions_of = [] }

abbrev inner_tree : PlainFile
inner_tree = record { body_of = more_stmts (inline_stmt inner) no_stmts; functions_of = [] }

outer_spelled : SpellsTree outer_tokens outer_tree
unfolding stmt_terminals stmt_trees nearest stmt_fits utf8_valid_len is_utf8 chars encode
outer_spelled = record { form = stmt_part (include_form word.Include refl (codes "a.php")) end_of_file; spelled = refl; made = refl; nearest_if = refl; fits = refl }

inner_spelled : SpellsTree inner_tokens inner_tree
unfolding stmt_terminals stmt_trees nearest stmt_fits
inner_spelled = record { form = stmt_part (inline_form inner) end_of_file; spelled = refl; made = refl; nearest_if = refl; fits = refl }

-- so they hold these trees; that tokens are not too deep is what the parser says of them
outer_script : (IsTooDeep outer_tokens → ⊥) → HasScript held (codes "t.php") outer_tree
outer_script within = record { bytes = outer; tokens = outer_tokens; is_held = refl; cut = outer_cut; spelled = outer_spelled; within = within }

inner_script : (IsTooDeep inner_tokens → ⊥) → HasScript held (codes "a.php") inner_tree
inner_script within = record { bytes = inner; tokens = inner_tokens; is_held = refl; cut = inner_cut; spelled = inner_spelled; within = within }

-- the include is found in the folder of the program's file
outer_found : outer_tree ≡ with_found_names held (codes "t.php") outer_tree
unfolding file_with_bodies with_bodies found_name beside normal normal_parts
outer_found = refl

inner_found : inner_tree ≡ with_found_names held (codes "a.php") inner_tree
unfolding file_with_bodies with_bodies
inner_found = refl

pub has_outer : (IsTooDeep outer_tokens → ⊥) → HasTree held (codes "t.php") outer_tree
has_outer within = record { script = outer_tree; has_script = outer_script within; found = outer_found }

pub has_inner : (IsTooDeep inner_tokens → ⊥) → HasTree held (codes "a.php") inner_tree
has_inner within = record { script = inner_tree; has_script = inner_script within; found = inner_found }

-- the source tells all of it
abbrev pub content : Content
content path = known (bytes_at path)

-- what the parser says of both token lists, and that each file has one script, and one tree
pub record Premises : Type 0 where
  pub one_script : HasOneScript held
  pub one : HasOneTree held
  pub outer_within : IsTooDeep outer_tokens → ⊥
  pub inner_within : IsTooDeep inner_tokens → ⊥

only_member : (x y : List ℕ) → Contains (x ∷ []) y → y ≡ x
only_member x y (zero, lt, is) = sym is
only_member x y (suc i, lt, is) = absurd (omega (arith, lt))

no_member : {X : Type 0} (x : X) → Contains [] x → ⊥
no_member x c = let h = c.1 in omega arith

the_tree : Premises → (file path : List ℕ) (tree own : PlainFile) → file ≡ path → HasTree held path own → HasTree held file tree → tree ≡ own
the_tree ps file path tree own same has other = ps.one path tree own (subst (λ (n : List ℕ). HasTree held n tree) same other) has

outer_includes : Premises → (file path : List ℕ) (tree : PlainFile) → file ≡ codes "t.php" → HasTree held file tree → Contains (includes_of_file tree) path → path ≡ codes "a.php"
unfolding includes_of_file includes_in
outer_includes ps file path tree same has own =
    only_member (codes "a.php") path (subst (λ (t : PlainFile). Contains (includes_of_file t) path) (the_tree ps file (codes "t.php") tree outer_tree same (has_outer ps.outer_within) has) own)

inner_includes : Premises → (file path : List ℕ) (tree : PlainFile) → file ≡ codes "a.php" → HasTree held file tree → Contains (includes_of_file tree) path → ⊥
unfolding includes_of_file includes_in
inner_includes ps file path tree same has own =
    no_member path (subst (λ (t : PlainFile). Contains (includes_of_file t) path) (the_tree ps file (codes "a.php") tree inner_tree same (has_inner ps.inner_within) has) own)

-- both names are read, and no other
names_read : Premises → (path : List ℕ) → Reads held (codes "t.php") path → (path ≡ codes "t.php") ⊎ (path ≡ codes "a.php")
names_read ps path itself = inl refl
names_read ps path (included file _ tree reads has own) = by (names_read ps file reads)
  where
    by : (file ≡ codes "t.php") ⊎ (file ≡ codes "a.php") → (path ≡ codes "t.php") ⊎ (path ≡ codes "a.php")
    by (inl outside) = inr (outer_includes ps file path tree outside has own)
    by (inr inside) = absurd (inner_includes ps file path tree inside has own)

-- and no other is asked for
beside_it : beside (codes "t.php") (codes "a.php") ≡ codes "a.php"
unfolding beside normal normal_parts
beside_it = refl

outer_writes : Premises → (file written : List ℕ) → file ≡ codes "t.php" → Writes held file written → written ≡ codes "a.php"
unfolding includes_of_file includes_in
outer_writes ps file written same (script, has, own) =
    let is : script ≡ outer_tree = ps.one_script (codes "t.php") script outer_tree (subst (λ (n : List ℕ). HasScript held n script) same has) (outer_script ps.outer_within) in
    only_member (codes "a.php") written (subst (λ (t : PlainFile). Contains (includes_of_file t) written) is own)

inner_writes : Premises → (file written : List ℕ) → file ≡ codes "a.php" → Writes held file written → ⊥
unfolding includes_of_file includes_in
inner_writes ps file written same (script, has, own) =
    let is : script ≡ inner_tree = ps.one_script (codes "a.php") script inner_tree (subst (λ (n : List ℕ). HasScript held n script) same has) (inner_script ps.inner_within) in
    no_member written (subst (λ (t : PlainFile). Contains (includes_of_file t) written) is own)

names_asked : Premises → (path : List ℕ) → Asks held (codes "t.php") path → (path ≡ codes "t.php") ⊎ (path ≡ codes "a.php")
names_asked ps path (to_read _ reads) = names_read ps path reads
names_asked ps _ (first file written reads writes) = by (names_read ps file reads)
  where
    by : (file ≡ codes "t.php") ⊎ (file ≡ codes "a.php") → (beside held.main written ≡ codes "t.php") ⊎ (beside held.main written ≡ codes "a.php")
    by (inl outside) = inr (ap (λ (x : List ℕ). beside (codes "t.php") x) (outer_writes ps file written outside writes) ∙ beside_it)
    by (inr inside) = absurd (inner_writes ps file written inside writes)

-- neither file includes itself
leads_nowhere : Premises → (file path : List ℕ) → file ≡ codes "a.php" → LeadsTo held file path → ⊥
leads_nowhere ps file path same (directly _ _ tree has own) = inner_includes ps file path tree same has own
leads_nowhere ps file further same (through _ path _ tree has own rest) = inner_includes ps file path tree same has own

leads_inside : Premises → (file path : List ℕ) → file ≡ codes "t.php" → LeadsTo held file path → path ≡ codes "a.php"
leads_inside ps file path same (directly _ _ tree has own) = outer_includes ps file path tree same has own
leads_inside ps file further same (through _ path _ tree has own rest) = absurd (leads_nowhere ps path further (outer_includes ps file path tree same has own) rest)

names_differ : (path : List ℕ) → path ≡ codes "t.php" → path ≡ codes "a.php" → ⊥
names_differ path e f = let same = sym (ap (λ (x : List ℕ). bytes_eq x (codes "t.php")) e) ∙ ap (λ (x : List ℕ). bytes_eq x (codes "t.php")) f in cc

no_cycle : Premises → HasNoCycle held (codes "t.php")
no_cycle ps path reads leads = elim (names_read ps path reads) [
  | inl outside ↦ names_differ path outside (leads_inside ps path path outside leads)
  | inr inside ↦ leads_nowhere ps path path inside leads
]

-- the files in their order
abbrev pub files : List ReadFile
files = record { name = codes "t.php"; tree = outer_tree } ∷ record { name = codes "a.php"; tree = inner_tree } ∷ []

in_order : Premises → Reached (HasTree held) (codes "t.php") files []
unfolding includes_of_file includes_in
in_order ps =
    next (record { name = codes "t.php"; tree = outer_tree } ∷ []) (codes "a.php") [] inner_tree
    (next [] (codes "t.php") [] outer_tree begun refl (has_outer ps.outer_within)) refl (has_inner ps.inner_within)

-- the program is the text of the included file
abbrev pub program : PlainProgram
program = record { main_of = more_stmts (inline_stmt inner) no_stmts; functions_of = [] }

abbrev bodies : List ℕ → PlainStmts
bodies path = more_stmts (inline_stmt inner) no_stmts

inner_stands : StandsFor held inner_tree.body_of (more_stmts (inline_stmt inner) no_stmts)
unfolding includes_in with_bodies
inner_stands = stands inner_tree.body_of (λ path. inner_tree) bodies (λ path own. absurd (no_member path own)) (λ path own. absurd (no_member path own))

main_stands : Premises → StandsFor held outer_tree.body_of program.main_of
unfolding includes_in with_bodies
main_stands ps =
    stands outer_tree.body_of (λ path. inner_tree) bodies (λ path own. subst (λ (n : List ℕ). HasTree held n inner_tree) (sym (only_member (codes "a.php") path own)) (has_inner ps.inner_within))
    (λ path own. inner_stands)

inner_places : HasPlaces held inner_tree.body_of 0
unfolding includes_in one_each
inner_places = counted inner_tree.body_of (λ path. inner_tree) (λ path. 0) (λ path own. absurd (no_member path own)) (λ path own. absurd (no_member path own))

main_places : Premises → HasPlaces held outer_tree.body_of 1
unfolding includes_in one_each
main_places ps =
    counted outer_tree.body_of (λ path. inner_tree) (λ path. 0) (λ path own. subst (λ (n : List ℕ). HasTree held n inner_tree) (sym (only_member (codes "a.php") path own)) (has_inner ps.inner_within))
    (λ path own. inner_places)

rules : KeepsRules program
unfolding calls_of_program DefinesTwice
rules = record { once = λ path twice. twice; known = λ call own. absurd (no_member call own); served = λ call own. absurd (no_member call own) }

is_program : Premises → IsProgram held (codes "t.php") [] program
unfolding functions_in stmts_nodes stmts_height
is_program ps = record {
  files = files;
  read = are_read held (codes "t.php") files ps.one (in_order ps);
  acyclic = no_cycle ps;
  tree = outer_tree;
  spelled = has_outer ps.outer_within;
  main = main_stands ps;
  own = [];
  stand = programs.none;
  functions = refl;
  rules = rules;
  own_places = 1;
  has_places = main_places ps;
  function_places = 0;
  have_places = limits.none;
  within = record { places_within = lit≤ tt; nodes_within = lit≤ tt; height_within = lit≤ tt };
}

abbrev or_empty : Option (List ℕ) → List ℕ
or_empty None = []
or_empty (Some bytes) = bytes

-- both are there
not_gone : (path : List ℕ) → (path ≡ codes "t.php") ⊎ (path ≡ codes "a.php") → bytes_at path ≡ None → ⊥
not_gone path (inl outside) gone = let same : Some outer ≡ None = sym (ap bytes_at outside) ∙ gone in cc
not_gone path (inr inside) gone = let same : Some inner ≡ None = sym (ap bytes_at inside) ∙ gone in cc

-- the source holds it, in files within their limit
pub holds : Premises → HoldsProgram content (codes "t.php") None program
unfolding functions_in calls_of_program DefinesTwice is_program calls_in_files normal normal_parts
holds ps = record {
  held = held;
  main = refl;
  told = λ path asks. refl;
  told_stubs = tt;
  functions = [];
  has_stubs = refl;
  is_program = record { is_program = is_program ps; in_order = in_order ps };
  few = lit≤ tt;
  missed = [];
  are_missed = record { each = λ path c. absurd (no_member path c); all = λ path asks gone. absurd (not_gone path (names_asked ps path asks) gone); once = λ i j x e f. absurd (cc) };
  few_missed = lit≤ tt;
  rules = record { once = λ path twice. twice; known = λ call own. absurd (no_member call own); served = λ call own. absurd (no_member call own) };
}

short_at : (path : List ℕ) → (path ≡ codes "t.php") ⊎ (path ≡ codes "a.php") → length (or_empty (bytes_at path)) ≤ 1048576
short_at path (inl outside) = subst (λ (n : List ℕ). length (or_empty (bytes_at n)) ≤ 1048576) (sym outside) (lit≤ tt)
short_at path (inr inside) = subst (λ (n : List ℕ). length (or_empty (bytes_at n)) ≤ 1048576) (sym inside) (lit≤ tt)

pub are_short : (ps : Premises) → AreShort held (codes "t.php")
unfolding normal normal_parts
are_short ps path bytes asks is = subst (λ (x : Option (List ℕ)). length (or_empty x) ≤ 1048576) is (short_at path (names_asked ps path asks))

-- a source that does not tell of the included file does not hold the program so
abbrev silent : Content
silent path = if bytes_eq path (codes "a.php") then untold else known (bytes_at path)

not_told : (other : Held) → (told : TellsAll silent other (codes "t.php")) → Asks other (normal (codes "t.php")) (codes "a.php") → ⊥
not_told other told asks = let same : untold ≡ known (other.bytes (codes "a.php")) = told (codes "a.php") asks in cc
