-- A source that tells of each name that a program reads holds one program of the name.
use Rattle.std.proofs.Common.{◌≡◌, ◌∙◌, ◌+◌, ℕ, List, [], ◌∷◌, ◌++◌, Option, Some, None, refl, sym, ap, subst}
use Rattle.std.proofs.lemmas.Option.{same_Some}
use Rattle.std.specs.List.{Contains}
use Rattle.php_syntax.specs.Trees.{PlainStmts, PlainParam, PlainFunction, PlainFile}
use Rattle.io_edge.specs.Told.{Told, Content, known, Tells, Allows}
use Rattle.script_meaning.specs.Programs.{PlainProgram}
use Rattle.program_rules.specs.Files.{Held, Agrees, HasScript, HasTree, HasOneScript, HasOneTree}
use Rattle.io_edge.specs.Names.{normal, beside}
use Rattle.program_rules.specs.Includes.{includes_of_file, Reads, itself, included, Asks, to_read, first, LeadsTo}
use Rattle.program_rules.specs.Expansion.{StandsFor, FunctionStandsFor}
use Rattle.program_rules.specs.Limits.{HasPlaces, HavePlaces}
use Rattle.program_rules.specs.Limits as limits
use Rattle.program_rules.specs.Programs.{ReadFile, AreRead, functions_in, TableStandsFor, taken}
use Rattle.program_rules.specs.Programs as programs
use Rattle.program_files.specs.Order.{Reached}
use Rattle.program_files.specs.Scripts.{IsScript}
use Rattle.program_files.specs.Stubs.{IsStubScript, HasStubFile, HasStubs}
use Rattle.program_loader.specs.Told.{IsProgramInOrder, AreAnswered, IsLoaded, TellsAll, TellsStubs, HoldsProgram}
use Rattle.program_loader.proofs.Same.{AreSame, script_moved, tree_moved, tree_here, reads_here, same_back, leads_here, reached_here, stands_here, places_here, table_here, counts_here, functions_read, body_read}
use Rattle.program_loader.proofs.Walk.{one_order}

-- the laws of includes: each file has one script, and one tree, statements stand for one list, and have one number of places; names that are looked at are read
pub record Laws : Type 0 where
  pub one_script : (held : Held) → HasOneScript held
  pub one_tree : (held : Held) → HasOneTree held
  pub one_body : (held : Held) (ss a b : PlainStmts) → HasOneTree held → StandsFor held ss a → StandsFor held ss b → a ≡ b
  pub one_count : (held : Held) (ss : PlainStmts) (m n : ℕ) → HasOneTree held → HasPlaces held ss m → HasPlaces held ss n → m ≡ n
  pub looked : (held : Held) (name : List ℕ) (files : List ReadFile) (paths : List (List ℕ)) (path : List ℕ) → Reached (HasTree held) name files paths → Contains paths path → Reads held name path

-- parts make a function, and a program
same_function : (f g : PlainFunction) → f.name_of ≡ g.name_of → f.params_of ≡ g.params_of → f.body_of ≡ g.body_of → f ≡ g
same_function f g e p b =
    ap (λ (n : List ℕ). let x : PlainFunction = record { name_of = n; params_of = f.params_of; body_of = f.body_of } in x) e
    ∙ ap (λ (ps : List PlainParam). let x : PlainFunction = record { name_of = g.name_of; params_of = ps; body_of = f.body_of } in x) p
    ∙ ap (λ (ss : PlainStmts). let x : PlainFunction = record { name_of = g.name_of; params_of = g.params_of; body_of = ss } in x) b

pub same_program : (p q : PlainProgram) → p.main_of ≡ q.main_of → p.functions_of ≡ q.functions_of → p ≡ q
same_program p q m f =
    ap (λ (ss : PlainStmts). let x : PlainProgram = record { main_of = ss; functions_of = p.functions_of } in x) m
    ∙ ap (λ (fs : List PlainFunction). let x : PlainProgram = record { main_of = q.main_of; functions_of = fs } in x) f

-- a table of functions by its first row
abbrev Rows : Held → List PlainFunction → List PlainFunction → Type 0
Rows held [] gs = gs ≡ []
Rows held (f ∷ fs) gs = (g : PlainFunction) × (rest : List PlainFunction) × (gs ≡ g ∷ rest) × FunctionStandsFor held f g × TableStandsFor held fs rest

rows : (held : Held) (fs gs : List PlainFunction) → TableStandsFor held fs gs → Rows held fs gs
rows held fs gs programs.none = refl
rows held _ _ (programs.more f g fs gs one rest) = (g, gs, refl, one, rest)

pub one_table : Laws → (held : Held) (fs gs hs : List PlainFunction) → TableStandsFor held fs gs → TableStandsFor held fs hs → gs ≡ hs
one_table laws held [] gs hs a b = rows held [] gs a ∙ sym (rows held [] hs b)
one_table laws held (f ∷ fs) gs hs a b =
    let (g, more, is, one, rest) : Rows held (f ∷ fs) gs = rows held (f ∷ fs) gs a in
    let (h, others, also, other, later) : Rows held (f ∷ fs) hs = rows held (f ∷ fs) hs b in
    let same : g ≡ h = same_function g h (one.name ∙ sym other.name) (one.params ∙ sym other.params) (laws.one_body held f.body_of g.body_of h.body_of (laws.one_tree held) one.body other.body) in
    is ∙ ap (λ (x : PlainFunction). x ∷ more) same ∙ ap (λ (xs : List PlainFunction). h ∷ xs) (one_table laws held fs more others rest later) ∙ sym also

-- and their places of includes
abbrev Counts : Held → List PlainFunction → ℕ → Type 0
Counts held [] n = n ≡ 0
Counts held (f ∷ fs) n = (m : ℕ) × (k : ℕ) × (n ≡ m + k) × HasPlaces held f.body_of m × HavePlaces held fs k

counts : (held : Held) (fs : List PlainFunction) (n : ℕ) → HavePlaces held fs n → Counts held fs n
counts held fs n limits.none = refl
counts held _ _ (limits.more f fs m n one rest) = (m, n, refl, one, rest)

pub one_sum : Laws → (held : Held) (fs : List PlainFunction) (m n : ℕ) → HavePlaces held fs m → HavePlaces held fs n → m ≡ n
one_sum laws held [] m n a b = counts held [] m a ∙ sym (counts held [] n b)
one_sum laws held (f ∷ fs) m n a b =
    let (i, j, is, one, rest) : Counts held (f ∷ fs) m = counts held (f ∷ fs) m a in
    let (k, l, also, other, later) : Counts held (f ∷ fs) n = counts held (f ∷ fs) n b in
    is ∙ ap (λ x. x + j) (laws.one_count held f.body_of i k (laws.one_tree held) one other) ∙ ap (λ x. k + x) (one_sum laws held fs j l rest later) ∙ sym also

-- a script is one tree
script_alone : (script : List ℕ) (tree : PlainFile) → IsScript script tree → HasScript (record { main = []; bytes = λ path. Some script }) [] tree
script_alone script tree is = record { bytes = script; tokens = is.tokens; is_held = refl; cut = is.cut; spelled = is.spelled; within = is.within }

pub one_script_tree : Laws → (script : List ℕ) (tree other : PlainFile) → IsScript script tree → IsScript script other → tree ≡ other
one_script_tree laws script tree other a b =
    let held : Held = record { main = []; bytes = λ path. Some script } in
    laws.one_script held [] tree other (script_alone script tree a) (script_alone script other b)

-- what is told of a file of stubs is what it was answered with, and its functions are one list
pub told_stubs : (content : Content) (name : List ℕ) (functions : List PlainFunction) → TellsStubs content (Some name) → (has : HasStubFile content name functions) → content (normal name) ≡ known (Some has.bytes)
told_stubs content name functions (bytes, told) has =
    let same : Some bytes ≡ Some has.bytes = subst (λ (t : Told). Tells t (Some has.bytes)) told has.told in
    told ∙ ap known same

pub same_stubs : Laws → (content : Content) (stubs : Option (List ℕ)) (fs gs : List PlainFunction) → TellsStubs content stubs → HasStubs content stubs fs → HasStubs content stubs gs → fs ≡ gs
same_stubs laws content None fs gs told a b = a ∙ sym b
same_stubs laws content (Some name) fs gs told a b =
    let first : content (normal name) ≡ known (Some a.bytes) = told_stubs content name fs told a in
    let same : Some a.bytes ≡ Some b.bytes = subst (λ (t : Told). Tells t (Some b.bytes)) first b.told in
    let other : IsStubScript a.bytes b.tree = subst (λ (bytes : List ℕ). IsStubScript bytes b.tree) (sym (same_Some a.bytes b.bytes same)) b.is_stub in
    a.are ∙ ap (λ (t : PlainFile). t.functions_of) (one_script_tree laws a.bytes a.tree b.tree a.is_stub.is_script other.is_script) ∙ sym b.are

-- of one source, a name has one program in the order of its files, with the same functions for stubs
pub programs_agree : Laws → (held : Held) (name : List ℕ) (functions : List PlainFunction) (p q : PlainProgram) → IsProgramInOrder held name functions p → IsProgramInOrder held name functions q → p ≡ q
programs_agree laws held name functions p q a b =
    let files : a.is_program.files ≡ b.is_program.files = one_order (HasTree held) (laws.one_tree held) name a.is_program.files b.is_program.files a.in_order b.in_order in
    let tree : a.is_program.tree ≡ b.is_program.tree = laws.one_tree held name a.is_program.tree b.is_program.tree a.is_program.spelled b.is_program.spelled in
    let own : a.is_program.own ≡ b.is_program.own = one_table laws held (functions_in a.is_program.files) a.is_program.own b.is_program.own a.is_program.stand
    (subst (λ (fs : List ReadFile). TableStandsFor held (functions_in fs) b.is_program.own) (sym files) b.is_program.stand) in
    same_program p q
    (laws.one_body held a.is_program.tree.body_of p.main_of q.main_of (laws.one_tree held) a.is_program.main (subst (λ (t : PlainFile). StandsFor held t.body_of q.main_of) (sym tree) b.is_program.main))
    (a.is_program.functions ∙ ap (λ (fs : List PlainFunction). fs ++ taken fs functions) own ∙ sym b.is_program.functions)

-- what holds there holds here, where the same was held under each name that is read
read_here : (held other : Held) (name : List ℕ) → AreSame held other name → (files : List ReadFile) → AreRead other name files → AreRead held name files
read_here held other name same files read = record {
  each = λ file c. (let f = read.each file c in let r = reads_here held other name same file.name f.0 in (r, tree_here held other name same file.name file.tree r f.1));
  all = λ path r. read.all path (reads_here other held name (same_back held other name same) path r);
  once = read.once;
}

no_cycle_here : (held other : Held) (name : List ℕ) → AreSame held other name → ((path : List ℕ) → Reads other name path → LeadsTo other path path → ⊥)
    → (path : List ℕ) → Reads held name path → LeadsTo held path path → ⊥
no_cycle_here held other name same acyclic path reads leads =
    let back : AreSame other held name = same_back held other name same in
    acyclic path (reads_here other held name back path reads) (leads_here other held name back path path reads leads)

pub program_here : Laws → (held other : Held) (name : List ℕ) (functions : List PlainFunction) (p : PlainProgram) → AreSame held other name → IsProgramInOrder other name functions p → IsProgramInOrder held name functions p
program_here laws held other name functions p same a =
    let is = a.is_program in
    let own : Reads other name name = itself in
    record {
      is_program = record {
        files = is.files;
        read = read_here held other name same is.files is.read;
        acyclic = no_cycle_here held other name same is.acyclic;
        tree = is.tree;
        spelled = tree_here held other name same name is.tree itself is.spelled;
        main = stands_here held other name same is.tree.body_of p.main_of (body_read other name name is.tree own is.spelled) is.main;
        own = is.own;
        stand = table_here held other name same (functions_in is.files) is.own (functions_read other name is.files is.read.each) is.stand;
        functions = is.functions;
        rules = is.rules;
        own_places = is.own_places;
        has_places = places_here held other name same is.tree.body_of is.own_places (body_read other name name is.tree own is.spelled) is.has_places;
        function_places = is.function_places;
        have_places = counts_here held other name same (functions_in is.files) is.function_places (functions_read other name is.files is.read.each) is.have_places;
        within = is.within;
      };
      in_order = reached_here held other name same (λ files paths path. laws.looked other name files paths path) is.files [] a.in_order;
    }

-- what agrees with what is told is what is told
pub agreed : (content : Content) (held other : Held) (name : List ℕ) → TellsAll content held name → Agrees content other → other.main ≡ held.main → AreSame held other (normal name)
agreed content held other name told agrees main = record {
  main = main;
  bytes = λ path asks. (let same : Allows (known (held.bytes path)) (other.bytes path) = subst (λ (t : Told). Allows t (other.bytes path)) (told path asks) (agrees path) in sym same);
}

-- what was answered is what is told
answer_is : (content : Content) (held other : Held) (name path : List ℕ) → TellsAll content held name → AreAnswered content other name → Asks held (normal name) path → Asks other (normal name) path → other.bytes path ≡ held.bytes path
answer_is content held other name path told answered asks also =
    let same : Tells (known (held.bytes path)) (other.bytes path) = subst (λ (t : Told). Tells t (other.bytes path)) (told path asks) (answered path also) in
    sym same

also_read : (content : Content) (held other : Held) (name : List ℕ) → TellsAll content held name → AreAnswered content other name → other.main ≡ held.main → (path : List ℕ) → Reads held (normal name) path → Reads other (normal name) path
also_read content held other name told answered main path itself = itself
also_read content held other name told answered main path (included file _ tree reads has own) =
    let r = also_read content held other name told answered main file reads in
    let here : other.bytes file ≡ held.bytes file = answer_is content held other name file told answered (to_read file reads) (to_read file r) in
    let script = script_moved other held file has.script (sym here) has.has_script in
    let firsts : (written : List ℕ) → Contains (includes_of_file has.script) written → held.bytes (beside other.main written) ≡ other.bytes (beside other.main written) = λ written c.
    sym (answer_is content held other name (beside other.main written) told answered
    (subst (λ (m : List ℕ). Asks held (normal name) (beside m written)) (sym main) (first file written reads (has.script, has.has_script, c)))
    (first file written r (has.script, script, c))) in
    included file path tree r (tree_moved other held file tree (sym main) (sym here) has firsts) own

also_asked : (content : Content) (held other : Held) (name : List ℕ) → TellsAll content held name → AreAnswered content other name → other.main ≡ held.main → (path : List ℕ) → Asks held (normal name) path → Asks other (normal name) path
also_asked content held other name told answered main path (to_read _ reads) = to_read path (also_read content held other name told answered main path reads)
also_asked content held other name told answered main _ (first file written reads (script, has, own)) =
    let r = also_read content held other name told answered main file reads in
    let here : other.bytes file ≡ held.bytes file = answer_is content held other name file told answered (to_read file reads) (to_read file r) in
    subst (λ (m : List ℕ). Asks other (normal name) (beside m written)) main (first file written r (script, script_moved other held file script (sym here) has, own))

pub answered_so : (content : Content) (held other : Held) (name : List ℕ) → TellsAll content held name → AreAnswered content other name → other.main ≡ held.main → AreSame held other (normal name)
answered_so content held other name told answered main = record {
  main = main;
  bytes = λ path asks. answer_is content held other name path told answered asks (also_asked content held other name told answered main path asks);
}

pub one_program : Laws → (content : Content) (name : List ℕ) (stubs : Option (List ℕ)) (p q : PlainProgram) → HoldsProgram content name stubs p → IsLoaded content name stubs q → p ≡ q
one_program laws content name stubs p q h l =
    let functions : l.functions ≡ h.functions = same_stubs laws content stubs l.functions h.functions h.told_stubs l.has_stubs h.has_stubs in
    let other : IsProgramInOrder l.held (normal name) h.functions q = subst (λ (fs : List PlainFunction). IsProgramInOrder l.held (normal name) fs q) functions l.is_program in
    programs_agree laws h.held (normal name) h.functions p q h.is_program
    (program_here laws h.held l.held (normal name) h.functions q (answered_so content h.held l.held name h.told l.answered (l.main ∙ sym h.main)) other)
