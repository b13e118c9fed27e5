-- The file of the program is read.
use Rattle.std.proofs.Common.{◌≡◌, ◌∙◌, ℕ, zero, suc, Bool, true, false, List, [], ◌∷◌, ◌++◌, Option, Some, None, inl, refl, sym, ap, subst, arith}
use Rattle.std.specs.Prelude.{◌||◌, bytes_eq, if◌then◌else◌}
use Rattle.std.specs.List.{Contains}
use Rattle.std.proofs.lemmas.List.{map-append}
use Rattle.std.proofs.lemmas.List.Elements.{Contains-append_left}
use Rattle.io_edge.specs.Counts.{one_more}
use Rattle.io_edge.specs.Told.{Content, Tells}
use Rattle.io_edge.specs.Names.{normal}
use Rattle.php_syntax.specs.Trees.{PlainFile}
use Rattle.script_grammar.specs.Rules.{is_utf8}
use Rattle.program_rules.specs.Files.{Held, HasScript, HasTree, found_name, with_found_names}
use Rattle.program_rules.specs.Includes.{includes_of_file}
use Rattle.program_rules.specs.Programs.{ReadFile}
use Rattle.program_files.specs.Order.{is_read, Reached, begun, next}
use Rattle.program_files.specs.Scripts.{IsScript}
use Rattle.program_files.specs.Source.{source_call, so_many_more, RisesBy}
use Rattle.program_files.specs.Steps.{Include, state, written_in, AddsFile}
use Rattle.program_files.proofs.NameLemmas.{same_name, own_name}
use Rattle.program_files.proofs.Among.{contains_map}
use Rattle.program_files.proofs.HasRead.{found_file, found_files, found_paths, HasRead}
use Rattle.program_files.proofs.Steps.{found_of_file}
use Rattle.program_files.proofs.Growing.{named_with_file}

-- what a source held of which one name is known
one_held : List ℕ → List ℕ → Held
one_held path bytes = record { main = path; bytes = λ other. if bytes_eq path other then Some bytes else None }

its_main : (path bytes : List ℕ) → (one_held path bytes).main ≡ path
unfolding one_held
its_main path bytes = refl

its_bytes : (path bytes : List ℕ) → (one_held path bytes).bytes path ≡ Some bytes
unfolding one_held
its_bytes path bytes = ap (λ (b : Bool). if b then Some bytes else None) (own_name path)

only_file : (file g : ReadFile) → Contains (file ∷ []) g → file ≡ g
only_file file g (zero, lt, is) = is
only_file file g (suc k, lt, is) = absurd (omega (arith, lt))

only_read : (file : ReadFile) (path : List ℕ) → is_read (file ∷ []) path ≡ true → path ≡ file.name
only_read file path e = by (bytes_eq path file.name) refl e
  where
    by : (b : Bool) → bytes_eq path file.name ≡ b → (b || false) ≡ true → path ≡ file.name
    by true is t = same_name path file.name is
    by false is t = absurd (cc)

no_include : (i : Include) → Contains [] i → ⊥
no_include i c = let h = c.1 in omega arith

has_script : (held : Held) (path bytes : List ℕ) (tree : PlainFile) → held.bytes path ≡ Some bytes → IsScript bytes tree → HasScript held path tree
has_script held path bytes tree is script = record { bytes = bytes; tokens = script.tokens; is_held = is; cut = script.cut; spelled = script.spelled; within = script.within }

first_reached : (name bytes : List ℕ) (tree : PlainFile) → IsScript bytes tree → (other : Held) → other.bytes (normal name) ≡ Some bytes
    → Reached (HasTree other) (normal name) (found_files other (record { name = normal name; tree = tree } ∷ [])) (found_paths other (written_in (normal name) tree ++ []))
unfolding found_file
first_reached name bytes tree script other is =
    let file : ReadFile = record { name = normal name; tree = with_found_names other (normal name) tree } in
    let r = next [] (normal name) [] (with_found_names other (normal name) tree) begun refl (record { script = tree; has_script = has_script other (normal name) bytes tree is script; found = refl }) in
    let all : includes_of_file (with_found_names other (normal name) tree) ++ [] ≡ found_paths other (written_in (normal name) tree ++ []) =
    ap (λ (xs : List (List ℕ)). xs ++ []) (found_of_file other (normal name) tree) ∙ sym (map-append (λ (j : Include). found_name other j.0 j.1) (written_in (normal name) tree) []) in
    subst (λ (ps : List (List ℕ)). Reached (HasTree other) (normal name) (file ∷ []) ps) all r

main_read : (content : Content) (f f' m m' r r' : ℕ) (root name bytes : List ℕ) (tree : PlainFile) → is_utf8 (normal name) ≡ true → Tells (content (normal name)) (Some bytes) → IsScript bytes tree → r' ≡ one_more r → f' ≡ f → m' ≡ m
    → HasRead (source_call content f f' m m' r r') root name (state (record { name = normal name; tree = tree } ∷ []) [] (written_in (normal name) tree ++ []))
unfolding so_many_more RisesBy
main_read content f f' m m' r r' root name bytes tree text told script counted unfailed calm =
    let path : List ℕ = normal name in
    let file : ReadFile = record { name = path; tree = tree } in
    let held : Held = one_held path bytes in
    let here : held.bytes path ≡ Some bytes = its_bytes path bytes in record {
      held = held;
      main = its_main path bytes;
      scripts = λ g c. subst (λ (x : ReadFile). HasScript held x.name x.tree × Tells (content x.name) (held.bytes x.name)) (only_file file g c)
          (has_script held path bytes tree here script, subst (λ (o : Option (List ℕ)). Tells (content path) o) (sym here) told);
      not_there = λ x e. absurd (cc);
      reached = λ other m same. first_reached name bytes tree script other (same path (inl (ap (λ (b : Bool). b || false) (own_name path))) ∙ here);
      once = λ i j x e g. absurd (cc);
      named = named_with_file [] path tree [] (λ i c. absurd (no_include i c));
      settled = λ g written c own. inl (subst (λ (x : ReadFile). Contains (includes_of_file x.tree) written → Contains (written_in path tree ++ []) (x.name, written)) (only_file file g c)
          (λ mine. Contains-append_left (written_in path tree) [] (path, written) (contains_map (λ (w : List ℕ). (path, w)) (includes_of_file tree) written mine)) own);
      texts = λ x e. ap is_utf8 (only_read file x e) ∙ text;
      counted = counted;
      few = omega arith;
      unfailed = unfailed;
      misses = calm;
    }

pub first_read : (content : Content) (f f' m m' r r' : ℕ) (root name path : List ℕ) (files : List ReadFile) (includes : List Include) → path ≡ normal name → is_utf8 path ≡ true → AddsFile (source_call content f f' m m' r r') path [] [] files includes
    → HasRead (source_call content f f' m m' r r') root name (state files [] includes)
first_read content f f' m m' r r' root name path files includes is text a =
    let call = source_call content f f' m m' r r' in
    let one : List ℕ → List ReadFile = λ x. record { name = x; tree = a.tree } ∷ [] in
    let told = subst (λ (x : List ℕ). Tells (content x) (Some a.bytes)) is a.told in
    let main = main_read content f f' m m' r r' root name a.bytes a.tree (sym (ap is_utf8 is) ∙ text) told a.is_script a.counted a.unfailed a.unmissed in
    let here = subst (λ (x : List ℕ). HasRead call root name (state (one x) [] (written_in x a.tree ++ []))) (sym is) main in
    subst (λ (fs : List ReadFile). HasRead call root name (state fs [] includes)) (sym a.more) (subst (λ (is : List Include). HasRead call root name (state (one path) [] is)) (sym a.first) here)
