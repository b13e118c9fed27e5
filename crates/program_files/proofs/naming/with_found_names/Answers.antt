use Rattle.std.proofs.Common.{◌∙◌, List, ℕ, map, sym, ap, subst, arith}
use Rattle.std.specs.List.{Contains}
use Rattle.php_syntax.specs.Trees.{PlainFile}
use Rattle.program_rules.specs.Bodies.{file_with_bodies}
use Rattle.program_files.specs.View.{files_of}
use Rattle.program_files.specs.Steps.{placed_include, placed_file}
use Rattle.program_files.proofs.Pairs.{names_of_paired}
use Rattle.program_files.proofs.Among.{at_place, among_contains}
use Rattle.program_files.proofs.Visits.{no_file_visited, all_files_visited, next_file_visited, same_size}
use Rattle.program_files.proofs.naming.with_found_names.Goals as goal

pub name_in_file-requires : goal.name_in_file-requires
name_in_file-requires c =
    let names = c.args.files.names.keys in
    let there : Contains names c.in-Some.name.now = among_contains names c.in-Some.name.now (at_place names c.loop-place.place c.in-Some.name.now (sym c.in-Some.ensures.key)) in
    c.requires c.in-Some.name.now (subst (λ (ns : List (List ℕ)). Contains ns c.in-Some.name.now) (sym (names_of_paired names c.args.files.trees.items c.args.files.paired)) there)

pub loop-place-preserved : goal.loop-place-preserved
loop-place-preserved c =
    let names = c.args.files.names.keys in
    let g : List ℕ → PlainFile → PlainFile = λ file tree. file_with_bodies (placed_include names c.args.main.now file) tree in
    let i = c.loop-place.invariant in (
      next_file_visited g c.loop-place.place names c.loop-place.trees.items c.in-Some.name.now c.index_mut.result.now c.name_in_file.new.tree (sym c.in-Some.ensures.key) (omega (arith, c.loop-place-test.true, i.1, c.len-place-end.ensures))
          c.index_mut.ensures.value c.in_ok-name_in_file-in-Some.ensures ∙ i.0,
      same_size c.loop-place.trees.items c.loop-place.place c.name_in_file.new.tree ∙ i.1,
    )

pub returns : goal.returns
returns c =
    let names = c.args.files.names.keys in
    let g : List ℕ → PlainFile → PlainFile = λ file tree. file_with_bodies (placed_include names c.args.main.now file) tree in
    let i = c.loop-place.invariant in
    sym (all_files_visited g c.loop-place.place names c.loop-place.trees.items (omega (arith, c.loop-place-test.false, i.1, c.len-place-end.ensures))) ∙ i.0 ∙ no_file_visited g names c.args.files.trees.items
    ∙ ap (λ (ns : List (List ℕ)). map (placed_file ns c.args.main.now) (files_of c.args.files)) (sym (names_of_paired names c.args.files.trees.items c.args.files.paired))
