use Rattle.std.proofs.Common.{◌∙◌, ap, sym, List, ℕ, nat_eq, position}
use Rattle.std.specs.List.{list_any}
use Rattle.std.specs.Cmp.Lexicographic.{pointwise}
use Rattle.program_files.proofs.Pairs.{names_of_paired}
use Rattle.program_files.proofs.files.ScriptFiles.place_of.Goals as goal

pub returns-clause-place : goal.returns-clause-place
returns-clause-place c =
    c.get_index_of.ensures.index ∙ ap (λ (names : List (List ℕ)). position (pointwise nat_eq c.args.name.now) names) (sym (names_of_paired c.args.self.now.names.keys c.args.self.now.trees.items c.args.self.now.paired))

pub returns-clause-found : goal.returns-clause-found
returns-clause-found c =
    c.get_index_of.ensures.found ∙ ap (λ (names : List (List ℕ)). list_any (pointwise nat_eq c.args.name.now) names) (sym (names_of_paired c.args.self.now.names.keys c.args.self.now.trees.items c.args.self.now.paired))
