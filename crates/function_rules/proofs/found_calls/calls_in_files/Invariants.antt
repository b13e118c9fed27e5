use Rattle.std.proofs.Common.{◌≡◌, ◌++◌, drop}
use Rattle.tree_walks.specs.Seen.{calls_seen}
use Rattle.program_files.specs.View.{files_of}
use Rattle.include_expansion.specs.FileCalls.{calls_in_files}
use Rattle.function_rules.proofs.found_calls.calls_in_files.Given as goal

abbrev pub invariant-loop-place : goal.invariant-loop-place
invariant-loop-place l = calls_seen l.calls.items ++ calls_in_files (drop l.place (files_of l.files)) ≡ calls_in_files (files_of l.files)
