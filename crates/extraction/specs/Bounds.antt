-- How large an extracted system is.
use Rattle.std.specs.Prelude.{◌≤◌, ◌+◌, ◌*◌, ℕ, length}
use Rattle.op_system.specs.declared.system.OpSystem.{OpSystem}
use Rattle.flow_code.specs.Points.{PlainFlow}
use Rattle.loose_sets.specs.Keys.{told_keys}
use Rattle.ssa_form.specs.declared.versions.Versions.{Versions}
use Rattle.ssa_form.specs.Versions.{IsExact, AreOnce, AreJoins}
use Rattle.extraction.specs.Sizes.{program_size, points_count, reads_count, joins_count, links_count}

-- by the versions of the program: nonterminals by its size and its joins, productions and operations by what these join too, each times the
-- keys that are told apart, and so many more for what the request may bring; there is at most one join for each point and each read, and a
-- join joins no more than what leads to its point
pub record IsBoundedWith (more_nonterminals more_productions : ℕ) (flow : PlainFlow) (s : OpSystem) : Type 0 where
  pub versions : Versions
  pub exact : IsExact flow versions
  pub once : AreOnce versions
  pub joins : AreJoins flow versions
  pub joins_most : joins_count versions ≤ points_count flow * reads_count flow
  pub links_most : links_count versions ≤ (2 * points_count flow + length flow.functions_of) * reads_count flow
  pub nonterminals : s.grammar.count ≤ 64 * ((length (told_keys flow) + 1) * (program_size flow + joins_count versions + 1))
      + more_nonterminals
  pub productions : length s.grammar.productions.items + length s.ops.items
      ≤ 128 * ((length (told_keys flow) + 1) * (program_size flow + joins_count versions + links_count versions + 1))
      + more_productions

-- with no more than these, as where the request brings any text of XML's characters
abbrev pub IsBounded : PlainFlow → OpSystem → Type 0
IsBounded flow s = IsBoundedWith 0 0 flow s
