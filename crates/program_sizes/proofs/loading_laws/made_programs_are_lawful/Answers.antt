use Rattle.program_sizes.proofs.LawfulLemmas.{lawful}
use Rattle.program_sizes.proofs.loading_laws.made_programs_are_lawful.Goals as goal

pub returns : goal.returns
returns c = lawful c.calls_are_in_files.ensures c.rules_are_kept.ensures c.forms_are_kept.ensures c.no_include_is_left.ensures
