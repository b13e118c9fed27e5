use Rattle.page_policy.proofs.SpellLemmas.{spell_one}
use Rattle.page_policy.proofs.laws.a_file_spells_one_pattern.Goals as goal

pub returns : goal.returns
returns c = spell_one
