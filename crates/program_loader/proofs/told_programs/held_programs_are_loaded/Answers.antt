use Rattle.program_loader.proofs.OneProgram.{Laws}
use Rattle.program_loader.proofs.NotRefused.{ReadingLaws, not_refused}
use Rattle.program_loader.proofs.told_programs.held_programs_are_loaded.Goals as goal

pub returns : goal.returns
returns c =
    let laws : Laws = record { one_script = c.each_has_one_tree.ensures.script; one_tree = c.each_has_one_tree.ensures.tree; one_body = c.one_expansion.ensures; one_count = c.one_number_of_places.ensures; looked = c.names_looked_at.ensures } in
    let reading : ReadingLaws = record { one_tokens = c.one_token_list.ensures; never = c.never_both.ensures } in
    not_refused laws reading
