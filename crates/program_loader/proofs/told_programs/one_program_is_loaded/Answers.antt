use Rattle.program_loader.proofs.OneProgram.{Laws, one_program}
use Rattle.program_loader.proofs.told_programs.one_program_is_loaded.Goals as goal

pub returns : goal.returns
returns c =
    let laws : Laws = record { one_script = c.each_has_one_tree.ensures.script; one_tree = c.each_has_one_tree.ensures.tree; one_body = c.one_expansion.ensures; one_count = c.one_number_of_places.ensures; looked = c.names_looked_at.ensures } in
    one_program laws
