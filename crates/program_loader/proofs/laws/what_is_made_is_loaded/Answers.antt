use Rattle.program_loader.proofs.LoadLemmas.{is_ready, loaded, unmade, unread, unstubbed}
use Rattle.program_loader.proofs.laws.what_is_made_is_loaded.Goals as goal

pub returns-clause-ready : goal.returns-clause-ready
returns-clause-ready c = is_ready c.each_has_one_tree.ensures.tree c.read_files_are_whole.ensures.whole c.read_files_are_whole.ensures.scripts c.read_files_are_whole.ensures.named

pub returns-clause-ok : goal.returns-clause-ok
returns-clause-ok c = loaded c.each_has_one_tree.ensures.tree c.each_has_one_tree.ensures.script c.files_of_the_program.ensures c.made_programs_are_programs.ensures
    c.ordered_files_stand_for_a_program.ensures.acyclic c.ordered_files_stand_for_a_program.ensures.program

pub returns-clause-err : goal.returns-clause-err
returns-clause-err c =
    unmade c.each_has_one_tree.ensures.tree c.each_has_one_tree.ensures.script c.files_of_the_program.ensures c.read_files_are_whole.ensures.held c.ordered_files_stand_for_a_program.ensures.acyclic
    c.ordered_files_stand_for_a_program.ensures.program

pub returns-clause-unread : goal.returns-clause-unread
returns-clause-unread c = unread c.names_looked_at.ensures

pub returns-clause-unstubbed : goal.returns-clause-unstubbed
returns-clause-unstubbed c = unstubbed c.each_has_one_tree.ensures.tree c.each_has_one_tree.ensures.script c.files_of_the_program.ensures
