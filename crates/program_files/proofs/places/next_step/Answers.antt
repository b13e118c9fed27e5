use Rattle.std.proofs.Common.{List, subst}
use Rattle.program_files.specs.declared.places.Look.{Look}
use Rattle.program_files.specs.View.{files_of}
use Rattle.program_files.specs.Steps.{Include, IsLook, Passes, stay, pass, AreTexts}
use Rattle.program_files.proofs.Loops.{first_texts, rest_texts}
use Rattle.program_files.proofs.places.next_step.Goals as goal

pub loop-file-init : goal.loop-file-init
loop-file-init c = (stay, c.requires)

pub look_of-requires-clause-file : goal.look_of-requires-clause-file
look_of-requires-clause-file c = (first_texts (c.in-Some.file, c.in-Some.written) c.pop.new.self (subst (λ (is : List Include). AreTexts is) c.in-Some.ensures c.loop-file.invariant.1)).0

pub look_of-requires-clause-written : goal.look_of-requires-clause-written
look_of-requires-clause-written c = (first_texts (c.in-Some.file, c.in-Some.written) c.pop.new.self (subst (λ (is : List Include). AreTexts is) c.in-Some.ensures c.loop-file.invariant.1)).1

pub loop-file-preserved : goal.loop-file-preserved
loop-file-preserved c =
    let all = c.args.includes.now in
    let root = c.args.home.now.root.now in
    let main = c.args.home.now.main.now in
    let files = files_of c.args.known.now.files in
    let missed = c.args.known.now.missed.keys in
    let before = subst (λ (is : List Include). Passes root main files missed all is) c.in-Some.ensures c.loop-file.invariant.0 in (
      pass (c.in-Some.file, c.in-Some.written) c.pop.new.self before (subst (λ (l : Look). IsLook root main files missed (c.in-Some.file, c.in-Some.written) l) c.in-Found.is c.in_ok-look_of.ensures),
      rest_texts (c.in-Some.file, c.in-Some.written) c.pop.new.self (subst (λ (is : List Include). AreTexts is) c.in-Some.ensures c.loop-file.invariant.1),
    )
