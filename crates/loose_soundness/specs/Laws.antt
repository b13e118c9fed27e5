-- What runs of lawful programs print.
use Rattle.std.specs.Prelude.{◌≡◌, ℕ}
use Rattle.script_meaning.specs.Requests.{PlainRequest, Admitted}
use Rattle.script_meaning.specs.Runs.{Ended}
use Rattle.script_meaning.specs.Programs.{PlainProgram}
use Rattle.script_meaning.specs.Meaning.{meaning}
use Rattle.program_rules.specs.Lawful.{IsLawful}
use Rattle.flow_code.specs.Flat.{flat}
use Rattle.loose_sets.specs.Loose.{Loose}
use Rattle.flow_runs.specs.Texts.{TextsFit}

-- what a lawful program with texts of a run prints for an admitted request is a loose page of its points, if the run comes to its end
abbrev pub EndedRunsPrintLoosePages : Type 0
EndedRunsPrintLoosePages = (program : PlainProgram) (request : PlainRequest) (units : ℕ) → IsLawful program → TextsFit program
    → Admitted request → (meaning program request units).end ≡ Ended → Loose (flat program) (meaning program request units).printed
