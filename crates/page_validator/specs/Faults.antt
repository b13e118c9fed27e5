-- The cause of a refusal.
use Rattle.std.specs.Prelude.{◌≤◌, ℕ, List, length, Result, Ok, Err}
use Rattle.dtd_model.specs.Table.{Table}
use Rattle.content_automata.specs.Decides.{shapes_in}
use Rattle.content_automata.specs.Refusals.{PassLimit}
use Rattle.page_model.specs.Valid.{Valid}
use Rattle.page_validator.specs.declared.refusal.PageRefusal.{PageRefusal}
use Rattle.page_validator.specs.declared.refusal.PageRefusal.TheVariants.{PageFault, Limit, Memory}

-- a fault says that the page is not valid, a limit that the content models are too large; want of memory says nothing
abbrev pub IsCause : PageRefusal → Table → List ℕ → Type 0
IsCause (PageFault at) table page = Valid table page → ⊥
IsCause (Limit count) table page = PassLimit (shapes_in table) count
IsCause Memory table page = Unit {0}

-- the place is one of the page, or its end
abbrev pub IsWithin : PageRefusal → List ℕ → Type 0
IsWithin (PageFault at) page = at ≤ length page
IsWithin (Limit count) page = Unit {0}
IsWithin Memory page = Unit {0}

-- both clauses of the answer, for what is asked by given automata
abbrev pub IsVerdict : Table → List ℕ → Result (Unit {0}) PageRefusal → Type 0
IsVerdict table page (Ok x) = Valid table page
IsVerdict table page (Err refusal) = IsCause refusal table page × IsWithin refusal page
