-- The cause of each refusal of a request file. Want of memory may come at any time.
use Rattle.std.specs.Prelude.{◌≡◌, ⊤}
use Rattle.request_reading.specs.Outcome.{Outcome, not_json, not_request, not_admitted}
use Rattle.request_reading.specs.declared.refusal.RequestRefusal.{RequestRefusal}
use Rattle.request_reading.specs.declared.refusal.RequestRefusal.TheVariants.{NotJson, NotRequest, NotAdmitted, Memory}

-- the file is no request for this cause; want of memory needs none
abbrev pub IsCause : RequestRefusal → Outcome → Type 0
IsCause NotJson o = o ≡ not_json
IsCause NotRequest o = o ≡ not_request
IsCause (NotAdmitted path) o = o ≡ not_admitted path
IsCause Memory o = ⊤
