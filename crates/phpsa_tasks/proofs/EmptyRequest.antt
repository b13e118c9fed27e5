-- A request of five empty arrays is admitted.
use Rattle.std.proofs.Common.{refl, lit≤}
use Rattle.plain_values.specs.Plain.{empty}
use Rattle.script_meaning.specs.Requests.{AreMembers, IsAdmitted, Admitted}
use Rattle.phpsa_tasks.specs.Requests.{no_request}

none : IsAdmitted empty
unfolding AreMembers
none = record { value = record { parts = (refl, tt); shallow = lit≤ tt }; members_are = tt }

pub no_request_admitted : Admitted no_request
no_request_admitted = record { get = none; post = none; cookie = none; request = none; server = none }
