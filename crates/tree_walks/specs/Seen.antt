-- What calls in memory are seen as.
use Rattle.std.specs.Prelude.{List, [], ◌∷◌}
use Rattle.program_rules.specs.Calls.{PlainCall}
use Rattle.tree_walks.specs.declared.call.Call.{Call}

-- the plain form of a call
abbrev pub plain_call : Call → PlainCall
plain_call call = record { name_of = call.name; arguments = call.arguments }

-- the plain form of calls in their order
abbrev pub calls_seen : List Call → List PlainCall
calls_seen [] = []
calls_seen (call ∷ calls) = plain_call call ∷ calls_seen calls
