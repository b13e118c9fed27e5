use Rattle.request_reading.proofs.ArrayLemmas.{MembersMade}
use Rattle.request_reading.proofs.PlaceLemmas.{PlacesMade}
use Rattle.request_reading.proofs.arrays.+make.Given as goal

abbrev pub invariant-array_of-loop-name : goal.invariant-array_of-loop-name
invariant-array_of-loop-name l = MembersMade l.members.entries l.name-iterator l.array

abbrev pub invariant-list_of-loop-place : goal.invariant-list_of-loop-place
invariant-list_of-loop-place l = PlacesMade l.items.items l.place l.array
