use Rattle.std.proofs.Common.{sym, ap, ◌∙◌, refl, subst, arith}
use Rattle.plain_values.specs.Plain.{array}
use Rattle.plain_values.specs.Lawful.{HasValues}
use Rattle.serde_json.specs.View.{view}
use Rattle.request_reading.specs.RequestFile.{members_in}
use Rattle.request_reading.proofs.AdmittedLemmas.{array_found, array_admitted}
use Rattle.request_reading.proofs.arrays.array_in.Goals as goal

pub members_array-requires-clause-form : goal.members_array-requires-clause-form
members_array-requires-clause-form c =
    (array_found (view c.args.value.now) c.args.name.now (view c.in-Some.found.now) c.requires.form c.requires.admitted c.requires.nests (sym c.in-Some.ensures)).form

pub members_array-requires-clause-nests : goal.members_array-requires-clause-nests
members_array-requires-clause-nests c =
    omega (arith, (array_found (view c.args.value.now) c.args.name.now (view c.in-Some.found.now) c.requires.form c.requires.admitted c.requires.nests (sym c.in-Some.ensures)).low)

pub returns-in_ok-array-in-Some-clause-admitted : goal.returns-in_ok-array-in-Some-clause-admitted
returns-in_ok-array-in-Some-clause-admitted c =
    array_admitted (view c.args.value.now) c.args.name.now c.in_ok-array-in-Some.array c.requires.form c.requires.admitted c.requires.nests (c.in_ok-array-in-Some.ensures.value ∙ ap members_in c.in-Some.ensures) c.in_ok-array-in-Some.ensures.lawful

pub returns-in_ok-array-in-None-clause-admitted : goal.returns-in_ok-array-in-None-clause-admitted
returns-in_ok-array-in-None-clause-admitted c =
    array_admitted (view c.args.value.now) c.args.name.now c.in_ok-array-in-None.array c.requires.form c.requires.admitted c.requires.nests (c.in_ok-array-in-None.ensures ∙ ap members_in c.in-None.ensures) (subst (λ ps. HasValues (array ps)) (sym c.in_ok-array-in-None.ensures) (refl, tt))
