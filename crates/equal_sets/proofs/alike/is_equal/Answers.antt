use Rattle.std.proofs.Common.{subst, sym}
use Rattle.numbered_sets.specs.Places.{ArePlaces}
use Rattle.equal_sets.proofs.RowLemmas.{equal_by, left_keys, rule_keys}
use Rattle.equal_sets.proofs.alike.is_equal.Goals as goal

pub returns-then-are_rights_paired : goal.returns-then-are_rights_paired
returns-then-are_rights_paired c = λ same.
    let s = c.args.rows.now.system.now in
    let rights : ArePlaces (left_keys s) c.as_slice-rights.result.now = subst (ArePlaces (left_keys s)) (sym c.as_slice-rights.ensures.value) c.requires.rows.rights in
    let rules : ArePlaces (rule_keys s) c.as_slice-rules.result.now = subst (ArePlaces (rule_keys s)) (sym c.as_slice-rules.ensures.value) c.requires.rows.rules in
    equal_by s c.args.sets.now c.args.a c.args.b c.places_at.result.now c.places_at-2.result.now c.places_at-then-are_rights_paired.result.now c.places_at-then-are_rights_paired-2.result.now
    (c.places_at.ensures (left_keys s) rights) (c.places_at-2.ensures (left_keys s) rights)
    (c.places_at-then-are_rights_paired.ensures (rule_keys s) rules) (c.places_at-then-are_rights_paired-2.ensures (rule_keys s) rules)
    (c.are_rights_paired.ensures c.if-are_rights_paired.true) (c.are_rules_paired.ensures same)
