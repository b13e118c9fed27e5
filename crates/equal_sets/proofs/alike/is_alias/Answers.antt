use Rattle.std.proofs.Common.{subst, sym, ◌∙◌, length, arith}
use Rattle.std.proofs.lemmas.List.{nil_from_length}
use Rattle.std.proofs.lemmas.Option.{slice_get_within}
use Rattle.numbered_sets.specs.Places.{ArePlaces}
use Rattle.equal_sets.proofs.RowLemmas.{alias_by, left_keys, rule_keys, not_zero, is_zero}
use Rattle.equal_sets.proofs.alike.is_alias.Goals as goal

pub returns : goal.returns
returns c = λ same.
    let s = c.args.rows.now.system.now in
    let places = c.places_at-places.result.now in
    let rules = c.places_at-rules.result.now in
    alias_by s c.args.sets.now c.args.rows.now.numbers.items c.args.a c.args.b places rules
    (c.places_at-places.ensures (left_keys s) (subst (ArePlaces (left_keys s)) (sym c.as_slice.ensures.value) c.requires.rows.rights))
    (c.places_at-rules.ensures (rule_keys s) (subst (ArePlaces (rule_keys s)) (sym c.as_slice-2.ensures.value) c.requires.rows.rules))
    (not_zero (length places) (sym c.is_empty.ensures ∙ c.if-is_empty.false))
    (nil_from_length rules (is_zero (length rules) (sym c.is_empty-2.ensures ∙ c.if-not-is_empty.false)))
    (λ k i at. let w = slice_get_within places k i at in c.loop-place.invariant k i (omega (arith, w, c.loop-place-test.false)) at)
