use Rattle.std.proofs.Common.{ℕ, Option, sym, ◌∙◌, ap, arith}
use Rattle.plain_values.specs.Plain.{Pairs, keys}
use Rattle.php_values.specs.View.{plain_key, plain_of, pairs_of}
use Rattle.plain_values.specs.Members.{member}
use Rattle.std.specs.Prelude.{is_none}
use Rattle.plain_values.specs.Keys.{is_absent}
use Rattle.php_values.proofs.KeyLemmas.{absent_place}
use Rattle.php_values.proofs.Places.{length-keys, place_lt, member_at, member_none}
use Rattle.php_values.proofs.array.Members.find.Goals as goal

pub index-requires : goal.index-requires
index-requires c = omega (arith, place_lt (keys (pairs_of c.self.inside.pairs.items)) (plain_key c.args.key.now) c.in-Some.place.now (sym (c.self.invariant.indexed c.args.key.now) ∙ sym c.in-Some.ensures.value), length-keys c.self.inside.pairs.items)

pub returns-in-None-clause-none : goal.returns-in-None-clause-none
returns-in-None-clause-none c =
    ap (λ (ps : Pairs). member ps (plain_key c.args.key.now)) (sym c.self.view_is) ∙ member_none (pairs_of c.self.inside.pairs.items) (plain_key c.args.key.now) (sym (c.self.invariant.indexed c.args.key.now) ∙ sym c.in-None.ensures.value)

pub returns-in-Some-clause-some : goal.returns-in-Some-clause-some
returns-in-Some-clause-some c =
    ap (λ (ps : Pairs). member ps (plain_key c.args.key.now)) (sym c.self.view_is)
    ∙ member_at c.self.inside.pairs.items (plain_key c.args.key.now) c.in-Some.place.now c.index.result.now (sym (c.self.invariant.indexed c.args.key.now) ∙ sym c.in-Some.ensures.value)
    ∙ ap (λ (p : _). plain_of p.1) (sym c.index.ensures)

pub returns-in-None-clause-there : goal.returns-in-None-clause-there
returns-in-None-clause-there c =
    ap (λ (o : Option ℕ). is_none o) (c.in-None.ensures.value ∙ c.self.invariant.indexed c.args.key.now)
    ∙ sym (absent_place (keys (pairs_of c.self.inside.pairs.items)) (plain_key c.args.key.now))
    ∙ ap (λ (ps : Pairs). is_absent (keys ps) (plain_key c.args.key.now)) c.self.view_is

pub returns-in-Some-clause-there : goal.returns-in-Some-clause-there
returns-in-Some-clause-there c =
    ap (λ (o : Option ℕ). is_none o) (c.in-Some.ensures.value ∙ c.self.invariant.indexed c.args.key.now)
    ∙ sym (absent_place (keys (pairs_of c.self.inside.pairs.items)) (plain_key c.args.key.now))
    ∙ ap (λ (ps : Pairs). is_absent (keys ps) (plain_key c.args.key.now)) c.self.view_is
