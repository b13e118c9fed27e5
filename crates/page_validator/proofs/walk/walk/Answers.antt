use Rattle.std.proofs.Common.{◌<◌, ℕ, List, sym, ◌∙◌, subst, arith, length}
use Rattle.std.specs.Borrow.{Bor}
use Rattle.std.specs.Prelude.{Option}
use Rattle.dtd_model.specs.TableOf.{table_of}
use Rattle.page_rules.specs.Views.{place_of}
use Rattle.page_rules.specs.declared.parts.Place.{Place}
use Rattle.page_validator.specs.Machine.{State}
use Rattle.page_validator.specs.Views.{progress_of}
use Rattle.page_model.specs.Places.{at_beginning}
use Rattle.page_validator.specs.Walks.{Ahead, IsNext}
use Rattle.page_validator.proofs.Steps.{on, back, stuck, ended, not_ended, good_ahead, ahead_good, shorter, nonempty, empty_is}
use Rattle.page_validator.proofs.walk.walk.Goals as goal

pub loop-rest-init : goal.loop-rest-init
loop-rest-init c =
    let d = table_of c.args.indexed.now.dtd.now in
    let t = c.args.contents.now in
    record {
      same = (
        λ g. subst (λ (s : State). Ahead d t at_beginning s c.args.cs.now) (sym c.new-progress.ensures) (good_ahead d t c.requires.decides c.args.cs.now g),
        λ a. ahead_good d t c.requires.decides c.args.cs.now (subst (λ (s : State). Ahead d t at_beginning s c.args.cs.now) c.new-progress.ensures a),
      );
      short = omega arith;
    }

pub returns-in-None-clause-walk : goal.returns-in-None-clause-walk
returns-in-None-clause-walk c =
    let d = table_of c.args.indexed.now.dtd.now in
    let t = c.args.contents.now in
    let s = subst (λ (o : Option (Place × Bor (List ℕ))). IsNext d t (place_of c.loop-rest.place) (progress_of c.loop-rest.progress) c.loop-rest.rest.now (progress_of c.next.new.progress) o) c.in-None.is c.in_ok-next.ensures in
    λ g. stuck d t (place_of c.loop-rest.place) (progress_of c.loop-rest.progress) c.loop-rest.rest.now (nonempty c.loop-rest.rest.now c.is_empty.result c.is_empty.ensures c.loop-rest-test.true) s (c.loop-rest.invariant.same.0 g)

pub loop-rest-smaller : goal.loop-rest-smaller
loop-rest-smaller c =
    let d = table_of c.args.indexed.now.dtd.now in
    let t = c.args.contents.now in
    let f = subst (λ (o : Option (Place × Bor (List ℕ))). IsNext d t (place_of c.loop-rest.place) (progress_of c.loop-rest.progress) c.loop-rest.rest.now (progress_of c.next.new.progress) o) c.in-Some.is c.in_ok-next.ensures in
    shorter d (place_of c.loop-rest.place) c.loop-rest.rest.now f.piece c.in-Some.behind.now f.cut

pub loop-rest-preserved : goal.loop-rest-preserved
loop-rest-preserved c =
    let d = table_of c.args.indexed.now.dtd.now in
    let t = c.args.contents.now in
    let p = place_of c.loop-rest.place in
    let s = progress_of c.loop-rest.progress in
    let f = subst (λ (o : Option (Place × Bor (List ℕ))). IsNext d t p s c.loop-rest.rest.now (progress_of c.next.new.progress) o) c.in-Some.is c.in_ok-next.ensures in
    let l : length c.in-Some.behind.now < length c.loop-rest.rest.now = shorter d p c.loop-rest.rest.now f.piece c.in-Some.behind.now f.cut in
    let some = nonempty c.loop-rest.rest.now c.is_empty.result c.is_empty.ensures c.loop-rest-test.true in
    record {
      same = (
        λ g. back d t p (place_of c.in-Some.place_behind) s (progress_of c.next.new.progress) c.loop-rest.rest.now c.in-Some.behind.now some f (c.loop-rest.invariant.same.0 g),
        λ a. c.loop-rest.invariant.same.1 (on d t p (place_of c.in-Some.place_behind) s (progress_of c.next.new.progress) c.loop-rest.rest.now c.in-Some.behind.now f a),
      );
      short = omega arith;
    }

pub returns-then-is_done-clause-walk : goal.returns-then-is_done-clause-walk
returns-then-is_done-clause-walk c =
    let d = table_of c.args.indexed.now.dtd.now in
    let t = c.args.contents.now in
    let none = empty_is c.loop-rest.rest.now c.is_empty.result c.is_empty.ensures c.loop-rest-test.false in
    c.loop-rest.invariant.same.1 (subst (Ahead d t (place_of c.loop-rest.place) (progress_of c.loop-rest.progress)) (sym none) (ended d t (place_of c.loop-rest.place) (progress_of c.loop-rest.progress) (sym c.is_done.ensures ∙ c.if-is_done.true)))

pub returns-clause-walk : goal.returns-clause-walk
returns-clause-walk c =
    let d = table_of c.args.indexed.now.dtd.now in
    let t = c.args.contents.now in
    let none = empty_is c.loop-rest.rest.now c.is_empty.result c.is_empty.ensures c.loop-rest-test.false in
    λ g. not_ended d t (place_of c.loop-rest.place) (progress_of c.loop-rest.progress) (sym c.is_done.ensures ∙ c.if-is_done.false) (subst (Ahead d t (place_of c.loop-rest.place) (progress_of c.loop-rest.progress)) none (c.loop-rest.invariant.same.0 g))
