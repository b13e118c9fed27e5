use Rattle.std.proofs.Common.{List, Bool, subst}
use Rattle.system_writing.specs.declared.waiting.Waiting.{Waiting}
use Rattle.system_writing.specs.Steps.{WritesWaiting}
use Rattle.system_writing.proofs.Below.{finished_fine}
use Rattle.system_writing.proofs.drafts.Draft.finish.Goals as goal

pub finished-requires-clause-starts : goal.finished-requires-clause-starts
finished-requires-clause-starts c =
    (finished_fine c.args.self c.requires c.as_slice.result.now c.add_waiting.new.lines (subst (λ (xs : List Waiting). WritesWaiting c.as_slice.result.now c.args.self.lines c.add_waiting.new.lines xs) c.as_slice-2.ensures.value c.in_ok-add_waiting.ensures)).1

pub finished-requires-clause-below : goal.finished-requires-clause-below
finished-requires-clause-below c =
    (finished_fine c.args.self c.requires c.as_slice.result.now c.add_waiting.new.lines (subst (λ (xs : List Waiting). WritesWaiting c.as_slice.result.now c.args.self.lines c.add_waiting.new.lines xs) c.as_slice-2.ensures.value c.in_ok-add_waiting.ensures)).0.productions

pub finished-requires-clause-rules : goal.finished-requires-clause-rules
finished-requires-clause-rules c =
    (finished_fine c.args.self c.requires c.as_slice.result.now c.add_waiting.new.lines (subst (λ (xs : List Waiting). WritesWaiting c.as_slice.result.now c.args.self.lines c.add_waiting.new.lines xs) c.as_slice-2.ensures.value c.in_ok-add_waiting.ensures)).0.rules

pub finished-requires-clause-tokens : goal.finished-requires-clause-tokens
finished-requires-clause-tokens c =
    (finished_fine c.args.self c.requires c.as_slice.result.now c.add_waiting.new.lines (subst (λ (xs : List Waiting). WritesWaiting c.as_slice.result.now c.args.self.lines c.add_waiting.new.lines xs) c.as_slice-2.ensures.value c.in_ok-add_waiting.ensures)).0.tokens

pub returns : goal.returns
returns c =
    record {
      marks = c.in_ok-marks.marks.items;
      exact = c.in_ok-marks.ensures.exact;
      lines = c.add_waiting.new.lines;
      written = subst (λ (marks : List Bool). WritesWaiting marks c.args.self.lines c.add_waiting.new.lines c.args.self.waiting.items) c.as_slice.ensures.value
          (subst (λ (xs : List Waiting). WritesWaiting c.as_slice.result.now c.args.self.lines c.add_waiting.new.lines xs) c.as_slice-2.ensures.value c.in_ok-add_waiting.ensures);
      count = c.finished.ensures.kept.0;
      productions = c.finished.ensures.kept.1;
      rules = c.finished.ensures.kept.2;
      start = c.finished.ensures.start;
    }
