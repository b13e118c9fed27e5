use Rattle.std.proofs.Common.{◌≡◌, ◌<◌, ◌≤◌, ◌+◌, ◌-◌, ◌++◌, ◌∙◌, ap, sym, rules, append_assoc}
use Rattle.script_maker.specs.Made.{line_of, lines_from}
use Rattle.script_maker.proofs.Pieces.{next_line, no_more_lines}
use Rattle.script_maker.proofs.lines.put_callers.Goals as goal

pub loop-called-preserved : goal.loop-called-preserved
loop-called-preserved c =
    let i = c.loop-called.called in
    let last = c.args.last in
    let before = c.loop-called.script.items in
    let within : i < last = search rules in
    record {
      within = search rules;
      left = ap (λ v. v ++ lines_from (i + 1) (last - (i + 1))) c.in_ok-put_line.ensures
          ∙ append_assoc before (line_of (i + 1) i) (lines_from (i + 1) (last - (i + 1)))
          ∙ ap (λ v. before ++ v) (sym (next_line i last within))
          ∙ c.loop-called.invariant.left;
    }

pub returns : goal.returns
returns c =
    let i = c.loop-called.called in
    let beyond : c.args.last ≤ i = search rules in
    sym (no_more_lines i c.args.last c.loop-called.invariant.within beyond c.loop-called.script.items) ∙ c.loop-called.invariant.left
