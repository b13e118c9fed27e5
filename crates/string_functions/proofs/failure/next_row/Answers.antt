use Rattle.std.proofs.Common.{rules, ◌≡◌, ◌<◌, ◌≤◌, ◌+◌, ◌-◌, ◌^◌, ℕ, List, length, get_or, subst, sym, ◌∙◌, ap, arith}
use Rattle.string_functions.specs.Failure.{IsBorder, IsFailure}
use Rattle.string_functions.proofs.BorderLemmas.{border_whole, border_zero, border_up}
use Rattle.string_functions.proofs.FailureLemmas.{Noted, noted_none, noted_more, noted_down, noted_all, failure_at}
use Rattle.string_functions.proofs.failure.next_row.Goals as goal

pub loop-part-init : goal.loop-part-init
loop-part-init c =
    record { noted = noted_none c.args.pattern.now c.args.at c.in_ok-row.row.items (c.in_ok-row.ensures.items_if_clones_equal (λ y e. e)); border = border_whole c.args.pattern.now c.args.at }

pub loop-part-preserved : goal.loop-part-preserved
loop-part-preserved c =
    let p = c.args.pattern.now in
    let i = c.loop-part.invariant in
    let within : c.loop-part.part ≤ c.args.at = i.border.0 in
    let fits : get_or p c.loop-part.part 0 < 256 = let f = c.type_inv.pattern c.loop-part.part in search rules in
    let noted = noted_more p c.args.at c.loop-part.part c.loop-part.row.items c.note.new.row.items i.noted i.border fits c.note.ensures in
    let is = failure_at p c.args.failures.now (length p) c.loop-part.part c.requires.failures c.loop-part-test.true (omega arith) in
    record {
      noted = noted_down p c.args.at c.loop-part.part _ c.note.new.row.items noted i.border is;
      border = border_up p c.args.at c.loop-part.part _ i.border (omega (arith, is.shorter)) is.border;
    }

pub returns-clause-exact : goal.returns-clause-exact
returns-clause-exact c =
    let p = c.args.pattern.now in
    let i = c.loop-part.invariant in
    let zero : c.loop-part.part ≡ 0 = omega arith in
    let noted : Noted p c.args.at (0 + 1) c.loop-part.row.items = subst (λ (n : ℕ). Noted p c.args.at (n + 1) c.loop-part.row.items) zero i.noted in
    let fits : get_or p 0 0 < 256 = let f = c.type_inv.pattern 0 in search rules in
    let all = noted_more p c.args.at 0 c.loop-part.row.items c.note-2.new.row.items noted (border_zero p c.args.at) fits c.note-2.ensures in
    noted_all p c.args.at c.note-2.new.row.items c.requires.at all

pub returns-clause-len : goal.returns-clause-len
returns-clause-len c =
    let p = c.args.pattern.now in
    let i = c.loop-part.invariant in
    let zero : c.loop-part.part ≡ 0 = omega arith in
    let noted : Noted p c.args.at (0 + 1) c.loop-part.row.items = subst (λ (n : ℕ). Noted p c.args.at (n + 1) c.loop-part.row.items) zero i.noted in
    let fits : get_or p 0 0 < 256 = let f = c.type_inv.pattern 0 in search rules in
    let all = noted_more p c.args.at 0 c.loop-part.row.items c.note-2.new.row.items noted (border_zero p c.args.at) fits c.note-2.ensures in
    all.len
