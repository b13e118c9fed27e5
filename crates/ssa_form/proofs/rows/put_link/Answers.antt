use Rattle.std.proofs.Common.{◌∙◌, ◌∷◌, [], ap, map, refl, sym, true, false}
use Rattle.std.specs.Option.{option_map}
use Rattle.std.proofs.lemmas.Option.{slice_get-map}
use Rattle.flow_code.specs.View.{plain_flow_function}
use Rattle.flow_graph.proofs.HeadLemmas.{looked}
use Rattle.loose_sets.specs.Versions.{PlainVersion}
use Rattle.ssa_form.specs.Views.{versions_seen}
use Rattle.ssa_form.specs.Behind.{behind_rows}
use Rattle.ssa_form.proofs.RowLemmas.{edge_link, edge_none, entry_link, entry_none, pushed, as_it_was, looked_past}
use Rattle.ssa_form.proofs.rows.put_link.Goals as goal

pub returns-in_ok-push-in-Edge : goal.returns-in_ok-push-in-Edge
returns-in_ok-push-in-Edge c =
    let out = c.args.found_out in
    let at = c.in-Some.ensures.lookup in
    let link = edge_link (map plain_flow_function out.functions.now) out.heads.now (behind_rows out) c.args.slot c.args.arrival c.in-Edge.from c.in-Some.head.now c.in-Edge.is
    (looked out.heads.now out.heads.now c.in-Edge.from c.in-Some.head.now refl at.0 at.1) in
    pushed c.args.row.now.items c.push.new.self.items c.found_behind.result _ c.in_ok-push-in-Edge.ensures.items (link ∙ ap (λ (v : PlainVersion). v ∷ []) (sym c.found_behind.ensures))

pub returns-in_default : goal.returns-in_default
returns-in_default c =
    let out = c.args.found_out in
    as_it_was (versions_seen c.args.row.now.items) _
    (edge_none (map plain_flow_function out.functions.now) out.heads.now (behind_rows out) c.args.slot c.args.arrival c.in-Edge.from c.in-Edge.is (looked_past out.heads.now c.in-Edge.from c.in_default.ensures.lookup.0))

pub returns-in_ok-push-in-Entry : goal.returns-in_ok-push-in-Entry
returns-in_ok-push-in-Entry c =
    let out = c.args.found_out in
    let at = c.in-Some-get.ensures.lookup in
    let function = slice_get-map plain_flow_function out.functions.now c.in-Entry.number
    ∙ ap (option_map plain_flow_function) (looked out.functions.now out.functions.now c.in-Entry.number c.in-Some-get.function.now refl at.0 at.1) in
    pushed c.args.row.now.items c.push-then-is_own.new.self.items _ _ c.in_ok-push-in-Entry.ensures.items
    (entry_link (map plain_flow_function out.functions.now) out.heads.now (behind_rows out) c.args.slot c.args.arrival c.in-Entry.number (plain_flow_function c.in-Some-get.function.now) true c.in-Entry.is function (sym c.is_own.ensures ∙ c.if-is_own.true))

pub returns-else-is_own : goal.returns-else-is_own
returns-else-is_own c =
    let out = c.args.found_out in
    let at = c.in-Some-get.ensures.lookup in
    let function = slice_get-map plain_flow_function out.functions.now c.in-Entry.number
    ∙ ap (option_map plain_flow_function) (looked out.functions.now out.functions.now c.in-Entry.number c.in-Some-get.function.now refl at.0 at.1) in
    as_it_was (versions_seen c.args.row.now.items) _
    (entry_link (map plain_flow_function out.functions.now) out.heads.now (behind_rows out) c.args.slot c.args.arrival c.in-Entry.number (plain_flow_function c.in-Some-get.function.now) false c.in-Entry.is function (sym c.is_own.ensures ∙ c.if-is_own.false))

pub returns-in_default-get : goal.returns-in_default-get
returns-in_default-get c =
    let out = c.args.found_out in
    as_it_was (versions_seen c.args.row.now.items) _
    (entry_none (map plain_flow_function out.functions.now) out.heads.now (behind_rows out) c.args.slot c.args.arrival c.in-Entry.number c.in-Entry.is
    (slice_get-map plain_flow_function out.functions.now c.in-Entry.number ∙ ap (option_map plain_flow_function) (looked_past out.functions.now c.in-Entry.number c.in_default-get.ensures.lookup.0)))
