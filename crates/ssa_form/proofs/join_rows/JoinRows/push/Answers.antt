use Rattle.std.proofs.Common.{◌≡◌, ◌++◌, ℕ, List, length, sym, subst, ap, ◌∙◌, arith}
use Rattle.ssa_form.specs.declared.version.Version.{Version}
use Rattle.ssa_form.specs.JoinRows.{rows_cut, AreEnds}
use Rattle.ssa_form.proofs.JoinRowLemmas.{rows_push, ends_push}
use Rattle.ssa_form.proofs.join_rows.JoinRows.push.Goals as goal

pub returns : goal.returns
returns c are =
    let old = c.args.self.now in
    let put = c.in_ok-put_all.ensures in
    let n = c.len.result in
    let long : n ≡ length (old.versions.items ++ put.0) = (let a = ap (λ (vs : List Version). length vs) put.1 in let e = c.len.ensures in omega arith) in
    record {
      row = put.0;
      is = put.2;
      rows = ap (λ (vs : List Version). rows_cut vs 0 c.push.new.self.items) put.1 ∙ ap (λ (es : List ℕ). rows_cut (old.versions.items ++ put.0) 0 es) c.in_ok-push.ensures.items
          ∙ rows_push old.versions.items put.0 0 n old.ends.items are long;
      ends = subst (λ (vs : List Version). AreEnds (length vs) 0 c.push.new.self.items) (sym put.1) (subst (λ (es : List ℕ). AreEnds (length (old.versions.items ++ put.0)) 0 es) (sym c.in_ok-push.ensures.items)
          (ends_push old.versions.items put.0 0 n old.ends.items are long));
      count = (let a = c.in_ok-push.ensures.len in omega arith);
    }
