use Rattle.std.proofs.Common.{◌≡◌, ℕ, length, ap, subst, arith}
use Rattle.text_base.specs.declared.numbers.Nt as nt
use Rattle.cfg_grammar.specs.declared.production.Production.{Production}
use Rattle.resolving.specs.Draft.{Puts}
use Rattle.resolving.proofs.AnyLemmas.{any_added}
use Rattle.resolving.proofs.any_texts.add_any_texts.Goals as goal

pub returns : goal.returns
returns c =
    let old = c.args.draft.now in
    let t : nt.Nt = record { 0 = c.len.result } in
    let len : c.len.result ≡ length old.chains.last.items = omega (arith, c.len.ensures, old.chains.last.ok.0) in
    any_added c.args.left t c.args.set.now old c.widen.new.draft c.put.new.draft c.put-2.new.draft c.put_runs.new.draft
    (ap (λ (n : ℕ). let z : nt.Nt = record { 0 = n } in z) len) c.in_ok-widen.ensures
    (subst (λ (p : Production). Puts c.widen.new.draft c.put.new.draft p) c.link.ensures c.in_ok-put.ensures) c.in_ok-put-2.ensures c.in_ok-put_runs.ensures
