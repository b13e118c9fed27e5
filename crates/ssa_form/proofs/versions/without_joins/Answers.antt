use Rattle.std.proofs.Common.{List, Option, sym, subst, ap}
use Rattle.std.specs.Option.{option_map}
use Rattle.ssa_form.specs.declared.version.Version.{Version}
use Rattle.ssa_form.specs.Views.{version_seen}
use Rattle.ssa_form.specs.Versions.{asks_of, rows_of}
use Rattle.ssa_form.specs.Replacing.{ArePut, AreAsked}
use Rattle.ssa_form.proofs.ReadLemmas.{contains_kept}
use Rattle.ssa_form.proofs.AnewLemmas.{asked_kept, anew_exact, anew_joins}
use Rattle.ssa_form.proofs.versions.without_joins.Goals as goal

pub returns-clause-exact : goal.returns-clause-exact
returns-clause-exact c flow was are =
    let made = c.args.made.now in
    let put : ArePut flow (asks_of made) c.deref.result.now = subst (λ (ps : List Version). ArePut flow (asks_of made) ps) (sym c.deref.ensures.value) (c.in_ok-places.ensures flow are.links) in
    let asked : AreAsked (asks_of made) made.versions = λ p x v e. asked_kept (asks_of made) (rows_of made) (version_seen v) (are.kept p x (version_seen v) (ap (λ (o : Option Version). option_map version_seen o) e)) in
    let held = c.in_ok-versions.ensures flow put asked in
    let anew = c.in_ok-rows.ensures.rows flow put are.links held.known in
    anew_exact flow made _ was are c.count-count.ensures.different c.put_versions.new.asks.keys held anew c.in_ok-rows.ensures.len
    (λ p x k. contains_kept c.put_versions.new.asks.keys c.rows_anew.new.asks.keys (p, x) c.in_ok-rows.ensures.keeps k)

pub returns-clause-joins : goal.returns-clause-joins
returns-clause-joins c flow was are =
    let made = c.args.made.now in
    let put : ArePut flow (asks_of made) c.deref.result.now = subst (λ (ps : List Version). ArePut flow (asks_of made) ps) (sym c.deref.ensures.value) (c.in_ok-places.ensures flow are.links) in
    let asked : AreAsked (asks_of made) made.versions = λ p x v e. asked_kept (asks_of made) (rows_of made) (version_seen v) (are.kept p x (version_seen v) (ap (λ (o : Option Version). option_map version_seen o) e)) in
    let held = c.in_ok-versions.ensures flow put asked in
    let anew = c.in_ok-rows.ensures.rows flow put are.links held.known in
    anew_joins flow made _ was are c.count-count.ensures.different c.put_versions.new.asks.keys held anew c.in_ok-rows.ensures.len
    (λ p x k. contains_kept c.put_versions.new.asks.keys c.rows_anew.new.asks.keys (p, x) c.in_ok-rows.ensures.keeps k)
