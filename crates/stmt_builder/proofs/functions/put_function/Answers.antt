use Rattle.std.proofs.Common.{refl, ◌∙◌, ap, arith}
use Rattle.std.specs.Prelude.{max}
use Rattle.stmt_builder.proofs.FunctionLemmas.{put_kept}
use Rattle.stmt_builder.proofs.functions.put_function.Goals as goal

pub returns : goal.returns
returns c =
    put_kept c.args.header.name c.args.header.params c.args.row c.args.functions c.in-Some.row c.in-Some-functions.functions (record { name = c.in_ok-name.name; params = c.into_parts-params.result.0; body = c.in-Some.row.stmts }) c.push.new.self.items c.max-height.result c.max.result
    c.in-Some.is c.in-Some-functions.is c.in_ok-push.ensures.items c.in_ok-name.ensures c.into_parts-params.ensures.0 refl (c.max-height.ensures ∙ ap (λ k. max k c.in-Some.row.height) c.into_parts-params.ensures.1) (omega (arith, c.if-height-ge-HEIGHT_LIMIT.false)) c.max.ensures
