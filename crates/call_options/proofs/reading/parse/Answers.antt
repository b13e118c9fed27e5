use Rattle.std.proofs.Common.{Some, arith, true≢false}
use Rattle.toml.specs.Errors.{IsMemory}
use Rattle.toml.specs.View.{table_view}
use Rattle.call_options.proofs.Parsing.{parsed-utf8, parsed-refused}
use Rattle.call_options.proofs.reading.parse.Goals as goal

pub returns-in-Ok-clause-ok : goal.returns-in-Ok-clause-ok
returns-in-Ok-clause-ok c = parsed-utf8 c.args.file.now (Some (table_view c.in-Ok.table)) c.in-Ok.ensures.ok.0 c.in-Ok.ensures.ok.1

pub returns-in-Some-clause-err : goal.returns-in-Some-clause-err
returns-in-Some-clause-err c =
    let never : IsMemory c.in-Err.error → ⊥ = λ m. true≢false (c.in-Some.ensures.none.1 m) in
    let starts = c.in-Some.ensures.range.0 in
    let inside = c.in-Err.ensures.span in (
      parsed-refused c.args.file.now (c.in-Err.ensures.refused never),
      record {
        place = c.in-Some.span.start;
        within = omega (arith, starts, inside.0, inside.1);
        is = c.line_at.ensures;
      },
    )
