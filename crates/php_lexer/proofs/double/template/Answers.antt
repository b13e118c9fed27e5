use Rattle.std.proofs.Common.{map, sym, ◌∙◌, arith}
use Rattle.php_syntax.specs.Tokens.{plain_part_of}
use Rattle.lexical_grammar.specs.Texts.{unit_at}
use Rattle.php_lexer.specs.Templates.{enclosure_of, unit_of}
use Rattle.php_lexer.proofs.PartLemmas.{parts_unit, parts_over, parts_missing, parts_broken, parts_endless}
use Rattle.php_lexer.proofs.double.template.Goals as goal
use Rattle.php_lexer.proofs.double.template.Goals.{then-branch, else-branch}

pub places-preserved : goal.places-preserved
places-preserved c =
    let within = rw c.in-Item.is at c.in_ok-unit.ensures.within
    in (
      parts_unit (unit_at (enclosure_of c.args.enclosure)) c.args.bytes.now (map plain_part_of c.places.parts.items) (map plain_part_of c.put_unit.new.parts.items) c.places.plain c.put_unit.new.plain c.places.n (unit_of c.in-Item.unit) c.in-Item.k _
          c.places.invariant.0 c.behind.ensures.value (rw c.in-Item.is at c.in_ok-unit.ensures.value) within.0 within.1 c.in_ok-put_unit-in-Item.ensures.parts c.in_ok-put_unit-in-Item.ensures.plain,
      omega (arith, within, c.behind.ensures.len),
    )

pub returns-in-Over-clause-value : goal.returns-in-Over-clause-value
returns-in-Over-clause-value c =
    parts_over (unit_at (enclosure_of c.args.enclosure)) c.args.bytes.now (map plain_part_of c.places.parts.items) (map plain_part_of c.put_bytes.new.parts.items) c.places.plain c.places.n c.in-Over.k _
    c.places.invariant.0 c.behind.ensures.value (rw c.in-Over.is at c.in_ok-unit.ensures.value) c.in_ok-put_bytes-in-Over.ensures

pub returns-in-Missing-clause-value : goal.returns-in-Missing-clause-value
returns-in-Missing-clause-value c =
    parts_missing (unit_at (enclosure_of c.args.enclosure)) c.args.bytes.now (map plain_part_of c.places.parts.items) c.places.plain c.places.n _ c.places.invariant.0 c.behind.ensures.value (rw c.in-Missing.is at c.in_ok-unit.ensures.value)

pub returns-in-Wrong-clause-value : goal.returns-in-Wrong-clause-value
returns-in-Wrong-clause-value c =
    let within = rw c.in-Wrong.is at c.in_ok-unit.ensures.within
    in elim c.if-branch.branch [
      | then-branch w ↦ rw w.result-is (parts_broken (unit_at (enclosure_of c.args.enclosure)) c.args.bytes.now (map plain_part_of c.places.parts.items) c.places.plain c.places.n c.in-Wrong.k _ _ c.places.invariant.0 c.behind.ensures.value (rw c.in-Wrong.is at c.in_ok-unit.ensures.value) within.0 within.1 c.behind-in-Wrong.ensures.value (sym w.if-branch.true ∙ c.in_ok-has_end-in-Wrong.ensures))
      | else-branch w ↦ rw w.result-is (parts_endless (unit_at (enclosure_of c.args.enclosure)) c.args.bytes.now (map plain_part_of c.places.parts.items) c.places.plain c.places.n c.in-Wrong.k _ _ c.places.invariant.0 c.behind.ensures.value (rw c.in-Wrong.is at c.in_ok-unit.ensures.value) within.0 within.1 c.behind-in-Wrong.ensures.value (sym w.if-branch.false ∙ c.in_ok-has_end-in-Wrong.ensures))
    ]
