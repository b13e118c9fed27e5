use Rattle.std.proofs.Common.{refl}
use Rattle.lexical_grammar.specs.Texts.{unit_at}
use Rattle.php_lexer.specs.Templates.{enclosure_of, unit_of}
use Rattle.php_lexer.proofs.PartLemmas.{end_past_item, end_past_wrong, end_over, end_missing}
use Rattle.php_lexer.proofs.double.has_end.Goals as goal

pub places-preserved-in-Item : goal.places-preserved-in-Item
places-preserved-in-Item c = end_past_item (unit_at (enclosure_of c.args.enclosure)) c.args.bytes.now c.places.n (unit_of c.in-Item.field-0) c.in-Item.k _ _ c.places.invariant.0 c.behind.ensures.value (rw c.in-Item.is at c.in_ok-k.ensures.value) (rw c.in-Item.is at c.in_ok-k.ensures.within) c.places.invariant.1 refl

pub places-preserved : goal.places-preserved
places-preserved c = end_past_wrong (unit_at (enclosure_of c.args.enclosure)) c.args.bytes.now c.places.n c.in-Wrong.k _ _ c.places.invariant.0 c.behind.ensures.value (rw c.in-Wrong.is at c.in_ok-k.ensures.value) (rw c.in-Wrong.is at c.in_ok-k.ensures.within) c.places.invariant.1 refl

pub returns-in-Over : goal.returns-in-Over
returns-in-Over c = end_over (unit_at (enclosure_of c.args.enclosure)) c.args.bytes.now c.places.n c.in-Over.field-0 _ c.places.invariant.0 c.behind.ensures.value (rw c.in-Over.is at c.in_ok-k.ensures.value)

pub returns-in-Missing : goal.returns-in-Missing
returns-in-Missing c = end_missing (unit_at (enclosure_of c.args.enclosure)) c.args.bytes.now c.places.n _ c.places.invariant.0 c.behind.ensures.value (rw c.in-Missing.is at c.in_ok-k.ensures.value)
