use Rattle.std.proofs.Common.{◌∙◌, sym}
use Rattle.program_files.proofs.Placed.{at_first, at_second}
use Rattle.program_files.proofs.naming.place_of.Goals as goal

pub returns-then-is_at_first : goal.returns-then-is_at_first
returns-then-is_at_first c =
    at_first c.args.naming.now.names.now.keys c.args.naming.now.main.now c.args.naming.now.file.now c.args.written.now c.in_ok-first.first (c.in_ok-first.ensures ∙ c.as_bytes.ensures.value ∙ c.in_ok-place.ensures)
    (sym c.is_at_first.ensures ∙ c.if-is_at_first.true)

pub returns : goal.returns
returns c =
    at_second c.args.naming.now.names.now.keys c.args.naming.now.main.now c.args.naming.now.file.now c.args.written.now c.in_ok-first.first c.in_ok-second.second (c.in_ok-first.ensures ∙ c.as_bytes.ensures.value ∙ c.in_ok-place.ensures)
    (sym c.is_at_first.ensures ∙ c.if-is_at_first.false) (c.in_ok-second.ensures ∙ c.as_bytes-2.ensures.value ∙ c.in_ok-place-2.ensures)
