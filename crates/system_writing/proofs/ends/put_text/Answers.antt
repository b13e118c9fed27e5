use Rattle.system_writing.proofs.PutLemmas.{no_text, some_text}
use Rattle.system_writing.proofs.ends.put_text.Goals as goal

pub returns-in-None : goal.returns-in-None
returns-in-None c = no_text c.args.lines.now c.args.text.now c.in-None.ensures.cases

pub returns-in_ok-symbol-in-Some : goal.returns-in_ok-symbol-in-Some
returns-in_ok-symbol-in-Some c =
    some_text c.args.lines.now c.put_bytes.new.lines c.args.text.now c.in-Some.before.now c.in-Some.last.now c.byte_symbol.result c.in_ok-symbol-in-Some.symbol
    c.in-Some.ensures.cases.0 c.byte_symbol.ensures c.in_ok-symbol-in-Some.ensures
