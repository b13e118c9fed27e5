use Rattle.cfg_grammar.specs.declared.symbol.Symbol.TheVariants.{Nt}
use Rattle.op_bytes.proofs.LawLemmas.{byte_below}
use Rattle.op_bytes.proofs.laws.bytes_are_bytes.Goals as goal

pub returns : goal.returns
returns c a byte h = byte_below c.args.s.now c.requires (Nt a) byte tt h
