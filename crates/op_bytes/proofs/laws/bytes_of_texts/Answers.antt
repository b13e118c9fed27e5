use Rattle.op_bytes.proofs.LawLemmas.{text_bytes}
use Rattle.op_bytes.proofs.laws.bytes_of_texts.Goals as goal

pub returns : goal.returns
returns c symbol text h byte among = text_bytes c.args.s.now symbol text h byte among
