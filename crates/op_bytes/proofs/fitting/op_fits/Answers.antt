use Rattle.op_bytes.proofs.fitting.op_fits.Goals as goal

pub returns : goal.returns
returns c byte h = c.text_fits.ensures byte ((c.literal_of.ensures byte).0 h)
