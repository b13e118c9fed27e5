use Rattle.lr_tables.proofs.Sound.{is_sound}
use Rattle.lr_tables.proofs.laws.what_is_read_is_derived.Goals as goal

pub returns : goal.returns
returns c = is_sound
