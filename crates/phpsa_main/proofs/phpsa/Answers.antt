use Rattle.phpsa_main.proofs.phpsa.Goals as goal

pub returns : goal.returns
returns g c = record {
  ends = c.run.ensures.ends;
  answered = c.endings_are_answered.ensures _ _ c.run.ensures.ends;
  sound = c.endings_are_sound.ensures _ _ c.run.ensures.ends;
  written = c.endings_are_written.ensures _ _ c.run.ensures.ends;
  counted = c.run.ensures.counted;
}
