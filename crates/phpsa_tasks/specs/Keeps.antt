-- What every call of the program keeps, whatever its words ask for.
use Rattle.phpsa_texts.specs.declared.exit.Exit.{Exit}
use Rattle.phpsa_tasks.specs.Call.{Call}
use Rattle.phpsa_tasks.specs.Endings.{Ends}
use Rattle.phpsa_tasks.specs.Answered.{IsAnswered}
use Rattle.phpsa_tasks.specs.Sound.{IsSound}
use Rattle.phpsa_tasks.specs.Written.{IsWritten}
use Rattle.phpsa_tasks.specs.Counted.{IsCounted}

-- each status has its cause, what is held and asked for is answered, a status 0 is right, what is due is written, and reads and faults are
-- counted
pub record Keeps (call : Call) (status : Exit) : Type 0 where
  pub ends : Ends call status
  pub answered : IsAnswered call status
  pub sound : IsSound call status
  pub written : IsWritten call status
  pub counted : IsCounted call status
