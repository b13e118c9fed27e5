use Rattle.program_files.specs.Source.{source_call}
use Rattle.phpsa_main.proofs.PageParts.{ok_faults, file_faults}
use Rattle.phpsa_main.proofs.MatchParts.{policy_unread, policy_refused, policy_found}
use Rattle.phpsa_main.proofs.matching.read_pattern.Goals as goal

pub returns-in-Err-clause-pattern : goal.returns-in-Err-clause-pattern
returns-in-Err-clause-pattern g c =
    policy_unread
    (source_call (g.F.Files.content c.read.new.self) (g.F.Files.faults c.args.files.now) (g.F.Files.faults c.read.new.self) (g.F.Files.misses c.args.files.now) (g.F.Files.misses c.read.new.self) (g.F.Files.reads c.args.files.now) (g.F.Files.reads c.read.new.self))
    c.args.name.now c.in-Err.fault c.file_refusal.result c.in-Err.ensures.reason c.read.ensures.asked
    (file_faults c.read.result c.in-Err.fault _ _ c.in-Err.is c.read.ensures.unfailed) (rw c.as_bytes.ensures.value at c.file_refusal.ensures)

pub returns-in-Ok-read_policy-clause-pattern : goal.returns-in-Ok-read_policy-clause-pattern
returns-in-Ok-read_policy-clause-pattern g c =
    policy_found
    (source_call (g.F.Files.content c.read.new.self) (g.F.Files.faults c.args.files.now) (g.F.Files.faults c.read.new.self) (g.F.Files.misses c.args.files.now) (g.F.Files.misses c.read.new.self) (g.F.Files.reads c.args.files.now) (g.F.Files.reads c.read.new.self))
    c.args.name.now c.in-Ok.bytes c.in-Ok-read_policy.pattern c.in-Ok.ensures.content
    (rw c.as_slice.ensures at c.in-Ok-read_policy.ensures.ok) c.read.ensures.asked (ok_faults c.read.result _ _ _ c.in-Ok.is c.read.ensures.unfailed)

pub returns-clause-pattern : goal.returns-clause-pattern
returns-clause-pattern g c =
    policy_refused
    (source_call (g.F.Files.content c.read.new.self) (g.F.Files.faults c.args.files.now) (g.F.Files.faults c.read.new.self) (g.F.Files.misses c.args.files.now) (g.F.Files.misses c.read.new.self) (g.F.Files.reads c.args.files.now) (g.F.Files.reads c.read.new.self))
    c.args.name.now c.in-Ok.bytes c.in-Err-read_policy.refusal c.policy_refusal.result c.in-Ok.ensures.content
    (rw c.as_slice.ensures at c.in-Err-read_policy.ensures.err) c.read.ensures.asked (ok_faults c.read.result _ _ _ c.in-Ok.is c.read.ensures.unfailed) c.policy_refusal.ensures
