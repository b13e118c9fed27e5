use Rattle.program_files.specs.Source.{source_call}
use Rattle.phpsa_main.proofs.PageParts.{ok_faults, file_faults}
use Rattle.phpsa_main.proofs.LoadedParts.{file_unread, file_refused}
use Rattle.phpsa_main.proofs.running.read_file.Goals as goal

pub returns-in-Err-clause-request : goal.returns-in-Err-clause-request
returns-in-Err-clause-request g c =
    file_unread
    (source_call (g.F.Files.content c.read.new.self) (g.F.Files.faults c.args.files.now) (g.F.Files.faults c.read.new.self) (g.F.Files.misses c.args.files.now) (g.F.Files.misses c.read.new.self) (g.F.Files.reads c.args.files.now) (g.F.Files.reads c.read.new.self))
    c.args.name.now c.in-Err.fault c.file_refusal.result c.in-Err.ensures.reason c.read.ensures.asked
    (file_faults c.read.result c.in-Err.fault _ _ c.in-Err.is c.read.ensures.unfailed) (rw c.as_bytes.ensures.value at c.file_refusal.ensures)

pub returns-clause-request : goal.returns-clause-request
returns-clause-request g c =
    file_refused
    (source_call (g.F.Files.content c.read.new.self) (g.F.Files.faults c.args.files.now) (g.F.Files.faults c.read.new.self) (g.F.Files.misses c.args.files.now) (g.F.Files.misses c.read.new.self) (g.F.Files.reads c.args.files.now) (g.F.Files.reads c.read.new.self))
    c.args.name.now c.in-Ok.bytes c.in-Err-read_request.refusal c.request_refusal.result c.in-Ok.ensures.content
    (rw c.as_slice.ensures at c.in-Err-read_request.ensures.err) c.read.ensures.asked (ok_faults c.read.result _ _ _ c.in-Ok.is c.read.ensures.unfailed) c.request_refusal.ensures
