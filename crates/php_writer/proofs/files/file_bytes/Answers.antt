use Rattle.std.proofs.Common.{rules}
use Rattle.php_writer.proofs.FileLemmas.{file_bytes_of}
use Rattle.php_writer.proofs.files.file_bytes.Goals as goal

pub returns : goal.returns
returns c =
    file_bytes_of c.args.tree.now c.as_slice.result.now c.as_slice-2.result.now _ c.functions.new.out.bytes c.statements.new.out.bytes c.as_slice.ensures.value c.as_slice-2.ensures.value (search rules) c.in_ok-functions.ensures c.in_ok-statements.ensures
