-- The built-in text is within the limit of a file.
use Rattle.std.proofs.Common.{◌≤◌, length, lit≤}
use Rattle.text_base.specs.declared.limits.TheConstants.{FILE_LIMIT}
use Rattle.document_types.specs.Strict.{strict_bytes}

pub is_short : length strict_bytes ≤ FILE_LIMIT
unfolding strict_bytes
is_short = lit≤ tt
