-- Which bytes a class has.
use Rattle.std.specs.Prelude.{ℕ, Bool, false, not, if◌then◌else◌, slice_index_or}
use Rattle.byte_forms.specs.declared.class.ByteClass.{ByteClass}

-- the byte is one of the set, or, where the others are meant, none of it
abbrev pub in_class : ByteClass → ℕ → Bool
in_class class b = if class.others then not (slice_index_or class.set b false) else slice_index_or class.set b false
