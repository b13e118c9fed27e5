-- What a sum's fields stand for.
use Rattle.tag_sums.specs.Nesting.{Nest, torn, nest}
use Rattle.dyck_balance.specs.declared.sum.Shape.{Shape}
use Rattle.dyck_balance.specs.declared.sum.Shape.TheVariants.{Torn, Tags}

-- the plain form of a sum
abbrev pub view_of : Shape → Nest
view_of Torn = torn
view_of (Tags closers openers) = nest closers.items openers.items
