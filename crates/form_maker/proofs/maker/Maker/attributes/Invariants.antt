use Rattle.std.proofs.Common.{length, map}
use Rattle.dtd_model.specs.Table.{declared_of}
use Rattle.dtd_model.specs.TableOf.{table_of}
use Rattle.form_maker.specs.Kept.{HasShared}
use Rattle.form_maker.specs.Making.{making_of}
use Rattle.form_maker.proofs.Attributes.{HasMembers}
use Rattle.form_maker.proofs.maker.Maker.attributes.Given as goal

-- with the attributes that are left it is all of them
abbrev pub invariant-loop-last : goal.invariant-loop-last
invariant-loop-last l =
    HasShared (table_of l.indexed.dtd.now).entities (making_of l.fn.self)
    → HasMembers (table_of l.indexed.dtd.now).entities l.tag (map declared_of l.fn.rules.items) (map declared_of l.left) (making_of l.fn.self) (making_of l.self)

abbrev pub decreases-loop-last : goal.decreases-loop-last
decreases-loop-last l = length l.left
