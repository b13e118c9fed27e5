-- What a sum's fields stand for.
use Rattle.std.specs.Prelude.{Bool, false}
use Rattle.tag_sums.specs.Sum.{Sum, broken, reduced}
use Rattle.segment_summary.specs.declared.sum.Shape.{Shape}
use Rattle.segment_summary.specs.declared.sum.Shape.TheVariants.{Broken, Live}
use Rattle.page_automata.specs.declared.besides.Besides.{Besides}
use Rattle.segment_summary.specs.declared.rules.Mark.{Mark as Kind}
use Rattle.segment_summary.specs.declared.rules.Mark.TheVariants as kind
use Rattle.page_model.specs.Valid as sort
use Rattle.tag_sums.specs.Labels.{Mark, blank, text, misc, doctype}
use Rattle.page_automata.specs.PageAutomaton.{may_stand}

-- the plain form of a sum
abbrev pub view_of : Shape → Sum
view_of Broken = broken
view_of (Live closers middle openers) = reduced closers.items middle.items openers.items

-- the plain form of what is no element
abbrev pub mark_of : Kind → Mark
mark_of kind.Blank = blank
mark_of kind.Text = text
mark_of kind.Misc = misc
mark_of kind.Doctype = doctype

-- the mark may stand in an element
abbrev pub mark_keeps : Besides → Kind → Bool
mark_keeps b kind.Blank = may_stand b sort.blank
mark_keeps b kind.Text = may_stand b sort.text
mark_keeps b kind.Misc = may_stand b sort.remark
mark_keeps b kind.Doctype = false
