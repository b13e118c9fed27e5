use Rattle.op_system.specs.declared.op.Op.TheVariants.{Same, Html, Replace, Lower, Upper, First, Cut, Trim, Breaks, Url, RawUrl, Slashes, Piece}
use Rattle.string_ops.proofs.MachineLemmas.{machine_at}
use Rattle.string_ops.proofs.machine.machine_of.Goals as goal

pub returns-in-Same : goal.returns-in-Same
returns-in-Same c = machine_at c.same_machine.result c.args.op.now Same c.in-Same.is c.same_machine.ensures

pub returns-in-Html : goal.returns-in-Html
returns-in-Html c = machine_at c.html_machine.result c.args.op.now Html c.in-Html.is c.html_machine.ensures

pub returns-in-Lower : goal.returns-in-Lower
returns-in-Lower c = machine_at c.bytewise_machine.result c.args.op.now Lower c.in-Lower.is c.bytewise_machine.ensures

pub returns-in-Upper : goal.returns-in-Upper
returns-in-Upper c = machine_at c.bytewise_machine-in-Upper.result c.args.op.now Upper c.in-Upper.is c.bytewise_machine-in-Upper.ensures

pub returns-in-First : goal.returns-in-First
returns-in-First c = machine_at c.first_machine.result c.args.op.now First c.in-First.is c.first_machine.ensures

pub returns-in-Breaks : goal.returns-in-Breaks
returns-in-Breaks c = machine_at c.breaks_machine.result c.args.op.now Breaks c.in-Breaks.is c.breaks_machine.ensures

pub returns-in-Url : goal.returns-in-Url
returns-in-Url c = machine_at c.bytewise_machine-in-Url.result c.args.op.now Url c.in-Url.is c.bytewise_machine-in-Url.ensures

pub returns-in-RawUrl : goal.returns-in-RawUrl
returns-in-RawUrl c = machine_at c.bytewise_machine-in-RawUrl.result c.args.op.now RawUrl c.in-RawUrl.is c.bytewise_machine-in-RawUrl.ensures

pub returns-in-Slashes : goal.returns-in-Slashes
returns-in-Slashes c = machine_at c.bytewise_machine-in-Slashes.result c.args.op.now Slashes c.in-Slashes.is c.bytewise_machine-in-Slashes.ensures

pub returns-in-Trim : goal.returns-in-Trim
returns-in-Trim c =
    machine_at c.trim_machine.result c.args.op.now (Trim c.in-Trim.left c.in-Trim.right) c.in-Trim.is c.trim_machine.ensures

pub returns-in-Replace : goal.returns-in-Replace
returns-in-Replace c =
    machine_at c.replace_or_same.result c.args.op.now (Replace c.in-Replace.search c.in-Replace.with) c.in-Replace.is (rw (c.as_slice.ensures, c.as_slice-in-Replace.ensures) at c.replace_or_same.ensures)

pub returns-in-Piece : goal.returns-in-Piece
returns-in-Piece c =
    machine_at c.piece_machine.result c.args.op.now (Piece c.in-Piece.sep) c.in-Piece.is (rw c.as_slice-in-Piece.ensures at c.piece_machine.ensures)

pub returns-in-Cut : goal.returns-in-Cut
returns-in-Cut c =
    machine_at c.cut_machine.result c.args.op.now (Cut c.in-Cut.start c.in-Cut.len) c.in-Cut.is c.cut_machine.ensures
