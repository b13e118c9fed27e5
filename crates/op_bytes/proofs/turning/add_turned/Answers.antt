use Rattle.std.proofs.Common.{◌≡◌, ℕ, subst}
use Rattle.least_sets.specs.Bytes.{Turns}
use Rattle.op_bytes.proofs.OpLemmas.{IsMore, more_turned, more_two}
use Rattle.op_bytes.proofs.turning.add_turned.Goals as goal

pub returns-in-Html : goal.returns-in-Html
unfolding Turns
returns-in-Html c = more_turned c.args.set.now c.add_html.new.set c.args.op.now _ c.args.byte c.in-Html.is c.add_html.ensures

pub returns-in-Lower : goal.returns-in-Lower
unfolding Turns
returns-in-Lower c = more_turned c.args.set.now c.add_byte.new.set c.args.op.now _ c.args.byte c.in-Lower.is (subst (λ (x : ℕ). IsMore c.args.set.now c.add_byte.new.set (λ e. e ≡ x)) c.lower_byte.ensures c.add_byte.ensures)

pub returns-in-Upper : goal.returns-in-Upper
unfolding Turns
returns-in-Upper c = more_turned c.args.set.now c.add_byte-in-Upper.new.set c.args.op.now _ c.args.byte c.in-Upper.is (subst (λ (x : ℕ). IsMore c.args.set.now c.add_byte-in-Upper.new.set (λ e. e ≡ x)) c.upper_byte.ensures c.add_byte-in-Upper.ensures)

pub returns-in-First : goal.returns-in-First
unfolding Turns
returns-in-First c =
    more_turned c.args.set.now c.add_byte-in-First-2.new.set c.args.op.now _ c.args.byte c.in-First.is
    (more_two c.args.set.now c.add_byte-in-First.new.set c.add_byte-in-First-2.new.set (λ e. e ≡ c.args.byte) _ c.add_byte-in-First.ensures
    (subst (λ (x : ℕ). IsMore c.add_byte-in-First.new.set c.add_byte-in-First-2.new.set (λ e. e ≡ x)) c.upper_byte-in-First.ensures c.add_byte-in-First-2.ensures))

pub returns-in-Breaks : goal.returns-in-Breaks
unfolding Turns
returns-in-Breaks c = more_turned c.args.set.now c.add_breaks.new.set c.args.op.now _ c.args.byte c.in-Breaks.is c.add_breaks.ensures

pub returns-in-Url : goal.returns-in-Url
unfolding Turns
returns-in-Url c = more_turned c.args.set.now c.add_url.new.set c.args.op.now _ c.args.byte c.in-Url.is c.add_url.ensures

pub returns-in-RawUrl : goal.returns-in-RawUrl
unfolding Turns
returns-in-RawUrl c = more_turned c.args.set.now c.add_raw_url.new.set c.args.op.now _ c.args.byte c.in-RawUrl.is c.add_raw_url.ensures

pub returns-in-Slashes : goal.returns-in-Slashes
unfolding Turns
returns-in-Slashes c = more_turned c.args.set.now c.add_slashes.new.set c.args.op.now _ c.args.byte c.in-Slashes.is c.add_slashes.ensures

pub returns-in-Same : goal.returns-in-Same
unfolding Turns
returns-in-Same c = more_turned c.args.set.now c.add_byte-in-Same.new.set c.args.op.now _ c.args.byte c.in-Same.is c.add_byte-in-Same.ensures

pub returns-in-Any : goal.returns-in-Any
unfolding Turns
returns-in-Any c = more_turned c.args.set.now c.add_byte-in-Any.new.set c.args.op.now _ c.args.byte c.in-Any.is c.add_byte-in-Any.ensures

pub returns-in-Replace : goal.returns-in-Replace
unfolding Turns
returns-in-Replace c = more_turned c.args.set.now c.add_byte-in-Replace.new.set c.args.op.now _ c.args.byte c.in-Replace.is c.add_byte-in-Replace.ensures

pub returns-in-Cut : goal.returns-in-Cut
unfolding Turns
returns-in-Cut c = more_turned c.args.set.now c.add_byte-in-Cut.new.set c.args.op.now _ c.args.byte c.in-Cut.is c.add_byte-in-Cut.ensures

pub returns-in-Factor : goal.returns-in-Factor
unfolding Turns
returns-in-Factor c = more_turned c.args.set.now c.add_byte-in-Factor.new.set c.args.op.now _ c.args.byte c.in-Factor.is c.add_byte-in-Factor.ensures

pub returns-in-Trim : goal.returns-in-Trim
unfolding Turns
returns-in-Trim c = more_turned c.args.set.now c.add_byte-in-Trim.new.set c.args.op.now _ c.args.byte c.in-Trim.is c.add_byte-in-Trim.ensures

pub returns-in-Piece : goal.returns-in-Piece
unfolding Turns
returns-in-Piece c = more_turned c.args.set.now c.add_byte-in-Piece.new.set c.args.op.now _ c.args.byte c.in-Piece.is c.add_byte-in-Piece.ensures
