use Rattle.way_reader.proofs.Pushing.{no_element, one_element, all_elements}
use Rattle.way_reader.proofs.starting.Numbers.push_elements.Goals as goal

pub loop-element-init : goal.loop-element-init
loop-element-init c = no_element c.args.self.now.numbers.now c.args.self.now.elements c.args.ways.now.items

pub loop-element-preserved : goal.loop-element-preserved
loop-element-preserved c =
    one_element c.args.self.now.numbers.now c.args.self.now.elements c.args.ways.now.items c.loop-element.ways.items c.push_element.new.ways.items c.loop-element.element c.loop-element.invariant c.in_ok-push_element.ensures

pub returns : goal.returns
returns c = all_elements c.args.self.now.numbers.now c.args.self.now.elements c.args.ways.now.items c.loop-element.ways.items c.loop-element.element c.loop-element.invariant c.loop-element.auto.element-end
    c.loop-element-test.false
