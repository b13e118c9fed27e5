-- Equality of nodes and of what is asked for is exact.
use Rattle.std.proofs.Common.{rules}
use Rattle.text_base.specs.Exactness.{IsExact}
use Rattle.derivatives.specs.contracts.ask.AskPartialEq.TheImpl as asks
use Rattle.derivatives.specs.contracts.node.NodePartialEq.TheImpl as nodes

-- equal nodes are one
pub exact_node : IsExact (nodes.ghosts).eq
exact_node = search rules

-- and so it is with what is asked for
pub exact_ask : IsExact (asks.ghosts).eq
exact_ask = search rules
