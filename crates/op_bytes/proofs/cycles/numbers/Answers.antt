use Rattle.std.proofs.Common.{ℕ, List, sym, subst, arith}
use Rattle.smallvec.specs.SmallVec.{SmallVec}
use Rattle.strong_components.specs.Edges.{AreWithin}
use Rattle.strong_components.specs.Components.{AreComponents}
use Rattle.op_bytes.proofs.CycleLemmas.{are_numbers}
use Rattle.op_bytes.proofs.cycles.numbers.Goals as goal

pub components-requires : goal.components-requires
components-requires c = subst (λ (es : List (SmallVec ℕ)). AreWithin es) (sym c.as_slice.ensures.value) c.in_ok-edges.ensures.within

pub returns : goal.returns
returns c =
    are_numbers c.args.s.now c.in_ok-edges.edges.items c.in_ok-numbers.numbers.items (omega (arith, c.in_ok-edges.ensures.len, c.in_ok-edges.edges.ok.0)) c.in_ok-edges.ensures.exact c.in_ok-edges.ensures.within
    (subst (λ (es : List (SmallVec ℕ)). AreComponents es c.in_ok-numbers.numbers.items) c.as_slice.ensures.value c.in_ok-numbers.ensures)
