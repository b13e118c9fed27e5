use Rattle.std.proofs.Common.{◌≡◌, length, map}
use Rattle.std.specs.List.{filter, fold}
use Rattle.std.specs.Path.{is_name}
use Rattle.io_edge.specs.Names.{with_part}
use Rattle.io_edge.proofs.names.Parts.put_pieces.Given as goal

-- what is left goes behind the parts so far
abbrev pub invariant-loop-rest : goal.invariant-loop-rest
invariant-loop-rest l = (l.self.is_absolute ≡ l.initial.self.is_absolute)
    × (fold (with_part l.initial.self.is_absolute) (map (λ part. part.now) l.self.parts.items) (filter is_name (map (λ piece. piece.now) l.rest))
    ≡ fold (with_part l.initial.self.is_absolute) (map (λ part. part.now) l.initial.self.parts.items)
    (filter is_name (map (λ piece. piece.now) l.pieces)))

abbrev pub decreases-loop-rest : goal.decreases-loop-rest
decreases-loop-rest l = length l.rest
