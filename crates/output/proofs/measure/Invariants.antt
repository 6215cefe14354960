-- The total is the length of the pieces so far, and is within the limit.
use Rattle.std.proofs.Common.{◌≡◌, ◌≤◌, length, take}
use Rattle.output.specs.Pieces.{spelled_all}
use Rattle.output.proofs.measure.Given as goal

abbrev pub invariant-loop-piece : goal.invariant-loop-piece
invariant-loop-piece l = (l.total ≡ length (spelled_all (take l.piece-index l.pieces))) × (l.total ≤ l.limit)
