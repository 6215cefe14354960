-- The pieces so far are written at the front, `at` is the place after them, and the rest is as it was.
use Rattle.std.proofs.Common.{◌≡◌, length, take, drop}
use Rattle.output.specs.Pieces.{spelled_all}
use Rattle.output.proofs.put_pieces.Given as goal

abbrev pub invariant-loop-piece : goal.invariant-loop-piece
invariant-loop-piece l = record {
  place : l.at ≡ length (spelled_all (take l.piece-index l.pieces));
  written : take l.at l.out ≡ spelled_all (take l.piece-index l.pieces);
  rest : drop l.at l.out ≡ drop l.at l.initial.out;
}
