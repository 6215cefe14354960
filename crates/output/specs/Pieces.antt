-- What a reader must believe: the bytes that a piece of a line stands for, and that a line is its pieces in a row.
use Rattle.std.specs.Prelude.{ℕ, List, decimal}
use Rattle.std.specs.List.{flat_map}
use Rattle.output.specs.declared.Piece.{Piece}
use Rattle.output.specs.declared.Piece.TheVariants.{Text, Number}

-- bytes as they are, a number in decimal
abbrev pub spelled : Piece → List ℕ
spelled (Text bytes) = bytes.now
spelled (Number number) = decimal number

-- one piece after another, with nothing between them
abbrev pub spelled_all : List Piece → List ℕ
spelled_all pieces = flat_map spelled pieces
