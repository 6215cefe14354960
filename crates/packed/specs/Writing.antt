-- Only private contracts cite this file: how much of a structure's file is written.
use Rattle.std.specs.Prelude.{◌≡◌, ℕ, ◌&&◌, List, length, nat_lt}
use Rattle.structure.specs.Structure.{Structure}
use Rattle.packed.specs.Bits.{bit_at}
use Rattle.packed.specs.FileOf.{file_bit, file_size}
use Rattle.packed.specs.Layout.{narrow}

-- the bytes are as many as the file has; its bits before place `end` are written, and all others are 0
pub record Written (S : Structure) (bytes : List ℕ) (end : ℕ) : Type 0 where
  pub size : length bytes ≡ file_size narrow S
  pub bits : (i : ℕ) → bit_at bytes i ≡ (nat_lt i end && file_bit narrow S i)
