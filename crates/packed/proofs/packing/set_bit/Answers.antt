-- A bit is set by a mask.
use Rattle.std.proofs.Common.{◌/◌}
use Rattle.std.proofs.lemmas.List.{length-set}
use Rattle.packed.proofs.SetBit.{bits_after_set}
use Rattle.packed.proofs.packing.set_bit.Goals as goal

pub returns : goal.returns
returns c =
    record {
      size = length-set c.args.file.now (c.args.i / 8) _;
      bits = bits_after_set c.args.file.now c.args.i c.requires;
    }
