-- A shift and a mask give the bit.
use Rattle.std.proofs.Common.{◌-◌, ◌/◌, ◌%◌, ◌^◌, eqb, ap, ◌∙◌}
use Rattle.packed.specs.Bits.{bit_at, bit_of}
use Rattle.packed.proofs.BitLaws.{last_bit}
use Rattle.packed.proofs.bit.Goals as goal

pub returns : goal.returns
unfolding bit_at bit_of
returns c =
    ap (λ x. eqb x 1) (last_bit (c.byte_at.result / 2 ^ (7 - c.args.i % 8)))
    ∙ ap (λ b. eqb (b / 2 ^ (7 - c.args.i % 8) % 2) 1) c.byte_at.ensures
