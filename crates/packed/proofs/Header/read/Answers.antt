-- The three fields lie in the first three bytes.
use Rattle.std.proofs.Common.{◌/◌, sym, ap, ◌∙◌, arith}
use Rattle.packed.proofs.FieldLaws.{states_of_byte, start_of_byte, propositions_of_byte}
use Rattle.packed.proofs.Header.read.Goals as goal

pub returns : goal.returns
returns c =
    let bytes = c.args.bytes.now in
    let narrow-byte = c.type_inv.bytes in
    record {
      states = omega (arith, states_of_byte bytes (omega (arith, narrow-byte 0)));
      start = omega (arith, start_of_byte bytes (omega (arith, narrow-byte 1)));
      propositions = ap (λ b. b / 8) c.byte_at-3.ensures ∙ sym (propositions_of_byte bytes (omega (arith, narrow-byte 2)));
    }
