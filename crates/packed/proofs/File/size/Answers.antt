-- The bytes are the bits, filled up.
use Rattle.std.proofs.Common.{◌+◌, ◌*◌, ◌/◌, ◌∙◌, arith}
use Rattle.packed.specs.Layout.{row_of, bits_of, size_of}
use Rattle.packed.proofs.File.size.Goals as goal

pub returns : goal.returns
unfolding row_of bits_of size_of
returns c =
    let file = c.args.self.now in
    record {
      value = c.size.ensures.bytes ∙ (λ i. (21 + file.states i * (file.propositions i + file.states i) + 7) / 8);
      bound = omega (arith, c.size.ensures.most);
    }
