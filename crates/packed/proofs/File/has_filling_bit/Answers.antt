-- A filling bit is 1 exactly where a first one is found after the row of the last state.
use Rattle.std.proofs.Common.{◌≡◌, refl, ap, ◌∙◌}
use Rattle.packed.specs.Layout.{narrow, row_of, bits_of}
use Rattle.packed.proofs.Judged.{filled_from}
use Rattle.packed.proofs.File.has_filling_bit.Goals as goal

pub returns : goal.returns
unfolding bits_of
returns c =
    let file = c.args.self.now in
    let end : c.row-end.result ≡ bits_of narrow file.bytes.now = c.row-end.ensures.place ∙ ap (row_of narrow file.bytes.now) file.states in
    c.is_some.ensures ∙ filled_from file.bytes.now c.row-end.result _ c.first_one.result end refl c.first_one.ensures
