-- The fields of a model's file take the bytes of the file; and the file laws say what it opens as.
use Rattle.std.proofs.Common.{◌+◌, ◌*◌, ◌/◌, is_ok, sym, ap, ◌∙◌}
use Rattle.std.proofs.lemmas.Bool.{cond-true}
use Rattle.structure.specs.Structure.{still}
use Rattle.packed.specs.FileOf.{file_of, file_size}
use Rattle.packed.specs.Layout.{narrow, spells}
use Rattle.packed.specs.Verdict.{verdict}
use Rattle.packed.proofs.FileLaws.{narrow_room, length-file_of, file_spells, file_accepted}
use Rattle.packed.proofs.packing.file_size.Goals as goal

pub returns : goal.returns
unfolding file_size
returns g c =
    let S = g.M.Model.meaning c.args.model.now in
    let keeps = g.met.M.Model.keeps c.args.model.now in
    let told = c.of.ensures in
    let room = narrow_room S keeps in
    let passed = file_accepted narrow S keeps room in
    record {
      value = c.size.ensures.bytes ∙ (λ i. (21 + told.states i * (told.propositions i + told.states i) + 7) / 8) ∙ sym (length-file_of narrow S);
      accepted = passed;
      most = c.size.ensures.most;
      opens = cond-true (is_ok (verdict narrow (file_of narrow S))) (spells narrow (file_of narrow S)) still (ap is_ok passed) ∙ file_spells narrow S keeps room;
    }
