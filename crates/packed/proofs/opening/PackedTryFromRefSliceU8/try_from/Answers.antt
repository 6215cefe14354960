-- An accepted file is the file of the structure that it spells.
use Rattle.std.proofs.Common.{◌≡◌, is_ok, Ok, sym, ap, ◌∙◌, arith}
use Rattle.packed.specs.FileOf.{file_of}
use Rattle.packed.specs.Layout.{narrow, spells}
use Rattle.packed.specs.Verdict.{verdict}
use Rattle.packed.proofs.FileLaws.{file_again}
use Rattle.packed.proofs.opening.PackedTryFromRefSliceU8.try_from.Goals as goal

pub returns : goal.returns
returns c =
    let bytes = c.args.bytes.now in
    let same : c.read-file.result.bytes.now ≡ bytes = c.read-file.ensures in
    let accepted : verdict narrow bytes ≡ Ok tt = ap (verdict narrow) (sym same) ∙ sym c.judge.ensures ∙ c.in_ok-judge.was in
    let again = file_again narrow bytes (λ k. omega (arith, c.type_inv.bytes k)) (ap is_ok accepted) in
    (accepted, ap (spells narrow) same, ap (λ b. file_of narrow (spells narrow b)) same ∙ again)
