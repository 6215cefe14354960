-- The header begins the file, and it is written when the last state is.
use Rattle.std.proofs.Common.{◌≡◌, ◌-◌, ◌*◌, length, set, replicate, sym, ap, ◌∙◌, subst, arith, rules}
use Rattle.packed.specs.Layout.{narrow}
use Rattle.packed.specs.FileOf.{row_at}
use Rattle.packed.specs.Writing.{Written}
use Rattle.packed.proofs.FileLaws.{length-file_of, file_from_bits}
use Rattle.packed.proofs.WritingLaws.{three_bytes, header_begins, all_written}
use Rattle.packed.proofs.packing.write_file.Goals as goal

pub write-requires : goal.write-requires
write-requires g c = let S = g.M.Model.meaning c.args.model.now in omega (arith, c.fill.ensures.len, c.requires, length-file_of narrow S, three_bytes S)

pub loop-s-init : goal.loop-s-init
loop-s-init g c =
    let S = g.M.Model.meaning c.args.model.now in
    let told = c.of-header.ensures in
    let zeros : c.fill.new.self ≡ replicate (length c.args.file.now) 0 = search rules in
    let fields : set (set (set (replicate (length c.args.file.now) 0) 0 (S.states - 1)) 1 S.start) 2 (S.propositions * 8) ≡ c.write.new.file = sym (c.write.ensures ∙ (λ i. set (set (set (zeros i) 0 (told.states i - 1)) 1 (told.start i)) 2 (told.propositions i * 8))) in
    (subst (λ file. Written S file (row_at narrow S 0)) fields (header_begins S (g.met.M.Model.keeps c.args.model.now) (length c.args.file.now) (c.requires ∙ length-file_of narrow S)), λ k. omega (arith, c.type_inv.file k))

pub returns : goal.returns
returns g c =
    let S = g.M.Model.meaning c.args.model.now in
    let last : c.loop-s.s ≡ S.states = omega (arith, c.loop-s-test.false, c.loop-s.auto.s-end, c.of-header.ensures.states) in
    file_from_bits narrow S c.loop-s.file c.loop-s.invariant.0.size c.loop-s.invariant.1 (all_written S c.loop-s.file (row_at narrow S c.loop-s.s) c.loop-s.invariant.0 (ap (row_at narrow S) last))
