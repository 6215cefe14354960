-- The two slices suffice for every file, since a model has at most 256 states.
use Rattle.std.proofs.Common.{◌≡◌, ℕ, ◌*◌, ◌≤◌, true, false, cond, List, is_ok, refl, arith}
use Rattle.std.proofs.lemmas.Bool.{le-leb}
use Rattle.structure.specs.Structure.{still}
use Rattle.packed.specs.Layout.{narrow, spells}
use Rattle.packed.specs.Verdict.{verdict, opened}
use Rattle.packed.specs.Kept.{spells_keeps}
use Rattle.report.specs.Headline.{suffices}
use Rattle.program.proofs.first_line.Goals as goal

opened_small : (bytes : List ℕ) → (opened narrow bytes).states ≤ 256
opened_small bytes =
    elim (is_ok (verdict narrow bytes)) as (λ b. is_ok (verdict narrow bytes) ≡ b → (cond b (spells narrow bytes) still).states ≤ 256)
    [ true ↦ λ accepted. (spells_keeps bytes accepted).bounded | false ↦ λ _. omega arith ] refl

always_suffices : (bytes : List ℕ) → suffices bytes 1024 1024 ≡ true
always_suffices bytes = le-leb (4 * (opened narrow bytes).states) 1024 (omega (arith, opened_small bytes))

pub unwrap-requires : goal.unwrap-requires
unwrap-requires c = grind (arith, always_suffices c.args.bytes.now, c.headline.ensures.value)
