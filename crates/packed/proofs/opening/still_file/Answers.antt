-- The three bytes are accepted, and spell the still structure.
use Rattle.std.proofs.Common.{is_ok, ap, ◌∙◌, sym, subst, true, ◌≡◌}
use Rattle.packed.specs.Layout.{narrow, spells}
use Rattle.packed.specs.Verdict.{verdict}
use Rattle.packed.proofs.StillBytes.{still_accepted, still_spelled}
use Rattle.packed.proofs.opening.still_file.Goals as goal

pub invariant_of-result : goal.invariant_of-result
invariant_of-result c = record { accepted = subst (λ bytes. is_ok (verdict narrow bytes) ≡ true) (sym c.read.ensures) still_accepted }

pub returns : goal.returns
returns c = ap (λ bytes. spells narrow bytes) c.read.ensures ∙ still_spelled
