-- The verdict is the first cause, and the laws of verdicts say what that tells.
use Rattle.std.proofs.Common.{◌≡◌, sym, ap, ◌∙◌, subst}
use Rattle.packed.specs.Layout.{narrow}
use Rattle.packed.specs.Verdict.{verdict, Judged}
use Rattle.packed.proofs.Causes.{verdict_judges}
use Rattle.packed.proofs.judge.inspect.Goals as goal

pub returns : goal.returns
returns c =
    let bytes = c.args.bytes.now in
    let is : c.judge.result ≡ verdict narrow bytes = c.judge.ensures ∙ ap (verdict narrow) c.read.ensures in
    record { value = is; judged = subst (Judged narrow bytes) (sym is) (verdict_judges narrow bytes) }
