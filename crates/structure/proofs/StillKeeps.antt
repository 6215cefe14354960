-- The still structure keeps the limits. Assumes nothing.
use Rattle.std.proofs.Common.{true, eqb, refl, arith}
use Rattle.std.proofs.lemmas.Bool.{and_parts, eqb-true, eq-eqb, and_from, false≢true}
use Rattle.structure.specs.Structure.{still, Limits}

pub still_keeps : Limits still
still_keeps =
    record {
      inhabited = omega arith;
      bounded = omega arith;
      starts = omega arith;
      described = omega arith;
      labels = λ s p h. absurd (false≢true h);
      steps = λ s t h.
          let parts = and_parts (eqb s 0) (eqb t 0) h in
          (omega (arith, eqb-true s 0 parts.0), omega (arith, eqb-true t 0 parts.1));
      goes_on = λ s lt. (0, and_from (eqb s 0) true (eq-eqb s 0 (omega arith)) refl);
    }
