-- What a reader must believe: what it means that a file opens as a model, or not.
use Rattle.std.specs.Prelude.{◌≡◌, ℕ, List, Ok, Err, Result}
use Rattle.refusal.specs.declared.Refusal.{Refusal}
use Rattle.structure.specs.Structure.{Structure}
use Rattle.packed.specs.FileOf.{file_of}
use Rattle.packed.specs.Layout.{narrow, spells}
use Rattle.packed.specs.Verdict.{verdict}

-- a file that is accepted opens as a model of what it spells, of which it is the file; another gives the first cause for which it is refused
abbrev pub Opens : {M : Type 0} → (M → Structure) → List ℕ → Result M Refusal → Type 0
Opens meaning bytes (Ok model) =
    (verdict narrow bytes ≡ Ok tt) × (meaning model ≡ spells narrow bytes) × (file_of narrow (meaning model) ≡ bytes)
Opens meaning bytes (Err cause) = verdict narrow bytes ≡ Err cause
