-- What a reader must believe: what becomes of two files.
use Rattle.std.specs.Prelude.{◌≡◌, ℕ, ◌⊎◌, List, length, IsOk, Err}
use Rattle.packed.specs.FileOf.{file_of}
use Rattle.packed.specs.Layout.{narrow}
use Rattle.packed.specs.Verdict.{verdict, opened}
use Rattle.pair.specs.Sides.{Fit, paired}
use Rattle.pair_files.specs.declared.NoPair.{NoPair}
use Rattle.pair_files.specs.declared.NoPair.TheVariants.{Refused, Misfit}

module _ (first second : List ℕ) where
  -- the file of the pair of what the two files open as
  abbrev pub pair_file : List ℕ
  pair_file = file_of narrow (paired (opened narrow first) (opened narrow second))

  -- both files are accepted
  abbrev pub Accepted : Type 0
  Accepted = IsOk (verdict narrow first) × IsOk (verdict narrow second)

  -- the models of the two files fit together
  abbrev pub Fits : Type 0
  Fits = Fit (opened narrow first) (opened narrow second)

  -- the two files have a pair, and its file has so many bytes
  abbrev pub HasPair : ℕ → Type 0
  HasPair size = Accepted × Fits × (size ≡ length pair_file)

  -- what is so where they have none: the first file is refused for this cause, or only the second is; or their models do not fit. This and
  -- `HasPair` exclude one another, so that each answer comes exactly where it is so
  abbrev pub Because : NoPair → Type 0
  Because (Refused cause) = (verdict narrow first ≡ Err cause) ⊎ (IsOk (verdict narrow first) × (verdict narrow second ≡ Err cause))
  Because Misfit = Accepted × (¬ Fits)
