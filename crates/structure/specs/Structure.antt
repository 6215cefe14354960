-- What a reader must believe: what a model means, and within which limits a model keeps.
use Rattle.std.specs.Prelude.{◌≡◌, ℕ, ◌<◌, ◌≤◌, Bool, true, false, ◌&&◌, ◌==◌}

-- states and propositions are numbered from 0; steps are ordered pairs of states
pub record Structure : Type 0 where
  pub states : ℕ
  pub start : ℕ
  pub propositions : ℕ
  -- `label s p`: proposition p is true at state s
  pub label : ℕ → ℕ → Bool
  -- `step s t`: there is a step from s to t
  pub step : ℕ → ℕ → Bool

-- the most states and propositions that a model may have
abbrev pub most_states : ℕ
most_states = 256

abbrev pub most_propositions : ℕ
most_propositions = 31

-- the limits: nothing outside the ranges is true, and every state has a step
pub record Limits (S : Structure) : Type 0 where
  pub inhabited : 1 ≤ S.states
  pub bounded : S.states ≤ most_states
  pub starts : S.start < S.states
  pub described : S.propositions ≤ most_propositions
  pub labels : (s p : ℕ) → S.label s p ≡ true → (s < S.states) × (p < S.propositions)
  pub steps : (s t : ℕ) → S.step s t ≡ true → (s < S.states) × (t < S.states)
  pub goes_on : (s : ℕ) → s < S.states → (t : ℕ) × (S.step s t ≡ true)

-- the still structure: one state, no propositions, a step to itself
abbrev pub still : Structure
still =
    record { states = 1; start = 0; propositions = 0; label = λ s p. false; step = λ s t. (s == 0) && (t == 0) }
