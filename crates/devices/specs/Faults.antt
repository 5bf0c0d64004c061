-- Counts of failures.
use Rattle.std.specs.Prelude.{ℕ, ◌+◌, ◌-◌, ◌^◌, ◌≤◌, min, OnErr, Result, is_ok, cond}

-- the count rose, or is at its last value
abbrev pub Rose : ℕ → ℕ → Type 0
Rose before now = min (before + 1) (2 ^ 64 - 1) ≤ now

-- the count never falls, and a failure shows in it
pub record HasCause {T E : Type 0} (before now : ℕ) (result : Result T E) : Type 0 where
  pub later : before ≤ now
  pub failed : OnErr result (Rose before now)

-- one more where the call failed, up to the last value
abbrev pub faults_after : {T E : Type 0} → Result T E → ℕ → ℕ
faults_after result before = cond (is_ok result) before (min (before + 1) (2 ^ 64 - 1))
