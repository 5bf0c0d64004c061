-- Where nothing fails, a bundle is judged.
use Rattle.std.proofs.Common.{◌≡◌, ◌<◌, ◌^◌, ℕ, List, Option, Some, None, IfSome, length}
use Rattle.std.specs.Str.{IsUtf8}
use Rattle.squawk_run.specs.devices.Faults.{Rose}
use Rattle.squawk_run.specs.declared.stop.Stop.TheVariants as stop
use Rattle.squawk_run.specs.Ends.{Refused, Stopped, IsDone, ReadFor, SinkCause, SourceCause, WordsFor}
use Rattle.squawk_run.proofs.Runs.{done_by}
use Rattle.migration_gate.proofs.Bundles.{never_both}
use Rattle.migration_gate.specs.declared.status.GateStatus.{GateStatus}
use Rattle.migration_gate.specs.declared.status.GateStatus.TheVariants.{NotUtf8, BadBundle}
use Rattle.migration_gate.specs.Outcome.{HasBundle, JudgedFor}
use Rattle.migration_gate.specs.Statuses.{end_of}

fits_at : (s : GateStatus) (words : List (List ℕ)) (t : List ℕ) (old new : Option (List ℕ)) → JudgedFor s words t old new → HasBundle t → end_of s ≡ Refused → ⊥
fits_at (BadBundle at) words t old new j has e = never_both t has.0 at j.0 has.1 j.2
fits_at _ words t old new j has e = cc

text_at : (s : GateStatus) (words : List (List ℕ)) (t : List ℕ) (old new : Option (List ℕ)) → JudgedFor s words t old new → IsUtf8 t → end_of s ≡ Stopped stop.NotUtf8 → ⊥
text_at NotUtf8 words t old new j u e = j.1 u
text_at _ words t old new j u e = cc

pub is_done : (s : GateStatus) (words : List (List ℕ)) (taken : Type 0) (a b old new : Option (List ℕ)) (f g h k : ℕ) → WordsFor (end_of s) taken → ReadFor (end_of s) a b
    → IfSome a (λ t. JudgedFor s words t old new) → SourceCause (end_of s) f g → SinkCause (end_of s) h k → taken → ¬ (Rose f g) → ¬ (Rose h k)
    → IfSome a (λ t. IsUtf8 t → length t < 2 ^ 32 → HasBundle t → IsDone (end_of s))
is_done s words taken None b old new f g h k w r j source sink is ns nk = tt
is_done s words taken (Some t) b old new f g h k w r j source sink is ns nk =
    λ u short has. done_by (end_of s) taken t b f g h k w r source sink is ns nk short (fits_at s words t old new j has) (text_at s words t old new j u)
