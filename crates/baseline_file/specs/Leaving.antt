-- What a baseline leaves of the answers of a run.
use Rattle.std.specs.Prelude.{◌≡◌, List, Option, Some, None}
use Rattle.std.specs.List.{AllZip}
use Rattle.check_baseline.specs.declared.baseline.Baseline.{Baseline}
use Rattle.check_baseline.specs.Known.{IsLeft}
use Rattle.check_run.specs.checked_file.declared.checked.Checked.{Checked}

-- each file without the reports that the baseline knows, or all as it is where there is none
abbrev pub Leaves : Option Baseline → List Checked → List Checked → Type 0
Leaves None files left = left ≡ files
Leaves (Some baseline) files left = AllZip (IsLeft baseline) files left
