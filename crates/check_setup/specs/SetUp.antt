-- What is read for a request before the files that it checks.
use Rattle.std.specs.Prelude.{◌⊎◌, ℕ, List, Option, None, if◌then◌else◌, ⊤}
use Rattle.baseline_file.specs.Loaded as baselines
use Rattle.check_setup.specs.declared.setup.Setup.{Setup}
use Rattle.baseline_file.specs.check_words.declared.request.Request.{Request}
use Rattle.baseline_file.specs.config_file.declared.error.LoadError.{LoadError}
use Rattle.baseline_file.specs.config_file.declared.error.LoadError.TheVariants.{Refused, NoMemory}
use Rattle.baseline_file.specs.config_file.Loaded as configs
use Rattle.baseline_file.specs.devices.Contents.{Content}
use Rattle.baseline_file.specs.squawk_words.Words.{Text}

-- the baseline that is read: the one that is named, but none where one is written
abbrev pub baseline_name : Request → Option Text
baseline_name request = if request.write_baseline then None else request.baseline

-- the configuration and the baseline are those of the request
pub record IsSetUp (content : Text → Content) (request : Request) (setup : Setup) : Type 0 where
  pub config : configs.IsLoaded content request.config setup.config
  pub baseline : baselines.IsLoaded content (baseline_name request) setup.filter.baseline

-- the configuration is refused or the baseline
abbrev pub IsRefusedFor : (Text → Content) → ℕ → ℕ → Request → List ℕ → Type 0
IsRefusedFor content before now request line =
    configs.IsRefusedFor content before now request.config line ⊎ baselines.IsRefusedFor content before now (baseline_name request) line

-- why they are refused, if there was memory to say it
abbrev pub IsRefusedSetup : (Text → Content) → ℕ → ℕ → Request → LoadError → Type 0
IsRefusedSetup content before now request (Refused line) = IsRefusedFor content before now request line.items
IsRefusedSetup content before now request NoMemory = ⊤
