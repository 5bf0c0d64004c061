-- One file after the other.
use Rattle.std.proofs.Common.{◌≡◌, ◌≤◌, inl, inr, subst, ℕ, Option}
use Rattle.baseline_file.specs.Loaded as baselines
use Rattle.baseline_file.proofs.Later.{refused_earlier, refused_for}
use Rattle.check_setup.specs.SetUp.{IsRefusedSetup, baseline_name}
use Rattle.baseline_file.specs.check_words.declared.request.Request.{Request}
use Rattle.baseline_file.specs.config_file.declared.error.LoadError.{LoadError}
use Rattle.baseline_file.specs.config_file.declared.error.LoadError.TheVariants.{Refused, NoMemory}
use Rattle.baseline_file.specs.config_file.Loaded as configs
use Rattle.baseline_file.specs.devices.Contents.{Content, KeepsContents}
use Rattle.baseline_file.specs.squawk_words.Words.{Text}

pub config_refused : (content : Text → Content) (before now : ℕ) (request : Request) (e : LoadError) → configs.IsRefusedLoad content before now request.config e → IsRefusedSetup content before now request e
config_refused content before now request (Refused line) h = inl h
config_refused content before now request NoMemory h = tt

pub baseline_refused : (content now : Text → Content) (before first last : ℕ) (request : Request) (name : Option Text) (e : LoadError) → KeepsContents content now → before ≤ first
    → name ≡ baseline_name request → baselines.IsRefusedLoad now first last name e → IsRefusedSetup content before last request e
baseline_refused content now before first last request name (Refused line) kept later is h =
    inr (refused_earlier content now before first last (baseline_name request) line.items kept later
    (subst (λ (n : Option Text). baselines.IsRefusedFor now first last n line.items) is (refused_for now first last name line h)))
baseline_refused content now before first last request name NoMemory kept later is h = tt
