-- A baseline that is read from files that were read before.
use Rattle.std.proofs.Common.{◌≤◌, arith, subst, ℕ, List, Option, Some, None, Vec, Global}
use Rattle.baseline_file.specs.Loaded.{IsFaulty, IsLoaded, IsRefusedFor, IsRefusedLoad, IsTaken, Read, Unread}
use Rattle.check_baseline.specs.declared.baseline.Baseline.{Baseline}
use Rattle.config_file.specs.declared.error.LoadError.TheVariants.{Refused}
use Rattle.check_run.specs.devices.Contents.{Content, KeepsContents}
use Rattle.check_run.specs.devices.Refused.{RefusedFits}
use Rattle.check_run.specs.devices.declared.store.FileError.{FileError}
use Rattle.check_run.specs.devices.declared.store.FileError.TheVariants as error
use Rattle.check_run.specs.squawk_words.Words.{Text}

-- a baseline of files that hold what they held earlier
pub loaded_earlier : (content now : Text → Content) (given : Option Text) (baseline : Option Baseline) → KeepsContents content now → IsLoaded now given baseline → IsLoaded content given baseline
loaded_earlier content now None baseline kept h = h
loaded_earlier content now (Some name) baseline kept h = subst (λ (c : Content). IsTaken c baseline) (kept name) h

fits_wider : (e : FileError) (content : Content) (before first now : ℕ) → before ≤ first → RefusedFits e content first now → RefusedFits e content before now
fits_wider error.Missing content before first now later h = h
fits_wider error.Fault content before first now later h = omega arith
fits_wider error.TooLong content before first now later h = h
fits_wider error.NoMemory content before first now later h = h

faulty_wider : (content : Content) (before first now : ℕ) (name : Text) (line : List ℕ) → before ≤ first → IsFaulty content first now name line → IsFaulty content before now name line
faulty_wider content before first now name line later (Unread e fits told) = Unread e (fits_wider e content before first now later fits) told
faulty_wider content before first now name line later (Read bytes are h) = Read bytes are h

-- the same of a refusal
pub refused_earlier : (content now : Text → Content) (before first last : ℕ) (given : Option Text) (line : List ℕ) → KeepsContents content now → before ≤ first
    → IsRefusedFor now first last given line → IsRefusedFor content before last given line
refused_earlier content now before first last None line kept later h = h
refused_earlier content now before first last (Some name) line kept later h =
    faulty_wider (content name) before first last name line later (subst (λ (c : Content). IsFaulty c first last name line) (kept name) h)

-- the line of a refusal
pub refused_for : (content : Text → Content) (before now : ℕ) (given : Option Text) (line : Vec ℕ Global) → IsRefusedLoad content before now given (Refused line) → IsRefusedFor content before now given line.items
refused_for content before now None line h = h
refused_for content before now (Some name) line h = h
