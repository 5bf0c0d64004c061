-- Why nothing is chosen.
use Rattle.std.proofs.Common.{◌≡◌, ℕ, List, None, subst, sym}
use Rattle.config_file.specs.check_config.declared.config.Config.{Config as AnyConfig}
use Rattle.fix_run.specs.code_choice.Choices.{code_choices_of}
use Rattle.config_file.specs.declared.error.LoadError.{LoadError}
use Rattle.config_file.specs.declared.error.LoadError.TheVariants as load
use Rattle.config_file.specs.Loaded.{IsLoaded, IsRefusedLoad}
use Rattle.config_file.specs.devices.Contents.{Content}
use Rattle.fix_asked.specs.declared.failure.Failure.{Failure}
use Rattle.fix_asked.specs.declared.failure.Failure.TheVariants.{Stop, Words, Config, File}
use Rattle.fix_asked.specs.Failures.{failure_of}
use Rattle.fix_asked.specs.Settled.{AreRefused, IsLineOf, IsUnchosen, IsUnsettled}
use Rattle.fix_run.specs.fix_words.declared.fault.Fault.TheVariants.{Linter}
use Rattle.fix_run.specs.fix_words.declared.request.Request.{Request}
use Rattle.config_file.specs.squawk_run.declared.stop.Stop.TheVariants.{BadArguments, NotUtf8, TooLong, ReadFault, WriteFault, NoMemory}
use Rattle.config_file.specs.squawk_words.Words.{Text}

-- the line of words that the linter refuses
pub words_refused : (words : List Text) (failure : Failure) → code_choices_of words ≡ None → IsLineOf (Linter words) failure → AreRefused words failure
words_refused words (Words line) none told = (none, told)
words_refused words (Config line) none told = absurd told
words_refused words (File line) none told = absurd told
words_refused words (Stop NoMemory) none told = tt
words_refused words (Stop BadArguments) none told = absurd told
words_refused words (Stop NotUtf8) none told = absurd told
words_refused words (Stop TooLong) none told = absurd told
words_refused words (Stop ReadFault) none told = absurd told
words_refused words (Stop WriteFault) none told = absurd told

not_loaded_by : (content : Text → Content) (before now : ℕ) (request : Request) (e : LoadError) → IsRefusedLoad content before now request.config e
    → IsUnsettled content before now request (failure_of e)
not_loaded_by content before now request (load.Refused line) h = h
not_loaded_by content before now request load.NoMemory h = tt

-- the configuration is refused
pub not_loaded : (content : Text → Content) (before now : ℕ) (request : Request) (e : LoadError) (failure : Failure) → failure ≡ failure_of e
    → IsRefusedLoad content before now request.config e → IsUnsettled content before now request failure
not_loaded content before now request e failure is h = subst (IsUnsettled content before now request) (sym is) (not_loaded_by content before now request e h)

-- the words are refused beside it
pub not_chosen : (content : Text → Content) (before now : ℕ) (request : Request) (config : AnyConfig) (failure : Failure) → IsLoaded content request.config config
    → IsUnchosen config request.linter failure → IsUnsettled content before now request failure
not_chosen content before now request config (Words line) loaded h = record { config = config; loaded = loaded; refused = h.0; told = h.1 }
not_chosen content before now request config (Config line) loaded h = absurd h
not_chosen content before now request config (File line) loaded h = absurd h
not_chosen content before now request config (Stop NoMemory) loaded h = tt
not_chosen content before now request config (Stop BadArguments) loaded h = absurd h
not_chosen content before now request config (Stop NotUtf8) loaded h = absurd h
not_chosen content before now request config (Stop TooLong) loaded h = absurd h
not_chosen content before now request config (Stop ReadFault) loaded h = absurd h
not_chosen content before now request config (Stop WriteFault) loaded h = absurd h
