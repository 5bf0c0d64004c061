-- A fault goes through to the end.
use Rattle.std.proofs.Common.{◌≡◌, ◌∙◌, ◌≤◌, ap, arith, subst, sym, List, Option, Some, None, Result, Ok, Err, length}
use Rattle.std.specs.Prelude.{find}
use Rattle.squawk_run.specs.squawk_words.Words.{Text}
use Rattle.toml.specs.Data.{Members}
use Rattle.toml.specs.Errors.{IsMemory, IsWithin}
use Rattle.toml.specs.Parse.{parse_document}
use Rattle.toml.specs.declared.de.error.Error.{Error}
use Rattle.check_config.specs.Config.{IsUnknownKey, IsUnknownRule, config_by, config_in, is_unknown_rule, known_by, known_rules, read_then, unknown_key}
use Rattle.check_config.specs.Readings.{IsReading, IsReadingBy, IsRefused, IsRefusedReading, IsTomlError}
use Rattle.check_config.specs.declared.config.Config.{Config}
use Rattle.check_config.specs.declared.fault.ConfigError.{ConfigError}
use Rattle.check_config.specs.declared.fault.ConfigError.TheVariants.{Refused, NoMemory}
use Rattle.check_config.specs.declared.fault.ConfigFault.{ConfigFault}
use Rattle.check_config.specs.declared.fault.ConfigFault.TheVariants.{NotToml, UnknownKey, UnknownRule, BadValue}

pub refused_then : {X Y : Type 0} (read : Result X ConfigFault) (next : X → Result Y ConfigFault) (e : ConfigError) → IsRefused read e → IsRefused (read_then read next) e
refused_then read next (Refused f) h = ap (λ r. read_then r next) h
refused_then read next NoMemory h = tt

-- the same after what was read
pub refused_after : {X Y : Type 0} (read : Result X ConfigFault) (next : X → Result Y ConfigFault) (x : X) (e : ConfigError) → read ≡ Ok x → IsRefused (next x) e
    → IsRefused (read_then read next) e
refused_after read next x (Refused f) taken h = ap (λ r. read_then r next) taken ∙ h
refused_after read next x NoMemory taken h = tt

pub unknown_rule_refused : (names : List Text) (name : Text) (e : ConfigError) → find is_unknown_rule names ≡ Some name → IsUnknownRule name e → IsRefused (known_rules names) e
unknown_rule_refused names name (Refused f) found h = ap (known_by names) found ∙ ap Err (sym h)
unknown_rule_refused names name NoMemory found h = tt

pub unknown_key_refused : (table : Members) (key : Text) (e : ConfigError) → unknown_key table ≡ Some key → IsUnknownKey key e → IsRefused (config_in table) e
unknown_key_refused table key (Refused f) found h = ap (λ k. config_by k table) found ∙ ap Err (sym h)
unknown_key_refused table key NoMemory found h = tt

-- ---- what is read of a text

pub reading_is : (text : Text) (table : Members) (config : Config) → parse_document text ≡ Some table → config_in table ≡ Ok config → IsReading text (Ok config)
reading_is text table config parsed taken = subst (λ (p : Option Members). IsReadingBy text p (Ok config)) (sym parsed) (sym taken)

pub refused_reading : (text : Text) (table : Members) (e : ConfigError) → parse_document text ≡ Some table → IsRefused (config_in table) e → IsRefusedReading text e
refused_reading text table (Refused f) parsed h = subst (λ (p : Option Members). IsReadingBy text p (Err f)) (sym parsed) (sym h)
refused_reading text table NoMemory parsed h = tt

pub no_toml : (text : Text) (fault : Error) (e : ConfigError) → (¬ (IsMemory fault) → parse_document text ≡ None) → IsWithin text fault → IsTomlError fault e → IsRefusedReading text e
no_toml text fault NoMemory none within h = tt
no_toml text fault (Refused (NotToml at message)) none within h =
    let place : at ≤ length text = omega (arith, within, h.0) in
    subst (λ (p : Option Members). IsReadingBy text p (Err (NotToml at message))) (sym (none h.1)) place
no_toml text fault (Refused (UnknownKey key)) none within h = absurd h
no_toml text fault (Refused (UnknownRule name)) none within h = absurd h
no_toml text fault (Refused (BadValue key)) none within h = absurd h
