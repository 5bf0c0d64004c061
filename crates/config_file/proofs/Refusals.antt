-- What is said of a text is said of its bytes, its file and the configuration of a run.
use Rattle.std.proofs.Common.{◌≡◌, subst, sym, ℕ, List, ◌++◌, Option, Some, Result, Ok, Err, IfOk, Vec, Global}
use Rattle.std.specs.Prelude.{codes}
use Rattle.std.specs.Str.{IsUtf8}
use Rattle.check_config.specs.Readings.{IsReading}
use Rattle.check_config.specs.declared.fault.ConfigFault.{ConfigFault}
use Rattle.config_file.specs.Found.{IsFound, IsNamed, most_folders}
use Rattle.config_file.specs.Lines.{IsFaultLine, opening}
use Rattle.config_file.specs.Loaded.{AreRefused, Faulty, IsRefusal, IsRefusedFile, IsRefusedFolder, IsRefusedLoad, IsRefusedText, NoText, Read, Unread}
use Rattle.config_file.specs.declared.error.LoadError.{LoadError}
use Rattle.config_file.specs.declared.error.LoadError.TheVariants.{Refused, NoMemory}
use Rattle.check_config.specs.devices.Contents.{Content, IsBytes}
use Rattle.check_config.specs.devices.Refused.{RefusedFits}
use Rattle.check_config.specs.devices.declared.store.FileError.{FileError}
use Rattle.check_config.specs.squawk_words.Words.{Text}
use Rattle.report_lines.specs.text_pos.declared.memory.NoMemory.{NoMemory as MemoryError}

pub text_refused : (name text : Text) (fault : ConfigFault) (line : Result (Vec ℕ Global) MemoryError) (e : LoadError) → IsReading text (Err fault)
    → IfOk line (λ l. IsFaultLine name text fault l.items) → IsRefusal line e → IsRefusedText name text e
text_refused name text fault (Ok l) e why told is = subst (λ (x : LoadError). IsRefusedText name text x) (sym is) (record { fault = fault; why = why; told = told })
text_refused name text fault (Err failed) e why told is = subst (λ (x : LoadError). IsRefusedText name text x) (sym is) tt

pub no_text : (name : Text) (bytes : List ℕ) (line : Result (Vec ℕ Global) MemoryError) (e : LoadError) → ¬ (IsUtf8 bytes) → IfOk line (λ l. l.items ≡ opening name ++ codes " not UTF-8\n")
    → IsRefusal line e → AreRefused name bytes e
no_text name bytes (Ok l) e why told is = subst (λ (x : LoadError). AreRefused name bytes x) (sym is) (NoText why told)
no_text name bytes (Err failed) e why told is = subst (λ (x : LoadError). AreRefused name bytes x) (sym is) tt

pub text_faulty : (name text : Text) (bytes : List ℕ) (e : LoadError) → text ≡ bytes → IsUtf8 bytes → IsRefusedText name text e → AreRefused name bytes e
text_faulty name text bytes (Refused line) same utf8 h = Faulty utf8 (subst (λ (t : Text). IsRefusedText name t (Refused line)) same h)
text_faulty name text bytes NoMemory same utf8 h = tt

pub unread : (content : Content) (before now : ℕ) (name : Text) (cause : FileError) (line : Result (Vec ℕ Global) MemoryError) (e : LoadError) → RefusedFits cause content before now
    → IfOk line (λ l. l.items ≡ opening name ++ codes " can't be read\n") → IsRefusal line e → IsRefusedFile content before now name e
unread content before now name cause (Ok l) e why told is = subst (λ (x : LoadError). IsRefusedFile content before now name x) (sym is) (Unread cause why told)
unread content before now name cause (Err failed) e why told is = subst (λ (x : LoadError). IsRefusedFile content before now name x) (sym is) tt

pub read_faulty : (content : Content) (before now : ℕ) (name : Text) (bytes : List ℕ) (e : LoadError) → IsBytes content bytes → AreRefused name bytes e → IsRefusedFile content before now name e
read_faulty content before now name bytes (Refused line) are h = Read bytes are h
read_faulty content before now name bytes NoMemory are h = tt

pub load_refused : (content : Text → Content) (before now : ℕ) (given : Option Text) (name : Text) (e : LoadError) → IsNamed content given (Some name) → IsRefusedFile (content name) before now name e
    → IsRefusedLoad content before now given e
load_refused content before now given name (Refused line) named h = record { name = name; named = named; why = h }
load_refused content before now given name NoMemory named h = tt

pub folder_refused : (content : Text → Content) (before now : ℕ) (folder name : Text) (e : LoadError) → IsFound content most_folders folder (Some name) → IsRefusedFile (content name) before now name e
    → IsRefusedFolder content before now folder e
folder_refused content before now folder name (Refused line) named h = record { name = name; named = named; why = h }
folder_refused content before now folder name NoMemory named h = tt
