-- What is said of a text is said of its bytes, its file and the baseline of a run.
use Rattle.std.proofs.Common.{◌≡◌, subst, sym, ℕ, List, ◌++◌, Option, Some, Result, Ok, Err, IfOk, Vec, Global}
use Rattle.std.specs.Prelude.{codes}
use Rattle.std.specs.Str.{IsUtf8}
use Rattle.check_baseline.specs.Known.{bad_line}
use Rattle.baseline_file.specs.Loaded.{AreRefused, Faulty, IsBadLine, IsRefusedFile, IsRefusedText, NoText, Read, Unread}
use Rattle.config_file.specs.Lines.{opening}
use Rattle.config_file.specs.Loaded.{IsRefusal}
use Rattle.config_file.specs.declared.error.LoadError.{LoadError}
use Rattle.config_file.specs.declared.error.LoadError.TheVariants.{Refused, NoMemory}
use Rattle.check_run.specs.devices.Contents.{Content, IsBytes}
use Rattle.check_run.specs.devices.Refused.{RefusedFits}
use Rattle.check_run.specs.devices.declared.store.FileError.{FileError}
use Rattle.check_run.specs.squawk_words.Words.{Text}
use Rattle.check_run.specs.text_pos.declared.memory.NoMemory.{NoMemory as MemoryError}

pub text_refused : (name text : Text) (number : ℕ) (line : Result (Vec ℕ Global) MemoryError) (e : LoadError) → bad_line text ≡ Some number
    → IfOk line (λ l. IsBadLine name number l.items) → IsRefusal line e → IsRefusedText name text e
text_refused name text number (Ok l) e first told is = subst (λ (x : LoadError). IsRefusedText name text x) (sym is) (record { number = number; first = first; told = told })
text_refused name text number (Err failed) e first told is = subst (λ (x : LoadError). IsRefusedText name text x) (sym is) tt

pub no_text : (name : Text) (bytes : List ℕ) (line : Result (Vec ℕ Global) MemoryError) (e : LoadError) → ¬ (IsUtf8 bytes) → IfOk line (λ l. l.items ≡ opening name ++ codes " not UTF-8\n")
    → IsRefusal line e → AreRefused name bytes e
no_text name bytes (Ok l) e why told is = subst (λ (x : LoadError). AreRefused name bytes x) (sym is) (NoText why told)
no_text name bytes (Err failed) e why told is = subst (λ (x : LoadError). AreRefused name bytes x) (sym is) tt

pub text_faulty : (name text : Text) (bytes : List ℕ) (e : LoadError) → text ≡ bytes → IsUtf8 bytes → IsRefusedText name text e → AreRefused name bytes e
text_faulty name text bytes (Refused line) same utf8 h = Faulty utf8 (subst (λ (t : Text). IsRefusedText name t (Refused line)) same h)
text_faulty name text bytes NoMemory same utf8 h = tt

pub unread : (content : Content) (before now : ℕ) (name : Text) (cause : FileError) (line : Result (Vec ℕ Global) MemoryError) (e : LoadError) → RefusedFits cause content before now
    → IfOk line (λ l. l.items ≡ opening name ++ codes " can't be read\n") → IsRefusal line e → IsRefusedFile content before now name e
unread content before now name cause (Ok l) e why told is = subst (λ (x : LoadError). IsRefusedFile content before now name x) (sym is) (Unread cause why told)
unread content before now name cause (Err failed) e why told is = subst (λ (x : LoadError). IsRefusedFile content before now name x) (sym is) tt

pub read_faulty : (content : Content) (before now : ℕ) (name : Text) (bytes : List ℕ) (e : LoadError) → IsBytes content bytes → AreRefused name bytes e → IsRefusedFile content before now name e
read_faulty content before now name bytes (Refused line) are h = Read bytes are h
read_faulty content before now name bytes NoMemory are h = tt
