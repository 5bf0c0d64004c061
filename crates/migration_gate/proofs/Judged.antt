-- From a verdict to what is known of an input.
use Rattle.std.proofs.Common.{◌≡◌, ◌<◌, ◌^◌, ap, refl, subst, sym, ℕ, List, [], ◌∷◌, length, map, Option, Some, IfSome}
use Rattle.std.specs.Prelude.{All}
use Rattle.std.specs.Str.{IsUtf8}
use Rattle.std.proofs.lemmas.List.Elements.{All-cons, All-head, All-nil, All-tail}
use Rattle.squawk_linter.specs.sql_token.Token.{Text}
use Rattle.squawk_linter.specs.declared.linter.Linter.{Linter}
use Rattle.migration_gate.specs.declared.file.GateFile.{GateFile}
use Rattle.migration_gate.specs.Bundle.{Entry, IsBundle, entries_of, entry_of}
use Rattle.migration_gate.specs.declared.verdict.Verdict.{Verdict}
use Rattle.migration_gate.specs.declared.verdict.Verdict.TheVariants as verdict
use Rattle.migration_gate.specs.Verdict.{names_of, shown, texts_of}
use Rattle.migration_gate.specs.PrintedVerdict.{printed_verdict}
use Rattle.migration_gate.specs.Laws.{AcceptsClean}
use Rattle.migration_gate.specs.Verdicts.{IsVerdict}
use Rattle.squawk_run.proofs.Runs.{where_same}
use Rattle.migration_gate.specs.Config.{linter_of}
use Rattle.migration_gate.specs.declared.status.GateStatus.{GateStatus}
use Rattle.migration_gate.specs.declared.status.GateStatus.TheVariants.{Accepted, Rejected, BadArguments, NotUtf8, TooLong, BadBundle, ReadFault, WriteFault, NoMemory}
use Rattle.migration_gate.specs.Outcome.{IsBundleWith, JudgedAs, JudgedFor, ShownAs, WroteAs}

-- ---- files

pub shown_as : (s : GateStatus) (linter : Linter) (texts : List Text) (names : List (List ℕ)) (v : Verdict) (old new : Option (List ℕ))
    → IsVerdict linter.rules linter.settings texts (shown v) → AcceptsClean linter.rules linter.settings texts v
    → WroteAs s (shown v) (printed_verdict names (shown v)) old new → ShownAs s linter texts names old new
shown_as Accepted linter texts names (verdict.Accepted works) old new is clean wrote =
    record { works = works.items; verdict = is; clean = clean; appended = wrote.1 }
shown_as Accepted linter texts names (verdict.Rejected file why) old new is clean wrote = absurd (let e = wrote.0 in cc)
shown_as Rejected linter texts names (verdict.Accepted works) old new is clean wrote = absurd (let e = wrote.0 in cc)
shown_as Rejected linter texts names (verdict.Rejected file why) old new is clean wrote =
    record { file = file; why = why; verdict = is; appended = wrote.1 }
shown_as WriteFault linter texts names v old new is clean wrote = record { shown = shown v; verdict = is; appended = wrote }
shown_as NoMemory linter texts names v old new is clean wrote = tt
shown_as BadArguments linter texts names v old new is clean wrote = wrote
shown_as NotUtf8 linter texts names v old new is clean wrote = wrote
shown_as TooLong linter texts names v old new is clean wrote = wrote
shown_as (BadBundle at) linter texts names v old new is clean wrote = wrote
shown_as ReadFault linter texts names v old new is clean wrote = wrote

-- ---- bundles

texts_same : (files : List GateFile) → texts_of files ≡ map (λ e. e.text) (entries_of files)
texts_same [] = refl
texts_same (f ∷ fs) = ap (λ ts. f.text.now ∷ ts) (texts_same fs)

names_same : (files : List GateFile) → names_of files ≡ map (λ e. e.name) (entries_of files)
names_same [] = refl
names_same (f ∷ fs) = ap (λ ns. f.name.now ∷ ns) (names_same fs)

abbrev IsShort : Text → Type 0
IsShort t = length t < 2 ^ 32

abbrev HasShort : Entry → Type 0
HasShort e = length e.text < 2 ^ 32

short_in : (files : List GateFile) → All HasShort (entries_of files) → All IsShort (texts_of files)
short_in [] h = All-nil IsShort
short_in (f ∷ fs) h =
    All-cons IsShort f.text.now (texts_of fs) (All-head HasShort (entry_of f) (entries_of fs) h) (short_in fs (All-tail HasShort (entry_of f) (entries_of fs) h))

pub short_texts : (files slice : List GateFile) → slice ≡ files → All HasShort (entries_of files) → All IsShort (texts_of slice)
short_texts files slice e h = short_in slice (subst (λ fs. All HasShort (entries_of fs)) (sym e) h)

bundle_with : (t : List ℕ) (files : List GateFile) (P : List Text → List (List ℕ) → Type 0) → IsBundle t (entries_of files) → P (texts_of files) (names_of files) → IsBundleWith t P
bundle_with t files P is h = record {
  entries = entries_of files;
  bundle = is;
  holds = subst (λ ns. P (map (λ e. e.text) (entries_of files)) ns) (names_same files) (subst (λ ts. P ts (names_of files)) (texts_same files) h);
}

judged : (s : GateStatus) (linter : Linter) (t : List ℕ) (files : List GateFile) (old new : Option (List ℕ)) → IsUtf8 t → IsBundle t (entries_of files)
    → ShownAs s linter (texts_of files) (names_of files) old new → JudgedAs s linter t old new
judged Accepted linter t files old new u is h = (u, bundle_with t files (λ ts ns. ShownAs Accepted linter ts ns old new) is h)
judged Rejected linter t files old new u is h = (u, bundle_with t files (λ ts ns. ShownAs Rejected linter ts ns old new) is h)
judged WriteFault linter t files old new u is h = (u, bundle_with t files (λ ts ns. ShownAs WriteFault linter ts ns old new) is h)
judged NoMemory linter t files old new u is h = tt
judged BadArguments linter t files old new u is h = h
judged NotUtf8 linter t files old new u is h = absurd h
judged TooLong linter t files old new u is h = h
judged (BadBundle at) linter t files old new u is h = absurd h
judged ReadFault linter t files old new u is h = h

pub judged_as : (s : GateStatus) (linter : Linter) (t : List ℕ) (files slice : List GateFile) (old new : Option (List ℕ)) → slice ≡ files → IsUtf8 t → IsBundle t (entries_of files)
    → ShownAs s linter (texts_of slice) (names_of slice) old new → JudgedAs s linter t old new
judged_as s linter t files slice old new e u is h = judged s linter t slice old new u (subst (λ fs. IsBundle t (entries_of fs)) (sym e) is) h

-- ---- inputs

by_words : (s : GateStatus) (words : List (List ℕ)) (linter : Linter) (t : List ℕ) (old new : Option (List ℕ)) → Some linter ≡ linter_of words → length t < 2 ^ 32
    → JudgedAs s linter t old new → JudgedFor s words t old new
by_words Accepted words linter t old new named short h = record { linter = linter; named = sym named; holds = h }
by_words Rejected words linter t old new named short h = record { linter = linter; named = sym named; holds = h }
by_words WriteFault words linter t old new named short h = record { linter = linter; named = sym named; holds = h }
by_words NotUtf8 words linter t old new named short h = (short, h)
by_words (BadBundle at) words linter t old new named short h = (short, h.0, h.1)
by_words BadArguments words linter t old new named short h = tt
by_words TooLong words linter t old new named short h = tt
by_words ReadFault words linter t old new named short h = tt
by_words NoMemory words linter t old new named short h = tt

-- what is known of the judged input is known of all that was left
pub judged_for : (s : GateStatus) (words : List (List ℕ)) (linter : Linter) (left : Option (List ℕ)) (input slice : List ℕ) (old new : Option (List ℕ))
    → Some linter ≡ linter_of words → IfSome left (λ t. t ≡ input) → length input < 2 ^ 32 → slice ≡ input → JudgedAs s linter slice old new
    → IfSome left (λ t. JudgedFor s words t old new)
judged_for s words linter left input slice old new named whole short same h =
    where_same left input (λ t. JudgedFor s words t old new) whole (by_words s words linter input old new named short (subst (λ x. JudgedAs s linter x old new) same h))
