-- From what is known of the line of a refusal to what it says of the words.
use Rattle.std.proofs.Common.{◌≡◌, ◌∙◌, ◌<◌, ℕ, Bool, List, Option, Some, None, Result, Ok, Err, IfErr, false, ap, cond, drop, length, option_map, slice_get, subst, sym}
use Rattle.refused_word.specs.help_words.Help.{asks_for_help}
use Rattle.rule_pages.specs.Pages.{code_page_of}
use Rattle.refused_word.specs.squawk_run.declared.stop.Stop.TheVariants.{BadArguments, NotUtf8, TooLong, ReadFault, WriteFault, NoMemory}
use Rattle.refused_word.specs.squawk_words.Words.{Text}
use Rattle.explain_command.proofs.Words.{name_refused, names_refused}
use Rattle.explain_command.specs.declared.failure.Failure.{Failure}
use Rattle.explain_command.specs.declared.failure.Failure.TheVariants.{Stop, Refused}
use Rattle.explain_command.specs.declared.help.TheConstants.{HELP}
use Rattle.explain_command.specs.Failures.{IsRefusal}
use Rattle.explain_command.specs.Lines.{IsUnknownLine, one_name_line, option_line}
use Rattle.explain_command.specs.Words.{AreRefused, IsRefusedFor, explained, first_option, folded, page_named, text_after, text_by, text_of, text_of_names}

-- what holds of each such line holds of the failure's
pub refusal_more : (P Q : List ℕ → Type 0) (failure : Failure) → ((line : List ℕ) → P line → Q line) → IsRefusal P failure → IsRefusal Q failure
refusal_more P Q (Refused line) more h = more line.items h
refusal_more P Q (Stop NoMemory) more h = tt
refusal_more P Q (Stop BadArguments) more h = absurd h
refusal_more P Q (Stop NotUtf8) more h = absurd h
refusal_more P Q (Stop TooLong) more h = absurd h
refusal_more P Q (Stop ReadFault) more h = absurd h
refusal_more P Q (Stop WriteFault) more h = absurd h

pub result_more : {X : Type 0} (P Q : List ℕ → Type 0) (r : Result X Failure) → ((line : List ℕ) → P line → Q line) → IfErr r (IsRefusal P) → IfErr r (IsRefusal Q)
result_more P Q (Ok x) more h = tt
result_more P Q (Err failure) more h = refusal_more P Q failure more h

-- ---- names

-- a text that no rule and no hazard is named by
pub page_refused : (name text : Text) (failure : Failure) → text ≡ folded name → explained text ≡ None → IsRefusal (IsUnknownLine name text) failure
    → IsRefusal (λ line. (page_named name ≡ None) × IsUnknownLine name (folded name) line) failure
unfolding page_named
page_refused name text failure is none h =
    refusal_more (IsUnknownLine name text) (λ line. (page_named name ≡ None) × IsUnknownLine name (folded name) line) failure
    (λ line told. (ap (option_map code_page_of) (ap explained (sym is) ∙ none), subst (λ (t : Text). IsUnknownLine name t line) is told)) h

pub several_refused : (words : List Text) (failure : Failure) → 2 < length words → IsRefusal (λ line. line ≡ one_name_line) failure
    → IsRefusal (AreRefused (drop 1 words)) failure
several_refused words failure many h = refusal_more (λ line. line ≡ one_name_line) (AreRefused (drop 1 words)) failure (names_refused words many) h

pub one_refused : {X : Type 0} (words : List Text) (name : Text) (r : Result X Failure) → length words ≡ 2 → slice_get words 1 ≡ Some name
    → IfErr r (IsRefusal (λ line. (page_named name ≡ None) × IsUnknownLine name (folded name) line)) → IfErr r (IsRefusal (AreRefused (drop 1 words)))
one_refused words name r two at h =
    result_more (λ line. (page_named name ≡ None) × IsUnknownLine name (folded name) line) (AreRefused (drop 1 words)) r (name_refused words name two at) h

-- ---- words

no_help : (words : List Text) (o : Option Text) → asks_for_help words ≡ false → first_option (drop 1 words) ≡ o → text_of words ≡ text_by o (drop 1 words)
no_help words o none first =
    ap (λ (b : Bool). cond b (Some HELP.now) (text_after (drop 1 words))) none ∙ ap (λ (p : Option Text). text_by p (drop 1 words)) first

option_told : (words : List Text) (word : Text) → asks_for_help words ≡ false → first_option (drop 1 words) ≡ Some word → (line : List ℕ)
    → line ≡ option_line word → IsRefusedFor words line
option_told words word none first line told = (no_help words (Some word) none first, rw first told)

-- an option among the words
pub option_refused : (words : List Text) (word : Text) (failure : Failure) → asks_for_help words ≡ false → first_option (drop 1 words) ≡ Some word
    → IsRefusal (λ line. line ≡ option_line word) failure → IsRefusal (IsRefusedFor words) failure
option_refused words word failure none first h =
    refusal_more (λ line. line ≡ option_line word) (IsRefusedFor words) failure (option_told words word none first) h

names_told : (words : List Text) → asks_for_help words ≡ false → first_option (drop 1 words) ≡ None → (line : List ℕ) → AreRefused (drop 1 words) line
    → IsRefusedFor words line
names_told words none first line h = (no_help words None none first ∙ h.0, rw first h.1)

-- names alone
pub names_alone : {X : Type 0} (words : List Text) (r : Result X Failure) → asks_for_help words ≡ false → first_option (drop 1 words) ≡ None
    → IfErr r (IsRefusal (AreRefused (drop 1 words))) → IfErr r (IsRefusal (IsRefusedFor words))
names_alone words r none first h = result_more (AreRefused (drop 1 words)) (IsRefusedFor words) r (names_told words none first) h

pub text_alone : (words : List Text) → asks_for_help words ≡ false → first_option (drop 1 words) ≡ None → text_of words ≡ text_of_names (drop 1 words)
text_alone words none first = no_help words None none first
