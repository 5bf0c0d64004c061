-- What words ask for, by how many they are.
use Rattle.std.proofs.Common.{◌≡◌, ◌∙◌, ◌<◌, ◌+◌, ℕ, Bool, List, [], ◌∷◌, Some, None, true, false, ap, cond, find, length, drop, slice_get, refl, arith}
use Rattle.std.proofs.lemmas.List.{drop_all}
use Rattle.refused_word.proofs.of_squawk_words.Places.{drop_at}
use Rattle.rule_pages.specs.declared.list.TheConstants.{RULE_LIST}
use Rattle.refused_word.specs.squawk_words.Words.{Text, begins_with_dash}
use Rattle.explain_command.specs.Lines.{IsUnknownLine, one_name_line}
use Rattle.explain_command.specs.Words.{AreRefused, first_option, folded, page_named, text_of_names}

-- ---- options

-- the first option from a place on, by the word that is there
pub option_at : (words : List Text) (i : ℕ) (word : Text) → slice_get words i ≡ Some word
    → first_option (drop i words) ≡ cond (begins_with_dash word) (Some word) (first_option (drop (i + 1) words))
option_at words i word at = ap (λ (ws : List Text). find begins_with_dash ws) (drop_at words i word at)

pub option_here : (words : List Text) (i : ℕ) (word : Text) → slice_get words i ≡ Some word → begins_with_dash word ≡ true → first_option (drop i words) ≡ Some word
option_here words i word at holds =
    option_at words i word at ∙ ap (λ (b : Bool). cond b (Some word) (first_option (drop (i + 1) words))) holds

pub option_later : (words : List Text) (i : ℕ) (word : Text) → slice_get words i ≡ Some word → begins_with_dash word ≡ false
    → first_option (drop i words) ≡ first_option (drop (i + 1) words)
option_later words i word at fails =
    option_at words i word at ∙ ap (λ (b : Bool). cond b (Some word) (first_option (drop (i + 1) words))) fails

pub option_nowhere : (words : List Text) (i : ℕ) → length words < i + 1 → first_option (drop i words) ≡ None
option_nowhere words i end = ap (λ (ws : List Text). find begins_with_dash ws) (drop_all i words (omega arith))

-- ---- names

pub list_of : (words : List Text) → length words < 2 → text_of_names (drop 1 words) ≡ Some RULE_LIST.now
list_of [] few = refl
list_of (command ∷ []) few = refl
list_of (command ∷ name ∷ rest) few = absurd (omega arith)

pub one_name : (words : List Text) (name : Text) → length words ≡ 2 → slice_get words 1 ≡ Some name → drop 1 words ≡ name ∷ []
one_name [] name two at = absurd (omega arith)
one_name (command ∷ []) name two at = absurd (omega arith)
one_name (command ∷ other ∷ []) name two at = cc
one_name (command ∷ other ∷ more ∷ rest) name two at = absurd (omega arith)

pub page_of_name : (words : List Text) (name : Text) → length words ≡ 2 → slice_get words 1 ≡ Some name → text_of_names (drop 1 words) ≡ page_named name
page_of_name words name two at = rw (one_name words name two at) refl

-- a name of no rule
pub name_refused : (words : List Text) (name : Text) → length words ≡ 2 → slice_get words 1 ≡ Some name → (line : List ℕ)
    → (page_named name ≡ None) × IsUnknownLine name (folded name) line → AreRefused (drop 1 words) line
name_refused words name two at line h = rw (one_name words name two at) h

-- more names than one
pub names_refused : (words : List Text) → 2 < length words → (line : List ℕ) → line ≡ one_name_line → AreRefused (drop 1 words) line
names_refused [] many line told = absurd (omega arith)
names_refused (command ∷ []) many line told = absurd (omega arith)
names_refused (command ∷ name ∷ []) many line told = absurd (omega arith)
names_refused (command ∷ name ∷ other ∷ rest) many line told = (refl, told)
