-- Which words the linter is asked by: those of the line, and keys as default words.
use Rattle.std.specs.Prelude.{◌&&◌, Bool, not, if◌then◌else◌, List, [], ◌∷◌, ◌++◌, Option, Some, None, codes, slice_get}
use Rattle.std.specs.List.{join_with_byte}
use Rattle.squawk_run.specs.ForeignWords.{has_foreign_word}
use Rattle.squawk_run.specs.squawk_words.Words.{Text}
use Rattle.check_config.specs.declared.config.Config.{Config}

-- `--name=value`
abbrev pub valued : Text → Text → Text
valued name value = codes "--" ++ name ++ codes "=" ++ value

-- the word of a list of rules, where it has some
abbrev pub list_words : Text → List Text → List Text
list_words name [] = []
list_words name (rule ∷ rules) = valued name (join_with_byte 44 (rule ∷ rules)) ∷ []

-- the same, where the line has neither that word nor `--only`
abbrev pub rule_words : List Text → Text → List Text → List Text
rule_words line name rules = if has_foreign_word (codes "only" ∷ name ∷ []) line then [] else list_words name rules

-- the word of a part of the version, where there is one
abbrev pub part_words : Text → Option Text → List Text
part_words name None = []
part_words name (Some part) = valued name part ∷ []

-- the words of the version's parts, where the line has no part of one
abbrev pub version_words : List Text → List Text → List Text
version_words line parts =
    if has_foreign_word (codes "pg-major" ∷ codes "pg-minor" ∷ codes "pg-patch" ∷ []) line then []
    else part_words (codes "pg-major") (slice_get parts 0) ++ part_words (codes "pg-minor") (slice_get parts 1) ++ part_words (codes "pg-patch") (slice_get parts 2)

-- the word for a transaction that was begun before, where the line does not have it
abbrev pub flag_words : List Text → Bool → List Text
flag_words line is_assumed =
    if is_assumed && not (has_foreign_word (codes "assume-in-transaction" ∷ []) line) then codes "--assume-in-transaction" ∷ [] else []

-- the words of the line, and those of the keys
abbrev pub linter_words : Config → List Text → List Text
linter_words config line =
    line ++ rule_words line (codes "include") config.included_rules ++ rule_words line (codes "exclude") config.excluded_rules
    ++ version_words line config.pg_version ++ flag_words line config.assume_in_transaction
