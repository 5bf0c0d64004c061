-- Which rules and which hazards words choose.
use Rattle.std.specs.Prelude.{◌||◌, Bool, true, false, List, [], ◌∷◌, Option, Some, None, codes, flat_map, if◌then◌else◌, is_some, not, option_and_then, option_map}
use Rattle.std.specs.List.{list_any}
use Rattle.std.specs.Str.{bytes_eq}
use Rattle.lint_report.specs.hazard_base.declared.hazard.Hazard.{Hazard}
use Rattle.lint_report.specs.hazard_base.declared.hazard.Hazard.TheVariants as hazard
use Rattle.lint_report.specs.hazard_base.declared.hazard_set.HazardSet.{HazardSet}
use Rattle.lint_report.specs.hazard_base.Hazards.{same_hazard}
use Rattle.lint_report.specs.lint_base.declared.rule.Rule.{Rule}
use Rattle.lint_report.specs.lint_base.RuleChoice.{is_chosen, is_named, rules_that}
use Rattle.lint_report.specs.lint_base.RuleSets.{Rules}
use Rattle.lint_report.specs.declared.code.Code.{Code}
use Rattle.lint_report.specs.declared.code.Code.TheVariants as code
use Rattle.lint_report.specs.Codes.{code_named}
use Rattle.squawk_run.specs.ForeignWords.{has_foreign_word}
use Rattle.squawk_run.specs.squawk_words.declared.choices.Choices.{Choices}
use Rattle.squawk_run.specs.squawk_words.Choices.{Said, choices_by, each, items_of, read_or, said_of}
use Rattle.squawk_run.specs.squawk_words.Words.{Text}
use Rattle.code_choice.specs.declared.choices.CodeChoices.{CodeChoices}

-- ---- lists

-- what a list names, or nothing where one of its items names neither a rule nor a hazard
abbrev pub code_list : Text → Option (List Code)
code_list list = each code_named (items_of list)

abbrev pub rule_in : Code → List Rule
rule_in (code.Rule rule) = rule ∷ []
rule_in (code.Hazard hazard) = []

abbrev pub hazard_in : Code → List Hazard
hazard_in (code.Rule rule) = []
hazard_in (code.Hazard hazard) = hazard ∷ []

abbrev pub rules_among : List Code → List Rule
rules_among codes = flat_map rule_in codes

abbrev pub hazards_among : List Code → List Hazard
hazards_among codes = flat_map hazard_in codes

-- ---- what they choose

-- exactly the rules of the first list and what they stand for, or the default ones with those of the second and without those of the third
abbrev pub rules_by : Option (List Rule) → List Rule → List Rule → Rules
rules_by (Some only) include exclude = rules_that (is_named only)
rules_by None include exclude = rules_that (is_chosen include exclude)

abbrev pub is_among : List Hazard → Hazard → Bool
is_among hazards h = list_any (same_hazard h) hazards

-- a hazard is in the first list, or, where there is none, not in the second
abbrev pub is_enabled : Option (List Hazard) → List Hazard → Hazard → Bool
is_enabled (Some only) exclude h = is_among only h
is_enabled None exclude h = not (is_among exclude h)

-- the set of the hazards that pass a test
abbrev pub hazards_that : (Hazard → Bool) → HazardSet
hazards_that test = record {
  statement_in_transaction = test hazard.StatementInTransaction;
  table_rewrite = test hazard.TableRewrite;
  column_with_check = test hazard.ColumnWithCheck;
  build_under_timeout = test hazard.BuildUnderTimeout;
  invalid_index_kept = test hazard.InvalidIndexKept;
  refresh_blocks_reads = test hazard.RefreshBlocksReads;
  json_column = test hazard.JsonColumn;
}

-- choices with the rules and the hazards of lists
abbrev pub with_lists : Option (List Code) → List Code → List Code → Choices → CodeChoices
with_lists only include exclude c = record {
  choices = record c { rules = rules_by (option_map rules_among only) (rules_among include) (rules_among exclude) };
  hazards = hazards_that (is_enabled (option_map hazards_among only) (hazards_among exclude));
}

-- ---- words

-- what values choose without their lists of rules
abbrev pub plain_choices : Said → Option Choices
plain_choices said = choices_by (record said { only = None; include = None; exclude = None })

-- with the lists `include` and `exclude`
abbrev pub chosen_beside : Said → Choices → Option CodeChoices
chosen_beside said c =
    option_and_then (λ include. option_map (λ exclude. with_lists None include exclude c) (read_or [] code_list said.exclude))
    (read_or [] code_list said.include)

-- with the list `only`, beside which there is no other
abbrev pub chosen_only : Text → Said → Choices → Option CodeChoices
chosen_only list said c =
    if is_some said.include || is_some said.exclude then None else option_map (λ only. with_lists (Some only) [] [] c) (code_list list)

abbrev pub chosen_by_only : Option Text → Said → Choices → Option CodeChoices
chosen_by_only None said c = chosen_beside said c
chosen_by_only (Some list) said c = chosen_only list said c

-- what values choose, or nothing where one of them can't be read
abbrev pub chosen_by : Said → Option CodeChoices
chosen_by said = option_and_then (λ c. chosen_by_only said.only said c) (plain_choices said)

-- what words choose that have no `--no-hazards`
abbrev pub choices_of : List Text → Option CodeChoices
choices_of words = option_and_then chosen_by (said_of words)

abbrev pub is_no_hazards : Text → Bool
is_no_hazards word = bytes_eq word (codes "--no-hazards")

abbrev pub has_no_hazards : List Text → Bool
has_no_hazards words = list_any is_no_hazards words

abbrev pub other_word : Text → List Text
other_word word = if is_no_hazards word then [] else word ∷ []

abbrev pub other_words : List Text → List Text
other_words words = flat_map other_word words

-- no hazard is enabled, where none is wanted
abbrev pub without_hazards : Bool → CodeChoices → CodeChoices
without_hazards true c = record c { hazards = hazards_that (λ h. false) }
without_hazards false c = c

-- what words choose, or nothing where they are refused
abbrev pub code_choices_of : List Text → Option CodeChoices
code_choices_of words =
    if has_foreign_word (codes "locks" ∷ codes "generate" ∷ []) words then None
    else option_map (without_hazards (has_no_hazards words)) (choices_of (other_words words))
