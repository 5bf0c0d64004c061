-- The rules of the gate have the default set.
use Rattle.std.proofs.Common.{ℕ, ℤ, ◌≡◌, ◌∙◌, sym, ap, refl, subst, true, false, ◌&&◌, ◌||◌, not, List, [], Option, Some, None, IfSome, true≢false, codes}
use Rattle.std.specs.Prelude.{option_map, option_and_then}
use Rattle.squawk_linter.specs.lint_base.declared.rule.Rule.{Rule}
use Rattle.squawk_linter.specs.lint_base.declared.rule.Rule.TheVariants as rule
use Rattle.squawk_linter.specs.lint_base.RuleChoice.{is_alias, is_chosen, is_named, rules_that}
use Rattle.squawk_linter.specs.lint_base.Rules.{facts_of, is_opt_in}
use Rattle.squawk_linter.specs.lint_base.RuleSets.{Rules, has}
use Rattle.squawk_linter.proofs.of_lint_base.RuleChoice.{has-rules_that}
use Rattle.squawk_run.specs.squawk_words.declared.choices.Choices.{Choices}
use Rattle.squawk_run.specs.squawk_words.Choices.{Said, choices_by, choices_of, groups_by, names_by, read_or, rule_list, rules_by, said_in, version_by}
use Rattle.squawk_run.specs.squawk_words.Words.{Text, settings_of}
use Rattle.squawk_run.specs.Laws.{ForeignStaysUnset}
use Rattle.migration_gate.specs.GateWords.{foreign, has_foreign}

-- ---- options

and_then_some : {A B : Type 0} (f : A → Option B) (o : Option A) (y : B) → option_and_then f o ≡ Some y → (x : A) × (o ≡ Some x) × (f x ≡ Some y)
and_then_some f None y e = absurd cc
and_then_some f (Some x) y e = (x, refl, e)

map_some : {A B : Type 0} (f : A → B) (o : Option A) (y : B) → option_map f o ≡ Some y → (x : A) × (o ≡ Some x) × (f x ≡ y)
map_some f None y e = absurd cc
map_some f (Some x) y e = (x, refl, cc)

-- ---- rules

abbrev pub HasAll : Rules → Type 0
HasAll rules = (r : Rule) → is_opt_in r ≡ false → has rules r ≡ true

no_alias : (r : Rule) → is_opt_in r ≡ false → is_alias r ≡ false
unfolding facts_of
no_alias rule.RequireTimeoutSettings e = absurd (true≢false e)
no_alias _ e = refl

-- the rules of an include list
included_all : (include : List Rule) → HasAll (rules_that (is_chosen include []))
included_all include r e = has-rules_that (is_chosen include []) r ∙ (λ i. (not (e i) || is_named include r) && not false && not (no_alias r e i))

all_where : (only include exclude : Option Text) (rules : Rules) → only ≡ None → exclude ≡ None → rules_by only include exclude ≡ Some rules → HasAll rules
all_where (Some only) include exclude rules a b e = absurd cc
all_where None include (Some exclude) rules a b e = absurd cc
all_where None include None rules a b e =
    let list = and_then_some (λ included. option_map (λ excluded. rules_that (is_chosen included excluded)) (Some [])) (read_or [] rule_list include) rules e in
    let same : rules_that (is_chosen list.0 []) ≡ rules = let f = list.2 in cc in
    subst HasAll same (included_all list.0)

-- what is chosen by values that were read
abbrev chosen : Said → List ℤ → Option ℕ → List Text → Rules → Choices
chosen said version generate names rules = record {
  rules = rules;
  settings = record { pg_version = version; assume_in_transaction = said.assume_in_transaction; non_volatile = names };
  locks = said.locks;
  generate = generate;
}

abbrev with_names : Said → List ℤ → Option ℕ → List Text → Option Choices
with_names said version generate names = option_map (chosen said version generate names) (rules_by said.only said.include said.exclude)

abbrev with_groups : Said → List ℤ → Option ℕ → Option Choices
with_groups said version generate = option_and_then (with_names said version generate) (names_by said.non_volatile)

abbrev with_version : Said → List ℤ → Option Choices
with_version said version = option_and_then (with_groups said version) (groups_by said.locks said.generate)

of_said : (said : Said) (c : Choices) → said.only ≡ None → said.exclude ≡ None → choices_by said ≡ Some c → HasAll c.rules
of_said said c a b e =
    let version = and_then_some (with_version said) (version_by said.pg_major said.pg_minor said.pg_patch) c e in
    let groups = and_then_some (with_groups said version.0) (groups_by said.locks said.generate) c version.2 in
    let names = and_then_some (with_names said version.0 groups.0) (names_by said.non_volatile) c groups.2 in
    let rules = map_some (chosen said version.0 groups.0 names.0) (rules_by said.only said.include said.exclude) c names.2 in
    subst (λ (d : Choices). HasAll d.rules) rules.2 (all_where said.only said.include said.exclude rules.0 a b rules.1)

of_words : ForeignStaysUnset → (words : List Text) (c : Choices) → has_foreign words ≡ false → choices_of words ≡ Some c → HasAll c.rules
of_words unset words c h e =
    let said = and_then_some choices_by (option_map said_in (settings_of words)) c e in
    let set = map_some said_in (settings_of words) said.0 said.1 in
    let no_only = unset foreign words set.0 (codes "only") h set.1 refl in
    let no_exclude = unset foreign words set.0 (codes "exclude") h set.1 refl in
    of_said said.0 c (ap (λ (s : Said). s.only) (sym set.2) ∙ no_only) (ap (λ (s : Said). s.exclude) (sym set.2) ∙ no_exclude) said.2

pub taken_all : ForeignStaysUnset → (words : List Text) (o : Option Choices) → has_foreign words ≡ false → o ≡ choices_of words → IfSome o (λ c. HasAll c.rules)
taken_all unset words None h e = tt
taken_all unset words (Some c) h e = of_words unset words c h (sym e)
