-- Without ignore comments, each report of a pass is among all that is reported of a text.
use Rattle.std.proofs.Common.{◌≡◌, ◌≢◌, ◌∙◌, sym, subst, refl, rules, arith, inl, inr, ℕ, ◌+◌, ◌<◌, Bool, true, false, All, List, [], ◌∷◌, ◌++◌, length, map, Contains}
use Rattle.std.proofs.lemmas.Bool.{cases_Bool, false≢true}
use Rattle.std.proofs.lemmas.List.Elements.{All-contains, Contains-append_left}
use Rattle.std.specs.Prelude.{is_none}
use denote.Enum.Bare.{same_true}
use Rattle.text_reports.specs.hazard_base.declared.hazard_set.HazardSet.{HazardSet}
use Rattle.text_reports.specs.hazard_find.Findings.{findings_of}
use Rattle.text_reports.specs.hazard_ignore.HazardNames.{hazard_of, without_hazard_names}
use Rattle.text_reports.specs.law_answers.Tables.{IsCoded}
use Rattle.text_reports.specs.lint_base.contracts.rule.Rule.{the_type}
use Rattle.text_reports.specs.lint_base.declared.rule.Rule.{Rule}
use Rattle.text_reports.specs.lint_base.declared.rule.Rule.TheVariants as rule
use Rattle.text_reports.specs.lint_base.declared.settings.LinterSettings.{LinterSettings}
use Rattle.text_reports.specs.lint_base.declared.violation.Violation.{Violation}
use Rattle.text_reports.specs.lint_base.RuleNames.{same_rule}
use Rattle.text_reports.specs.lint_base.RuleSets.{Rules, has}
use Rattle.text_reports.specs.lint_pass.Laws.{IsOf, IsRead}
use Rattle.text_reports.specs.pass_groups.OwnTable.{own_table}
use Rattle.text_reports.specs.sql_tree.Statement.{Tree}
use Rattle.text_reports.proofs.of_squawk_linter.HeadlineLaws.{plain_answer}
use Rattle.text_reports.proofs.of_squawk_linter.Sorting.{by_key_all}
use Rattle.text_reports.specs.squawk_linter.Answers.{reports}
use Rattle.text_reports.specs.squawk_linter.CleanAnswers.{CleanAnswersWorkAlone}
use Rattle.text_reports.specs.squawk_linter.Headline.{HasNoIgnoreComment}
use Rattle.text_reports.specs.squawk_linter.Placed.{AnswersPlaced, IsPlaced}
use Rattle.text_reports.specs.squawk_linter.Reports as answer
use Rattle.text_reports.specs.squawk_linter.Reports.{cleared}
use Rattle.text_reports.specs.Reports.{all_reports, by_hazard, by_rule, start_of, uncovered, unused, with_hazards}
use Rattle.law_reports.proofs.Silence.{in_filter, in_map, in_order}
use Rattle.law_reports.specs.CleanTexts.{CleanTextsWorkAlone}

-- ---- lists

in_nothing : {X : Type 0} (x : X) → Contains [] x → ⊥
in_nothing x (k, l, e) = absurd (omega (arith, l))

nothing_left : {X : Type 0} (xs : List X) → ((x : X) → Contains xs x → ⊥) → xs ≡ []
nothing_left [] h = refl
nothing_left (x ∷ xs) h = absurd (h x (0, (omega arith), refl))

-- ---- reports of passes

rule_is : (a b : Rule) → same_rule a b ≡ true → a ≡ b
unfolding same_rule
rule_is a b e = same_true the_type (search rules) a b e

-- a report of another rule calls no name unknown
names_no_hazard : (v : Violation) → v.code ≢ rule.UnusedIgnore → is_none (hazard_of v) ≡ true
unfolding hazard_of
names_no_hazard v other =
    elim (cases_Bool (same_rule v.code rule.UnusedIgnore)) [
      | inl e ↦ absurd (other (rule_is v.code rule.UnusedIgnore e))
      | inr e ↦ rw e refl
    ]

-- each report is of one of some rules
module _ (own : Rules) (no_names : has own rule.UnusedIgnore ≡ false) (coded : IsCoded own own_table) (placed : AnswersPlaced) (tree : Tree) (rules : Rules)
    (hazards : HazardSet) (settings : LinterSettings) (read : IsRead tree) (plain : HasNoIgnoreComment tree) where
  of_rules : All (IsOf own rules) (reports tree rules settings)
  of_rules =
      let found : List Violation = own_table tree rules (cleared tree settings) in
      subst (λ vs. All (IsOf own rules) vs) (sym (plain_answer tree found rules plain))
      (by_key_all (IsOf own rules) answer.start_of (length tree.text + 1) found (coded tree rules (cleared tree settings)))

  is_other : (v : Violation) → Contains (reports tree rules settings) v → v.code ≢ rule.UnusedIgnore
  is_other v is e =
      let mine : has own v.code ≡ true = (All-contains (IsOf own rules) (reports tree rules settings) v of_rules is).own in
      false≢true (sym no_names ∙ subst (λ r. has own r ≡ true) e mine)

  starts_within : (v : Violation) → Contains (reports tree rules settings) v → start_of (by_rule settings tree v) < length tree.text + 1
  unfolding by_rule
  starts_within v is =
      let there : IsPlaced tree.text v = All-contains (IsPlaced tree.text) (reports tree rules settings) v (placed tree rules settings read) is in
      let within = there.range.start.0 in
      omega (arith, within)

  is_reported : (v : Violation) → Contains (reports tree rules settings) v → Contains (all_reports tree rules hazards settings) (by_rule settings tree v)
  is_reported v is =
      let vs : List Violation = reports tree rules settings in
      let found = findings_of hazards settings tree in
      let of_passes = map (by_rule settings tree) (without_hazard_names vs) in
      let of_names = map (by_rule settings tree) (unused tree rules hazards found) in
      in_order start_of (length tree.text + 1) (with_hazards settings tree rules hazards vs found) (by_rule settings tree v)
      (Contains-append_left (of_passes ++ of_names) (map (by_hazard tree) (uncovered tree found)) (by_rule settings tree v)
      (Contains-append_left of_passes of_names (by_rule settings tree v)
      (in_map (by_rule settings tree) (without_hazard_names vs) v
      (in_filter (λ w. is_none (hazard_of w)) vs v is (names_no_hazard v (is_other v is))))))
      (starts_within v is)

  none_answered : all_reports tree rules hazards settings ≡ [] → reports tree rules settings ≡ []
  none_answered none =
      nothing_left (reports tree rules settings)
      (λ v is. in_nothing (by_rule settings tree v) (subst (λ rs. Contains rs (by_rule settings tree v)) none (is_reported v is)))

pub clean_texts_work_alone : (own : Rules) → has own rule.UnusedIgnore ≡ false → IsCoded own own_table → AnswersPlaced → CleanAnswersWorkAlone → CleanTextsWorkAlone
clean_texts_work_alone own no_names coded placed alone tree rules hazards settings read clean =
    alone tree rules settings read (record {
      has_defaults = clean.has_defaults;
      no_comments = clean.no_comments;
      plain_text = clean.plain_text;
      no_reports = none_answered own no_names coded placed tree rules hazards settings read clean.no_comments clean.no_reports;
    })
