-- A hazard that is not reported is not found.
use Rattle.std.proofs.Common.{◌≡◌, ◌≢◌, ◌∙◌, sym, ap, subst, rules, arith, eq-eqb, eq-or-lt_of_le, ℕ, zero, suc, ◌+◌, ◌<◌, ◌≤◌, inl, inr, Bool, true, false, cond, not, List, [], ◌∷◌, length, map, filter, Contains}
use Rattle.std.specs.Prelude.{nat_eq}
use Rattle.std.specs.List.{list_any}
use Rattle.std.specs.Str.{IsUtf8}
use Rattle.std.proofs.lemmas.Bool.{and_parts, false_from_ne_true, not_from_false, or_from}
use Rattle.std.proofs.lemmas.List.Elements.{All-contains, All-nil, Contains-append_left, Contains-append_right, Contains-get_or}
use Rattle.std.proofs.lemmas.List.Folds.{list_any_none}
use denote.Enum.Bare.{same_true}
use Rattle.text_reports.specs.hazard_base.contracts.hazard.Hazard.{the_type}
use Rattle.text_reports.specs.hazard_base.declared.finding.Finding.{Finding}
use Rattle.text_reports.specs.hazard_base.declared.hazard.Hazard.{Hazard}
use Rattle.text_reports.specs.hazard_base.declared.hazard_set.HazardSet.{HazardSet}
use Rattle.text_reports.specs.hazard_base.Hazards.{same_hazard}
use Rattle.text_reports.specs.hazard_find.Findings.{findings_of}
use Rattle.text_reports.specs.hazard_ignore.Covered.{covers, is_bare, is_covered, named}
use Rattle.text_reports.specs.lint_base.declared.settings.LinterSettings.{LinterSettings}
use Rattle.text_reports.specs.lint_base.declared.violation.Violation.{Violation}
use Rattle.text_reports.specs.lint_base.RuleSets.{Rules}
use Rattle.text_reports.specs.lint_report.declared.code.Code.TheVariants as code
use Rattle.text_reports.specs.lint_report.declared.report.Report.{Report}
use Rattle.text_reports.specs.sql_tree.Statement.{IsTree, Tree}
use Rattle.text_reports.specs.squawk_linter.Answers.{reports}
use Rattle.text_reports.specs.squawk_linter.ByStart.{by_key}
use Rattle.text_reports.specs.squawk_linter.Placed.{IsPlaced}
use Rattle.text_reports.specs.text_pos.Line.{line_of}
use Rattle.text_reports.proofs.Placing.{gathered_placed}
use Rattle.text_reports.specs.Placed.{IsReportPlaced}
use Rattle.text_reports.specs.Reports.{all_reports, by_hazard, start_of, uncovered, with_hazards}
use Rattle.law_reports.specs.NotReported.{IsNotReported, NotReportedIsNotFound}

-- ---- what a list has

module _ {X : Type 0} where
  later : (xs : List X) (y x : X) → Contains xs x → Contains (y ∷ xs) x
  later xs y x (k, l, e) = (suc k, (omega (arith, l)), e)

  in_filter_by : (p : X → Bool) (y : X) (ys : List X) (x : X) (b : Bool) → Contains ys x → Contains (cond b (y ∷ ys) ys) x
  in_filter_by p y ys x true is = later ys y x is
  in_filter_by p y ys x false is = is

  pub in_filter : (p : X → Bool) (xs : List X) (x : X) → Contains xs x → p x ≡ true → Contains (filter p xs) x
  in_filter p [] x (k, l, e) h = absurd (omega (arith, l))
  in_filter p (y ∷ ys) x (zero, l, e) h =
      subst (λ b. Contains (cond b (y ∷ filter p ys) (filter p ys)) x) (sym (ap p e ∙ h)) (0, (omega arith), e)
  in_filter p (y ∷ ys) x (suc k, l, e) h = in_filter_by p y (filter p ys) x (p y) (in_filter p ys x (k, (omega (arith, l)), e) h)

  pub in_order : (key : X → ℕ) (n : ℕ) (xs : List X) (x : X) → Contains xs x → key x < n → Contains (by_key key n xs) x
  in_order key zero xs x is l = absurd (omega (arith, l))
  in_order key (suc n) xs x is l =
      elim (eq-or-lt_of_le (le_here l)) [
        | inl e ↦
            Contains-append_right (by_key key n xs) (filter (λ y. nat_eq (key y) n) xs) x (in_filter (λ y. nat_eq (key y) n) xs x is (eq-eqb (key x) n e))
        | inr low ↦ Contains-append_left (by_key key n xs) (filter (λ y. nat_eq (key y) n) xs) x (in_order key n xs x is low)
      ]
    where
      le_here : key x < suc n → key x ≤ n
      le_here l = omega (arith, l)

pub in_map : {X Y : Type 0} (f : X → Y) (xs : List X) (x : X) → Contains xs x → Contains (map f xs) (f x)
in_map f [] x (k, l, e) = absurd (omega (arith, l))
in_map f (y ∷ ys) x (zero, l, e) = (0, (omega arith), ap f e)
in_map f (y ∷ ys) x (suc k, l, e) = later (map f ys) (f y) (f x) (in_map f ys x (k, (omega (arith, l)), e))

-- ---- findings

hazard_is : (a b : Hazard) → same_hazard a b ≡ true → a ≡ b
unfolding same_hazard
hazard_is a b e = same_true the_type (search rules) a b e

module _ (h : Hazard) (tree : Tree) (rules : Rules) (hazards : HazardSet) (settings : LinterSettings) (is : IsTree tree) (utf8 : IsUtf8 tree.text)
    (quiet : IsNotReported h tree rules hazards settings) where
  not_covered : (f : Finding) → f.hazard ≡ h → is_covered tree f ≡ false
  unfolding covers
  not_covered f of =
      or_from (is_bare tree) (list_any (covers (line_of tree.text f.range.start) f.hazard) (named tree)) quiet.no_bare_ignore
      (list_any_none (covers (line_of tree.text f.range.start) f.hazard) (named tree)
      (λ k d l. false_from_ne_true _ (λ e. quiet.no_name k d l (hazard_is _ f.hazard (and_parts _ _ e).0 ∙ of))))

  in_list : (vs : List Violation) (f : Finding) → f.hazard ≡ h → Contains (findings_of hazards settings tree) f
      → Contains (with_hazards settings tree rules hazards vs (findings_of hazards settings tree)) (by_hazard tree f)
  in_list vs f of found =
      Contains-append_right _ _ (by_hazard tree f)
      (in_map (by_hazard tree) (uncovered tree (findings_of hazards settings tree)) f
      (in_filter (λ g. not (is_covered tree g)) (findings_of hazards settings tree) f found (not_from_false (is_covered tree f) (not_covered f of))))

  starts_within : (f : Finding) → f.hazard ≡ h → Contains (findings_of hazards settings tree) f → start_of (by_hazard tree f) < length tree.text + 1
  starts_within f of found =
      let placed : IsReportPlaced tree.text (by_hazard tree f) =
      All-contains (IsReportPlaced tree.text) (with_hazards settings tree rules hazards [] (findings_of hazards settings tree)) (by_hazard tree f)
      (gathered_placed tree rules hazards settings [] (record { read = is; utf8 = utf8 }) (All-nil (IsPlaced tree.text))) (in_list [] f of found)
      in
      let within = placed.range.start.0 in
      omega (arith, within)

  coded : (f : Finding) → f.hazard ≡ h → (by_hazard tree f).code ≡ code.Hazard h
  unfolding by_hazard
  coded f of = ap code.Hazard of

  none_found : (f : Finding) → Contains (findings_of hazards settings tree) f → f.hazard ≢ h
  none_found f found of =
      All-contains (λ (r : Report). r.code ≢ code.Hazard h) (all_reports tree rules hazards settings) (by_hazard tree f) quiet.no_reports
      (in_order start_of (length tree.text + 1) (with_hazards settings tree rules hazards (reports tree rules settings) (findings_of hazards settings tree)) (by_hazard tree f)
      (in_list (reports tree rules settings) f of found) (starts_within f of found))
      (coded f of)

pub not_reported_is_not_found : NotReportedIsNotFound
not_reported_is_not_found h tree rules hazards settings is utf8 quiet = record {
  is_enabled = quiet.is_enabled;
  no_findings = λ k d l. none_found h tree rules hazards settings is utf8 quiet _ (Contains-get_or (findings_of hazards settings tree) k d l);
}
