-- Reports, their statements and their edits are at places of the text.
use Rattle.std.proofs.Common.{◌≡◌, ◌∙◌, ◌+◌, ◌<◌, ℕ, ap, arith, subst, sym, Bool, true, false, List, [], ◌∷◌, All, Option, Some, None, IfSome, length, map, inl, inr}
use Rattle.std.proofs.lemmas.Bool.{cases_Bool}
use Rattle.std.proofs.lemmas.List.Elements.{All-append, All-filter, All-head, All-map, All-nil, All-tail, All-weaker}
use Rattle.std.specs.Prelude.{◌&&◌, cond, flat_map, is_none, not, option_map}
use Rattle.fix_class.specs.Classes.{class_of}
use Rattle.hazard_find.specs.hazard_base.declared.finding.Finding.{Finding}
use Rattle.hazard_find.specs.hazard_base.declared.hazard.Hazard.{Hazard}
use Rattle.hazard_find.specs.hazard_base.declared.hazard_set.HazardSet.{HazardSet}
use Rattle.hazard_find.specs.hazard_base.HazardSets.{has}
use Rattle.hazard_find.specs.Columns.{added_json}
use Rattle.hazard_find.specs.Findings as findings
use Rattle.hazard_find.specs.Findings.{findings_of}
use Rattle.hazard_find.specs.Here.{known_at}
use Rattle.hazard_find.specs.Refused.{refused}
use Rattle.hazard_find.specs.Rewrites.{action_rewrites, rewrites}
use Rattle.hazard_ignore.specs.Covered as covered
use Rattle.hazard_ignore.specs.declared.covered.Named.{Named}
use Rattle.hazard_ignore.specs.HazardNames.{hazard_of, without_hazard_names}
use Rattle.squawk_linter.specs.lint_base.declared.rule.Rule.TheVariants as rule
use Rattle.squawk_linter.specs.lint_base.declared.settings.LinterSettings.{LinterSettings}
use Rattle.squawk_linter.specs.lint_base.declared.violation.Violation.{Violation}
use Rattle.squawk_linter.specs.lint_base.Fixes.{FixValue}
use Rattle.squawk_linter.specs.lint_base.RuleSets.{Rules}
use Rattle.squawk_linter.specs.lint_base.RuleSets as rule_sets
use Rattle.squawk_linter.specs.lint_ignore.declared.ignore.Ignore.{Ignore}
use Rattle.squawk_linter.specs.lint_ignore.Found.{found_in}
use Rattle.squawk_linter.proofs.of_lint_ignore.Places.{names_lie_in}
use Rattle.squawk_linter.specs.lint_ignore.Places.{IsPlace, NamesLie}
use Rattle.squawk_linter.specs.lint_pass.Laws.{AreEdits, IsRead}
use Rattle.squawk_linter.specs.lint_pass.PlaceLaws.{span_place}
use Rattle.squawk_linter.specs.lint_pass.RuleLaws.{flat_all, one_all, pieces_all}
use Rattle.squawk_linter.specs.lint_node.Parts.{new_constraints, table_actions}
use Rattle.squawk_linter.specs.lint_transaction.Transaction.{stmt_at}
use Rattle.fix_class.specs.lint_report.declared.fix_class.FixClass.{FixClass}
use Rattle.fix_class.specs.lint_report.declared.report.Report.{Report}
use Rattle.squawk_linter.specs.sql_token.declared.token.Span.{Span}
use Rattle.squawk_linter.specs.sql_tree.declared.nodes.Action.{Action}
use Rattle.squawk_linter.specs.sql_tree.declared.nodes.Constraint.{Constraint}
use Rattle.squawk_linter.specs.sql_tree.declared.nodes.Stmt.{Stmt}
use Rattle.squawk_linter.specs.sql_tree.Range.{stmt_range_of}
use Rattle.squawk_linter.specs.sql_tree.Statement.{Tree}
use Rattle.squawk_linter.proofs.Sorting.{by_key_all}
use Rattle.squawk_linter.specs.Answers.{reports}
use Rattle.squawk_linter.specs.ByStart.{by_key}
use Rattle.squawk_linter.specs.Placed.{IsPlaced}
use Rattle.fix_class.specs.statement_place.Statements.{is_within, part_in, statement_behind}
use Rattle.squawk_linter.specs.text_pos.Range.{Range}
use Rattle.text_reports.specs.Placed.{IsReportPlaced}
use Rattle.text_reports.specs.Reports.{all_reports, by_hazard, by_rule, offered, start_of, uncovered, unused, with_hazards}

-- ---- lists

flat_among : {X Y : Type 0} (P : Y → Type 0) (f : X → List Y) (xs : List X) → All (λ x. All P (f x)) xs → All P (flat_map f xs)
flat_among P f [] h = All-nil P
flat_among P f (x ∷ xs) h =
    All-append P (f x) (flat_map f xs) (All-head (λ y. All P (f y)) x xs h) (flat_among P f xs (All-tail (λ y. All P (f y)) x xs h))

-- ---- findings

abbrev OnPlace : Tree → Finding → Type 0
OnPlace tree f = IsPlace tree.text f.range

if_some : (P : Finding → Type 0) (holds : Bool) (f : Finding) → P f → IfSome (findings.some_if holds f) P
if_some P true f h = h
if_some P false f h = tt

mapped : {X : Type 0} (P : Finding → Type 0) (g : X → Finding) (o : Option X) → ((x : X) → P (g x)) → IfSome (option_map g o) P
mapped P g None h = tt
mapped P g (Some x) h = h x

mapped_if : {X : Type 0} (P : Finding → Type 0) (holds : Bool) (g : X → Finding) (o : Option X) → ((x : X) → P (g x)) → IfSome (cond holds (option_map g o) None) P
mapped_if P true g o h = mapped P g o h
mapped_if P false g o h = tt

enabled_placed : (P : Finding → Type 0) (enabled : HazardSet) (o : Option Finding) → IfSome o P → All P (findings.enabled_of enabled o)
enabled_placed P enabled None h = All-nil P
enabled_placed P enabled (Some f) h =
    elim (cases_Bool (has enabled f.hazard)) [
      | inl e ↦ rw e (one_all P f h)
      | inr e ↦ rw e (All-nil P)
    ]

statement_placed : (tree : Tree) → IsRead tree → (enabled : HazardSet) (settings : LinterSettings) (i : ℕ) (s : Stmt) → All (OnPlace tree) (findings.statement_findings enabled (known_at settings tree i) tree s)
unfolding findings.statement_findings findings.refused_finding findings.rewrite_finding findings.timeout_finding findings.kept_finding findings.refresh_finding findings.refused_in findings.rewritten findings.built_under_timeout findings.index_kept findings.refresh_blocks
statement_placed tree read enabled settings i s =
    let P : Finding → Type 0 = OnPlace tree in
    let known = known_at settings tree i in
    let r : Range = stmt_range_of tree.toks s in
    let place : IsPlace tree.text r = span_place tree read s.first s.last in
    All-append P _ _ (All-append P _ _ (All-append P _ _ (All-append P _ _
    (enabled_placed P enabled _ (mapped_if P (findings.in_transaction known) (findings.refused_in r) (refused tree s) (λ x. place)))
    (enabled_placed P enabled _ (mapped P (findings.rewritten r) (rewrites known s) (λ x. place))))
    (enabled_placed P enabled _ (if_some P _ _ place)))
    (enabled_placed P enabled _ (if_some P _ _ place)))
    (enabled_placed P enabled _ (if_some P _ _ place))

action_placed : (tree : Tree) → IsRead tree → (enabled : HazardSet) (settings : LinterSettings) (i : ℕ) (a : Action) → All (OnPlace tree) (findings.action_findings enabled (known_at settings tree i) tree a)
unfolding findings.action_findings findings.detach_finding findings.action_rewrite_finding findings.serial_finding findings.json_finding findings.check_findings findings.check_finding findings.refused_in findings.rewritten findings.serial_added findings.json_added findings.check_added
action_placed tree read enabled settings i a =
    let P : Finding → Type 0 = OnPlace tree in
    let known = known_at settings tree i in
    let r : Range = findings.action_range tree a in
    let place : IsPlace tree.text r = span_place tree read a.first a.last in
    All-append P _ _ (All-append P _ _ (All-append P _ _ (All-append P _ _
    (enabled_placed P enabled (findings.detach_finding known tree a) (if_some P _ _ place))
    (enabled_placed P enabled (findings.action_rewrite_finding known tree a) (mapped_if P known.is_old (findings.rewritten r) (action_rewrites tree a) (λ x. place))))
    (enabled_placed P enabled (findings.serial_finding known tree a) (if_some P _ _ place)))
    (enabled_placed P enabled (findings.json_finding known tree a)
    (mapped_if P known.is_old (findings.json_at tree) (added_json tree a) (λ (t : Span). span_place tree read t.first t.last))))
    (flat_all P (λ c. findings.enabled_of enabled (findings.check_finding known tree c)) (new_constraints a)
    (λ (c : Constraint). enabled_placed P enabled (findings.check_finding known tree c) (if_some P _ _ (span_place tree read c.first c.last))))

findings_placed : (tree : Tree) → IsRead tree → (enabled : HazardSet) (settings : LinterSettings) → All (OnPlace tree) (findings_of enabled settings tree)
unfolding findings.findings_by
findings_placed tree read enabled settings =
    let P : Finding → Type 0 = OnPlace tree in
    pieces_all P (findings.findings_at enabled settings tree) (length tree.stmts) (λ i.
    let s : Stmt = stmt_at tree i in
    All-append P _ _ (statement_placed tree read enabled settings i s)
    (flat_all P (findings.action_findings enabled (known_at settings tree i) tree) (table_actions s) (action_placed tree read enabled settings i)))

-- ---- names of hazards

abbrev NameOnPlace : Tree → Named → Type 0
NameOnPlace tree n = IsPlace tree.text n.range

named_by_placed : (tree : Tree) (g : Ignore) (v : Violation) → IsPlace tree.text v.text_range → (o : Option Hazard) → All (NameOnPlace tree) (covered.named_by tree.text g v o)
named_by_placed tree g v place None = All-nil (NameOnPlace tree)
named_by_placed tree g v place (Some h) = one_all (NameOnPlace tree) _ place

named_placed : (tree : Tree) (g : Ignore) (v : Violation) → IsPlace tree.text v.text_range → All (NameOnPlace tree) (covered.named_in tree.text g v)
unfolding covered.named_in
named_placed tree g v place =
    let P : Named → Type 0 = NameOnPlace tree in
    let by : (o : Option Hazard) → All P (covered.named_by tree.text g v o) = λ o. named_by_placed tree g v place o in
    elim (cases_Bool (covered.is_in g.range v.text_range)) [
      | inl e ↦ rw e (by (hazard_of v))
      | inr e ↦ rw e (All-nil P)
    ]

names_placed : (tree : Tree) → IsRead tree → All (NameOnPlace tree) (covered.named tree)
unfolding covered.names_in
names_placed tree read =
    let P : Named → Type 0 = NameOnPlace tree in
    let names : NamesLie tree = names_lie_in tree read.read read.utf8 in
    flat_all P (covered.names_in tree.text (found_in tree).reports) (found_in tree).ignores (λ g.
    flat_among P (covered.named_in tree.text g) (found_in tree).reports
    (All-weaker (λ v. IsPlace tree.text v.text_range) (λ v. All P (covered.named_in tree.text g v)) (named_placed tree g) (found_in tree).reports names.unknown))

unused_name_placed : (tree : Tree) (found : List Finding) (enabled : HazardSet) (n : Named) → NameOnPlace tree n → All (IsPlaced tree.text) (covered.unused_name tree.text found enabled n)
unfolding covered.unused_name
unused_name_placed tree found enabled n place =
    let P : Violation → Type 0 = IsPlaced tree.text in
    elim (cases_Bool (has enabled n.hazard && not (covered.is_used tree.text found n))) [
      | inl e ↦ rw e (one_all P _ (record { range = place; edits = tt }))
      | inr e ↦ rw e (All-nil P)
    ]

unused_names_placed : (tree : Tree) → IsRead tree → (found : List Finding) (enabled : HazardSet) → All (IsPlaced tree.text) (covered.unused_names tree found enabled)
unused_names_placed tree read found enabled =
    let P : Violation → Type 0 = IsPlaced tree.text in
    elim (cases_Bool (covered.is_bare tree)) [
      | inl e ↦ rw e (All-nil P)
      | inr e ↦ rw e (flat_among P (covered.unused_name tree.text found enabled) (covered.named tree)
          (All-weaker (NameOnPlace tree) (λ n. All P (covered.unused_name tree.text found enabled n)) (unused_name_placed tree found enabled) (covered.named tree) (names_placed tree read)))
    ]

unused_placed : (tree : Tree) → IsRead tree → (rules : Rules) (enabled : HazardSet) (found : List Finding) → All (IsPlaced tree.text) (unused tree rules enabled found)
unfolding unused
unused_placed tree read rules enabled found =
    let P : Violation → Type 0 = IsPlaced tree.text in
    elim (cases_Bool (rule_sets.has rules rule.UnusedIgnore)) [
      | inl e ↦ rw e (unused_names_placed tree read found enabled)
      | inr e ↦ rw e (All-nil P)
    ]

-- ---- reports

part_placed : (tree : Tree) → IsRead tree → (o : Option Stmt) (range : Range) → IsPlace tree.text range → IsPlace tree.text (part_in tree o range)
unfolding part_in
part_placed tree read None range place = place
part_placed tree read (Some s) range place =
    elim (cases_Bool (is_within (stmt_range_of tree.toks s) range)) [
      | inl e ↦ rw e (span_place tree read s.first s.last)
      | inr e ↦ rw e place
    ]

edits_kept : (text : List ℕ) (class : Option FixClass) (o : Option FixValue) → IfSome o (λ f. AreEdits text f.edits) → IfSome (offered class o) (λ f. AreEdits text f.fix.edits)
edits_kept text None o h = tt
edits_kept text (Some class) None h = tt
edits_kept text (Some class) (Some f) h = h

rule_placed : (settings : LinterSettings) (tree : Tree) → IsRead tree → (v : Violation) → IsPlaced tree.text v → IsReportPlaced tree.text (by_rule settings tree v)
unfolding by_rule
rule_placed settings tree read v placed = record {
  range = placed.range;
  statement = part_placed tree read (statement_behind tree v.text_range.start) v.text_range placed.range;
  edits = edits_kept tree.text (class_of settings tree v) v.fix placed.edits;
}

hazard_placed : (tree : Tree) → IsRead tree → (f : Finding) → OnPlace tree f → IsReportPlaced tree.text (by_hazard tree f)
unfolding by_hazard
hazard_placed tree read f place = record {
  range = place;
  statement = part_placed tree read (statement_behind tree f.range.start) f.range place;
  edits = tt;
}

rules_placed : (settings : LinterSettings) (tree : Tree) → IsRead tree → (vs : List Violation) → All (IsPlaced tree.text) vs → All (IsReportPlaced tree.text) (map (by_rule settings tree) vs)
rules_placed settings tree read vs placed =
    All-map (IsReportPlaced tree.text) (by_rule settings tree) vs
    (All-weaker (IsPlaced tree.text) (λ v. IsReportPlaced tree.text (by_rule settings tree v)) (rule_placed settings tree read) vs placed)

-- all reports before they are sorted
pub gathered_placed : (tree : Tree) (rules : Rules) (enabled : HazardSet) (settings : LinterSettings) (vs : List Violation) → IsRead tree → All (IsPlaced tree.text) vs
    → All (IsReportPlaced tree.text) (with_hazards settings tree rules enabled vs (findings_of enabled settings tree))
gathered_placed tree rules enabled settings vs read placed =
    let P : Report → Type 0 = IsReportPlaced tree.text in
    let found : List Finding = findings_of enabled settings tree in
    All-append P _ _ (All-append P _ _
    (rules_placed settings tree read (without_hazard_names vs) (All-filter (λ v. is_none (hazard_of v)) (IsPlaced tree.text) vs placed))
    (rules_placed settings tree read (unused tree rules enabled found) (unused_placed tree read rules enabled found)))
    (All-map P (by_hazard tree) (uncovered tree found)
    (All-weaker (OnPlace tree) (λ f. P (by_hazard tree f)) (hazard_placed tree read) (uncovered tree found)
    (All-filter (λ f. not (covered.is_covered tree f)) (OnPlace tree) found (findings_placed tree read enabled settings))))

-- they start in the text
all_start : (text : List ℕ) (list : List Report) → All (IsReportPlaced text) list → All (λ v. start_of v < length text + 1) list
all_start text list placed =
    All-weaker (IsReportPlaced text) (λ v. start_of v < length text + 1) (λ v h. let within = h.range.start.0 in omega arith) list placed

-- What was found and sorted by start is all that is reported, and it is at places of the text.
pub sorted_all : (tree : Tree) (rules : Rules) (hazards : HazardSet) (settings : LinterSettings) (found_by_rules : List Violation) (found : List Finding) (list sorted : List Report)
    → IsRead tree → found_by_rules ≡ reports tree rules settings → All (IsPlaced tree.text) found_by_rules → found ≡ findings_of hazards settings tree
    → list ≡ with_hazards settings tree rules hazards found_by_rules found
    → ((n : ℕ) → All (λ v. start_of v < n) list → sorted ≡ by_key start_of n list)
    → (sorted ≡ all_reports tree rules hazards settings) × All (IsReportPlaced tree.text) sorted
sorted_all tree rules hazards settings by_rules found list sorted read is placed finds gathered sorts =
    let P : Report → Type 0 = IsReportPlaced tree.text in
    let all : List Report = with_hazards settings tree rules hazards by_rules (findings_of hazards settings tree) in
    let same : list ≡ all = rw finds at gathered in
    let each : All P list = subst (λ xs. All P xs) (sym same) (gathered_placed tree rules hazards settings by_rules read placed) in
    let n : ℕ = length tree.text + 1 in
    let by : sorted ≡ by_key start_of n list = sorts n (all_start tree.text list each) in (
      by ∙ ap (λ xs. by_key start_of n xs) (same ∙ ap (λ vs. with_hazards settings tree rules hazards vs (findings_of hazards settings tree)) is),
      subst (λ xs. All P xs) (sym by) (by_key_all P start_of n list each),
    )
