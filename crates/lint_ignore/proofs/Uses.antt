-- What an index of reports knows is what some reports use.
use Rattle.std.proofs.Common.{◌≡◌, ℕ, ◌+◌, ◌<◌, Bool, true, false, List, [], ◌∷◌, ◌++◌, length, get_or, take, refl, sym, ◌∙◌, ap, subst, inl, inr, arith}
use Rattle.std.proofs.lemmas.Bool.{cases_Bool}
use Rattle.std.proofs.lemmas.Bool.Decides.{nat_tests}
use Rattle.std.proofs.lemmas.List.{take_more}
use Rattle.std.proofs.lemmas.List.Folds.{list_any-append}
use Rattle.std.specs.List.{list_any}
use Rattle.std.specs.Prelude.{◌==◌, ◌&&◌, ◌||◌}
use Rattle.sql_tree.specs.text_pos.Line.{line_of}
use Rattle.sql_tree.specs.sql_token.Token.{Text}
use Rattle.lint_base.specs.declared.rule.Rule.{Rule}
use Rattle.lint_base.specs.declared.violation.Violation.{Violation}
use Rattle.lint_base.specs.Rules.{all_rules, number_of}
use Rattle.lint_base.specs.RuleSets.{Rules, has}
use Rattle.lint_ignore.specs.declared.ignore.Ignore.{Ignore}
use Rattle.lint_ignore.specs.declared.ignore.IgnoreKind.TheVariants.{File, Line}
use Rattle.lint_ignore.specs.declared.reported.ReportIndex.{ReportIndex}
use Rattle.lint_ignore.specs.Covered.{line_of_ignore}
use Rattle.lint_ignore.specs.Lines.{at_line, is_among}
use Rattle.lint_ignore.specs.Reported.{AddsReport, IsReportIndex, anywhere, reports_rule, starts_on}
use Rattle.lint_ignore.specs.Unused.{is_used, meets, reaches_by}
use Rattle.lint_base.proofs.RuleSets.{rule_from_number}
use Rattle.lint_ignore.proofs.RuleNumbers.{in_all_rules}

-- ---- one more report

or-false : (b : Bool) → (b || false) ≡ b
or-false true = refl
or-false false = refl

any_more : (p : Violation → Bool) (vs : List Violation) (v : Violation) → list_any p (vs ++ v ∷ []) ≡ (list_any p vs || p v)
any_more p vs v = list_any-append p vs (v ∷ []) ∙ ap (λ (b : Bool). list_any p vs || b) (or-false (p v))

grow : (p : Violation → Bool) (vs : List Violation) (v : Violation) (old new : Bool) → old ≡ list_any p vs → new ≡ (old || p v) → new ≡ list_any p (vs ++ v ∷ [])
grow p vs v old new e more = more ∙ (ap (λ (b : Bool). b || p v) e ∙ sym (any_more p vs v))

report_more : (old new : ReportIndex) (text : Text) (vs : List Violation) (v : Violation) → IsReportIndex old text vs → AddsReport old new v → IsReportIndex new text (vs ++ v ∷ [])
report_more old new text vs v h adds = record {
  lines = adds.lines ∙ h.lines;
  rules = λ rule. grow (reports_rule anywhere rule) vs v (has old.rules rule) (has new.rules rule) (h.rules rule) (adds.rules rule);
  by_line =
      λ line rule. grow (reports_rule (starts_on text line) rule) vs v (is_among (at_line old.by_line line) rule) (is_among (at_line new.by_line line) rule) (h.by_line line rule) (adds.by_line text h.lines line rule);
}

pub index_goes_on : (old new : ReportIndex) (text : Text) (vs : List Violation) (i : ℕ) (v : Violation) → IsReportIndex old text (take i vs) → i < length vs → v ≡ get_or vs i v → AddsReport old new v → IsReportIndex new text (take (i + 1) vs)
index_goes_on old new text vs i v h lt is adds =
    let P : List Violation → Type 0 = λ xs. IsReportIndex new text xs in
    let Q : Violation → Type 0 = λ x. AddsReport old new x in
    subst P (sym (take_more vs i v lt)) (report_more old new text (take i vs) (get_or vs i v) h (subst Q is adds))

-- ---- what it knows

any_or : {X : Type 0} (p q : X → Bool) (xs : List X) → list_any (λ x. p x || q x) xs ≡ (list_any p xs || list_any q xs)
any_or p q [] = refl
any_or p q (x ∷ xs) = ap (λ (b : Bool). (p x || q x) || b) (any_or p q xs) ∙ regroup (p x) (q x) (list_any p xs) (list_any q xs)
  where
    regroup : (a b c d : Bool) → ((a || b) || (c || d)) ≡ ((a || c) || (b || d))
    regroup true b c d = refl
    regroup false true true d = refl
    regroup false true false d = refl
    regroup false false c d = refl

any_and : {X : Type 0} (b : Bool) (p : X → Bool) (xs : List X) → list_any (λ x. b && p x) xs ≡ (b && list_any p xs)
any_and true p xs = refl
any_and false p [] = refl
any_and false p (x ∷ xs) = any_and false p xs

and-false : (b : Bool) → (b && false) ≡ false
and-false true = refl
and-false false = refl

any_false : {X : Type 0} (p : X → Bool) (xs : List X) → list_any (λ x. p x && false) xs ≡ false
any_false p [] = refl
any_false p (x ∷ xs) = ap (λ (b : Bool). b || list_any (λ y. p y && false) xs) (and-false (p x)) ∙ any_false p xs

-- a rule of a set is the rule of a report exactly where the set has the report's rule
one_rule : (set : Rules) (b : Bool) (q r : Rule) → (has set r && (b && number_of r == number_of q)) ≡ ((b && has set q) && number_of q == number_of r)
one_rule set b q r = elim (cases_Bool (number_of q == number_of r)) [ inl e ↦ same e | inr e ↦ differ e ]
  where
    equal : (m n : ℕ) → (m == n) ≡ true → m ≡ n
    equal m n e = grind (arith, nat_tests)

    turned : (m n : ℕ) → (m == n) ≡ (n == m)
    turned m n = grind (arith, nat_tests)

    swapped : (a b : Bool) → (a && (b && true)) ≡ ((b && a) && true)
    swapped true true = refl
    swapped true false = refl
    swapped false true = refl
    swapped false false = refl

    none : (a b : Bool) → (a && (b && false)) ≡ ((b && a) && false)
    none true true = refl
    none true false = refl
    none false true = refl
    none false false = refl

    same : (number_of q == number_of r) ≡ true → (has set r && (b && number_of r == number_of q)) ≡ ((b && has set q) && number_of q == number_of r)
    same e =
        let is : q ≡ r = rule_from_number q r (equal (number_of q) (number_of r) e) in
        let first : (number_of r == number_of q) ≡ true = turned (number_of r) (number_of q) ∙ e in
        (λ i. has set r && (b && first i))
        ∙ (ap (λ (x : Rule). has set x && (b && true)) (sym is) ∙ (swapped (has set q) b ∙ ap (λ (c : Bool). (b && has set q) && c) (sym e)))

    differ : (number_of q == number_of r) ≡ false → (has set r && (b && number_of r == number_of q)) ≡ ((b && has set q) && number_of q == number_of r)
    differ e =
        let first : (number_of r == number_of q) ≡ false = turned (number_of r) (number_of q) ∙ e in
        (λ i. has set r && (b && first i)) ∙ (none (has set r) b ∙ none_right e)
      where
        none_right : (number_of q == number_of r) ≡ false → ((b && has set r) && false) ≡ ((b && has set q) && number_of q == number_of r)
        none_right e = and-false (b && has set r) ∙ (sym (and-false (b && has set q)) ∙ ap (λ (c : Bool). (b && has set q) && c) (sym e))

and-true : (b : Bool) → (b && true) ≡ b
and-true true = refl
and-true false = refl

-- the same over all rules
all_rules_one : (set : Rules) (b : Bool) (q : Rule) → list_any (λ r. has set r && (b && number_of r == number_of q)) all_rules ≡ (b && has set q)
all_rules_one set b q =
    (λ i. list_any (λ r. one_rule set b q r i) all_rules)
    ∙ (any_and (b && has set q) (λ r. number_of q == number_of r) all_rules ∙ (ap (λ (c : Bool). (b && has set q) && c) (in_all_rules q) ∙ and-true (b && has set q)))

and_or : (a b c : Bool) → (a && (b || c)) ≡ ((a && b) || (a && c))
and_or true b c = refl
and_or false b c = refl

-- a rule of a set is that of a report that passes exactly where the set has the rule of a report that passes
rules_reported : (set : Rules) (p : Violation → Bool) (vs : List Violation) → list_any (λ r. has set r && list_any (reports_rule p r) vs) all_rules ≡ list_any (λ v. p v && has set v.code) vs
rules_reported set p [] = any_false (λ r. has set r) all_rules
rules_reported set p (v ∷ vs) =
    (λ i. list_any (λ r. and_or (has set r) (reports_rule p r v) (list_any (reports_rule p r) vs) i) all_rules)
    ∙ (any_or (λ r. has set r && reports_rule p r v) (λ r. has set r && list_any (reports_rule p r) vs) all_rules
    ∙ (λ i. all_rules_one set (p v) v.code i || rules_reported set p vs i))

-- the same for a set of which it is known which rules are reported
pub meets_reported : (set known : Rules) (p : Violation → Bool) (vs : List Violation) → ((r : Rule) → has known r ≡ list_any (reports_rule p r) vs) → meets set known ≡ list_any (λ v. p v && has set v.code) vs
meets_reported set known p vs h = (λ i. list_any (λ r. has set r && h r i) all_rules) ∙ rules_reported set p vs

-- the report starts on one of two lines
or_and : (a b c : Bool) → ((a || b) && c) ≡ ((a && c) || (b && c))
or_and true b true = refl
or_and true true false = refl
or_and true false false = refl
or_and false b c = refl

on_two_lines : (text : Text) (set : Rules) (line : ℕ) (vs : List Violation) → (list_any (λ v. starts_on text line v && has set v.code) vs || list_any (λ v. starts_on text (line + 1) v && has set v.code) vs)
    ≡ list_any (λ v. (line_of text v.text_range.start == line || line_of text v.text_range.start == line + 1) && has set v.code) vs
on_two_lines text set line vs =
    sym (any_or (λ v. starts_on text line v && has set v.code) (λ v. starts_on text (line + 1) v && has set v.code) vs)
    ∙ (λ i. list_any (λ v. sym (or_and (starts_on text line v) (starts_on text (line + 1) v) (has set v.code)) i) vs)

-- a file ignore
pub used_by_file : (index : ReportIndex) (text : Text) (g : Ignore) (set : Rules) (vs : List Violation) → g.kind ≡ File → IsReportIndex index text vs → meets set index.rules ≡ is_used text g set vs
used_by_file index text g set vs kind h =
    meets_reported set index.rules anywhere vs h.rules ∙ (λ i. list_any (λ v. reaches_by (sym kind i) text g (line_of text v.text_range.start) && has set v.code) vs)

-- a line ignore
pub used_by_line : (index : ReportIndex) (text : Text) (g : Ignore) (set here next : Rules) (vs : List Violation) (line : ℕ) → g.kind ≡ Line → IsReportIndex index text vs → line ≡ line_of_ignore text g
    → ((r : Rule) → has here r ≡ is_among (at_line index.by_line line) r)
    → ((r : Rule) → has next r ≡ is_among (at_line index.by_line (line + 1)) r)
    → (meets set here || meets set next) ≡ is_used text g set vs
used_by_line index text g set here next vs line kind h place first second =
    (λ i. meets_reported set here (starts_on text line) vs (λ r. first r ∙ h.by_line line r) i || meets_reported set next (starts_on text (line + 1)) vs (λ r. second r ∙ h.by_line (line + 1) r) i)
    ∙ (on_two_lines text set line vs
    ∙ ((λ i. list_any (λ v. (line_of text v.text_range.start == place i || line_of text v.text_range.start == place i + 1) && has set v.code) vs)
    ∙ (λ i. list_any (λ v. reaches_by (sym kind i) text g (line_of text v.text_range.start) && has set v.code) vs)))
