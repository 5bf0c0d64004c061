-- What the reports of an answer are made of.
use Rattle.std.proofs.Common.{◌≡◌, ℕ, ◌+◌, ◌<◌, Bool, true, false, List, [], ◌∷◌, ◌++◌, length, refl, sym, ap, subst, ◌∙◌, arith, Option, Some, None, IfSome}
use Rattle.std.proofs.lemmas.List.{append-nil, nil_from_length}
use Rattle.std.proofs.lemmas.List.Elements.{All-append, All-cons, All-filter, All-map, All-nil, All-weaker}
use Rattle.std.specs.List.{flat_map}
use Rattle.std.specs.Prelude.{All, ◌&&◌, filter, not, if◌then◌else◌}
use Rattle.std.specs.Str.{IsUtf8}
use Rattle.sql_read.specs.sql_tree.Statement.{Tree, IsTree}
use Rattle.sql_read.specs.text_pos.Range.{Range}
use Rattle.fix_edit.specs.lint_base.declared.rule.Rule.{Rule}
use Rattle.fix_edit.specs.lint_base.declared.rule.Rule.TheVariants as rule
use Rattle.fix_edit.specs.lint_base.declared.violation.Violation.{Violation}
use Rattle.fix_edit.specs.lint_base.Fixes.{FixValue}
use Rattle.fix_edit.specs.lint_base.RuleNames.{rule_named}
use Rattle.fix_edit.specs.lint_base.RuleSets.{Rules, has}
use Rattle.fix_edit.specs.lint_base.Violations.{violation}
use Rattle.fix_edit.specs.lint_ignore.declared.ignore.Ignore.{Ignore}
use Rattle.fix_edit.specs.lint_ignore.declared.ignore.IgnoreKind.{IgnoreKind}
use Rattle.fix_edit.specs.lint_ignore.declared.ignore.IgnorePiece.{IgnorePiece}
use Rattle.fix_edit.specs.lint_ignore.Part.{Part, range_of}
use Rattle.fix_edit.specs.lint_ignore.Found.{Lists, all_said, followed_by, found_from, found_in, ignore_comments, nothing, said}
use Rattle.fix_edit.specs.lint_ignore.Names.{names_in, unknown_by, unknown_message, unknown_name}
use Rattle.fix_edit.specs.lint_ignore.Places.{IsPlace, NamesLie}
use Rattle.fix_edit.specs.lint_ignore.Unused.{counting, is_unused, unused_among, unused_name, unused_names}
use Rattle.fix_edit.proofs.of_lint_ignore.Places.{names_lie_in}
use Rattle.fix_edit.specs.lint_pass.Laws.{AreEdits}
use Rattle.fix_edit.specs.lint_pass.Ranges.{AllLieIn, LiesIn}
use Rattle.squawk_linter.proofs.Sorting.{by_key_all}
use Rattle.squawk_linter.specs.Placed.{IsPlaced}
use Rattle.squawk_linter.specs.Reports.{gathered, has_bare_file_ignore, is_left, reports_from, start_of, unused_of, with_unknown_names}

-- ---- without ignore comments

filter_true : {X : Type 0} (xs : List X) → filter (λ _. true) xs ≡ xs
filter_true [] = refl
filter_true (x ∷ xs) = ap (λ ys. x ∷ ys) (filter_true xs)

either_nothing : {X : Type 0} (b : Bool) (xs : List X) → xs ≡ [] → (if b then xs else []) ≡ []
either_nothing true xs e = e
either_nothing false xs e = refl

no_comments : (number : ℕ) (cs : List (Part × IgnoreKind)) → (all_said number cs).ignores ≡ [] → all_said number cs ≡ nothing
no_comments number [] e = refl
no_comments number (c ∷ cs) e = absurd (cc)

-- nothing is covered, and no name covers nothing
pub gathered_plain : (tree : Tree) (all : List Violation) (rules : Rules) → found_in tree ≡ nothing → gathered tree all rules ≡ all
gathered_plain tree all rules none =
    let unused : unused_names tree all rules ≡ [] = λ i. unused_among tree.text (none i).ignores all (counting rules) (none i).pieces in
    let kept : filter (is_left tree.text (found_in tree).ignores) all ≡ all = (λ i. filter (is_left tree.text (none i).ignores) all) ∙ filter_true all in
    (λ i. kept i ++ unused_of tree all rules)
    ∙ (ap (λ (vs : List Violation). all ++ vs) (either_nothing (has rules rule.UnusedIgnore && not (has_bare_file_ignore (found_in tree).ignores)) (unused_names tree all rules) unused) ∙ append-nil all)

-- what was found before any ignore comment, and then all ignore comments of a text that has none
pub gathered_none : (tree : Tree) (x : List Violation) (rules : Rules) (old now : Lists) → old.reports ≡ x → old.ignores ≡ [] → now ≡ followed_by old (found_from (length old.ignores) tree) → length now.ignores ≡ 0
    → now.reports ≡ gathered tree (with_unknown_names tree x) rules
gathered_none tree x rules old now reports ignores more empty =
    let number : found_from (length old.ignores) tree ≡ found_in tree = ap (λ (gs : List Ignore). found_from (length gs) tree) ignores in
    let whole : now ≡ followed_by old (found_in tree) = more ∙ ap (λ (l : Lists). followed_by old l) number in
    let same : now.ignores ≡ (found_in tree).ignores = ap (λ (l : Lists). l.ignores) whole ∙ ap (λ (gs : List Ignore). gs ++ (found_in tree).ignores) ignores in
    let none : found_in tree ≡ nothing = no_comments 0 (ignore_comments tree.text tree.toks) (sym same ∙ nil_from_length now.ignores empty) in
    let all : now.reports ≡ with_unknown_names tree x = ap (λ (l : Lists). l.reports) whole ∙ ap (λ (vs : List Violation). vs ++ (found_in tree).reports) reports in
    all ∙ sym (gathered_plain tree (with_unknown_names tree x) rules none)

-- ---- where reports are there

-- the range of a report passes
abbrev pub OnRange : (Range → Type 0) → Violation → Type 0
OnRange P v = P v.text_range

-- What holds of the ranges of some reports, and of those of the names in ignore comments, holds of the answer's.
pub gathered_all : (P : Range → Type 0) (tree : Tree) (x : List Violation) (rules : Rules) → All (OnRange P) x → All (OnRange P) (found_in tree).reports → All (λ piece. P piece.range) (found_in tree).pieces
    → All (OnRange P) (gathered tree (with_unknown_names tree x) rules)
gathered_all P tree x rules given unknown known =
    let all : List Violation = with_unknown_names tree x in
    let every : All (OnRange P) all = All-append (OnRange P) x (found_in tree).reports given unknown in
    All-append (OnRange P) (filter (is_left tree.text (found_in tree).ignores) all) (unused_of tree all rules) (All-filter (is_left tree.text (found_in tree).ignores) (OnRange P) all every) (wanted (has rules rule.UnusedIgnore && not (has_bare_file_ignore (found_in tree).ignores)))
  where
    unused : All (OnRange P) (unused_names tree (with_unknown_names tree x) rules)
    unused =
        All-map (OnRange P) (unused_name tree.text) (filter (is_unused tree.text (found_in tree).ignores (with_unknown_names tree x) (counting rules)) (found_in tree).pieces)
        (All-filter (is_unused tree.text (found_in tree).ignores (with_unknown_names tree x) (counting rules)) (λ piece. P piece.range) (found_in tree).pieces known)

    wanted : (b : Bool) → All (OnRange P) (if b then unused_names tree (with_unknown_names tree x) rules else [])
    wanted true = unused
    wanted false = All-nil (OnRange P)

-- the answer's reports start in the text
pub gathered_within : (tree : Tree) (x : List Violation) (rules : Rules) → IsTree tree → IsUtf8 tree.text → AllLieIn tree x → All (λ v. start_of v < length tree.text + 1) (gathered tree (with_unknown_names tree x) rules)
gathered_within tree x rules is utf8 lie =
    let names : NamesLie tree = names_lie_in tree is utf8 in
    let P : Range → Type 0 = λ r. r.start < length tree.text + 1 in
    let near : (v : Violation) → LiesIn tree v → OnRange P v = λ v h. let forward = h.ordered in let within = h.within in omega arith in
    let placed : (v : Violation) → IsPlace tree.text v.text_range → OnRange P v = λ v h. let within = h.start.0 in omega arith in
    let piece : (p : IgnorePiece) → IsPlace tree.text p.range → P p.range = λ p h. let within = h.start.0 in omega arith in
    gathered_all P tree x rules (All-weaker (LiesIn tree) (OnRange P) near x lie)
    (All-weaker (λ v. IsPlace tree.text v.text_range) (OnRange P) placed (found_in tree).reports names.unknown)
    (All-weaker (λ p. IsPlace tree.text p.range) (λ p. P p.range) piece (found_in tree).pieces names.known)

-- ---- what holds of each report of an answer

-- a report on a name in an ignore comment
pub record IsBare (v : Violation) : Type 0 where
  pub code : v.code ≡ rule.UnusedIgnore
  pub plain : v.fix ≡ None

unknown_bare : (o : Option Rule) (name : Part) → All IsBare (unknown_by o name)
unknown_bare None name = All-cons IsBare (violation rule.UnusedIgnore (unknown_message name.bytes) (range_of name)) [] (record { code = refl; plain = refl }) (All-nil IsBare)
unknown_bare (Some r) name = All-nil IsBare

names_bare : (names : List Part) → All IsBare (flat_map unknown_name names)
names_bare [] = All-nil IsBare
names_bare (name ∷ names) = All-append IsBare (unknown_name name) (flat_map unknown_name names) (unknown_bare (rule_named name.bytes) name) (names_bare names)

comments_bare : (number : ℕ) (cs : List (Part × IgnoreKind)) → All IsBare (all_said number cs).reports
comments_bare number [] = All-nil IsBare
comments_bare number (c ∷ cs) =
    All-append IsBare (said number c).reports (all_said (number + 1) cs).reports (names_bare (names_in c.0)) (comments_bare (number + 1) cs)

-- those of unknown names
pub found_bare : (tree : Tree) → All IsBare (found_in tree).reports
found_bare tree = comments_bare 0 (ignore_comments tree.text tree.toks)

-- and those of unused names
pub unused_bare : (tree : Tree) (all : List Violation) (rules : Rules) → All IsBare (unused_names tree all rules)
unused_bare tree all rules =
    All-map IsBare (unused_name tree.text) (filter (is_unused tree.text (found_in tree).ignores all (counting rules)) (found_in tree).pieces)
    (λ k d low. record { code = refl; plain = refl })

-- What holds of some reports, of unknown names and of unused ones holds of the answer's.
pub answer_all : (P : Violation → Type 0) (tree : Tree) (x : List Violation) (rules : Rules) → All P x → All P (found_in tree).reports → All P (unused_names tree (with_unknown_names tree x) rules) → All P (reports_from tree x rules)
unfolding reports_from
answer_all P tree x rules given unknown unused =
    let all : List Violation = with_unknown_names tree x in
    let kept : All P (filter (is_left tree.text (found_in tree).ignores) all) = All-filter (is_left tree.text (found_in tree).ignores) P all (All-append P x (found_in tree).reports given unknown) in
    by_key_all P start_of (length tree.text + 1) (gathered tree all rules)
    (All-append P (filter (is_left tree.text (found_in tree).ignores) all) (unused_of tree all rules) kept (wanted (has rules rule.UnusedIgnore && not (has_bare_file_ignore (found_in tree).ignores))))
  where
    wanted : (b : Bool) → All P (if b then unused_names tree (with_unknown_names tree x) rules else [])
    wanted true = unused
    wanted false = All-nil P

-- the same where it holds of each report on a name
pub answer_each : (P : Violation → Type 0) (tree : Tree) (x : List Violation) (rules : Rules) → All P x → ((v : Violation) → IsBare v → P v) → All P (reports_from tree x rules)
answer_each P tree x rules given bare =
    answer_all P tree x rules given (All-weaker IsBare P bare (found_in tree).reports (found_bare tree))
    (All-weaker IsBare P bare (unused_names tree (with_unknown_names tree x) rules) (unused_bare tree (with_unknown_names tree x) rules))

without_edits : (text : List ℕ) (v : Violation) → IsBare v → IfSome v.fix (λ f. AreEdits text f.edits)
without_edits text v bare = subst (λ o. IfSome o (λ (f : FixValue). AreEdits text f.edits)) (sym bare.plain) tt

-- the answer's reports and the edits of their fixes are at places of the text
pub answer_placed : (tree : Tree) (x : List Violation) (rules : Rules) → IsTree tree → IsUtf8 tree.text → All (IsPlaced tree.text) x → All (IsPlaced tree.text) (reports_from tree x rules)
answer_placed tree x rules is utf8 placed =
    let names : NamesLie tree = names_lie_in tree is utf8 in
    let all : List Violation = with_unknown_names tree x in
    let unused : All (λ v. IsPlace tree.text v.text_range) (unused_names tree all rules) =
    All-map (λ v. IsPlace tree.text v.text_range) (unused_name tree.text) (filter (is_unused tree.text (found_in tree).ignores all (counting rules)) (found_in tree).pieces)
    (All-filter (is_unused tree.text (found_in tree).ignores all (counting rules)) (λ piece. IsPlace tree.text piece.range) (found_in tree).pieces names.known) in
    answer_all (IsPlaced tree.text) tree x rules placed
    (λ k d low. record { range = names.unknown k d low; edits = without_edits tree.text _ (found_bare tree k d low) })
    (λ k d low. record { range = unused k d low; edits = without_edits tree.text _ (unused_bare tree all rules k d low) })
