-- What is written after the findings: lines that count them, if anything.
use Rattle.std.proofs.Common.{◌≡◌, ◌∙◌, ℕ, ◌+◌, ◌<◌, ◌≤◌, ◌^◌, false, List, [], ◌∷◌, ◌++◌, All, ap, append-nil, append_assoc, arith, fold, get_or, refl, subst, sym}
use Rattle.std.specs.Fmt.{decimal}
use Rattle.std.specs.List.{flat_map}
use Rattle.std.specs.Prelude.{◌==◌}
use Rattle.std.proofs.lemmas.Bool.{cond_both}
use Rattle.std.proofs.lemmas.List.Elements.{All-head}
use Rattle.check_print.specs.hazard_base.Hazards.{all_hazards}
use Rattle.check_print.specs.lint_base.Rules.{all_rules}
use Rattle.check_print.specs.lint_report.declared.code.Code.{Code}
use Rattle.check_print.specs.lint_report.declared.code.Code.TheVariants as code
use Rattle.check_print.specs.lint_report.Codes.{name_of}
use Rattle.check_print.specs.checked_file.declared.checked.Checked.{Checked}
use Rattle.check_print.specs.declared.style.Style.{Style}
use Rattle.check_print.specs.Counted.{capped}
use Rattle.check_print.specs.Printed.{statistics}
use Rattle.check_print.specs.Statistics.{code_line, code_lines, count_in, count_of, hazard_line, rule_line}
use Rattle.law_printed_lines.proofs.Decimals.{decimal_free}
use Rattle.law_printed_lines.proofs.Marks.{blank_unmarked, line_marked, plain_unmarked}
use Rattle.law_printed_lines.proofs.Names.{code_name, name_free}

-- ---- a count is a machine word

fold_low : {X : Type 0} (g : ℕ → X → ℕ) → ((n : ℕ) (x : X) → g n x < 2 ^ 64) → (n : ℕ) → n < 2 ^ 64 → (xs : List X) → fold g n xs < 2 ^ 64
fold_low g low n h [] = h
fold_low g low n h (x ∷ xs) = fold_low g low (g n x) (low n x) xs

capped_low : (n : ℕ) → capped n < 2 ^ 64
capped_low n = omega arith

count_low : (c : Code) (files : List Checked) → count_of c files < 2 ^ 64
count_low c files = fold_low (λ n file. capped (n + count_in c file.answer)) (λ n file. capped_low (n + count_in c file.answer)) 0 (omega arith) files

-- ---- what holds of nothing, and of a line and what it holds of, holds of all of it

abbrev pub Grows : (List ℕ → Type 0) → Type 0
Grows Q = (c : Code) (n : ℕ) (rest : List ℕ) → n < 2 ^ 64 → Q rest → Q (code_line c n ++ rest)

flat_holds : {X : Type 0} (Q : List ℕ → Type 0) (f : X → List ℕ) → ((x : X) (rest : List ℕ) → Q rest → Q (f x ++ rest)) → (xs : List X) (rest : List ℕ) → Q rest
    → Q (flat_map f xs ++ rest)
flat_holds Q f one [] rest h = h
flat_holds Q f one (x ∷ xs) rest h = subst Q (sym (append_assoc (f x) (flat_map f xs) rest)) (one x (flat_map f xs ++ rest) (flat_holds Q f one xs rest h))

lines_hold : (Q : List ℕ → Type 0) → Q [] → Grows Q → (files : List Checked) → Q (code_lines files)
unfolding code_lines
lines_hold Q none grows files =
    let last : Q (flat_map (hazard_line files) all_hazards ++ []) =
    flat_holds Q (hazard_line files) (λ h rest q. grows (code.Hazard h) (count_of (code.Hazard h) files) rest (count_low (code.Hazard h) files) q) all_hazards [] none in
    flat_holds Q (rule_line files) (λ r rest q. grows (code.Rule r) (count_of (code.Rule r) files) rest (count_low (code.Rule r) files) q) all_rules _
    (subst Q (append-nil (flat_map (hazard_line files) all_hazards)) last)

pub statistics_hold : (Q : List ℕ → Type 0) → Q [] → Grows Q → (style : Style) (files : List Checked) → Q (statistics style files)
unfolding statistics
statistics_hold Q none grows style files = cond_both style.statistics _ _ Q (λ _. lines_hold Q none grows files) (λ _. none)

-- ---- no line looks like that of a finding

pub regroup : (name count rest : List ℕ) → (((name ++ 58 ∷ 32 ∷ []) ++ count) ++ 10 ∷ []) ++ rest ≡ name ++ 58 ∷ 32 ∷ (count ++ 10 ∷ rest)
regroup name count rest = simp append_assoc

line_unmarked : Grows (λ l. line_marked l ≡ false)
unfolding code_line
line_unmarked c n rest low h =
    let no_digit : (48 ≤ 58) × (58 ≤ 57) → ⊥ = λ p. omega (arith, p.1) in
    cond_both (n == 0) _ _ (λ l. line_marked (l ++ rest) ≡ false) (λ _. h)
    (λ _. ap line_marked (regroup (name_of c) (decimal n) rest)
    ∙ blank_unmarked (name_of c) (decimal n ++ 10 ∷ rest) (name_free 58 (name_of c) refl (code_name c)) (plain_unmarked (decimal n) rest (decimal_free 58 n no_digit low)))

pub statistics_unmarked : (style : Style) (files : List Checked) → line_marked (statistics style files) ≡ false
statistics_unmarked style files = statistics_hold (λ l. line_marked l ≡ false) refl line_unmarked style files

-- ---- nor like a workflow command

-- two colons do not come first
abbrev pub NoCommand : List ℕ → Type 0
NoCommand l = get_or l 0 0 ≡ 58 → get_or l 1 0 ≡ 58 → ⊥

name_first : (name rest : List ℕ) → All (λ b. b ≡ 58 → ⊥) name → NoCommand (name ++ 58 ∷ 32 ∷ rest)
name_first [] rest h = λ e f. omega arith
name_first (b ∷ name) rest h = λ e f. All-head (λ b. b ≡ 58 → ⊥) b name h e

line_first : Grows NoCommand
unfolding code_line
line_first c n rest low h =
    cond_both (n == 0) _ _ (λ l. NoCommand (l ++ rest)) (λ _. h)
    (λ _. subst NoCommand (sym (regroup (name_of c) (decimal n) rest)) (name_first (name_of c) (decimal n ++ 10 ∷ rest) (name_free 58 (name_of c) refl (code_name c))))

pub statistics_first : (style : Style) (files : List Checked) → NoCommand (statistics style files)
statistics_first style files = statistics_hold NoCommand (λ e f. omega arith) line_first style files
