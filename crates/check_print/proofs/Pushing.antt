-- Findings and files pushed to a list of bytes.
use Rattle.std.proofs.Common.{◌≡◌, ◌∙◌, ◌+◌, ◌++◌, ◌<◌, ◌≤◌, ◌||◌, ℕ, Bool, true, List, [], ◌∷◌, ap, append_assoc, append-nil, drop, get_or, length, sym}
use Rattle.std.proofs.lemmas.List.{drop_all, drop_more}
use Rattle.checked_file.specs.declared.checked.Checked.{Checked}
use Rattle.checked_file.specs.Answers.{has_findings}
use Rattle.checked_file.specs.lint_report.declared.report.Report.{Report}
use Rattle.checked_file.specs.source_file.declared.refusal.Refusal.{Refusal}
use Rattle.checked_file.specs.source_file.File.{FileValue}
use Rattle.check_print.specs.declared.style.Style.{Style}
use Rattle.check_print.specs.Printed.{printed_file, printed_files, printed_refusals, printed_reports, separated, separated_refusal}

-- one report more
pub report_pushed : (style : Style) (file : FileValue) (xs : List Report) (i : ℕ) (behind : Bool) (x : Report) (to new all : List ℕ) → i < length xs → x ≡ get_or xs i x
    → to ++ printed_reports style behind file (drop i xs) ≡ all → new ≡ to ++ separated style behind file x → new ++ printed_reports style true file (drop (i + 1) xs) ≡ all
report_pushed style file xs i behind x to new all h e p q =
    let front : drop i xs ≡ x ∷ drop (i + 1) xs = drop_more xs i x h ∙ ap (λ y. y ∷ drop (i + 1) xs) (sym e) in
    let before : to ++ (separated style behind file x ++ printed_reports style true file (drop (i + 1) xs)) ≡ all = rw front at p in
    rw q (append_assoc to (separated style behind file x) (printed_reports style true file (drop (i + 1) xs)) ∙ before)

pub reports_end : (style : Style) (file : FileValue) (xs : List Report) (i : ℕ) (behind : Bool) (to all : List ℕ) → length xs ≤ i
    → to ++ printed_reports style behind file (drop i xs) ≡ all → to ≡ all
reports_end style file xs i behind to all h p =
    let none : drop i xs ≡ [] = drop_all i xs h in
    let after : to ++ [] ≡ all = rw none at p in
    sym (append-nil to) ∙ after

-- one refusal more
pub refusal_pushed : (style : Style) (file : FileValue) (xs : List Refusal) (i : ℕ) (behind : Bool) (x : Refusal) (to new all : List ℕ) → i < length xs → x ≡ get_or xs i x
    → to ++ printed_refusals style behind file (drop i xs) ≡ all → new ≡ to ++ separated_refusal style behind file x → new ++ printed_refusals style true file (drop (i + 1) xs) ≡ all
refusal_pushed style file xs i behind x to new all h e p q =
    let front : drop i xs ≡ x ∷ drop (i + 1) xs = drop_more xs i x h ∙ ap (λ y. y ∷ drop (i + 1) xs) (sym e) in
    let before : to ++ (separated_refusal style behind file x ++ printed_refusals style true file (drop (i + 1) xs)) ≡ all = rw front at p in
    rw q (append_assoc to (separated_refusal style behind file x) (printed_refusals style true file (drop (i + 1) xs)) ∙ before)

pub refusals_end : (style : Style) (file : FileValue) (xs : List Refusal) (i : ℕ) (behind : Bool) (to all : List ℕ) → length xs ≤ i
    → to ++ printed_refusals style behind file (drop i xs) ≡ all → to ≡ all
refusals_end style file xs i behind to all h p =
    let none : drop i xs ≡ [] = drop_all i xs h in
    let after : to ++ [] ≡ all = rw none at p in
    sym (append-nil to) ∙ after

-- one file more
pub file_pushed : (style : Style) (xs : List Checked) (i : ℕ) (behind later : Bool) (x : Checked) (to new all : List ℕ) → i < length xs → x ≡ get_or xs i x
    → to ++ printed_files style behind (drop i xs) ≡ all → new ≡ to ++ printed_file style behind x → later ≡ (behind || has_findings x.answer)
    → new ++ printed_files style later (drop (i + 1) xs) ≡ all
file_pushed style xs i behind later x to new all h e p q is =
    let front : drop i xs ≡ x ∷ drop (i + 1) xs = drop_more xs i x h ∙ ap (λ y. y ∷ drop (i + 1) xs) (sym e) in
    let before : to ++ (printed_file style behind x ++ printed_files style (behind || has_findings x.answer) (drop (i + 1) xs)) ≡ all = rw front at p in
    rw (q, is) (append_assoc to (printed_file style behind x) (printed_files style (behind || has_findings x.answer) (drop (i + 1) xs)) ∙ before)

pub files_end : (style : Style) (xs : List Checked) (i : ℕ) (behind : Bool) (to all : List ℕ) → length xs ≤ i → to ++ printed_files style behind (drop i xs) ≡ all → to ≡ all
files_end style xs i behind to all h p =
    let none : drop i xs ≡ [] = drop_all i xs h in
    let after : to ++ [] ≡ all = rw none at p in
    sym (append-nil to) ∙ after
