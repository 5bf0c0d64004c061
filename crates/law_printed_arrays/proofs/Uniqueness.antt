-- What is printed for programs leads back to the findings.
use Rattle.std.proofs.Common.{◌≡◌, ◌∙◌, ◌++◌, ◌∷◌, [], false, List, All, ap, map, sym}
use Rattle.std.specs.Prelude.{codes}
use Rattle.std.proofs.lemmas.List.{append_cancel_left, append_cancel_right}
use Rattle.std.proofs.lemmas.List.Elements.{All-weaker}
use Rattle.law_printed_lines.specs.check_print.declared.style.Style.{Style}
use Rattle.law_printed_lines.specs.check_print.Found.{Found, all_found}
use Rattle.law_printed_lines.specs.check_print.Printed.{printed_files}
use Rattle.law_printed_lines.specs.check_words.declared.request.Format.TheVariants as format
use Rattle.law_printed_lines.specs.checked_file.declared.checked.Checked.{Checked}
use Rattle.law_printed_lines.specs.checked_file.Sound.{IsSound}
use Rattle.json.specs.Lex.{tokens}
use Rattle.json.specs.Spaced.{print_spaced}
use Rattle.law_printed_lines.specs.report_sarif.Log as sarif
use Rattle.serde_json.specs.Data.{Members, object}
use Rattle.law_printed_arrays.specs.Kept.{kept_finding, kept_issue}
use Rattle.law_printed_arrays.specs.Unique.{HaveSameFindings, HaveSameReports, IsUnique, UniqueIssues, style_in}
use Rattle.law_printed_arrays.proofs.Chunks.{Prints, chunks, files_chunks, gitlab_prints, json_prints, sarif_prints}
use Rattle.law_printed_arrays.proofs.Issues.{issue_back}
use Rattle.law_printed_arrays.proofs.Objects.{object_back}
use Rattle.law_printed_arrays.proofs.Placed.{IsPlaced, all_placed}
use Rattle.law_printed_arrays.proofs.Reports.{same_reports}
use Rattle.law_printed_arrays.proofs.Results.{result_back}
use Rattle.law_printed_arrays.proofs.Shapes.{LeadsBack, Short, has_numbers, same_findings, same_value}
use Rattle.law_printed_arrays.proofs.Short.{IsShort}
use Rattle.law_printed_arrays.proofs.Sized.{issue_short, object_short, result_short}
use Rattle.law_printed_arrays.proofs.Spaced.{array_tokens, whole, whole_print}
use Rattle.law_printed_arrays.proofs.Values.{issue_of, members_by, object_of, result_of}

-- what is printed of each finding in its text has short numbers
abbrev AreShort : (Found → Members) → Type 0
AreShort members = (f : Found) → IsPlaced f → IsShort (object (members f))

all_short : (members : Found → Members) → AreShort members → (files : List Checked) → All IsSound files → Short members (all_found files)
all_short members short files sound = All-weaker IsPlaced (λ f. IsShort (object (members f))) short (all_found files) (all_placed files sound)

-- files of which the same is printed, but for what is before and after them
same_files : {T : Type 0} (style : Style) (members : Found → Members) (tell : Found → T) → Prints style members → AreShort members
    → LeadsBack (λ f. object (members f)) (λ f. object (members f)) IsPlaced IsPlaced tell → (files others : List Checked) → All IsSound files → All IsSound others
    → printed_files style false files ≡ printed_files style false others → map tell (all_found files) ≡ map tell (all_found others)
same_files style members tell prints short leads files others p q e =
    let mss = map members (all_found files) in
    let nss = map members (all_found others) in
    let lines : chunks false mss ≡ chunks false nss = sym (files_chunks style members prints false files) ∙ e ∙ files_chunks style members prints false others in
    let texts : print_spaced false (whole mss) ≡ print_spaced false (whole nss) = whole_print mss ∙ ap (λ l. 91 ∷ (l ++ 10 ∷ 93 ∷ [])) lines ∙ sym (whole_print nss) in
    same_findings members IsPlaced tell leads (all_found files) (all_found others) (all_placed files p) (all_placed others q)
    (same_value _ _
    (sym (array_tokens mss (has_numbers members (all_found files) (all_short members short files p)))
    ∙ ap tokens texts
    ∙ array_tokens nss (has_numbers members (all_found others) (all_short members short others q))))

-- files of which the findings are the same have the same reports
with_reports : (files others : List Checked) → HaveSameFindings files others → HaveSameReports files others × HaveSameFindings files others
with_reports files others e = (same_reports files others e, e)

pub unique_arrays : IsUnique format.Json
unique_arrays color quiet statistics files others sound others_sound e =
    with_reports files others
    (same_files (style_in format.Json color quiet statistics) (members_by object_of) kept_finding (json_prints color quiet statistics) object_short object_back files others sound others_sound
    (append_cancel_right _ _ (codes "\n]\n") (append_cancel_left (codes "[") _ _ e)))

pub unique_logs : IsUnique format.Sarif
unique_logs color quiet statistics files others sound others_sound e =
    let style = style_in format.Sarif color quiet statistics in
    let inside : printed_files style false files ≡ printed_files style false others =
    append_cancel_right _ _ (codes "\n" ++ sarif.closing ++ codes "\n") (append_cancel_left sarif.opening _ _ e)
    in
    with_reports files others
    (same_files style (members_by result_of) kept_finding (sarif_prints color quiet statistics) result_short result_back files others sound others_sound inside)

pub unique_issues : UniqueIssues
unique_issues color quiet statistics files others sound others_sound e =
    same_files (style_in format.Gitlab color quiet statistics) (members_by issue_of) kept_issue (gitlab_prints color quiet statistics) issue_short issue_back files others sound others_sound
    (append_cancel_right _ _ (codes "\n]\n") (append_cancel_left (codes "[") _ _ e))
