-- What is printed of files, finding by finding.
use Rattle.std.proofs.Common.{◌≡◌, ◌∙◌, ◌||◌, ◌==◌, ℕ, Bool, true, false, not, List, [], ◌∷◌, ◌++◌, ap, append_assoc, append-nil, arith, length, map, refl, sym}
use Rattle.std.proofs.lemmas.List.{map-append}
use Rattle.law_printed_lines.specs.check_print.declared.style.Style.{Style}
use Rattle.law_printed_lines.specs.check_print.Found.{Found, all_found, found_by, found_in, found_refusal, found_report}
use Rattle.law_printed_lines.specs.check_print.Findings.{array_separator, printed_refusal, printed_report, separator}
use Rattle.law_printed_lines.specs.check_print.Printed.{follows_refusals, printed_answer, printed_file, printed_files, printed_refusals, printed_reports, read_as, separated, source_of}
use Rattle.law_printed_lines.specs.check_words.declared.request.Format.TheVariants as format
use Rattle.law_printed_lines.specs.checked_file.declared.answer.Answer.{Answer}
use Rattle.law_printed_lines.specs.checked_file.declared.answer.Answer.TheVariants.{Reports, Partial, Refused}
use Rattle.law_printed_lines.specs.checked_file.declared.checked.Checked.{Checked}
use Rattle.law_printed_lines.specs.checked_file.Answers.{has_findings}
use Rattle.law_printed_lines.specs.lint_report.declared.report.Report.{Report}
use Rattle.serde_json.specs.Data.{Members, object}
use Rattle.serde_json.specs.Written.{compact_text}
use Rattle.law_printed_lines.specs.source_file.declared.refusal.Refusal.{Refusal}
use Rattle.law_printed_lines.specs.source_file.File.{FileValue}
use Rattle.law_printed_arrays.specs.Unique.{style_in}
use Rattle.law_printed_arrays.proofs.Values.{issue_of, members_by, object_of, result_of}

-- objects on lines of their own, with what is before each
abbrev pub chunks : Bool → List Members → List ℕ
chunks b [] = []
chunks b (ms ∷ mss) = (array_separator b ++ compact_text (object ms)) ++ chunks true mss

-- whether anything was before what comes after them
abbrev pub after : Bool → List Members → Bool
after b [] = b
after b (ms ∷ mss) = true

pub after_true : (mss : List Members) → after true mss ≡ true
after_true [] = refl
after_true (ms ∷ mss) = refl

chunks_append : (b : Bool) (mss more : List Members) → chunks b (mss ++ more) ≡ chunks b mss ++ chunks (after b mss) more
chunks_append b [] more = refl
chunks_append b (ms ∷ mss) more =
    let head = array_separator b ++ compact_text (object ms) in
    ap (λ l. head ++ l) (chunks_append true mss more ∙ ap (λ c. chunks true mss ++ chunks c more) (after_true mss)) ∙ sym (append_assoc head (chunks true mss) (chunks true more))

after_append : (b : Bool) (mss more : List Members) → after b (mss ++ more) ≡ after (after b mss) more
after_append b [] more = refl
after_append b (ms ∷ mss) [] = refl
after_append b (ms ∷ mss) (other ∷ more) = refl

-- a style in which each finding is an object on a line of its own
abbrev pub Prints : Style → (Found → Members) → Type 0
Prints style members =
    ((b : Bool) (file : FileValue) (v : Report) → separated style b file v ≡ array_separator b ++ compact_text (object (members (found_report file v))))
    × ((b : Bool) (file : FileValue) (r : Refusal) → separator style.format b ++ printed_refusal style.format style.color file r ≡ array_separator b ++ compact_text (object (members (found_refusal file r))))

pub json_prints : (color quiet statistics : Bool) → Prints (style_in format.Json color quiet statistics) (members_by object_of)
unfolding printed_report printed_refusal
json_prints color quiet statistics = ((λ b file v. refl), (λ b file r. refl))

pub sarif_prints : (color quiet statistics : Bool) → Prints (style_in format.Sarif color quiet statistics) (members_by result_of)
unfolding printed_report printed_refusal
sarif_prints color quiet statistics = ((λ b file v. refl), (λ b file r. refl))

pub gitlab_prints : (color quiet statistics : Bool) → Prints (style_in format.Gitlab color quiet statistics) (members_by issue_of)
unfolding printed_report printed_refusal
gitlab_prints color quiet statistics = ((λ b file v. refl), (λ b file r. refl))

reports_chunks : (style : Style) (members : Found → Members) → Prints style members → (b : Bool) (file : FileValue) (vs : List Report)
    → printed_reports style b file vs ≡ chunks b (map members (map (found_report file) vs))
reports_chunks style members prints b file [] = refl
reports_chunks style members prints b file (v ∷ vs) =
    ap (λ l. l ++ printed_reports style true file vs) (prints.0 b file v)
    ∙ ap (λ l. (array_separator b ++ compact_text (object (members (found_report file v)))) ++ l) (reports_chunks style members prints true file vs)

refusals_chunks : (style : Style) (members : Found → Members) → Prints style members → (b : Bool) (file : FileValue) (rs : List Refusal)
    → printed_refusals style b file rs ≡ chunks b (map members (map (found_refusal file) rs))
refusals_chunks style members prints b file [] = refl
refusals_chunks style members prints b file (r ∷ rs) =
    ap (λ l. l ++ printed_refusals style true file rs) (prints.1 b file r)
    ∙ ap (λ l. (array_separator b ++ compact_text (object (members (found_refusal file r)))) ++ l) (refusals_chunks style members prints true file rs)

or_false : (b : Bool) → (b || false) ≡ b
or_false true = refl
or_false false = refl

or_true : (b : Bool) → (b || true) ≡ true
or_true true = refl
or_true false = refl

or_assoc : (a b c : Bool) → (a || (b || c)) ≡ ((a || b) || c)
or_assoc true b c = refl
or_assoc false b c = refl

-- where there are findings, something is before what comes after them
reports_after : (members : Found → Members) (b : Bool) (file : FileValue) (vs : List Report) → (b || not (length vs == 0)) ≡ after b (map members (map (found_report file) vs))
reports_after members b file [] = or_false b
reports_after members b file (v ∷ vs) =
    let more : (length (v ∷ vs) == 0) ≡ false = grind arith in
    ap (λ c. b || not c) more ∙ or_true b

refusals_after : (members : Found → Members) (b : Bool) (file : FileValue) (rs : List Refusal) → follows_refusals b rs ≡ after b (map members (map (found_refusal file) rs))
refusals_after members b file [] = or_false b
refusals_after members b file (r ∷ rs) =
    let more : (length (r ∷ rs) == 0) ≡ false = grind arith in
    ap (λ c. b || not c) more ∙ or_true b

answer_chunks : (style : Style) (members : Found → Members) → Prints style members → (b : Bool) (file : FileValue) (answer : Answer)
    → printed_answer style b file answer ≡ chunks b (map members (found_by file answer))
answer_chunks style members prints b file (Reports reports) = reports_chunks style members prints b file reports.items
answer_chunks style members prints b file (Partial p) =
    let read = read_as file p in
    let behind = follows_refusals b p.faults.items in
    let faults = map members (map (found_refusal read) p.faults.items) in
    let reports = map members (map (found_report file) p.reports.items) in
    ap (λ l. l ++ printed_reports style behind file p.reports.items) (refusals_chunks style members prints b read p.faults.items)
    ∙ ap (λ l. chunks b faults ++ l) (reports_chunks style members prints behind file p.reports.items ∙ ap (λ c. chunks c reports) (refusals_after members b read p.faults.items))
    ∙ sym (chunks_append b faults reports)
    ∙ ap (chunks b) (sym (map-append members (map (found_refusal read) p.faults.items) (map (found_report file) p.reports.items)))
answer_chunks style members prints b file (Refused r) = prints.1 b file r ∙ sym (append-nil _)

answer_after : (members : Found → Members) (b : Bool) (file : FileValue) (answer : Answer) → (b || has_findings answer) ≡ after b (map members (found_by file answer))
answer_after members b file (Reports reports) = reports_after members b file reports.items
answer_after members b file (Partial p) =
    let read = read_as file p in
    let faults = map members (map (found_refusal read) p.faults.items) in
    let reports = map members (map (found_report file) p.reports.items) in
    or_assoc b (not (length p.faults.items == 0)) (not (length p.reports.items == 0))
    ∙ reports_after members (follows_refusals b p.faults.items) file p.reports.items
    ∙ ap (λ c. after c reports) (refusals_after members b read p.faults.items)
    ∙ sym (after_append b faults reports)
    ∙ ap (after b) (sym (map-append members (map (found_refusal read) p.faults.items) (map (found_report file) p.reports.items)))
answer_after members b file (Refused r) = or_true b

-- what is printed of files
pub files_chunks : (style : Style) (members : Found → Members) → Prints style members → (b : Bool) (files : List Checked)
    → printed_files style b files ≡ chunks b (map members (all_found files))
unfolding printed_file
files_chunks style members prints b [] = refl
files_chunks style members prints b (file ∷ files) =
    let here = map members (found_in file) in
    let later = map members (all_found files) in
    let rest = files_chunks style members prints (b || has_findings file.answer) files in
    ap (λ l. l ++ printed_files style (b || has_findings file.answer) files) (answer_chunks style members prints b (source_of file) file.answer)
    ∙ ap (λ l. chunks b here ++ l) (rest ∙ ap (λ c. chunks c later) (answer_after members b (source_of file) file.answer))
    ∙ sym (chunks_append b here later)
    ∙ ap (chunks b) (sym (map-append members (found_in file) (all_found files)))
