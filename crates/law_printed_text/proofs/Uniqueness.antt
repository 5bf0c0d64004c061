-- What is printed for people leads back to the findings.
use Rattle.std.proofs.Common.{ℕ, ◌≡◌, ◌∙◌, ◌||◌, ◌<◌, ◌^◌, Bool, false, true, List, [], ◌∷◌, ◌++◌, inl, inr, All, ap, append_assoc, append-nil, flat_map, length, map, refl, sym}
use Rattle.std.proofs.lemmas.List.{map-append}
use Rattle.std.proofs.lemmas.List.Elements.{All-append, All-cons, All-head, All-nil, All-tail}
use Rattle.law_printed_lines.specs.check_print.declared.style.Style.{Style}
use Rattle.law_printed_lines.specs.check_print.Findings.{printed_refusal, printed_report}
use Rattle.law_printed_lines.specs.check_print.Found.{all_found, found_by, found_in, found_refusal, found_report}
use Rattle.law_printed_lines.specs.check_print.Printed.{follows_refusals, last_line, passed_lines, printed, printed_answer, printed_file, printed_files, printed_refusals, printed_reports, read_as, source_of, statistics}
use Rattle.law_printed_lines.specs.check_words.declared.request.Format.TheVariants as format
use Rattle.law_printed_lines.specs.checked_file.declared.answer.Answer.{Answer}
use Rattle.law_printed_lines.specs.checked_file.declared.answer.Answer.TheVariants.{Reports, Partial, Refused}
use Rattle.law_printed_lines.specs.checked_file.declared.checked.Checked.{Checked}
use Rattle.law_printed_lines.specs.checked_file.Answers.{has_findings}
use Rattle.law_printed_lines.specs.lint_report.declared.report.Report.{Report}
use Rattle.law_printed_lines.specs.source_file.declared.refusal.Refusal.{Refusal}
use Rattle.law_printed_lines.specs.source_file.File.{FileValue}
use Rattle.law_printed_lines.specs.Kept.{Kept, kept}
use Rattle.law_printed_lines.specs.Unique.{IsShort, IsShortAnswer, style_in}
use Rattle.law_printed_text.specs.Unique.{UniqueTexts}
use Rattle.law_printed_text.proofs.Closings.{closing_rows}
use Rattle.law_printed_text.proofs.Items.{IsShortItem, Item, found_of, text_of}
use Rattle.law_printed_text.proofs.Lists.{lists_back, texts}

-- ---- the findings of files

abbrev reported : FileValue → Report → Item
reported file r = (file, inl r)

abbrev refused : FileValue → Refusal → Item
refused file r = (file, inr r)

abbrev items_by : FileValue → Answer → List Item
items_by file (Reports reports) = map (reported file) reports.items
items_by file (Partial p) = map (refused (read_as file p)) p.faults.items ++ map (reported file) p.reports.items
items_by file (Refused r) = refused file r ∷ []

abbrev items_in : Checked → List Item
items_in file = items_by (source_of file) file.answer

abbrev all_items : List Checked → List Item
all_items files = flat_map items_in files

abbrev kept_of : Item → Kept
kept_of i = kept (found_of i)

-- ---- the findings of the files are those that the blocks give back

reports_kept : (file : FileValue) (vs : List Report) → map kept (map (found_report file) vs) ≡ map kept_of (map (reported file) vs)
reports_kept file [] = refl
reports_kept file (v ∷ vs) = ap (λ l. kept (found_report file v) ∷ l) (reports_kept file vs)

refusals_kept : (file : FileValue) (rs : List Refusal) → map kept (map (found_refusal file) rs) ≡ map kept_of (map (refused file) rs)
refusals_kept file [] = refl
refusals_kept file (r ∷ rs) = ap (λ l. kept (found_refusal file r) ∷ l) (refusals_kept file rs)

answer_kept : (file : FileValue) (answer : Answer) → map kept (found_by file answer) ≡ map kept_of (items_by file answer)
answer_kept file (Reports reports) = reports_kept file reports.items
answer_kept file (Partial p) =
    let read = read_as file p in
    let faults = map (found_refusal read) p.faults.items in
    let reports = map (found_report file) p.reports.items in
    map-append kept faults reports
    ∙ ap (λ l. l ++ map kept reports) (refusals_kept read p.faults.items)
    ∙ ap (λ l. map kept_of (map (refused read) p.faults.items) ++ l) (reports_kept file p.reports.items)
    ∙ sym (map-append kept_of (map (refused read) p.faults.items) (map (reported file) p.reports.items))
answer_kept file (Refused r) = refl

all_kept : (files : List Checked) → map kept (all_found files) ≡ map kept_of (all_items files)
all_kept [] = refl
all_kept (file ∷ files) =
    map-append kept (found_in file) (all_found files) ∙ ap (λ l. l ++ map kept (all_found files)) (answer_kept (source_of file) file.answer)
    ∙ ap (λ l. map kept_of (items_in file) ++ l) (all_kept files) ∙ sym (map-append kept_of (items_in file) (all_items files))

-- ---- their texts are short

reports_short : (file : FileValue) (vs : List Report) → length file.text < 2 ^ 32 → All IsShortItem (map (reported file) vs)
reports_short file [] h = All-nil IsShortItem
reports_short file (v ∷ vs) h = All-cons IsShortItem (reported file v) (map (reported file) vs) h (reports_short file vs h)

refusals_short : (file : FileValue) (rs : List Refusal) → length file.text < 2 ^ 32 → All IsShortItem (map (refused file) rs)
refusals_short file [] h = All-nil IsShortItem
refusals_short file (r ∷ rs) h = All-cons IsShortItem (refused file r) (map (refused file) rs) h (refusals_short file rs h)

answer_short : (file : FileValue) (answer : Answer) → length file.text < 2 ^ 32 → IsShortAnswer answer → All IsShortItem (items_by file answer)
answer_short file (Reports reports) h read = reports_short file reports.items h
answer_short file (Partial p) h read =
    All-append IsShortItem (map (refused (read_as file p)) p.faults.items) (map (reported file) p.reports.items) (refusals_short (read_as file p) p.faults.items read)
    (reports_short file p.reports.items h)
answer_short file (Refused r) h read = All-cons IsShortItem (file, inr r) [] h (All-nil IsShortItem)

all_short : (files : List Checked) → All IsShort files → All IsShortItem (all_items files)
all_short [] h = All-nil IsShortItem
all_short (file ∷ files) h =
    let short = All-head IsShort file files h in
    All-append IsShortItem (items_in file) (all_items files) (answer_short (source_of file) file.answer short.linted short.read) (all_short files (All-tail IsShort file files h))

-- ---- what is printed is printed of them

texts_append : (color : Bool) (xs ys : List Item) → texts color (xs ++ ys) ≡ texts color xs ++ texts color ys
texts_append color [] ys = refl
texts_append color (i ∷ xs) ys =
    ap (λ l. text_of color i ++ l) (texts_append color xs ys) ∙ sym (append_assoc (text_of color i) (texts color xs) (texts color ys))

module _ (style : Style) where
  abbrev text_style : Style
  text_style = style_in format.Text style

  reports_texts : (b : Bool) (file : FileValue) (vs : List Report) → printed_reports text_style b file vs ≡ texts style.color (map (reported file) vs)
  unfolding printed_report
  reports_texts b file [] = refl
  reports_texts b file (v ∷ vs) = ap (λ l. text_of style.color (file, inl v) ++ l) (reports_texts true file vs)

  refusals_texts : (b : Bool) (file : FileValue) (rs : List Refusal) → printed_refusals text_style b file rs ≡ texts style.color (map (refused file) rs)
  unfolding printed_refusal
  refusals_texts b file [] = refl
  refusals_texts b file (r ∷ rs) = ap (λ l. text_of style.color (refused file r) ++ l) (refusals_texts true file rs)

  answer_texts : (b : Bool) (file : FileValue) (answer : Answer) → printed_answer text_style b file answer ≡ texts style.color (items_by file answer)
  unfolding printed_refusal
  answer_texts b file (Reports reports) = reports_texts b file reports.items
  answer_texts b file (Partial p) =
      let read = read_as file p in
      let behind = follows_refusals b p.faults.items in
      ap (λ l. l ++ printed_reports text_style behind file p.reports.items) (refusals_texts b read p.faults.items)
      ∙ ap (λ l. texts style.color (map (refused read) p.faults.items) ++ l) (reports_texts behind file p.reports.items)
      ∙ sym (texts_append style.color (map (refused read) p.faults.items) (map (reported file) p.reports.items))
  answer_texts b file (Refused r) = sym (append-nil _)

  files_texts : (b : Bool) (files : List Checked) → printed_files text_style b files ≡ texts style.color (all_items files)
  unfolding printed_file
  files_texts b [] = refl
  files_texts b (file ∷ files) =
      ap (λ l. l ++ printed_files text_style (b || has_findings file.answer) files) (answer_texts b (source_of file) file.answer)
      ∙ ap (λ l. texts style.color (items_in file) ++ l) (files_texts (b || has_findings file.answer) files)
      ∙ sym (texts_append style.color (items_in file) (all_items files))

  -- what is after the last finding
  abbrev ending : List Checked → List ℕ
  ending files = passed_lines text_style files ++ statistics text_style files ++ last_line text_style files

  whole : (files : List Checked) → printed text_style files ≡ texts style.color (all_items files) ++ ending files
  whole files = ap (λ l. l ++ ending files) (files_texts false files)

pub unique_texts : UniqueTexts
unique_texts style other files others short others_short e =
    let same : texts style.color (all_items files) ++ ending style files ≡ texts other.color (all_items others) ++ ending other others =
    sym (whole style files) ∙ e ∙ whole other others in
    all_kept files
    ∙ lists_back style.color other.color (all_items files) (all_items others) (ending style files) (ending other others)
    (closing_rows (style_in format.Text style) files) (closing_rows (style_in format.Text other) others) (all_short files short) (all_short others others_short) same
    ∙ sym (all_kept others)
