-- What is printed on lines leads back to the findings.
use Rattle.std.proofs.Common.{◌≡◌, ◌∙◌, ℕ, true, false, List, [], ◌∷◌, ◌++◌, All, Option, ap, append_assoc, get_or, map, refl, sym}
use Rattle.std.specs.List.{flat_map}
use Rattle.std.specs.Prelude.{◌==◌}
use Rattle.std.proofs.lemmas.Bool.{both_ways}
use Rattle.std.proofs.lemmas.List.Elements.{All-head, All-tail}
use Rattle.check_print.specs.declared.style.Style.{Style}
use Rattle.check_print.specs.Found.{Found, all_found}
use Rattle.check_print.specs.Printed.{printed_files, statistics}
use Rattle.check_print.specs.check_words.declared.request.Format.TheVariants as format
use Rattle.check_print.specs.checked_file.declared.checked.Checked.{Checked}
use Rattle.check_print.specs.report_lines.declared.concise.Order.{Order}
use Rattle.check_print.specs.report_lines.declared.concise.Order.TheVariants.{RuleFirst, RuleLast}
use Rattle.check_print.specs.source_file.declared.level.Level.{Level}
use Rattle.check_print.specs.source_file.File.{location}
use Rattle.law_printed_lines.specs.Kept.{Kept, KeptCommand, annotation, kept, kept_command}
use Rattle.law_printed_lines.specs.Unique.{IsShort, UniqueCommands, UniqueConcise, UniqueGcc, style_in}
use Rattle.law_printed_lines.proofs.Annotations.{annotation_same, annotation_shown}
use Rattle.law_printed_lines.proofs.Commands.{command_line, command_parts, same_columns, same_lines, same_opening, same_title}
use Rattle.law_printed_lines.proofs.Decimals.{decimal_first}
use Rattle.law_printed_lines.proofs.Escaping.{written_shown}
use Rattle.law_printed_lines.proofs.Files.{IsGood, Prints, all_good, concise_prints, files_lines, gcc_prints, github_prints, line_of}
use Rattle.law_printed_lines.proofs.Lines.{line_parts, place_short, same_line}
use Rattle.law_printed_lines.proofs.Marks.{finding_marked, line_marked}
use Rattle.law_printed_lines.proofs.Statistics.{statistics_first, statistics_unmarked}

-- ---- all findings

-- of findings that begin the same text the same is kept, and the same comes after them
abbrev LeadsBack : {T : Type 0} → (Found → List ℕ) → (Found → T) → Type 0
LeadsBack line keep = (f g : Found) (r s : List ℕ) → IsGood f → IsGood g → line f ++ r ≡ line g ++ s → (keep f ≡ keep g) × (r ≡ s)

-- no finding begins a text
abbrev IsEnd : (Found → List ℕ) → List ℕ → Type 0
IsEnd line t = (f : Found) (r : List ℕ) → IsGood f → line f ++ r ≡ t → ⊥

all_same : {T : Type 0} (line : Found → List ℕ) (keep : Found → T) → LeadsBack line keep → (fs gs : List Found) (t u : List ℕ) → All IsGood fs → All IsGood gs
    → IsEnd line t → IsEnd line u → flat_map line fs ++ t ≡ flat_map line gs ++ u → map keep fs ≡ map keep gs
all_same line keep leads [] [] t u h k p q e = refl
all_same line keep leads [] (g ∷ gs) t u h k p q e =
    absurd (p g (flat_map line gs ++ u) (All-head IsGood g gs k) (sym (append_assoc (line g) (flat_map line gs) u) ∙ sym e))
all_same line keep leads (f ∷ fs) [] t u h k p q e =
    absurd (q f (flat_map line fs ++ t) (All-head IsGood f fs h) (sym (append_assoc (line f) (flat_map line fs) t) ∙ e))
all_same line keep leads (f ∷ fs) (g ∷ gs) t u h k p q e =
    let one = leads f g (flat_map line fs ++ t) (flat_map line gs ++ u) (All-head IsGood f fs h) (All-head IsGood g gs k)
    (sym (append_assoc (line f) (flat_map line fs) t) ∙ e ∙ append_assoc (line g) (flat_map line gs) u) in
    let more = all_same line keep leads fs gs t u (All-tail IsGood f fs h) (All-tail IsGood g gs k) p q one.1 in
    ap (λ x. x ∷ map keep fs) one.0 ∙ ap (λ l. keep g ∷ l) more

-- files of which the same is printed
same_files : {T : Type 0} (line : Found → List ℕ) (keep : Found → T) → LeadsBack line keep → ((style : Style) (files : List Checked) → IsEnd line (statistics style files))
    → (style other : Style) → Prints style line → Prints other line → (files others : List Checked) → All IsShort files → All IsShort others
    → printed_files style false files ++ statistics style files ≡ printed_files other false others ++ statistics other others
    → map keep (all_found files) ≡ map keep (all_found others)
same_files line keep leads end style other prints other_prints files others h k e =
    all_same line keep leads (all_found files) (all_found others) (statistics style files) (statistics other others) (all_good files h) (all_good others k) (end style files)
    (end other others)
    (ap (λ l. l ++ statistics style files) (sym (files_lines style line prints false files)) ∙ e
    ∙ ap (λ l. l ++ statistics other others) (files_lines other line other_prints false others))

-- ---- on a line

abbrev as_kept : List ℕ → ℕ → ℕ → Level → List ℕ → List ℕ → Kept
as_kept name line column level rule message = record { name = name; line = line; column = column; level = level; rule = rule; message = message }

same_kept : (n m : List ℕ) (l i c j : ℕ) (v w : Level) (r s p q : List ℕ) → n ≡ m → l ≡ i → c ≡ j → v ≡ w → r ≡ s → p ≡ q → as_kept n l c v r p ≡ as_kept m i j w s q
same_kept n m l i c j v w r s p q a b d e f g =
    ap (λ x. as_kept x l c v r p) a ∙ ap (λ x. as_kept m x c v r p) b ∙ ap (λ x. as_kept m i x v r p) d ∙ ap (λ x. as_kept m i j x r p) e
    ∙ ap (λ x. as_kept m i j w x p) f ∙ ap (λ x. as_kept m i j w s x) g

line_leads : (order : Order) → LeadsBack (line_of order) kept
line_leads order f g r s h k e =
    let same = same_line order f.file g.file f.range.start g.range.start f.level g.level f.rule g.rule f.message g.message r s h.short k.short h.named k.named e in
    (same_kept _ _ _ _ _ _ _ _ _ _ _ _ same.0.0 same.0.1 same.0.2 same.1 same.2 same.3, same.4)

line_end : (order : Order) (style : Style) (files : List Checked) → IsEnd (line_of order) (statistics style files)
line_end order style files f r h e =
    let line = (location f.file.text f.range.start).line in
    let short = (place_short f.file.text f.range.start h.short).0 in
    let marked = finding_marked _ _ (written_shown true f.file.name) (decimal_first line _ short) in
    both_ways _ (statistics_unmarked style files) (ap line_marked (sym e ∙ line_parts order f.file f.range.start f.level f.rule f.message r) ∙ marked)

pub unique_concise : UniqueConcise
unique_concise style other files others h k e =
    same_files (line_of RuleFirst) kept (line_leads RuleFirst) (line_end RuleFirst) (style_in format.Concise style) (style_in format.Concise other) (concise_prints style) (concise_prints other) files others h k e

pub unique_gcc : UniqueGcc
unique_gcc style other files others h k e =
    same_files (line_of RuleLast) kept (line_leads RuleLast) (line_end RuleLast) (style_in format.Gcc style) (style_in format.Gcc other) (gcc_prints style) (gcc_prints other) files others h k e

-- ---- workflow commands

abbrev as_command : List ℕ → ℕ → ℕ → Option (ℕ × ℕ) → Level → List ℕ → List ℕ → KeptCommand
as_command name line line_end columns level rule text =
    record { name = name; line = line; line_end = line_end; columns = columns; level = level; rule = rule; text = text }

same_command : (n m : List ℕ) (l i k j : ℕ) (c d : Option (ℕ × ℕ)) (v w : Level) (r s p q : List ℕ) → n ≡ m → l ≡ i → k ≡ j → c ≡ d → v ≡ w → r ≡ s → p ≡ q
    → as_command n l k c v r p ≡ as_command m i j d w s q
same_command n m l i k j c d v w r s p q a b e f g x y =
    ap (λ z. as_command z l k c v r p) a ∙ ap (λ z. as_command m z k c v r p) b ∙ ap (λ z. as_command m i z c v r p) e ∙ ap (λ z. as_command m i j z v r p) f
    ∙ ap (λ z. as_command m i j d z r p) g ∙ ap (λ z. as_command m i j d w z p) x ∙ ap (λ z. as_command m i j d w s z) y

command_leads : LeadsBack command_line kept_command
command_leads f g r s h k e =
    let first = location f.file.text f.range.start in
    let last = location f.file.text f.range.end in
    let begin = location g.file.text g.range.start in
    let end = location g.file.text g.range.end in
    let first_short = place_short f.file.text f.range.start h.short in
    let last_short = place_short f.file.text f.range.end h.short in
    let begin_short = place_short g.file.text g.range.start k.short in
    let end_short = place_short g.file.text g.range.end k.short in
    let front = same_opening f.level g.level f.file.name g.file.name _ _ (sym (command_parts f r) ∙ e ∙ command_parts g s) in
    let lines = same_lines first.line last.line begin.line end.line _ _ first_short.0 last_short.0 begin_short.0 end_short.0 front.2 in
    let one_line : (first.line == last.line) ≡ (begin.line == end.line) = ap (λ n. n == last.line) lines.0 ∙ ap (λ n. begin.line == n) lines.1 in
    let columns = same_columns (first.line == last.line) (begin.line == end.line) first.column last.column begin.column end.column _ _ one_line first_short.1 last_short.1
    begin_short.1 end_short.1 lines.2 in
    let rest = same_title f.rule g.rule _ _ r s (annotation_shown f.level f.message f.note f.help) (annotation_shown g.level g.message g.note g.help) columns.1 in
    let text : annotation f ≡ annotation g = annotation_same f.level g.level f.message g.message f.note g.note f.help g.help rest.1 in
    (same_command _ _ _ _ _ _ _ _ _ _ _ _ _ _ front.1 lines.0 lines.1 columns.0 front.0 rest.0 text, rest.2)

command_end : (style : Style) (files : List Checked) → IsEnd command_line (statistics style files)
command_end style files f r h e =
    let whole = sym (command_parts f r) ∙ e in
    statistics_first style files (ap (λ l. get_or l 0 0) (sym whole)) (ap (λ l. get_or l 1 0) (sym whole))

pub unique_commands : UniqueCommands
unique_commands style other files others h k e =
    same_files command_line kept_command command_leads command_end (style_in format.Github style) (style_in format.Github other) (github_prints style) (github_prints other) files others h k e
