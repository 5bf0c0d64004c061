-- What is printed of a finding is rows and an empty line.
use Rattle.std.proofs.Common.{◌≡◌, ℕ, ◌+◌, Bool, true, false, List, [], ◌∷◌, ◌++◌, codes, is_none, ◌&&◌, max, refl, replicate, slice_range, Option, Some, None, length, drop, take, ◌-◌, nat_le, not, ◌==◌}
use Rattle.std.proofs.lemmas.Bool.{cond_both}
use Rattle.std.specs.List.{list_all}
use Rattle.law_printed_lines.specs.lint_base.declared.edit.Edit.{Edit}
use Rattle.law_printed_lines.specs.lint_report.declared.fix_class.FixClass.{FixClass}
use Rattle.law_printed_lines.specs.lint_report.declared.fix_class.FixClass.TheVariants as class
use Rattle.law_printed_lines.specs.lint_report.declared.report.Report.{Report}
use Rattle.law_printed_lines.specs.lint_report.declared.report.ReportFix.{ReportFix}
use Rattle.law_printed_lines.specs.report_text.Excerpt.{carets, closing_row, excerpt, excerpt_by, inner_part, inset_row, is_blank, lead, opening_rows, plain_row, stroke_row}
use Rattle.law_printed_lines.specs.report_text.Fixed.{changes, changes_in, class_mark, fix_part, is_in_order}
use Rattle.law_printed_lines.specs.report_text.Layouts.{bar, bar_line, number_bar, numbered, point}
use Rattle.law_printed_lines.specs.report_text.Paint.{style_of}
use Rattle.law_printed_lines.specs.report_text.Report.{hint_part, layout_of, note, note_row, notes}
use Rattle.law_printed_lines.specs.report_text.Rows.{gap, inner_row, inner_rows, numbered_rows}
use Rattle.law_printed_lines.specs.source_file.declared.hints.Hint.{Hint}
use Rattle.law_printed_lines.specs.source_file.declared.level.Level.{Level}
use Rattle.law_printed_lines.specs.source_file.Columns.{width_of}
use Rattle.law_printed_lines.specs.source_file.Hints.{text_of}
use Rattle.law_printed_lines.specs.source_file.File.{line_number}
use Rattle.law_printed_lines.specs.source_file.Line.{Text, block_of, front_of, lines_of}
use Rattle.law_printed_lines.specs.source_file.Shown.{shown}
use Rattle.law_printed_lines.specs.text_pos.Range.{Range}
use Rattle.law_printed_text.proofs.Rows.{IsClean, IsPiece, IsRows, back, both, front, is_plain, joined, no_rows, row, word}
use Rattle.law_printed_text.proofs.Pieces.{added, blanks_clean, bold, decimal_clean, escaped_clean, frame, level_plain, of_level, removed, repeated, shell, shell_clean, shell_piece, shown_clean, solid}

blank : IsClean (codes " ")
blank = word (codes " ") refl

numbered_rows_are : (line_row : ℕ → List ℕ → List ℕ) → ((n : ℕ) (line : List ℕ) → IsRows (line_row n line)) → (n : ℕ) (lines : List (List ℕ)) → IsRows (numbered_rows line_row n lines)
numbered_rows_are line_row h n [] = no_rows
numbered_rows_are line_row h n (line ∷ lines) = joined (h n line) (numbered_rows_are line_row h (n + 1) lines)

-- a report of a text
module _ (text : Text) (color : Bool) where
  -- ---- the margin

  framed : {t : List ℕ} → IsPiece t → IsPiece (shell color frame t)
  framed p = shell_piece color frame refl p

  bar_piece : IsPiece (bar (layout_of text color))
  bar_piece = back (both (blanks_clean _) blank) (framed (solid (codes "|") refl refl))

  pub bar_row : IsRows (bar_line (layout_of text color))
  bar_row = row bar_piece

  numbered_clean : (n : ℕ) → IsClean (numbered (layout_of text color) n)
  numbered_clean n = both (blanks_clean _) (shell_clean color frame refl (decimal_clean n))

  number_piece : (n : ℕ) → IsPiece (number_bar (layout_of text color) n)
  number_piece n = back (both (numbered_clean n) blank) (framed (solid (codes "|") refl refl))

  point_piece : IsPiece (point (layout_of text color))
  point_piece = front (back (both (blanks_clean _) blank) (framed (solid (codes "=") refl refl))) blank

  -- ---- the lines of a range

  module _ (level : Level) where
    marked : {t : List ℕ} → IsClean t → IsClean (shell color (of_level level) t)
    marked p = shell_clean color (of_level level) (level_plain level) p

    inner_row_is : (n : ℕ) (line : List ℕ) → IsRows (inner_row (layout_of text color) (style_of level) n line)
    inner_row_is n line = row (front (front (front (front (number_piece n) blank) (marked (word (codes "|") refl))) blank) (shown_clean line))

    inner_rows_are : (n : ℕ) (lines : List (List ℕ)) → IsRows (inner_rows (layout_of text color) (style_of level) n lines)
    inner_rows_are n lines = numbered_rows_are (inner_row (layout_of text color) (style_of level)) inner_row_is n lines

    gap_row : IsRows (gap (layout_of text color) (style_of level))
    gap_row = row (front (front (framed (solid (codes "...") refl refl)) (blanks_clean _)) (marked (word (codes "|") refl)))

    plain_row_is : (n : ℕ) (line : Text) → IsRows (plain_row (layout_of text color) n line)
    plain_row_is n line = row (front (front (number_piece n) blank) (shown_clean line))

    carets_row : (before count : ℕ) → IsRows (carets (layout_of text color) (style_of level) before count)
    carets_row before count = row (front (front bar_piece (blanks_clean before)) (marked (word (replicate count 94) (repeated is_plain count 94 refl))))

    stroke_row_is : (n : ℕ) (line : Text) → IsRows (stroke_row (layout_of text color) (style_of level) n line)
    stroke_row_is n line = row (front (front (front (front (number_piece n) blank) (marked (word (codes "/") refl))) blank) (shown_clean line))

    inset_row_is : (n : ℕ) (line : Text) → IsRows (inset_row (layout_of text color) n line)
    inset_row_is n line = row (front (front (number_piece n) (word (codes "   ") refl)) (shown_clean line))

    lead_row : (count : ℕ) → IsRows (lead (layout_of text color) (style_of level) count)
    lead_row count =
        row (front (front bar_piece (word (codes "  ") refl)) (marked (both (word (replicate count 95) (repeated is_plain count 95 refl)) (word (codes "^") refl))))

    opening_are : (n : ℕ) (before line : Text) → IsRows (opening_rows (layout_of text color) (style_of level) n before line)
    opening_are n before line =
        cond_both (is_blank before) (stroke_row (layout_of text color) (style_of level) n line) _ IsRows (λ _. stroke_row_is n line)
        (λ _. joined (inset_row_is n line) (lead_row (width_of before + 1)))

    inner_are : (n : ℕ) (lines : List Text) → IsRows (inner_part (layout_of text color) (style_of level) n lines)
    inner_are n lines =
        let last = length lines - 2 in
        cond_both (nat_le (length lines) 5) (inner_rows (layout_of text color) (style_of level) n lines) _ IsRows (λ _. inner_rows_are n lines)
        (λ _. joined (joined (inner_rows_are n (take 3 lines)) gap_row) (inner_rows_are (n + last) (drop last lines)))

    closing_is : (covered : Text) → IsRows (closing_row (layout_of text color) (style_of level) covered)
    closing_is covered =
        row (front (front bar_piece blank)
        (marked (both (both (word (codes "|") refl) (word (replicate (width_of covered) 95) (repeated is_plain (width_of covered) 95 refl))) (word (codes "^") refl))))

    excerpt_of : (n : ℕ) (before covered last : Text) (lines : List Text) → IsRows (excerpt_by (layout_of text color) (style_of level) n before covered last lines)
    excerpt_of n before covered last [] = no_rows
    excerpt_of n before covered last (line ∷ []) = joined (plain_row_is n line) (carets_row (width_of before + 1) (max (width_of covered) 1))
    excerpt_of n before covered last (line ∷ second ∷ more) =
        joined (joined (opening_are n before line) (inner_are (n + 1) (second ∷ more))) (closing_is last)

    pub excerpt_rows : (range : Range) → IsRows (excerpt (layout_of text color) (style_of level) text range)
    excerpt_rows range =
        excerpt_of (line_number text range.start) (front_of text range.start) (slice_range text range.start range.end) (front_of text range.end)
        (lines_of (block_of text range.start range.end))

  -- ---- notes, helps and fixes

  note_is : (label : List ℕ) (t : Text) → IsClean label → IsRows (note_row (layout_of text color) label t)
  unfolding note_row
  note_is label t c = row (front (front (front point_piece (shell_clean color bold refl c)) (word (codes ": ") refl)) (escaped_clean false t))

  note_or_none : (label : List ℕ) (t : Option Text) → IsClean label → IsRows (note (layout_of text color) label t)
  note_or_none label None c = no_rows
  note_or_none label (Some t) c = note_is label t c

  pub notes_rows : (r : Report) (help : Option Text) → IsRows (notes (layout_of text color) r help)
  unfolding notes
  notes_rows r help =
      cond_both (is_none r.note && is_none help && is_none r.fix) [] _ IsRows (λ _. no_rows)
      (λ _. joined (joined bar_row (note_or_none (codes "note") r.note (word (codes "note") refl))) (note_or_none (codes "help") help (word (codes "help") refl)))

  pub hint_rows : (hint : Option Hint) → IsRows (hint_part (layout_of text color) hint)
  unfolding hint_part
  hint_rows None = no_rows
  hint_rows (Some hint) = joined bar_row (note_is (codes "help") (text_of hint) (word (codes "help") refl))

  -- a line that a fix takes away or puts in
  abbrev changed_row : List ℕ → List ℕ → ℕ → List ℕ → List ℕ
  changed_row code sign n line = numbered (layout_of text color) n ++ codes " " ++ shell color code sign ++ codes " " ++ shown line ++ codes "\n"

  changed_row_is : (code sign : List ℕ) → list_all is_plain code ≡ true → IsClean sign → (n : ℕ) (line : List ℕ) → IsRows (changed_row code sign n line)
  changed_row_is code sign e c n line =
      row (front (front (front (back (numbered_clean n) (solid (codes " ") refl refl)) (shell_clean color code e c)) blank) (shown_clean line))

  changed_are : (code sign : List ℕ) → list_all is_plain code ≡ true → IsClean sign → (n : ℕ) (lines : List (List ℕ)) → IsRows (numbered_rows (changed_row code sign) n lines)
  changed_are code sign e c n lines = numbered_rows_are (changed_row code sign) (changed_row_is code sign e c) n lines

  changes_in_rows : (edits : List Edit) → IsRows (changes_in (layout_of text color) text edits)
  unfolding changes_in
  changes_in_rows edits =
      joined (joined bar_row (changed_are removed (codes "-") refl (word (codes "-") refl) _ _)) (changed_are added (codes "+") refl (word (codes "+") refl) _ _)

  changes_rows : (edits : List Edit) → IsRows (changes (layout_of text color) text edits)
  unfolding changes
  changes_rows edits =
      cond_both (not (length edits == 0) && is_in_order 0 (length text) edits) (changes_in (layout_of text color) text edits) [] IsRows (λ _. changes_in_rows edits) (λ _. no_rows)

  mark_clean : (c : FixClass) → IsClean (class_mark c)
  mark_clean class.Safe = word [] refl
  mark_clean class.Unsafe = word (codes " (unsafe)") refl
  mark_clean class.Template = word (codes " (template)") refl

  pub fix_rows : (fix : Option ReportFix) → IsRows (fix_part (layout_of text color) text fix)
  unfolding fix_part
  fix_rows None = no_rows
  fix_rows (Some fix) =
      joined
      (row (front (front (front (shell_piece color added refl (solid (codes "fix") refl refl)) (word (codes ": ") refl)) (escaped_clean false fix.fix.title)) (mark_clean fix.class)))
      (changes_rows fix.fix.edits)
