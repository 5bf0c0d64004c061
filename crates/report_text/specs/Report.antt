-- A finding as people read it.
use Rattle.std.specs.Prelude.{ℕ, ◌-◌, Bool, ◌&&◌, is_none, if◌then◌else◌, List, [], ◌++◌, length, codes, decimal, slice_range, Option, Some, None}
use Rattle.lint_base.specs.text_pos.Range.{Range}
use Rattle.lint_report.specs.declared.report.Report.{Report}
use Rattle.lint_report.specs.Codes.{name_of}
use Rattle.source_file.specs.declared.level.Level.{Level}
use Rattle.source_file.specs.declared.level.Level.TheVariants as level
use Rattle.source_file.specs.declared.refusal.Refusal.{Refusal}
use Rattle.source_file.specs.File.{FileValue, line_number, location}
use Rattle.source_file.specs.declared.hints.Hint.{Hint}
use Rattle.source_file.specs.Hints.{hint_of, text_of}
use Rattle.source_file.specs.Levels.{word_of}
use Rattle.source_file.specs.Line.{Text}
use Rattle.source_file.specs.Refusals as refusals
use Rattle.source_file.specs.Escaped.{escaped}
use Rattle.report_text.specs.declared.layout.Layout.{Layout}
use Rattle.report_text.specs.declared.paint.Style.TheVariants.{Bold, Frame}
use Rattle.report_text.specs.Excerpt.{excerpt}
use Rattle.report_text.specs.Fixed.{fix_part}
use Rattle.report_text.specs.Helps.{is_refused_help}
use Rattle.report_text.specs.Layouts.{bar_line, blanks, point}
use Rattle.report_text.specs.Paint.{painted, style_of}

-- numbers of lines have as many columns as that of the line of the last byte
abbrev pub layout_of : Text → Bool → Layout
layout_of text color = record { color = color; gutter = length (decimal (line_number text (length text - 1))) }

-- `warning[name]`
abbrev pub label : Bool → Level → List ℕ → List ℕ
label color level name = painted color (style_of level) (word_of level ++ codes "[" ++ name ++ codes "]")

-- `warning[name]: message`
unfoldable pub title : Bool → Level → List ℕ → List ℕ → List ℕ
title color level name message = label color level name ++ painted color Bold (codes ": " ++ escaped message) ++ codes "\n"

-- `  --> file:line:column`
abbrev pub arrow : Layout → FileValue → ℕ → List ℕ
arrow l file at =
    let place = location file.text at in
    blanks l.gutter ++ painted l.color Frame (codes "-->") ++ codes " " ++ escaped file.name ++ codes ":" ++ decimal place.line ++ codes ":" ++ decimal place.column ++ codes "\n"

-- where it is there, and the lines
unfoldable pub head : Layout → Level → FileValue → Range → List ℕ
head l level file range = arrow l file range.start ++ bar_line l ++ excerpt l (style_of level) file.text range

-- `   = note: text`
unfoldable pub note_row : Layout → List ℕ → Text → List ℕ
note_row l label text = point l ++ painted l.color Bold label ++ codes ": " ++ escaped text ++ codes "\n"

-- the same, where there is a text
abbrev pub note : Layout → List ℕ → Option Text → List ℕ
note l label None = []
note l label (Some text) = note_row l label text

-- PostgreSQL refuses what the help of a report says
abbrev pub hides_help : FileValue → Report → Bool
hides_help file r = is_refused_help r.code (slice_range file.text r.text_range.start r.text_range.end)

-- the help of a report, unless it is left out
abbrev pub shown_help : Report → Bool → Option Text
shown_help r hides = if hides then None else r.help

-- a note and a help, below a row that has nothing but its margin, which is there before a fix too
unfoldable pub notes : Layout → Report → Option Text → List ℕ
notes l r help =
    if is_none r.note && is_none help && is_none r.fix then []
    else bar_line l ++ note l (codes "note") r.note ++ note l (codes "help") help

-- a report of a file
abbrev pub printed_report : Bool → FileValue → Report → List ℕ
printed_report color file r =
    let l = layout_of file.text color in
    title color level.Warning (name_of r.code) r.message ++ head l level.Warning file r.text_range ++ notes l r (shown_help r (hides_help file r))
    ++ fix_part l file.text r.fix ++ codes "\n"

-- `  --> file`, of a file without a text
abbrev pub name_arrow : Layout → FileValue → List ℕ
name_arrow l file = blanks l.gutter ++ painted l.color Frame (codes "-->") ++ codes " " ++ escaped file.name ++ codes "\n"

-- where a fault is, with its line; of a file without a text, its name
abbrev pub refusal_head : Layout → FileValue → Refusal → List ℕ
refusal_head l file r =
    let at = refusals.place_of r in
    if refusals.has_place r then head l level.Error file (record { start = at; end = at }) else name_arrow l file

-- what may help
unfoldable pub hint_part : Layout → Option Hint → List ℕ
hint_part l None = []
hint_part l (Some hint) = bar_line l ++ note_row l (codes "help") (text_of hint)

-- why a file could not be linted
abbrev pub printed_refusal : Bool → FileValue → Refusal → List ℕ
printed_refusal color file r =
    let l = layout_of file.text color in
    title color level.Error (refusals.name_of r) (refusals.message_of r) ++ refusal_head l file r ++ hint_part l (hint_of file.text r) ++ codes "\n"
