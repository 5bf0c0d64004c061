-- The printed form of reports.
use Rattle.std.specs.Prelude.{ℕ, List, [], ◌++◌, ◌==◌, if◌then◌else◌, length, codes, decimal, Option, Some, None}
use Rattle.std.specs.List.{flat_map}
use Rattle.lint_base.specs.text_pos.Range.{Range}
use Rattle.lint_base.specs.declared.edit.Edit.{Edit}
use Rattle.lint_base.specs.declared.violation.Violation.{Violation}
use Rattle.lint_base.specs.Fixes.{FixValue}
use Rattle.lint_base.specs.Rules.{name_of}
use Rattle.squawk_print.specs.Escaped.{escaped}

-- start..end, in bytes
abbrev pub printed_range : Range → List ℕ
printed_range r = decimal r.start ++ codes ".." ++ decimal r.end

-- a line of its own, where there is a text
abbrev pub labelled : List ℕ → Option (List ℕ) → List ℕ
labelled label None = []
labelled label (Some text) = label ++ escaped text ++ codes "\n"

abbrev pub quoted : List ℕ → List ℕ
quoted text = codes " \"" ++ escaped text ++ codes "\"\n"

abbrev pub insertion : ℕ → List ℕ → List ℕ
insertion at text = codes "    insert " ++ decimal at ++ quoted text

abbrev pub replacement : Range → List ℕ → List ℕ
replacement range text = codes "    replace " ++ printed_range range ++ quoted text

abbrev pub deletion : Range → List ℕ
deletion range = codes "    delete " ++ printed_range range ++ codes "\n"

abbrev pub printed_change : Range → Option (List ℕ) → List ℕ
printed_change range None = deletion range
printed_change range (Some text) = if range.start == range.end then insertion range.start text else replacement range text

-- a text at an empty range is inserted
abbrev pub printed_edit : Edit → List ℕ
printed_edit edit = printed_change edit.text_range edit.text

-- the title and the edits, a line each
abbrev pub printed_fix : Option FixValue → List ℕ
printed_fix None = []
printed_fix (Some fix) = labelled (codes "  fix: ") (Some fix.title) ++ flat_map printed_edit fix.edits

-- where it is present, its rule and its message
abbrev pub printed_head : Violation → List ℕ
printed_head v = printed_range v.text_range ++ codes ": warning[" ++ name_of v.code ++ codes "]: " ++ escaped v.message ++ codes "\n"

unfoldable pub printed_violation : Violation → List ℕ
printed_violation v =
    printed_head v ++ labelled (codes "  note: ") v.note ++ labelled (codes "  help: ") v.help ++ printed_fix v.fix

-- one after the other
abbrev pub printed_each : List Violation → List ℕ
printed_each vs = flat_map printed_violation vs

-- each report, and then their count
unfoldable pub printed : List Violation → List ℕ
printed vs = printed_each vs ++ codes "violations: " ++ decimal (length vs) ++ codes "\n"
