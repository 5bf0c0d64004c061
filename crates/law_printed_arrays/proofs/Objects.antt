-- From an object of JSON back to its finding.
use Rattle.std.proofs.Common.{◌≡◌, ◌<◌, ◌^◌, ℕ, List, Option, Some, None, ap, length, refl}
use Rattle.std.specs.Option.{IfSome}
use Rattle.law_printed_lines.specs.checked_file.Sound.{AreEditsIn}
use Rattle.law_printed_lines.specs.lint_base.declared.edit.Edit.{Edit}
use Rattle.law_printed_lines.specs.lint_report.declared.report.ReportFix.{ReportFix}
use Rattle.law_printed_lines.specs.report_json.Objects.{edit_object, fix_data}
use Rattle.serde_json.specs.Data.{object}
use Rattle.serde_json.specs.Written.{outline}
use Rattle.law_printed_lines.specs.source_file.File.{IsRangeIn}
use Rattle.std.proofs.lemmas.Fmt.{decimal_injective}
use Rattle.law_printed_lines.specs.text_pos.Range.{Range}
use Rattle.std.specs.Prelude.{decimal}
use Rattle.law_printed_arrays.specs.Kept.{kept_finding}
use Rattle.law_printed_arrays.proofs.Fields.{at, class_back, level_back, place_back, same_edit, same_finding, same_fix, same_range, text_back, text_in}
use Rattle.law_printed_arrays.proofs.Placed.{IsPlaced}
use Rattle.law_printed_arrays.proofs.Places.{at_short}
use Rattle.law_printed_arrays.proofs.Shapes.{LeadsBack, all_equal, items_in}
use Rattle.law_printed_arrays.proofs.Values.{members_by, object_of, range_data}

-- ---- ranges, by their bytes

-- two ranges in texts, by the digits of their ends
range_back : (text other : List ℕ) → length text < 2 ^ 32 → length other < 2 ^ 32 → (r s : Range) → IsRangeIn text r → IsRangeIn other s
    → decimal r.start ≡ decimal s.start → decimal r.end ≡ decimal s.end → r ≡ s
range_back text other short shorter r s p q starts ends =
    same_range r s (decimal_injective r.start s.start (at_short text r.start short p.start) (at_short other s.start shorter q.start) starts)
    (decimal_injective r.end s.end (at_short text r.end short p.end) (at_short other s.end shorter q.end) ends)

statement_back : (text other : List ℕ) → length text < 2 ^ 32 → length other < 2 ^ 32 → (r s : Option Range) → IfSome r (IsRangeIn text) → IfSome s (IsRangeIn other)
    → outline (range_data r) ≡ outline (range_data s) → r ≡ s
statement_back text other short shorter None None p q e = refl
statement_back text other short shorter None (Some s) p q e = cc
statement_back text other short shorter (Some r) None p q e = cc
statement_back text other short shorter (Some r) (Some s) p q e = ap Some (range_back text other short shorter r s p q (ap (λ j. text_in (at 1 j)) e) (ap (λ j. text_in (at 0 j)) e))

-- ---- fixes

-- an edit in a text
abbrev IsEditIn : List ℕ → Edit → Type 0
IsEditIn text e = IsRangeIn text e.text_range

edit_back : (text other : List ℕ) → length text < 2 ^ 32 → length other < 2 ^ 32 → LeadsBack edit_object edit_object (IsEditIn text) (IsEditIn other) (λ e. e)
edit_back text other short shorter a b p q e =
    let ranges = range_back text other short shorter a.text_range b.text_range p q (ap (λ j. text_in (at 1 j)) e) (ap (λ j. text_in (at 0 j)) e) in
    same_edit a b ranges (text_back a.text b.text (ap (λ j. at 2 j) e))

fix_back : (text other : List ℕ) → length text < 2 ^ 32 → length other < 2 ^ 32 → (f g : Option ReportFix) → IfSome f (λ x. AreEditsIn text x.fix.edits) → IfSome g (λ x. AreEditsIn other x.fix.edits)
    → outline (fix_data f) ≡ outline (fix_data g) → f ≡ g
fix_back text other short shorter None None p q e = refl
fix_back text other short shorter None (Some g) p q e = cc
fix_back text other short shorter (Some f) None p q e = cc
fix_back text other short shorter (Some f) (Some g) p q e =
    let class = class_back f.class g.class (ap (λ j. text_in (at 0 j)) e) in
    let title : f.fix.title ≡ g.fix.title = ap (λ j. text_in (at 2 j)) e in
    let edits : f.fix.edits ≡ g.fix.edits = all_equal edit_object edit_object (IsEditIn text) (IsEditIn other) (edit_back text other short shorter) f.fix.edits g.fix.edits p q (ap (λ j. items_in (at 1 j)) e) in
    ap Some (same_fix f g class title edits)

-- ---- findings

pub object_back : LeadsBack (λ f. object (members_by object_of f)) (λ f. object (members_by object_of f)) IsPlaced IsPlaced kept_finding
object_back f g p q e =
    let a = kept_finding f in
    let b = kept_finding g in
    let text = f.file.text in
    let other = g.file.text in
    let part = λ (n : ℕ). ap (λ j. text_in (at n j)) e in
    let bytes = λ (n : ℕ). ap (λ j. text_in (at n (at 10 j))) e in
    same_finding a b (
    record {
      name = part 2;
      range = range_back text other p.short q.short f.range g.range p.range q.range (bytes 1) (bytes 0);
      first = place_back text other f.range.start g.range.start p.short q.short (part 6) (part 0);
      last = place_back text other f.range.end g.range.end p.short q.short (part 7) (part 1);
      level = level_back a.level b.level (part 5);
      rule = part 11;
      message = part 8;
      note = text_back a.note b.note (ap (λ j. at 9 j) e);
      help = text_back a.help b.help (ap (λ j. at 4 j) e);
      fix = fix_back text other p.short q.short f.fix g.fix p.edits q.edits (ap (λ j. at 3 j) e);
      statement = statement_back text other p.short q.short f.statement g.statement p.statement q.statement (ap (λ j. at 12 j) e);
    })
