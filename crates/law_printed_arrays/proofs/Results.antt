-- From a result of SARIF back to its finding.
use Rattle.std.proofs.Common.{◌≡◌, ◌∙◌, ◌-◌, ◌<◌, ◌^◌, ℕ, List, All, Option, Some, None, ap, arith, length, refl, sym}
use Rattle.std.proofs.lemmas.Fmt.{decimal_injective}
use Rattle.std.specs.Option.{IfSome}
use Rattle.law_printed_lines.specs.check_print.Found.{Found}
use Rattle.law_printed_lines.specs.checked_file.Sound.{AreEditsIn}
use Rattle.json.specs.Json as json
use Rattle.law_printed_lines.specs.lint_base.declared.edit.Edit.{Edit}
use Rattle.law_printed_lines.specs.lint_report.declared.report.ReportFix.{ReportFix}
use Rattle.percent_encoding.specs.Percent.{percent_decode}
use Rattle.percent_encoding.proofs.PercentLemmas.{round_trip}
use Rattle.law_printed_lines.specs.report_sarif.Places.{region, uri_of}
use Rattle.law_printed_lines.specs.report_sarif.Results.{fixes, inserted, replacement}
use Rattle.serde_json.specs.Data.{object}
use Rattle.serde_json.specs.Written.{members_outline, outline}
use Rattle.law_printed_lines.specs.source_file.File.{FileValue, IsRangeIn}
use Rattle.law_printed_lines.specs.text_pos.Range.{Range}
use Rattle.law_printed_arrays.specs.Kept.{kept_finding}
use Rattle.law_printed_arrays.proofs.Edits.{fixes_are, plain_fixes}
use Rattle.law_printed_arrays.proofs.Fields.{at, class_back, level_back, only, place_back, same_edit, same_finding, same_fix, same_range, text_back, text_in, value_at}
use Rattle.law_printed_arrays.proofs.Placed.{IsPlaced}
use Rattle.law_printed_arrays.proofs.Places.{at_short}
use Rattle.law_printed_arrays.proofs.Shapes.{LeadsBack, all_equal, items_in}
use Rattle.law_printed_arrays.proofs.Values.{members_by, region_data, result_of}

-- ---- a region, by its bytes

length_short : (text : List ℕ) (r : Range) → length text < 2 ^ 32 → IsRangeIn text r → r.end - r.start < 2 ^ 64
length_short text r short h = omega (arith, at_short text r.end short h.end)

end_back : (r s : Range) (text other : List ℕ) → IsRangeIn text r → IsRangeIn other s → r.start ≡ s.start → r.end - r.start ≡ s.end - s.start → r.end ≡ s.end
end_back r s text other h k start size = omega (arith, h.ordered, k.ordered, start, size)

region_back : (text other : List ℕ) (r s : Range) → length text < 2 ^ 32 → length other < 2 ^ 32 → IsRangeIn text r → IsRangeIn other s
    → outline (region text r) ≡ outline (region other s) → r ≡ s
region_back text other r s short shorter h k e =
    let size = decimal_injective (r.end - r.start) (s.end - s.start) (length_short text r short h) (length_short other s shorter k) (ap (λ j. text_in (at 0 j)) e) in
    let start = decimal_injective r.start s.start (at_short text r.start short h.start) (at_short other s.start shorter k.start) (ap (λ j. text_in (at 1 j)) e) in
    same_range r s start (end_back r s text other h k start size)

statement_back : (text other : List ℕ) → length text < 2 ^ 32 → length other < 2 ^ 32 → (r s : Option Range) → IfSome r (IsRangeIn text) → IfSome s (IsRangeIn other)
    → outline (region_data text r) ≡ outline (region_data other s) → r ≡ s
statement_back text other short shorter None None p q e = refl
statement_back text other short shorter None (Some s) p q e = cc
statement_back text other short shorter (Some r) None p q e = cc
statement_back text other short shorter (Some r) (Some s) p q e = ap Some (region_back text other r s short shorter p q e)

-- ---- a fix

-- what is put in
abbrev content : Option (List ℕ) → json.Json
content text = value_at 0 (members_outline (inserted text))

content_back : (t u : Option (List ℕ)) → content t ≡ content u → t ≡ u
content_back None None e = refl
content_back None (Some u) e = cc
content_back (Some t) None e = cc
content_back (Some t) (Some u) e = ap (λ j. Some (text_in (at 0 j))) e

-- an edit in a text
abbrev IsEditIn : List ℕ → Edit → Type 0
IsEditIn text e = IsRangeIn text e.text_range

edit_back : (text other : List ℕ) → length text < 2 ^ 32 → length other < 2 ^ 32 → LeadsBack (replacement text) (replacement other) (IsEditIn text) (IsEditIn other) (λ e. e)
edit_back text other short shorter a b p q e =
    let ranges = region_back text other a.text_range b.text_range short shorter p q (ap (λ j. at 0 j) e) in
    same_edit a b ranges (content_back a.text b.text (ap (λ j. at 1 j) e))

some_back : (file other : FileValue) → length file.text < 2 ^ 32 → length other.text < 2 ^ 32 → (f g : ReportFix) → AreEditsIn file.text f.fix.edits → AreEditsIn other.text g.fix.edits
    → outline (plain_fixes file (Some f)) ≡ outline (plain_fixes other (Some g)) → f ≡ g
some_back file other short shorter f g p q e =
    let class = class_back f.class g.class (ap (λ j. text_in (at 0 (at 2 (only j)))) e) in
    let title : f.fix.title ≡ g.fix.title = ap (λ j. text_in (at 0 (at 1 (only j)))) e in
    let edits : f.fix.edits ≡ g.fix.edits =
    all_equal (replacement file.text) (replacement other.text) (IsEditIn file.text) (IsEditIn other.text) (edit_back file.text other.text short shorter) f.fix.edits g.fix.edits p q
    (ap (λ j. items_in (at 1 (only (at 0 (only j))))) e)
    in
    same_fix f g class title edits

plain_back : (file other : FileValue) → length file.text < 2 ^ 32 → length other.text < 2 ^ 32 → (f g : Option ReportFix) → IfSome f (λ x. AreEditsIn file.text x.fix.edits)
    → IfSome g (λ x. AreEditsIn other.text x.fix.edits) → outline (plain_fixes file f) ≡ outline (plain_fixes other g) → f ≡ g
plain_back file other short shorter None None p q e = refl
plain_back file other short shorter None (Some g) p q e = cc
plain_back file other short shorter (Some f) None p q e = cc
plain_back file other short shorter (Some f) (Some g) p q e = ap Some (some_back file other short shorter f g p q e)

fix_back : (f g : Found) → IsPlaced f → IsPlaced g → outline (fixes f.file f.fix) ≡ outline (fixes g.file g.fix) → f.fix ≡ g.fix
fix_back f g p q e =
    plain_back f.file g.file p.short q.short f.fix g.fix p.edits q.edits
    (sym (ap outline (fixes_are f.file f.fix p.edits)) ∙ e ∙ ap outline (fixes_are g.file g.fix q.edits))

-- ---- a name, from its form in a URI

uri_back : (name : List ℕ) → All (λ b. b < 256) name → percent_decode (uri_of name) ≡ name
uri_back name short = round_trip _ name refl short

uri_same : (name other : List ℕ) → All (λ b. b < 256) name → All (λ b. b < 256) other → percent_decode (uri_of name) ≡ percent_decode (uri_of other) → name ≡ other
uri_same name other short others e = sym (uri_back name short) ∙ e ∙ uri_back other others

-- ---- a result

-- where it is
abbrev physical : json.Json → json.Json
physical j = at 0 (only (at 2 j))

abbrev name_in : json.Json → List ℕ
name_in j = percent_decode (text_in (at 0 (at 0 (physical j))))

pub result_back : LeadsBack (λ f. object (members_by result_of f)) (λ f. object (members_by result_of f)) IsPlaced IsPlaced kept_finding
result_back f g p q e =
    let a = kept_finding f in
    let b = kept_finding g in
    let text = f.file.text in
    let other = g.file.text in
    let number = λ (n : ℕ). ap (λ j. text_in (at n (at 1 (physical j)))) e in
    same_finding a b (
    record {
      name = uri_same a.name b.name p.named q.named (ap name_in e);
      range = region_back text other f.range g.range p.short q.short p.range q.range (ap (λ j. at 1 (physical j)) e);
      first = place_back text other f.range.start g.range.start p.short q.short (number 5) (number 4);
      last = place_back text other f.range.end g.range.end p.short q.short (number 3) (number 2);
      level = level_back a.level b.level (ap (λ j. text_in (at 1 j)) e);
      rule = ap (λ j. text_in (at 5 j)) e;
      message = ap (λ j. text_in (at 0 (at 3 j))) e;
      note = text_back a.note b.note (ap (λ j. at 1 (at 4 j)) e);
      help = text_back a.help b.help (ap (λ j. at 0 (at 4 j)) e);
      fix = fix_back f g p q (ap (λ j. at 0 j) e);
      statement = statement_back text other p.short q.short f.statement g.statement p.statement q.statement (ap (λ j. at 2 (at 4 j)) e);
    })
