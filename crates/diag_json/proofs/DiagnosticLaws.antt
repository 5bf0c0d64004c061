-- Whole diagnostics: what is read is what was written, and nothing else is read.
use Rattle.std.proofs.Common.{◌≡◌, ◌∙◌, ℕ, cond, ◌&&◌, List, [], ◌∷◌, map, Option, Some, None, option_map, option_and_then, codes, bytes_eq, nat_eq, refl, ap, arith, inl, inr, lit<}
use Rattle.std.proofs.lemmas.Bool.{cases_Bool, and_parts}
use Rattle.std.proofs.lemmas.Bool.Decides.{eqb_tells}
use Rattle.std.proofs.lemmas.Slice.Eq.{bytes_eq-Decides}
use Rattle.std.specs.List.{AllByRecursion}
use Rattle.std.specs.Prelude.{IfSome}
use Rattle.lint_base.specs.declared.rule.Rule.{Rule}
use Rattle.lint_base.specs.Rules.{name_of}
use Rattle.serde_json.specs.Data.{Data, Items, Members, array, item, member, no_items, no_members, object, string}
use Rattle.serde_json.specs.Find.{as_array, as_object, as_str}
use Rattle.serde_json.specs.View.{items_of}
use Rattle.text_utf16.specs.declared.position.Pos.{Pos}
use Rattle.diag_json.proofs.RuleLaws.{rule_read, rule_is}
use Rattle.diag_json.proofs.PartLaws.{and_then_some, array_is, edit_is, edit_read, ended, map_some, object_is, range_is, range_read, string_is, took, took_if, two_members, whole_is, whole_read}
use Rattle.diag_json.specs.Answers.{HasPositions, IsDiagnostic, IsPosition}
use Rattle.diag_json.specs.declared.diagnostic.Diagnostic.{Diagnostic}
use Rattle.diag_json.specs.Fix.{DiagFixValue}
use Rattle.diag_json.specs.Json.{diagnostic_json, edit_json, fix_json, list_json, member_if, range_json, whole_json}
use Rattle.diag_json.specs.Reading.{Message, Place, at_end, read_diagnostic, read_each, read_edit, read_fix, read_if, read_last, read_list, read_message, read_place, read_range, read_whole, rule_with_name, take_member, take_member_if}

-- ---- lists

module _ {A : Type 0} (write : A → Data) (read : Data → Option A) (Fits : A → Type 0) where
  -- each item that was written is read
  pub each_read : ((x : A) → Fits x → read (write x) ≡ Some x) → (xs : List A) → AllByRecursion Fits xs → read_each read (items_of (map write xs)) ≡ Some xs
  each_read one [] h = refl
  each_read one (x ∷ xs) h = rw (one x h.0, each_read one xs h.1) refl

  -- each item that is read was written
  pub each_is : ((d : Data) (x : A) → read d ≡ Some x → (d ≡ write x) × Fits x) → (items : Items) (xs : List A) → read_each read items ≡ Some xs → (items ≡ items_of (map write xs)) × AllByRecursion Fits xs
  each_is one no_items xs e = let is : [] ≡ xs = cc in (ap (λ ys. items_of (map write ys)) is, rw (← is) tt)
  each_is one (item d items) xs e =
      let first = and_then_some (read d) xs e in
      let others = map_some (read_each read items) xs first.2 in
      let here = one d first.0 first.1 in
      let rest = each_is one items others.0 others.1 in
      ((λ i. item (here.0 i) (rest.0 i)) ∙ ap (λ ys. items_of (map write ys)) others.2, rw (← others.2) (here.1, rest.1))

-- ---- fixes

pub fix_read : (f : DiagFixValue) → AllByRecursion HasPositions f.edits → read_fix (fix_json f) ≡ Some f
unfolding read_fix fix_json
fix_read f h = rw (each_read edit_json read_edit HasPositions edit_read f.edits h) refl

pub fix_is : (d : Data) (f : DiagFixValue) → read_fix d ≡ Some f → (d ≡ fix_json f) × AllByRecursion HasPositions f.edits
unfolding read_fix fix_json
fix_is d f e =
    let members = and_then_some (as_object d) f e in
    let first = and_then_some (take_member (codes "edits") members.0) f members.2 in
    let edits = and_then_some (read_list read_edit first.0.0) f first.2 in
    let second = and_then_some (take_member (codes "title") first.0.1) f edits.2 in
    let title = and_then_some (as_str second.0.0) f second.2 in
    let last = ended (record { title = title.0; edits = edits.0 }) f second.0.1 title.2 in
    let list = and_then_some (as_array first.0.0) edits.0 edits.1 in
    let each = each_is edit_json read_edit HasPositions edit_is list.0 edits.0 list.2 in
    let edits_are : first.0.0 ≡ list_json edit_json edits.0 = array_is first.0.0 list.0 list.1 ∙ ap array each.0 in
    let title_is = string_is second.0.0 title.0 title.1 in
    let form = two_members (codes "edits") (codes "title") d first.0.0 second.0.0 members.0 first.0.1 second.0.1
    (object_is d members.0 members.1) (took (codes "edits") members.0 first.0 first.1) (took (codes "title") first.0.1 second.0 second.1) last.0 in
    (form ∙ (λ i. object (member (codes "edits") (edits_are i) (member (codes "title") (title_is i) no_members))) ∙ ap fix_json last.1, rw (← last.1) each.1)

-- ---- values that may be absent

pub if_read : {A : Type 0} (write : A → Data) (read : Data → Option A) (Fits : A → Type 0) → ((x : A) → Fits x → read (write x) ≡ Some x) → (o : Option A) → IfSome o Fits → read_if read (option_map write o) ≡ Some o
if_read write read Fits one None h = refl
if_read write read Fits one (Some x) h = ap (option_map Some) (one x h)

pub if_is : {A : Type 0} (write : A → Data) (read : Data → Option A) (Fits : A → Type 0) → ((d : Data) (x : A) → read d ≡ Some x → (d ≡ write x) × Fits x) → (o : Option Data) (x : Option A) → read_if read o ≡ Some x → (o ≡ option_map write x) × IfSome x Fits
if_is write read Fits one None x e = let is : None ≡ x = cc in (ap (option_map write) is, rw (← is) tt)
if_is write read Fits one (Some d) x e =
    let found = map_some (read d) x e in
    let here = one d found.0 found.1 in
    (ap Some here.0 ∙ ap (option_map write) found.2, rw (← found.2) here.1)

text_if_is : (o : Option Data) (x : Option (List ℕ)) → read_if as_str o ≡ Some x → o ≡ option_map string x
text_if_is o x e = (if_is string as_str (λ _. Unit {0}) (λ d text h. (string_is d text h, tt)) o x e).0

-- ---- diagnostics

last_is : (members : Members) (u : Unit {0}) → read_last members ≡ Some u → members ≡ member (codes "severity") (whole_json 2) (member (codes "source") (string (codes "squawk")) no_members)
unfolding read_last
last_is members u e =
    let severity = and_then_some (take_member (codes "severity") members) u e in
    let number = and_then_some (read_whole severity.0.0) u severity.2 in
    let source = and_then_some (take_member (codes "source") severity.0.1) u number.2 in
    let name = and_then_some (as_str source.0.0) u source.2 in
    let is = same number.0 name.0 source.0.1 u name.2 in
    took (codes "severity") members severity.0 severity.1
    ∙ (λ i. member (codes "severity") (((whole_is severity.0.0 number.0 number.1).0 ∙ ap whole_json is.0) i)
    ((took (codes "source") severity.0.1 source.0 source.1
    ∙ (λ j. member (codes "source") ((string_is source.0.0 name.0 name.1 ∙ ap string is.1) j) (is.2 j))) i))
  where
    same : (n : ℕ) (name : List ℕ) (rest : Members) (u : Unit {0}) → cond (nat_eq n 2 && bytes_eq name (codes "squawk")) (at_end tt rest) None ≡ Some u → (n ≡ 2) × (name ≡ codes "squawk") × (rest ≡ no_members)
    same n name rest u e =
        elim (cases_Bool (nat_eq n 2 && bytes_eq name (codes "squawk"))) [
          | inl holds ↦
              let both = and_parts (nat_eq n 2) (bytes_eq name (codes "squawk")) holds in
              let at : at_end tt rest ≡ Some u = rw holds at e in
              (grind (arith, both.0, eqb_tells n 2), (bytes_eq-Decides name (codes "squawk")).0 both.1, (ended tt u rest at).0)
          | inr fails ↦ let none : None ≡ Some u = rw fails at e in absurd (cc)
        ]

-- what is the same in each diagnostic
abbrev last_members : Members
last_members = member (codes "severity") (whole_json 2) (member (codes "source") (string (codes "squawk")) no_members)

place_is : (members : Members) (p : Place) → read_place members ≡ Some p → (members ≡ member_if (codes "note") (option_map string p.note) (member (codes "range") (range_json p.start p.end) last_members)) × (IsPosition p.start × IsPosition p.end)
unfolding read_place
place_is members p e =
    let taken = take_member_if (codes "note") members in
    let note = and_then_some (read_if as_str taken.0) p e in
    let range = and_then_some (take_member (codes "range") taken.1) p note.2 in
    let ends = and_then_some (read_range range.0.0) p range.2 in
    let last = map_some (read_last range.0.1) p ends.2 in
    let is = range_is range.0.0 ends.0 ends.1 in (
      took_if (codes "note") members
          ∙ (λ i. member_if (codes "note") (text_if_is taken.0 note.0 note.1 i)
          ((took (codes "range") taken.1 range.0 range.1 ∙ (λ j. member (codes "range") (is.0 j) (last_is range.0.1 last.0 last.1 j))) i))
          ∙ ap (λ q. member_if (codes "note") (option_map string q.note) (member (codes "range") (range_json q.start q.end) last_members)) last.2,
      rw (← last.2) (is.1.0, is.1.1),
    )

message_is : (members : Members) (m : Message) → read_message members ≡ Some m → members ≡ member_if (codes "help") (option_map string m.help) (member (codes "message") (string m.message) m.others)
unfolding read_message
message_is members m e =
    let taken = take_member_if (codes "help") members in
    let help = and_then_some (read_if as_str taken.0) m e in
    let said = and_then_some (take_member (codes "message") taken.1) m help.2 in
    let message = map_some (as_str said.0.0) m said.2 in
    took_if (codes "help") members
    ∙ (λ i. member_if (codes "help") (text_if_is taken.0 help.0 help.1 i)
    ((took (codes "message") taken.1 said.0 said.1 ∙ (λ j. member (codes "message") (string_is said.0.0 message.0 message.1 j) said.0.1)) i))
    ∙ ap (λ n. member_if (codes "help") (option_map string n.help) (member (codes "message") (string n.message) n.others)) message.2

-- what is read is the JSON of it
pub diagnostic_is : (d : Data) (x : Diagnostic) → read_diagnostic d ≡ Some x → (d ≡ diagnostic_json x) × IsDiagnostic x
unfolding read_diagnostic diagnostic_json
diagnostic_is d x e =
    let members = and_then_some (as_object d) x e in
    let code = and_then_some (take_member (codes "code") members.0) x members.2 in
    let rule = and_then_some (option_and_then rule_with_name (as_str code.0.0)) x code.2 in
    let name = and_then_some (as_str code.0.0) rule.0 rule.1 in
    let taken = take_member_if (codes "fix") code.0.1 in
    let fix = and_then_some (read_if read_fix taken.0) x rule.2 in
    let m = and_then_some (read_message taken.1) x fix.2 in
    let p = map_some (read_place m.0.others) x m.2 in
    let fix_is_json = if_is fix_json read_fix (λ f. AllByRecursion HasPositions f.edits) fix_is taken.0 fix.0 fix.1 in
    let place = place_is m.0.others p.0 p.1 in
    let code_is : code.0.0 ≡ string (name_of rule.0) = string_is code.0.0 name.0 name.1 ∙ ap string (rule_is name.0 rule.0 name.2) in (
      object_is d members.0 members.1
          ∙ ap object (took (codes "code") members.0 code.0 code.1
          ∙ (λ i. member (codes "code") (code_is i)
          ((took_if (codes "fix") code.0.1
          ∙ (λ j. member_if (codes "fix") (fix_is_json.0 j)
          ((message_is taken.1 m.0 m.1
          ∙ (λ k. member_if (codes "help") (option_map string m.0.help) (member (codes "message") (string m.0.message) (place.0 k)))) j))) i)))
          ∙ ap diagnostic_json p.2,
      rw (← p.2) (record { start = place.1.0; end = place.1.1; fix = fix_is_json.1 }),
    )

-- what was written is read
read_by : (start end : Pos) (r : Rule) (message : List ℕ) (note help : Option (List ℕ)) (fix : Option DiagFixValue) → IsPosition start → IsPosition end → IfSome fix (λ f. AllByRecursion HasPositions f.edits)
    → read_diagnostic (diagnostic_json (record { start = start; end = end; rule = r; message = message; note = note; help = help; fix = fix })) ≡ Some (record { start = start; end = end; rule = r; message = message; note = note; help = help; fix = fix })
unfolding read_diagnostic diagnostic_json read_message read_place read_last
read_by start end r message None None None s e h = rw (rule_read r, range_read start end s e, whole_read 2 (lit< tt)) refl
read_by start end r message None None (Some fix) s e h = rw (rule_read r, fix_read fix h, range_read start end s e, whole_read 2 (lit< tt)) refl
read_by start end r message None (Some help) None s e h = rw (rule_read r, range_read start end s e, whole_read 2 (lit< tt)) refl
read_by start end r message None (Some help) (Some fix) s e h = rw (rule_read r, fix_read fix h, range_read start end s e, whole_read 2 (lit< tt)) refl
read_by start end r message (Some note) None None s e h = rw (rule_read r, range_read start end s e, whole_read 2 (lit< tt)) refl
read_by start end r message (Some note) None (Some fix) s e h = rw (rule_read r, fix_read fix h, range_read start end s e, whole_read 2 (lit< tt)) refl
read_by start end r message (Some note) (Some help) None s e h = rw (rule_read r, range_read start end s e, whole_read 2 (lit< tt)) refl
read_by start end r message (Some note) (Some help) (Some fix) s e h = rw (rule_read r, fix_read fix h, range_read start end s e, whole_read 2 (lit< tt)) refl

pub diagnostic_read : (d : Diagnostic) → IsDiagnostic d → read_diagnostic (diagnostic_json d) ≡ Some d
diagnostic_read d is = read_by d.start d.end d.rule d.message d.note d.help d.fix is.start is.end is.fix
