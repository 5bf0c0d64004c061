-- The JSON of diagnostics has no float and is not deep.
use Rattle.std.proofs.Common.{◌≡◌, ◌∙◌, ◌≤◌, ◌||◌, ℕ, suc, max, false, List, [], ◌∷◌, map, Option, None, Some, option_map, codes, refl, arith}
use Rattle.serde_json.specs.Data.{Data, Members, depth, items_depth, member, members_depth, no_members, number, string, unsigned}
use Rattle.serde_json.specs.View.{items_of}
use Rattle.serde_json.specs.Written.{has_float, items_have_float, members_have_float}
use Rattle.text_utf16.specs.declared.position.Pos.{Pos}
use Rattle.diag_json.specs.declared.diagnostic.Diagnostic.{Diagnostic}
use Rattle.diag_json.specs.declared.diagnostic.DiagEdit.{DiagEdit}
use Rattle.diag_json.specs.Fix.{DiagFixValue}
use Rattle.diag_json.specs.Json.{diagnostic_json, edit_json, fix_json, json, member_if, new_text_json, position_json, range_json}

module _ {A : Type 0} (write : A → Data) where
  no_floats : ((x : A) → has_float (write x) ≡ false) → (xs : List A) → items_have_float (items_of (map write xs)) ≡ false
  no_floats one [] = refl
  no_floats one (x ∷ xs) = rw (one x) (no_floats one xs)

  shallow : (n : ℕ) → ((x : A) → depth (write x) ≤ n) → (xs : List A) → items_depth (items_of (map write xs)) ≤ n
  shallow n one [] = omega arith
  shallow n one (x ∷ xs) = under (depth (write x)) (items_depth (items_of (map write xs))) n (one x) (shallow n one xs)
    where
      under : (a b n : ℕ) → a ≤ n → b ≤ n → max a b ≤ n
      under a b n l m = omega (arith, l, m)

no_float_range : (start end : Pos) → has_float (range_json start end) ≡ false
unfolding range_json position_json
no_float_range start end = refl

shallow_range : (start end : Pos) → depth (range_json start end) ≡ 2
unfolding range_json position_json
shallow_range start end = refl

no_float_edit : (e : DiagEdit) → has_float (edit_json e) ≡ false
unfolding edit_json
no_float_edit e = by e.text
  where
    by : (text : Option (List ℕ)) → has_float (new_text_json text) || (has_float (range_json e.start e.end) || false) ≡ false
    by None = rw (no_float_range e.start e.end) refl
    by (Some text) = rw (no_float_range e.start e.end) refl

shallow_edit : (e : DiagEdit) → depth (edit_json e) ≤ 3
unfolding edit_json
shallow_edit e = by e.text
  where
    by : (text : Option (List ℕ)) → suc (max (depth (new_text_json text)) (max (depth (range_json e.start e.end)) 0)) ≤ 3
    by None = rw (shallow_range e.start e.end) (omega arith)
    by (Some text) = rw (shallow_range e.start e.end) (omega arith)

no_float_fix : (f : DiagFixValue) → has_float (fix_json f) ≡ false
unfolding fix_json
no_float_fix f = rw (no_floats edit_json no_float_edit f.edits) refl

shallow_fix : (f : DiagFixValue) → depth (fix_json f) ≤ 5
unfolding fix_json
shallow_fix f = by (items_depth (items_of (map edit_json f.edits))) (shallow edit_json 3 shallow_edit f.edits)
  where
    by : (n : ℕ) → n ≤ 3 → suc (max (suc n) (max 0 0)) ≤ 5
    by n l = omega (arith, l)

-- a member that may be absent
no_float_if : {A : Type 0} (write : A → Data) → ((x : A) → has_float (write x) ≡ false) → (key : List ℕ) (o : Option A) (others : Members) → members_have_float (member_if key (option_map write o) others) ≡ members_have_float others
no_float_if write one key None others = refl
no_float_if write one key (Some x) others = rw (one x) refl

shallow_if : {A : Type 0} (write : A → Data) (n : ℕ) → ((x : A) → depth (write x) ≤ n) → (key : List ℕ) (o : Option A) (others : Members) → members_depth others ≤ n → members_depth (member_if key (option_map write o) others) ≤ n
shallow_if write n one key None others l = l
shallow_if write n one key (Some x) others l = omega (arith, one x, l)

no_float_diagnostic : (d : Diagnostic) → has_float (diagnostic_json d) ≡ false
unfolding diagnostic_json
no_float_diagnostic d =
    no_float_if fix_json no_float_fix (codes "fix") d.fix _
    ∙ no_float_if string (λ _. refl) (codes "help") d.help _
    ∙ no_float_if string (λ _. refl) (codes "note") d.note _
    ∙ rw (no_float_range d.start d.end) refl

-- the members from the range on, and those from the message on
abbrev last : Diagnostic → Members
last d = member (codes "range") (range_json d.start d.end) (member (codes "severity") (number (unsigned 2)) (member (codes "source") (string (codes "squawk")) no_members))

abbrev said : Diagnostic → Members
said d = member (codes "message") (string d.message) (member_if (codes "note") (option_map string d.note) (last d))

shallow_diagnostic : (d : Diagnostic) → depth (diagnostic_json d) ≤ 6
unfolding diagnostic_json
shallow_diagnostic d =
    omega (
      arith,
      shallow_if fix_json 5 shallow_fix (codes "fix") d.fix (member_if (codes "help") (option_map string d.help) (said d))
          (shallow_if string 5 (λ _. omega arith) (codes "help") d.help (said d)
          (omega (arith, shallow_if string 5 (λ _. omega arith) (codes "note") d.note (last d) (omega (arith, shallow_range d.start d.end))))),
    )

-- a list of diagnostics
pub no_float : (diagnostics : List Diagnostic) → has_float (json diagnostics) ≡ false
no_float diagnostics = no_floats diagnostic_json no_float_diagnostic diagnostics

pub not_deep : (diagnostics : List Diagnostic) → depth (json diagnostics) ≤ 127
not_deep diagnostics = omega (arith, shallow diagnostic_json 6 shallow_diagnostic diagnostics)
