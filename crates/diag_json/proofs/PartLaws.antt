-- What is read is what was written, and nothing else is read.
use Rattle.std.proofs.Common.{◌≡◌, ◌∙◌, ◌<◌, ◌^◌, ℕ, true, cond, List, Option, Some, None, option_map, option_and_then, codes, bytes_eq, nat_lt, refl, ap, inl, inr}
use Rattle.std.proofs.lemmas.Bool.{cases_Bool, lt-ltb, ltb-true}
use Rattle.std.proofs.lemmas.Slice.Eq.{bytes_eq-Decides}
use Rattle.serde_json.specs.Data.{Data, Items, Members, array, boolean, float, member, negative, no_members, null, number, object, string, unsigned}
use Rattle.serde_json.specs.Find.{as_array, as_object, as_str}
use Rattle.text_utf16.specs.declared.position.Pos.{Pos}
use Rattle.diag_json.specs.Answers.{HasPositions, IsPosition}
use Rattle.diag_json.specs.declared.diagnostic.DiagEdit.{DiagEdit}
use Rattle.diag_json.specs.Json.{edit_json, member_if, new_text_json, position_json, range_json, whole_json}
use Rattle.diag_json.specs.Reading.{at_end, or_none, read_edit, read_new_text, read_position, read_range, read_whole, take_member, take_member_if}

-- ---- steps

pub and_then_some : {A B : Type 0} {f : A → Option B} (o : Option A) (b : B) → option_and_then f o ≡ Some b → (a : A) × (o ≡ Some a) × (f a ≡ Some b)
and_then_some None b e = absurd (cc)
and_then_some (Some a) b e = (a, refl, e)

pub map_some : {A B : Type 0} {f : A → B} (o : Option A) (b : B) → option_map f o ≡ Some b → (a : A) × (o ≡ Some a) × (f a ≡ b)
map_some None b e = absurd (cc)
map_some (Some a) b e = (a, refl, cc)

pub took : (key : List ℕ) (members : Members) (taken : Data × Members) → take_member key members ≡ Some taken → members ≡ member key taken.0 taken.1
took key no_members taken e = absurd (cc)
took key (member k d others) taken e =
    elim (cases_Bool (bytes_eq k key)) [
      | inl holds ↦
          let same : k ≡ key = (bytes_eq-Decides k key).0 holds in
          let is : Some (d, others) ≡ Some taken = rw holds at e in
          let pair : (d, others) ≡ taken = cc in
          rw (same, ← pair) refl
      | inr fails ↦ let none : None ≡ Some taken = rw fails at e in absurd (cc)
    ]

pub took_if : (key : List ℕ) (members : Members) → members ≡ member_if key (take_member_if key members).0 (take_member_if key members).1
took_if key members = by (take_member key members) refl
  where
    by : (o : Option (Data × Members)) → take_member key members ≡ o → members ≡ member_if key (or_none members o).0 (or_none members o).1
    by None e = refl
    by (Some taken) e = took key members taken e

pub object_is : (d : Data) (members : Members) → as_object d ≡ Some members → d ≡ object members
object_is null ms e = absurd (cc)
object_is (boolean b) ms e = absurd (cc)
object_is (number n) found e = absurd (cc)
object_is (string s) ms e = absurd (cc)
object_is (array items) ms e = absurd (cc)
object_is (object found) ms e = cc

pub array_is : (d : Data) (items : Items) → as_array d ≡ Some items → d ≡ array items
array_is null items e = absurd (cc)
array_is (boolean b) items e = absurd (cc)
array_is (number n) items e = absurd (cc)
array_is (string s) items e = absurd (cc)
array_is (array found) items e = cc
array_is (object entries) items e = absurd (cc)

pub string_is : (d : Data) (text : List ℕ) → as_str d ≡ Some text → d ≡ string text
string_is null text e = absurd (cc)
string_is (boolean b) text e = absurd (cc)
string_is (number n) text e = absurd (cc)
string_is (string s) text e = cc
string_is (array items) text e = absurd (cc)
string_is (object entries) text e = absurd (cc)

pub ended : {A : Type 0} (x y : A) (members : Members) → at_end x members ≡ Some y → (members ≡ no_members) × (x ≡ y)
ended x y no_members e = (refl, cc)
ended x y (member k d others) e = absurd (cc)

-- ---- whole numbers

pub whole_read : (n : ℕ) → n < 2 ^ 32 → read_whole (whole_json n) ≡ Some n
unfolding read_whole
whole_read n l = let fits : nat_lt n (2 ^ 32) ≡ true = lt-ltb n (2 ^ 32) l in rw fits refl

whole_fits : (m n : ℕ) → cond (nat_lt m (2 ^ 32)) (Some m) None ≡ Some n → (m ≡ n) × (n < 2 ^ 32)
whole_fits m n e =
    elim (cases_Bool (nat_lt m (2 ^ 32))) [
      | inl holds ↦
          let is : Some m ≡ Some n = rw holds at e in
          let same : m ≡ n = cc in
          (same, rw (← same) (ltb-true m (2 ^ 32) holds))
      | inr fails ↦ let none : None ≡ Some n = rw fails at e in absurd (cc)
    ]

pub whole_is : (d : Data) (n : ℕ) → read_whole d ≡ Some n → (d ≡ whole_json n) × (n < 2 ^ 32)
unfolding read_whole
whole_is null n e = absurd (cc)
whole_is (boolean b) n e = absurd (cc)
whole_is (number (unsigned m)) n e = let is = whole_fits m n e in (ap whole_json is.0, is.1)
whole_is (number (negative z)) n e = absurd (cc)
whole_is (number (float x)) n e = absurd (cc)
whole_is (string s) n e = absurd (cc)
whole_is (array items) n e = absurd (cc)
whole_is (object entries) n e = absurd (cc)

-- ---- positions and ranges

pub position_read : (p : Pos) → IsPosition p → read_position (position_json p) ≡ Some p
unfolding read_position position_json
position_read p is = rw (whole_read p.col is.col, whole_read p.line is.line) refl

pub two_members : (k l : List ℕ) (d x y : Data) (members after rest : Members) → d ≡ object members → members ≡ member k x after → after ≡ member l y rest → rest ≡ no_members → d ≡ object (member k x (member l y no_members))
two_members k l d x y ms after rest a b c e = a ∙ ap object (b ∙ ap (member k x) (c ∙ ap (member l y) e))

pub position_is : (d : Data) (p : Pos) → read_position d ≡ Some p → (d ≡ position_json p) × IsPosition p
unfolding read_position position_json
position_is d p e =
    let members = and_then_some (as_object d) p e in
    let first = and_then_some (take_member (codes "character") members.0) p members.2 in
    let col = and_then_some (read_whole first.0.0) p first.2 in
    let second = and_then_some (take_member (codes "line") first.0.1) p col.2 in
    let line = and_then_some (read_whole second.0.0) p second.2 in
    let end = ended (record { line = line.0; col = col.0 }) p second.0.1 line.2 in
    let col_is = whole_is first.0.0 col.0 col.1 in
    let line_is = whole_is second.0.0 line.0 line.1 in
    let form = two_members (codes "character") (codes "line") d first.0.0 second.0.0 members.0 first.0.1 second.0.1
    (object_is d members.0 members.1) (took (codes "character") members.0 first.0 first.1) (took (codes "line") first.0.1 second.0 second.1) end.0 in (
      form ∙ (λ i. object (member (codes "character") (col_is.0 i) (member (codes "line") (line_is.0 i) no_members))) ∙ ap position_json end.1,
      rw (← end.1) (record { line = line_is.1; col = col_is.1 }),
    )

pub range_read : (start end : Pos) → IsPosition start → IsPosition end → read_range (range_json start end) ≡ Some (start, end)
unfolding read_range range_json
range_read start end s e = rw (position_read end e, position_read start s) refl

pub range_is : (d : Data) (r : Pos × Pos) → read_range d ≡ Some r → (d ≡ range_json r.0 r.1) × (IsPosition r.0 × IsPosition r.1)
unfolding read_range range_json
range_is d r e =
    let members = and_then_some (as_object d) r e in
    let first = and_then_some (take_member (codes "end") members.0) r members.2 in
    let end = and_then_some (read_position first.0.0) r first.2 in
    let second = and_then_some (take_member (codes "start") first.0.1) r end.2 in
    let start = and_then_some (read_position second.0.0) r second.2 in
    let last = ended (start.0, end.0) r second.0.1 start.2 in
    let end_is = position_is first.0.0 end.0 end.1 in
    let start_is = position_is second.0.0 start.0 start.1 in
    let form = two_members (codes "end") (codes "start") d first.0.0 second.0.0 members.0 first.0.1 second.0.1
    (object_is d members.0 members.1) (took (codes "end") members.0 first.0 first.1) (took (codes "start") first.0.1 second.0 second.1) last.0 in (
      form ∙ (λ i. object (member (codes "end") (end_is.0 i) (member (codes "start") (start_is.0 i) no_members))) ∙ ap (λ q. range_json q.0 q.1) last.1,
      rw (← last.1) (start_is.1, end_is.1),
    )

-- ---- edits

pub edit_read : (e : DiagEdit) → HasPositions e → read_edit (edit_json e) ≡ Some e
unfolding read_edit edit_json
edit_read e is = by e.text
  where
    by : (text : Option (List ℕ)) → read_edit (edit_json (record { start = e.start; end = e.end; text = text })) ≡ Some (record { start = e.start; end = e.end; text = text })
    by None = rw (range_read e.start e.end is.start is.end) refl
    by (Some text) = rw (range_read e.start e.end is.start is.end) refl

new_text_is : (d : Data) (text : Option (List ℕ)) → read_new_text d ≡ Some text → d ≡ new_text_json text
new_text_is null text e = let is : None ≡ text = cc in ap new_text_json is
new_text_is (string s) text e = let is : Some s ≡ text = cc in ap new_text_json is
new_text_is (boolean b) text e = absurd (cc)
new_text_is (number n) text e = absurd (cc)
new_text_is (array items) text e = absurd (cc)
new_text_is (object entries) text e = absurd (cc)

pub edit_is : (d : Data) (x : DiagEdit) → read_edit d ≡ Some x → (d ≡ edit_json x) × HasPositions x
unfolding read_edit edit_json
edit_is d x e =
    let members = and_then_some (as_object d) x e in
    let first = and_then_some (take_member (codes "newText") members.0) x members.2 in
    let text = and_then_some (read_new_text first.0.0) x first.2 in
    let second = and_then_some (take_member (codes "range") first.0.1) x text.2 in
    let range = and_then_some (read_range second.0.0) x second.2 in
    let last = ended (record { start = range.0.0; end = range.0.1; text = text.0 }) x second.0.1 range.2 in
    let text_is = new_text_is first.0.0 text.0 text.1 in
    let is = range_is second.0.0 range.0 range.1 in
    let form = two_members (codes "newText") (codes "range") d first.0.0 second.0.0 members.0 first.0.1 second.0.1
    (object_is d members.0 members.1) (took (codes "newText") members.0 first.0 first.1) (took (codes "range") first.0.1 second.0 second.1) last.0 in (
      form ∙ (λ i. object (member (codes "newText") (text_is i) (member (codes "range") (is.0 i) no_members))) ∙ ap edit_json last.1,
      rw (← last.1) (record { start = is.1.0; end = is.1.1 }),
    )
