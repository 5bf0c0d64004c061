-- A text is read in one way alone.
use Rattle.std.proofs.Common.{◌≡◌, ℕ, ◌+◌, ◌-◌, ◌<◌, ◌≤◌, Bool, true, false, max, List, [], ◌∷◌, length, drop, refl, sym, ap, ◌∙◌, subst, arith, get_or, Option, Some, None}
use Rattle.std.specs.Prelude.{◌==◌, ◌&&◌, ◌||◌, not}
use Rattle.std.proofs.Common.{inl, inr}
use Rattle.std.proofs.lemmas.Bool.{and_parts, cases_lt, false≢true}
use Rattle.std.proofs.lemmas.List.{get_or-drop, get_or_past}
use Rattle.sql_lex.specs.sql_token.declared.token.TokKind.{TokKind}
use Rattle.sql_lex.specs.sql_token.Token.{Text, NeverCloses, At, kind_of, is_closing}
use Rattle.sql_lex.proofs.of_sql_token.TokenLaws.{takes_one}
use Rattle.psql_text.specs.Lines.{begins_command, begins_ending, IsLineEnd, IsDataEnd}
use Rattle.psql_text.specs.Marks.{begins_body, ends_body, ends_copy, ends_statement, is_backslash, is_atomic, ends_in_begin, is_copy_stdin, is_outside, is_semicolon, is_whole, lead_of}
use Rattle.psql_text.specs.Psql.{State, Reads, BodyFrom, mark_at, mark_here, is_at_command, is_at_ending, after_command, after_ending, after_token, after_data, after_last, after_body}
use Rattle.psql_text.specs.Psql.BodyFrom.{end as body_ends, backslash as body_stops, token as body_goes, ends as body_past, unclosed as body_open}
use Rattle.psql_text.specs.Psql.Reads.{ends, unclosed, command, ending, token, copy, last, body, endless}
use Rattle.psql_text.specs.declared.mark.Mark.{Mark}
use Rattle.psql_text.specs.declared.mark.Mark.TheVariants as mark
use Rattle.psql_text.specs.declared.part.Part.{Part}
use Rattle.psql_text.specs.declared.part.PartKind.TheVariants.{Command, Data, Ending, Body}
use Rattle.psql_text.proofs.Places.{is_backslash_at, is_ending_backslash}

-- ---- tokens

kind_one : (t : Text) (i j l : ℕ) (k m : TokKind) → At t i k j → At t i m l → m ≡ k
kind_one t i j l k m a b = b.kind ∙ sym a.kind

end_one : (t : Text) (i j l : ℕ) (k : TokKind) → At t i k j → At t i k l → l ≡ j
end_one t i j l k a b =
    let same = takes_one _ k _ (l - i) (j - i) b.takes a.takes in
    omega (arith, a.before, b.before, same)

-- the same with another kind
token_end_one : (t : Text) (i j l : ℕ) (k m : TokKind) → At t i k j → At t i m l → l ≡ j
token_end_one t i j l k m a b = end_one t i j l k a (subst (λ (x : TokKind). At t i x l) (kind_one t i j l k m a b) b)

-- ---- lines

line_end_one : (t : Text) (i a b : ℕ) → IsLineEnd t i a → IsLineEnd t i b → b ≡ a
line_end_one t i a b p q = grind arith

last_one : (t : Text) (d a b : ℕ) (p : IsDataEnd t d a) (q : IsDataEnd t d b) → q.last ≡ p.last
last_one t d a b p q = grind arith

data_end_one : (t : Text) (d a b : ℕ) → IsDataEnd t d a → IsDataEnd t d b → b ≡ a
data_end_one t d a b p q =
    let same = last_one t d a b p q in
    elim (cases_lt p.last (length t)) [
      | inl less ↦ line_end_one t (p.last + 1) a b (p.found less).1 (subst (λ (x : ℕ). IsLineEnd t (x + 1) b) same (q.found (omega arith)).1)
      | inr past ↦ q.through (omega arith) ∙ sym (p.through past)
    ]

-- ---- marks

-- the token at a place has one mark
mark_one : (t : Text) (i j l : ℕ) (k m : TokKind) → At t i k j → At t i m l → mark_at t i m l ≡ mark_at t i k j
mark_one t i j l k m a b =
    let kind = kind_one t i j l k m a b in
    let end = token_end_one t i j l k m a b in
    λ x. mark_at t i (kind x) (end x)

false_true : {P : Type 0} (b : Bool) → b ≡ true → b ≡ false → P
false_true b p q = cc

-- it passes a test and does not
marks_differ : {P : Type 0} (is : Mark → Bool) (t : Text) (i j l : ℕ) (k m : TokKind) → At t i k j → At t i m l → is (mark_at t i k j) ≡ true → is (mark_at t i m l) ≡ false → P
marks_differ is t i j l k m a b passes fails = false_true _ passes (sym (ap is (mark_one t i j l k m a b)) ∙ fails)

semicolon_is_no_atomic : {P : Type 0} (m : Mark) → is_semicolon m ≡ true → is_atomic m ≡ true → P
semicolon_is_no_atomic mark.Semicolon p q = absurd (false≢true q)
semicolon_is_no_atomic m p q = absurd (false≢true p)

-- ---- bodies

no_token_past_end : {P : Type 0} (t : Text) (i j : ℕ) (k : TokKind) → length t ≤ i → At t i k j → P
no_token_past_end t i j k past a = absurd (omega (arith, a.before, a.within))

pub body_one : (t : Text) (i : ℕ) (ms : List Mark) (x y : Option ℕ) → BodyFrom t i ms x → BodyFrom t i ms y → x ≡ y
body_one t i ms _ _ (body_ends _ _ _ k j a e) (body_ends _ _ _ m l b f) = ap Some (sym (token_end_one t i j l k m a b))
body_one t i ms _ _ (body_ends _ _ _ k j a e) (body_stops _ _ _ m l b f g) = marks_differ (ends_body ms) t i j l k m a b e f
body_one t i ms _ y (body_ends _ _ _ k j a e) (body_goes _ _ _ m l _ b f g r) = marks_differ (ends_body ms) t i j l k m a b e f
body_one t i ms _ _ (body_ends _ _ _ k j a e) (body_past _ _ _ p) = no_token_past_end t i j k p a
body_one t i ms _ _ (body_ends _ _ _ k j a e) (body_open _ _ _ n) = absurd (n.never k j a)
body_one t i ms _ _ (body_stops _ _ _ k j a e d) (body_ends _ _ _ m l b f) = marks_differ (ends_body ms) t i l j m k b a f e
body_one t i ms _ _ (body_stops _ _ _ k j a e d) (body_stops _ _ _ m l b f g) = refl
body_one t i ms _ y (body_stops _ _ _ k j a e d) (body_goes _ _ _ m l _ b f g r) = marks_differ is_backslash t i j l k m a b d g
body_one t i ms _ _ (body_stops _ _ _ k j a e d) (body_past _ _ _ p) = refl
body_one t i ms _ _ (body_stops _ _ _ k j a e d) (body_open _ _ _ n) = refl
body_one t i ms x _ (body_goes _ _ _ k j _ a e d r) (body_ends _ _ _ m l b f) = marks_differ (ends_body ms) t i l j m k b a f e
body_one t i ms x _ (body_goes _ _ _ k j _ a e d r) (body_stops _ _ _ m l b f g) = marks_differ is_backslash t i l j m k b a g d
body_one t i ms x y (body_goes _ _ _ k j _ a e d r) (body_goes _ _ _ m l _ b f g q) =
    let end = token_end_one t i j l k m a b in
    let same = subst (λ (z : Mark). BodyFrom t l (z ∷ ms) y) (mark_one t i j l k m a b) q in
    body_one t j (mark_at t i k j ∷ ms) x y r (subst (λ (z : ℕ). BodyFrom t z (mark_at t i k j ∷ ms) y) end same)
body_one t i ms x _ (body_goes _ _ _ k j _ a e d r) (body_past _ _ _ p) = no_token_past_end t i j k p a
body_one t i ms x _ (body_goes _ _ _ k j _ a e d r) (body_open _ _ _ n) = absurd (n.never k j a)
body_one t i ms _ _ (body_past _ _ _ p) (body_ends _ _ _ m l b f) = no_token_past_end t i l m p b
body_one t i ms _ _ (body_past _ _ _ p) (body_stops _ _ _ m l b f g) = refl
body_one t i ms _ y (body_past _ _ _ p) (body_goes _ _ _ m l _ b f g r) = no_token_past_end t i l m p b
body_one t i ms _ _ (body_past _ _ _ p) (body_past _ _ _ q) = refl
body_one t i ms _ _ (body_past _ _ _ p) (body_open _ _ _ n) = refl
body_one t i ms _ _ (body_open _ _ _ n) (body_ends _ _ _ m l b f) = absurd (n.never m l b)
body_one t i ms _ _ (body_open _ _ _ n) (body_stops _ _ _ m l b f g) = refl
body_one t i ms _ y (body_open _ _ _ n) (body_goes _ _ _ m l _ b f g r) = absurd (n.never m l b)
body_one t i ms _ _ (body_open _ _ _ n) (body_past _ _ _ q) = refl
body_one t i ms _ _ (body_open _ _ _ n) (body_open _ _ _ q) = refl

some_same : {a b : ℕ} → Some a ≡ Some b → a ≡ b
some_same e = cc

some_and_none : {P : Type 0} {a : ℕ} → Some a ≡ None → P
some_and_none e = absurd (cc e)

-- ---- readings

neither : (x y : Bool) → (x || y) ≡ false → (x ≡ false) × (y ≡ false)
neither true y h = cc
neither false y h = (refl, h)

no_command : (s : State) → is_at_command s ≡ false → begins_command s.text s.at ≡ false
no_command s h = (neither (begins_command s.text s.at) (is_at_ending s) h).0

no_ending : (s : State) → is_at_command s ≡ false → is_at_ending s ≡ false
no_ending s h = (neither (begins_command s.text s.at) (is_at_ending s) h).1

ending_backslash : (s : State) → is_at_ending s ≡ true → get_or s.text s.at 0 ≡ 92
ending_backslash s h = is_ending_backslash s.text s.at (and_parts (begins_ending s.text s.at) (not (is_copy_stdin s.marks)) h).0

-- no backslash is past the end
past_backslash : {P : Type 0} (s : State) → length s.text ≤ s.at → get_or s.text s.at 0 ≡ 92 → P
past_backslash s past h = let zero : get_or s.text s.at 0 ≡ 0 = get_or_past s.text s.at 0 past in absurd (omega arith)

backslash_closes_nothing : (is_start : Bool) (z : Text) → get_or z 0 0 ≡ 92 → is_closing (kind_of is_start z) ≡ false
backslash_closes_nothing true z h = rw h refl
backslash_closes_nothing false z h = rw h refl

get_or_first : (t : Text) (i : ℕ) → get_or (drop i t) 0 0 ≡ get_or t i 0
get_or_first t i = let e : i + 0 ≡ i = omega arith in get_or-drop i t 0 0 ∙ ap (λ (x : ℕ). get_or t x 0) e

-- a token that never closes begins with no backslash
open_backslash : {P : Type 0} (s : State) → NeverCloses s.text s.at → get_or s.text s.at 0 ≡ 92 → P
open_backslash s n first = false_true _ n.closing (backslash_closes_nothing (s.at == 0) (drop s.at s.text) (get_or_first s.text s.at ∙ first))

no_token_past : {P : Type 0} (s : State) (k : TokKind) (j : ℕ) → length s.text ≤ s.at → At s.text s.at k j → P
no_token_past s k j past a = no_token_past_end s.text s.at j k past a

-- the token ends a COPY .. FROM STDIN and begins a body
copy_and_body : {P : Type 0} (s : State) (j l : ℕ) (k m : TokKind) → At s.text s.at k j → At s.text s.at m l → ends_copy s.marks (mark_here s k j) ≡ true → begins_body s.marks (mark_here s m l) ≡ true → P
copy_and_body s j l k m a b copies begins =
    let here = mark_here s k j in
    let ends = (and_parts (ends_statement s.marks here) (is_copy_stdin s.marks) copies).0 in
    let same = sym (ap (begins_body s.marks) (mark_one s.text s.at j l k m a b)) ∙ begins in
    semicolon_is_no_atomic here (and_parts (is_semicolon here) (is_outside s.marks) ends).0 (and_parts (is_atomic here) (ends_in_begin s.marks && is_whole (lead_of s.marks)) same).0

-- lines come after the token and do not
lines_and_none : {P : Type 0} (s : State) (k m : TokKind) (j l d e : ℕ) → At s.text s.at k j → At s.text s.at m l →
    IsLineEnd s.text (max j s.taken) d → d + 1 < length s.text → IsLineEnd s.text (max l s.taken) e → length s.text ≤ e + 1 → P
lines_and_none s k m j l d e a b line some other none =
    let end = token_end_one s.text s.at j l k m a b in
    let same = line_end_one s.text (max j s.taken) d e line (subst (λ (x : ℕ). IsLineEnd s.text (max x s.taken) e) end other) in
    absurd (omega arith)

pub reads_one : (s : State) (ps qs : List Part) → Reads s ps → Reads s qs → ps ≡ qs
reads_one s _ _ (ends _ p1) (ends _ p2) = refl
reads_one s _ _ (ends _ p1) (unclosed _ n2) = refl
reads_one s _ _ (ends _ p1) (command _ e2 qs c2 l2 r2) = past_backslash s p1 (is_backslash_at s.text s.at c2)
reads_one s _ _ (ends _ p1) (ending _ e2 qs c2 i2 l2 r2) = past_backslash s p1 (ending_backslash s i2)
reads_one s _ qs (ends _ p1) (token _ k2 j2 _ c2 a2 b2 n2 r2) = no_token_past s k2 j2 p1 a2
reads_one s _ _ (ends _ p1) (copy _ k2 j2 d2 e2 qs c2 a2 i2 l2 m2 n2 r2) = no_token_past s k2 j2 p1 a2
reads_one s _ qs (ends _ p1) (last _ k2 j2 d2 _ c2 a2 i2 l2 n2 r2) = no_token_past s k2 j2 p1 a2
reads_one s _ _ (ends _ p1) (body _ k2 j2 e2 qs c2 a2 b2 w2 r2) = no_token_past s k2 j2 p1 a2
reads_one s _ _ (ends _ p1) (endless _ k2 j2 c2 a2 b2 w2) = no_token_past s k2 j2 p1 a2
reads_one s _ _ (unclosed _ n1) (ends _ p2) = refl
reads_one s _ _ (unclosed _ n1) (unclosed _ n2) = refl
reads_one s _ _ (unclosed _ n1) (command _ e2 qs c2 l2 r2) = open_backslash s n1 (is_backslash_at s.text s.at c2)
reads_one s _ _ (unclosed _ n1) (ending _ e2 qs c2 i2 l2 r2) = open_backslash s n1 (ending_backslash s i2)
reads_one s _ qs (unclosed _ n1) (token _ k2 j2 _ c2 a2 b2 n2 r2) = absurd (n1.never k2 j2 a2)
reads_one s _ _ (unclosed _ n1) (copy _ k2 j2 d2 e2 qs c2 a2 i2 l2 m2 n2 r2) = absurd (n1.never k2 j2 a2)
reads_one s _ qs (unclosed _ n1) (last _ k2 j2 d2 _ c2 a2 i2 l2 n2 r2) = absurd (n1.never k2 j2 a2)
reads_one s _ _ (unclosed _ n1) (body _ k2 j2 e2 qs c2 a2 b2 w2 r2) = absurd (n1.never k2 j2 a2)
reads_one s _ _ (unclosed _ n1) (endless _ k2 j2 c2 a2 b2 w2) = absurd (n1.never k2 j2 a2)
reads_one s _ _ (command _ e1 ps c1 l1 r1) (ends _ p2) = past_backslash s p2 (is_backslash_at s.text s.at c1)
reads_one s _ _ (command _ e1 ps c1 l1 r1) (unclosed _ n2) = open_backslash s n2 (is_backslash_at s.text s.at c1)
reads_one s _ _ (command _ e1 ps c1 l1 r1) (command _ e2 qs c2 l2 r2) =
    let same = line_end_one s.text s.at e1 e2 l1 l2 in
    let rest = reads_one (after_command s e1) ps qs r1 (subst (λ (x : ℕ). Reads (after_command s x) qs) same r2) in
    λ i. record { kind = Command; from = s.at; to = sym same i } ∷ rest i
reads_one s _ _ (command _ e1 ps c1 l1 r1) (ending _ e2 qs c2 i2 l2 r2) = false_true _ c1 c2
reads_one s _ qs (command _ e1 ps c1 l1 r1) (token _ k2 j2 _ c2 a2 b2 n2 r2) = false_true _ c1 (no_command s c2)
reads_one s _ _ (command _ e1 ps c1 l1 r1) (copy _ k2 j2 d2 e2 qs c2 a2 i2 l2 m2 n2 r2) = false_true _ c1 (no_command s c2)
reads_one s _ qs (command _ e1 ps c1 l1 r1) (last _ k2 j2 d2 _ c2 a2 i2 l2 n2 r2) = false_true _ c1 (no_command s c2)
reads_one s _ _ (command _ e1 ps c1 l1 r1) (body _ k2 j2 e2 qs c2 a2 b2 w2 r2) = false_true _ c1 (no_command s c2)
reads_one s _ _ (command _ e1 ps c1 l1 r1) (endless _ k2 j2 c2 a2 b2 w2) = false_true _ c1 (no_command s c2)
reads_one s _ _ (ending _ e1 ps c1 i1 l1 r1) (ends _ p2) = past_backslash s p2 (ending_backslash s i1)
reads_one s _ _ (ending _ e1 ps c1 i1 l1 r1) (unclosed _ n2) = open_backslash s n2 (ending_backslash s i1)
reads_one s _ _ (ending _ e1 ps c1 i1 l1 r1) (command _ e2 qs c2 l2 r2) = false_true _ c2 c1
reads_one s _ _ (ending _ e1 ps c1 i1 l1 r1) (ending _ e2 qs c2 i2 l2 r2) =
    let same = line_end_one s.text s.at e1 e2 l1 l2 in
    let rest = reads_one (after_ending s e1) ps qs r1 (subst (λ (x : ℕ). Reads (after_ending s x) qs) same r2) in
    λ i. record { kind = Ending; from = s.at; to = sym same i } ∷ rest i
reads_one s _ qs (ending _ e1 ps c1 i1 l1 r1) (token _ k2 j2 _ c2 a2 b2 n2 r2) = false_true _ i1 (no_ending s c2)
reads_one s _ _ (ending _ e1 ps c1 i1 l1 r1) (copy _ k2 j2 d2 e2 qs c2 a2 i2 l2 m2 n2 r2) = false_true _ i1 (no_ending s c2)
reads_one s _ qs (ending _ e1 ps c1 i1 l1 r1) (last _ k2 j2 d2 _ c2 a2 i2 l2 n2 r2) = false_true _ i1 (no_ending s c2)
reads_one s _ _ (ending _ e1 ps c1 i1 l1 r1) (body _ k2 j2 e2 qs c2 a2 b2 w2 r2) = false_true _ i1 (no_ending s c2)
reads_one s _ _ (ending _ e1 ps c1 i1 l1 r1) (endless _ k2 j2 c2 a2 b2 w2) = false_true _ i1 (no_ending s c2)
reads_one s ps _ (token _ k1 j1 _ c1 a1 b1 n1 r1) (ends _ p2) = no_token_past s k1 j1 p2 a1
reads_one s ps _ (token _ k1 j1 _ c1 a1 b1 n1 r1) (unclosed _ n2) = absurd (n2.never k1 j1 a1)
reads_one s ps _ (token _ k1 j1 _ c1 a1 b1 n1 r1) (command _ e2 qs c2 l2 r2) = false_true _ c2 (no_command s c1)
reads_one s ps _ (token _ k1 j1 _ c1 a1 b1 n1 r1) (ending _ e2 qs c2 i2 l2 r2) = false_true _ i2 (no_ending s c1)
reads_one s ps qs (token _ k1 j1 _ c1 a1 b1 n1 r1) (token _ k2 j2 _ c2 a2 b2 n2 r2) =
    let kind = kind_one s.text s.at j1 j2 k1 k2 a1 a2 in
    let end = token_end_one s.text s.at j1 j2 k1 k2 a1 a2 in
    let same = subst (λ (x : TokKind). Reads (after_token s x j2) qs) kind r2 in
    reads_one (after_token s k1 j1) ps qs r1 (subst (λ (x : ℕ). Reads (after_token s k1 x) qs) end same)
reads_one s ps _ (token _ k1 j1 _ c1 a1 b1 n1 r1) (copy _ k2 j2 d2 e2 qs c2 a2 i2 l2 m2 n2 r2) = marks_differ (ends_copy s.marks) s.text s.at j2 j1 k2 k1 a2 a1 i2 n1
reads_one s ps qs (token _ k1 j1 _ c1 a1 b1 n1 r1) (last _ k2 j2 d2 _ c2 a2 i2 l2 n2 r2) = marks_differ (ends_copy s.marks) s.text s.at j2 j1 k2 k1 a2 a1 i2 n1
reads_one s ps _ (token _ k1 j1 _ c1 a1 b1 n1 r1) (body _ k2 j2 e2 qs c2 a2 b2 w2 r2) = marks_differ (begins_body s.marks) s.text s.at j2 j1 k2 k1 a2 a1 b2 b1
reads_one s ps _ (token _ k1 j1 _ c1 a1 b1 n1 r1) (endless _ k2 j2 c2 a2 b2 w2) = marks_differ (begins_body s.marks) s.text s.at j2 j1 k2 k1 a2 a1 b2 b1
reads_one s _ _ (copy _ k1 j1 d1 e1 ps c1 a1 i1 l1 m1 n1 r1) (ends _ p2) = no_token_past s k1 j1 p2 a1
reads_one s _ _ (copy _ k1 j1 d1 e1 ps c1 a1 i1 l1 m1 n1 r1) (unclosed _ n2) = absurd (n2.never k1 j1 a1)
reads_one s _ _ (copy _ k1 j1 d1 e1 ps c1 a1 i1 l1 m1 n1 r1) (command _ e2 qs c2 l2 r2) = false_true _ c2 (no_command s c1)
reads_one s _ _ (copy _ k1 j1 d1 e1 ps c1 a1 i1 l1 m1 n1 r1) (ending _ e2 qs c2 i2 l2 r2) = false_true _ i2 (no_ending s c1)
reads_one s _ qs (copy _ k1 j1 d1 e1 ps c1 a1 i1 l1 m1 n1 r1) (token _ k2 j2 _ c2 a2 b2 n2 r2) = marks_differ (ends_copy s.marks) s.text s.at j1 j2 k1 k2 a1 a2 i1 n2
reads_one s _ _ (copy _ k1 j1 d1 e1 ps c1 a1 i1 l1 m1 n1 r1) (copy _ k2 j2 d2 e2 qs c2 a2 i2 l2 m2 n2 r2) =
    let kind = kind_one s.text s.at j1 j2 k1 k2 a1 a2 in
    let close = token_end_one s.text s.at j1 j2 k1 k2 a1 a2 in
    let feed = line_end_one s.text (max j1 s.taken) d1 d2 l1 (subst (λ (x : ℕ). IsLineEnd s.text (max x s.taken) d2) close l2) in
    let last = data_end_one s.text d1 e1 e2 n1 (subst (λ (x : ℕ). IsDataEnd s.text x e2) feed n2) in
    let by-kind = subst (λ (x : TokKind). Reads (after_data s x j2 d2 e2) qs) kind r2 in
    let by-close = subst (λ (x : ℕ). Reads (after_data s k1 x d2 e2) qs) close by-kind in
    let by-feed = subst (λ (x : ℕ). Reads (after_data s k1 j1 x e2) qs) feed by-close in
    let rest = reads_one (after_data s k1 j1 d1 e1) ps qs r1 (subst (λ (x : ℕ). Reads (after_data s k1 j1 d1 x) qs) last by-feed) in
    λ i. record { kind = Data; from = sym feed i + 1; to = sym last i } ∷ rest i
reads_one s _ qs (copy _ k1 j1 d1 e1 ps c1 a1 i1 l1 m1 n1 r1) (last _ k2 j2 d2 _ c2 a2 i2 l2 n2 r2) = lines_and_none s k1 k2 j1 j2 d1 d2 a1 a2 l1 m1 l2 n2
reads_one s _ _ (copy _ k1 j1 d1 e1 ps c1 a1 i1 l1 m1 n1 r1) (body _ k2 j2 e2 qs c2 a2 b2 w2 r2) = copy_and_body s j1 j2 k1 k2 a1 a2 i1 b2
reads_one s _ _ (copy _ k1 j1 d1 e1 ps c1 a1 i1 l1 m1 n1 r1) (endless _ k2 j2 c2 a2 b2 w2) = copy_and_body s j1 j2 k1 k2 a1 a2 i1 b2
reads_one s ps _ (last _ k1 j1 d1 _ c1 a1 i1 l1 n1 r1) (ends _ p2) = no_token_past s k1 j1 p2 a1
reads_one s ps _ (last _ k1 j1 d1 _ c1 a1 i1 l1 n1 r1) (unclosed _ n2) = absurd (n2.never k1 j1 a1)
reads_one s ps _ (last _ k1 j1 d1 _ c1 a1 i1 l1 n1 r1) (command _ e2 qs c2 l2 r2) = false_true _ c2 (no_command s c1)
reads_one s ps _ (last _ k1 j1 d1 _ c1 a1 i1 l1 n1 r1) (ending _ e2 qs c2 i2 l2 r2) = false_true _ i2 (no_ending s c1)
reads_one s ps qs (last _ k1 j1 d1 _ c1 a1 i1 l1 n1 r1) (token _ k2 j2 _ c2 a2 b2 n2 r2) = marks_differ (ends_copy s.marks) s.text s.at j1 j2 k1 k2 a1 a2 i1 n2
reads_one s ps _ (last _ k1 j1 d1 _ c1 a1 i1 l1 n1 r1) (copy _ k2 j2 d2 e2 qs c2 a2 i2 l2 m2 n2 r2) = lines_and_none s k2 k1 j2 j1 d2 d1 a2 a1 l2 m2 l1 n1
reads_one s ps qs (last _ k1 j1 d1 _ c1 a1 i1 l1 n1 r1) (last _ k2 j2 d2 _ c2 a2 i2 l2 n2 r2) =
    let kind = kind_one s.text s.at j1 j2 k1 k2 a1 a2 in
    let close = token_end_one s.text s.at j1 j2 k1 k2 a1 a2 in
    let feed = line_end_one s.text (max j1 s.taken) d1 d2 l1 (subst (λ (x : ℕ). IsLineEnd s.text (max x s.taken) d2) close l2) in
    let by-kind = subst (λ (x : TokKind). Reads (after_last s x j2 d2) qs) kind r2 in
    let by-close = subst (λ (x : ℕ). Reads (after_last s k1 x d2) qs) close by-kind in
    reads_one (after_last s k1 j1 d1) ps qs r1 (subst (λ (x : ℕ). Reads (after_last s k1 j1 x) qs) feed by-close)
reads_one s ps _ (last _ k1 j1 d1 _ c1 a1 i1 l1 n1 r1) (body _ k2 j2 e2 qs c2 a2 b2 w2 r2) = copy_and_body s j1 j2 k1 k2 a1 a2 i1 b2
reads_one s ps _ (last _ k1 j1 d1 _ c1 a1 i1 l1 n1 r1) (endless _ k2 j2 c2 a2 b2 w2) = copy_and_body s j1 j2 k1 k2 a1 a2 i1 b2
reads_one s _ _ (body _ k1 j1 e1 ps c1 a1 b1 w1 r1) (ends _ p2) = no_token_past s k1 j1 p2 a1
reads_one s _ _ (body _ k1 j1 e1 ps c1 a1 b1 w1 r1) (unclosed _ n2) = absurd (n2.never k1 j1 a1)
reads_one s _ _ (body _ k1 j1 e1 ps c1 a1 b1 w1 r1) (command _ e2 qs c2 l2 r2) = false_true _ c2 (no_command s c1)
reads_one s _ _ (body _ k1 j1 e1 ps c1 a1 b1 w1 r1) (ending _ e2 qs c2 i2 l2 r2) = false_true _ i2 (no_ending s c1)
reads_one s _ qs (body _ k1 j1 e1 ps c1 a1 b1 w1 r1) (token _ k2 j2 _ c2 a2 b2 n2 r2) = marks_differ (begins_body s.marks) s.text s.at j1 j2 k1 k2 a1 a2 b1 b2
reads_one s _ _ (body _ k1 j1 e1 ps c1 a1 b1 w1 r1) (copy _ k2 j2 d2 e2 qs c2 a2 i2 l2 m2 n2 r2) = copy_and_body s j2 j1 k2 k1 a2 a1 i2 b1
reads_one s _ qs (body _ k1 j1 e1 ps c1 a1 b1 w1 r1) (last _ k2 j2 d2 _ c2 a2 i2 l2 n2 r2) = copy_and_body s j2 j1 k2 k1 a2 a1 i2 b1
reads_one s _ _ (body _ k1 j1 e1 ps c1 a1 b1 w1 r1) (body _ k2 j2 e2 qs c2 a2 b2 w2 r2) =
    let same : e2 ≡ e1 = some_same (body_one s.text s.at [] (Some e2) (Some e1) w2 w1) in
    let rest = reads_one (after_body s e1) ps qs r1 (subst (λ (x : ℕ). Reads (after_body s x) qs) same r2) in
    λ i. record { kind = Body; from = s.at; to = sym same i } ∷ rest i
reads_one s _ _ (body _ k1 j1 e1 ps c1 a1 b1 w1 r1) (endless _ k2 j2 c2 a2 b2 w2) = some_and_none (body_one s.text s.at [] (Some e1) None w1 w2)
reads_one s _ _ (endless _ k1 j1 c1 a1 b1 w1) (ends _ p2) = no_token_past s k1 j1 p2 a1
reads_one s _ _ (endless _ k1 j1 c1 a1 b1 w1) (unclosed _ n2) = absurd (n2.never k1 j1 a1)
reads_one s _ _ (endless _ k1 j1 c1 a1 b1 w1) (command _ e2 qs c2 l2 r2) = false_true _ c2 (no_command s c1)
reads_one s _ _ (endless _ k1 j1 c1 a1 b1 w1) (ending _ e2 qs c2 i2 l2 r2) = false_true _ i2 (no_ending s c1)
reads_one s _ qs (endless _ k1 j1 c1 a1 b1 w1) (token _ k2 j2 _ c2 a2 b2 n2 r2) = marks_differ (begins_body s.marks) s.text s.at j1 j2 k1 k2 a1 a2 b1 b2
reads_one s _ _ (endless _ k1 j1 c1 a1 b1 w1) (copy _ k2 j2 d2 e2 qs c2 a2 i2 l2 m2 n2 r2) = copy_and_body s j2 j1 k2 k1 a2 a1 i2 b1
reads_one s _ qs (endless _ k1 j1 c1 a1 b1 w1) (last _ k2 j2 d2 _ c2 a2 i2 l2 n2 r2) = copy_and_body s j2 j1 k2 k1 a2 a1 i2 b1
reads_one s _ _ (endless _ k1 j1 c1 a1 b1 w1) (body _ k2 j2 e2 qs c2 a2 b2 w2 r2) = some_and_none (body_one s.text s.at [] (Some e2) None w2 w1)
reads_one s _ _ (endless _ k1 j1 c1 a1 b1 w1) (endless _ k2 j2 c2 a2 b2 w2) = refl
