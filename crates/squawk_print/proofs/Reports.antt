-- Printed reports determine what they are of.
use Rattle.std.proofs.Common.{◌≡◌, ℕ, ◌<◌, ◌^◌, ◌==◌, ◌&&◌, not, Bool, true, false, List, [], ◌∷◌, ◌++◌, length, refl, ap, sym, ◌∙◌, append_assoc, arith, codes, decimal, Option, Some, None, find, subst}
use Rattle.std.proofs.lemmas.List.{append_cancel_left}
use Rattle.std.proofs.lemmas.Fmt.{digits_decimal}
use Rattle.std.specs.List.{list_all}
use Rattle.std.specs.Str.{bytes_eq}
use Rattle.lint_base.specs.declared.rule.Rule.{Rule}
use Rattle.lint_base.specs.declared.rule.Rule.TheVariants as rule
use Rattle.lint_base.specs.declared.violation.Violation.{Violation}
use Rattle.lint_base.specs.Fixes.{FixValue}
use Rattle.lint_base.specs.Rules.{name_of, facts_of, all_rules}
use Rattle.squawk_print.specs.Escaped.{escaped}
use Rattle.squawk_print.specs.Printed.{printed_range, labelled, printed_fix, printed_violation, printed_each, printed}
use Rattle.squawk_print.specs.PrintedForm.{Fits, AllFit, PrintedTellsApart}
use Rattle.squawk_print.proofs.Escaping.{escaped_cut, feed_ends}
use Rattle.squawk_print.proofs.Cuts.{AllOf, cut, IsDigit, own}
use Rattle.squawk_print.proofs.Edits.{IsOther, begins, other_begins, labelled_cut, range_cut, range_flat, fix_cut}

-- ---- names of rules

abbrev IsInside : ℕ → Type 0
IsInside c = not (c == 93) ≡ true

and_both : (a b : Bool) → (a && b) ≡ true → (a ≡ true) × (b ≡ true)
and_both true b h = (refl, h)
and_both false b h = absurd (cc)

all_inside : (xs : List ℕ) → list_all (λ c. not (c == 93)) xs ≡ true → AllOf IsInside xs
all_inside [] h = tt
all_inside (x ∷ xs) h = let k = and_both (not (x == 93)) (list_all (λ c. not (c == 93)) xs) h in (k.0, all_inside xs k.1)

name_inside : (r : Rule) → list_all (λ c. not (c == 93)) (name_of r) ≡ true
unfolding facts_of
name_inside rule.UnusedIgnore = refl
name_inside r = refl

-- the rule that has this printed name
rule_printed : List ℕ → Option Rule
rule_printed name = find (λ r. bytes_eq (name_of r) name) all_rules

printed_is : (r : Rule) → rule_printed (name_of r) ≡ Some r
unfolding rule_printed facts_of all_rules
printed_is rule.UnusedIgnore = refl
printed_is r = refl

outside : IsInside 93 → ⊥
outside h = absurd (cc)

some_same : (p q : Rule) → Some p ≡ Some q → p ≡ q
some_same p q e = cc

name_cut : (p q : Rule) (r s : List ℕ) → name_of p ++ 93 ∷ r ≡ name_of q ++ 93 ∷ s → (p ≡ q) × (r ≡ s)
name_cut p q r s e =
    let k = cut IsInside (name_of p) (name_of q) 93 93 r s (all_inside (name_of p) (name_inside p)) (all_inside (name_of q) (name_inside q)) outside outside e in
    (some_same p q (sym (printed_is p) ∙ ap rule_printed k.0 ∙ printed_is q), (let h = k.1 in cc))

-- ---- one report

help_other : (x : Option FixValue) (r : List ℕ) → IsOther r → begins (codes "  help: ") (printed_fix x ++ r) ≡ false
help_other None r h = other_begins (32 ∷ 104 ∷ 101 ∷ 108 ∷ 112 ∷ 58 ∷ 32 ∷ []) r h
help_other (Some f) r h = refl

note_other_fix : (x : Option FixValue) (r : List ℕ) → IsOther r → begins (codes "  note: ") (printed_fix x ++ r) ≡ false
note_other_fix None r h = other_begins (32 ∷ 110 ∷ 111 ∷ 116 ∷ 101 ∷ 58 ∷ 32 ∷ []) r h
note_other_fix (Some f) r h = refl

note_other : (help : Option (List ℕ)) (x : Option FixValue) (r : List ℕ) → IsOther r
    → begins (codes "  note: ") (labelled (codes "  help: ") help ++ (printed_fix x ++ r)) ≡ false
note_other None x r h = note_other_fix x r h
note_other (Some t) x r h = refl

nine_joined : (a b c d e f g h i k : List ℕ)
    → ((((((((a ++ b) ++ c) ++ d) ++ e) ++ f) ++ g) ++ h) ++ i) ++ k ≡ a ++ (b ++ (c ++ (d ++ (e ++ (f ++ (g ++ (h ++ (i ++ k))))))))
nine_joined a b c d e f g h i k = simp append_assoc

violation_flat : (v : Violation) (k : List ℕ)
    → printed_violation v ++ k
    ≡ printed_range v.text_range
    ++ (codes ": warning[" ++ (name_of v.code ++ (codes "]: " ++ (escaped v.message ++ (codes "\n" ++ (labelled (codes "  note: ") v.note ++ (labelled (codes "  help: ") v.help ++ (printed_fix v.fix ++ k))))))))
unfolding printed_violation
violation_flat v k =
    nine_joined (printed_range v.text_range) (codes ": warning[") (name_of v.code) (codes "]: ") (escaped v.message) (codes "\n")
    (labelled (codes "  note: ") v.note) (labelled (codes "  help: ") v.help) (printed_fix v.fix) k

colon : IsDigit 58 → ⊥
colon h = absurd (omega (arith, h.1))

after_warning : (r s : List ℕ) → codes ": warning[" ++ r ≡ codes ": warning[" ++ s → r ≡ s
after_warning r s e = append_cancel_left (codes ": warning[") r s e

abbrev after_range : Violation → List ℕ → List ℕ
after_range v k =
    codes " warning[" ++ (name_of v.code ++ (codes "]: " ++ (escaped v.message ++ (codes "\n" ++ (labelled (codes "  note: ") v.note ++ (labelled (codes "  help: ") v.help ++ (printed_fix v.fix ++ k)))))))

abbrev after_name : Violation → List ℕ → List ℕ
after_name v k = codes ": " ++ (escaped v.message ++ (codes "\n" ++ (labelled (codes "  note: ") v.note ++ (labelled (codes "  help: ") v.help ++ (printed_fix v.fix ++ k)))))

abbrev after_message : Violation → List ℕ → List ℕ
after_message v k = labelled (codes "  note: ") v.note ++ (labelled (codes "  help: ") v.help ++ (printed_fix v.fix ++ k))

violation_same : (v w : Violation) → v.text_range ≡ w.text_range → v.code ≡ w.code → v.message ≡ w.message → v.note ≡ w.note → v.help ≡ w.help → v.fix ≡ w.fix → v ≡ w
violation_same v w a b c d e f = λ i. record { code = b i; message = c i; text_range = a i; note = d i; help = e i; fix = f i }

pub violation_cut : (v w : Violation) (r s : List ℕ) → Fits v → Fits w → IsOther r → IsOther s → printed_violation v ++ r ≡ printed_violation w ++ s → (v ≡ w) × (r ≡ s)
violation_cut v w r s hv hw hr hs e =
    let a = range_cut v.text_range w.text_range 58 (after_range v r) (after_range w s) hv.0 hw.0 colon (sym (violation_flat v r) ∙ e ∙ violation_flat w s) in
    let b = name_cut v.code w.code (after_name v r) (after_name w s) (append_cancel_left (codes " warning[") _ _ a.1) in
    let c = escaped_cut v.message w.message 10 (after_message v r) (after_message w s) feed_ends (append_cancel_left (codes ": ") _ _ b.1) in
    let d = labelled_cut (codes "  note: ") v.note w.note _ _ (note_other v.help v.fix r hr) (note_other w.help w.fix s hs) c.1 in
    let f = labelled_cut (codes "  help: ") v.help w.help _ _ (help_other v.fix r hr) (help_other w.fix s hs) d.1 in
    let g = fix_cut v.fix w.fix r s hv.1 hw.1 hr hs f.1 in
    (violation_same v w a.0 b.0 c.0 d.0 f.0 g.0, g.1)

-- ---- lists of reports

digits_then : (xs k : List ℕ) → AllOf IsDigit xs → IsOther k → IsOther (xs ++ k)
digits_then [] k h o = o
digits_then (x ∷ xs) k h o = λ e. absurd (omega (arith, e, h.0.0))

-- after the first number of a report
abbrev after_start : Violation → List ℕ → List ℕ
after_start v k = 46 ∷ 46 ∷ (decimal v.text_range.end ++ (58 ∷ after_range v k))

report_flat : (v : Violation) (k : List ℕ) → printed_violation v ++ k ≡ decimal v.text_range.start ++ after_start v k
report_flat v k = violation_flat v k ∙ range_flat v.text_range (58 ∷ after_range v k)

start_digits : (v : Violation) → v.text_range.start < 2 ^ 32 → AllOf IsDigit (decimal v.text_range.start)
start_digits v h = let g : v.text_range.start < 2 ^ 64 = omega arith in digits_decimal own v.text_range.start g

report_other : (v : Violation) (k : List ℕ) → v.text_range.start < 2 ^ 32 → IsOther (printed_violation v ++ k)
report_other v k h =
    subst IsOther (sym (report_flat v k)) (digits_then (decimal v.text_range.start) (after_start v k) (start_digits v h) (λ e. absurd (omega (arith, e))))

each_other : (vs : List Violation) (k : List ℕ) → AllFit vs → IsOther (printed_each vs ++ 118 ∷ k)
each_other [] k h = λ e. absurd (omega (arith, e))
each_other (v ∷ vs) k h =
    subst IsOther (sym (append_assoc (printed_violation v) (printed_each vs) (118 ∷ k))) (report_other v (printed_each vs ++ 118 ∷ k) h.0.0.0)

point : IsDigit 46 → ⊥
point h = absurd (omega (arith, h.0))

letter : IsDigit 118 → ⊥
letter h = absurd (omega (arith, h.1))

report_not_end : (v : Violation) (k t : List ℕ) → v.text_range.start < 2 ^ 32 → printed_violation v ++ k ≡ 118 ∷ t → ⊥
report_not_end v k t h e =
    let a = cut IsDigit (decimal v.text_range.start) [] 46 118 (46 ∷ (decimal v.text_range.end ++ (58 ∷ after_range v k))) t (start_digits v h) tt point letter
    (sym (report_flat v k) ∙ e) in
    let differ : 46 ∷ 46 ∷ (decimal v.text_range.end ++ (58 ∷ after_range v k)) ≡ 118 ∷ t = a.1 in
    cc

each_cut : (v w : List Violation) (t u : List ℕ) → AllFit v → AllFit w → printed_each v ++ 118 ∷ t ≡ printed_each w ++ 118 ∷ u → v ≡ w
each_cut [] [] t u hv hw e = refl
each_cut [] (w ∷ ws) t u hv hw e =
    absurd (report_not_end w (printed_each ws ++ 118 ∷ u) t hw.0.0.0 (sym (append_assoc (printed_violation w) (printed_each ws) (118 ∷ u)) ∙ sym e))
each_cut (v ∷ vs) [] t u hv hw e =
    absurd (report_not_end v (printed_each vs ++ 118 ∷ t) u hv.0.0.0 (sym (append_assoc (printed_violation v) (printed_each vs) (118 ∷ t)) ∙ e))
each_cut (v ∷ vs) (w ∷ ws) t u hv hw e =
    let k = violation_cut v w (printed_each vs ++ 118 ∷ t) (printed_each ws ++ 118 ∷ u) hv.0 hw.0 (each_other vs t hv.1) (each_other ws u hw.1)
    (sym (append_assoc (printed_violation v) (printed_each vs) (118 ∷ t)) ∙ e ∙ append_assoc (printed_violation w) (printed_each ws) (118 ∷ u)) in
    let k0 : v ≡ w = k.0 in
    let k1 : vs ≡ ws = each_cut vs ws t u hv.1 hw.1 k.1 in
    cc

count_regrouped : (a b c d k : List ℕ) → (((a ++ b) ++ c) ++ d) ++ k ≡ a ++ (b ++ (c ++ (d ++ k)))
count_regrouped a b c d k = simp append_assoc

printed_flat : (v : List Violation) (k : List ℕ) → printed v ++ k ≡ printed_each v ++ (codes "violations: " ++ (decimal (length v) ++ (codes "\n" ++ k)))
unfolding printed
printed_flat v k = count_regrouped (printed_each v) (codes "violations: ") (decimal (length v)) (codes "\n") k

-- all but the first byte
abbrev after_first : List ℕ → List ℕ
after_first [] = []
after_first (c ∷ cs) = cs

pub printed_tells_apart : PrintedTellsApart
printed_tells_apart v w r s hv hw e =
    let same = each_cut v w (after_first (codes "violations: ") ++ (decimal (length v) ++ (codes "\n" ++ r)))
    (after_first (codes "violations: ") ++ (decimal (length w) ++ (codes "\n" ++ s))) hv hw (sym (printed_flat v r) ∙ e ∙ printed_flat w s) in
    (same, append_cancel_left (printed w) r s (ap (λ x. printed x ++ r) (sym same) ∙ e))
