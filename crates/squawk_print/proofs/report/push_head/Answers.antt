use Rattle.std.proofs.Common.{◌≡◌, ℕ, ◌+◌, List, ◌++◌, codes, ap, ◌∙◌, length, length-append, arith}
use Rattle.lint_base.specs.Rules.{name_of}
use Rattle.lint_base.specs.declared.violation.Violation.{Violation}
use Rattle.squawk_print.specs.Escaped.{escaped}
use Rattle.squawk_print.specs.Printed.{printed_head, printed_range}
use Rattle.lint_base.specs.GrownLaws.{at_err}
use Rattle.squawk_print.specs.Room.{LacksRoom}
use Rattle.squawk_print.proofs.Pushes.{pushed}
use Rattle.squawk_print.proofs.report.push_head.Goals as goal

length_after : (to : List ℕ) (v : Violation) → length (to ++ printed_head v)
    ≡ length to + length (printed_range v.text_range) + length (name_of v.code) + length (escaped v.message) + 14
length_after to v = simp length-append (omega arith)

-- six pieces
joined : (a x1 x2 x3 x4 x5 x6 b c d e f g : List ℕ) → b ≡ a ++ x1 → c ≡ b ++ x2 → d ≡ c ++ x3 → e ≡ d ++ x4 → f ≡ e ++ x5
    → g ≡ f ++ x6 → g ≡ a ++ (x1 ++ x2 ++ x3 ++ x4 ++ x5 ++ x6)
joined a x1 x2 x3 x4 x5 x6 b c d e f g p q r s t u =
    pushed a f g _ x6 (pushed a e f _ x5 (pushed a d e _ x4 (pushed a c d _ x3 (pushed a b c x1 x2 p q) r) s) t) u

pub returns-in_err-extend_from_slice-2-clause-full : goal.returns-in_err-extend_from_slice-2-clause-full
returns-in_err-extend_from_slice-2-clause-full c =
    let v = c.args.violation.now in
    let all = length_after c.args.to.now.items v in
    let n1 = ap length c.in_ok-push_range.ensures.grown ∙ length-append c.args.to.now.items (printed_range v.text_range) in
    let n2 = c.in_ok-extend_from_slice.ensures.len in
    let name = ap length (c.as_bytes.ensures.value ∙ c.name.ensures) in
    at_err {P = LacksRoom c.args.to.now (printed_head v)} _ (omega (arith, c.in_err-extend_from_slice-2.ensures.full))

pub returns-in_err-extend_from_slice-3-clause-full : goal.returns-in_err-extend_from_slice-3-clause-full
returns-in_err-extend_from_slice-3-clause-full c =
    let v = c.args.violation.now in
    let all = length_after c.args.to.now.items v in
    let n1 = ap length c.in_ok-push_range.ensures.grown ∙ length-append c.args.to.now.items (printed_range v.text_range) in
    let n2 = c.in_ok-extend_from_slice.ensures.len in
    let n3 = c.in_ok-extend_from_slice-2.ensures.len in
    let name = ap length (c.as_bytes.ensures.value ∙ c.name.ensures) in
    at_err {P = LacksRoom c.args.to.now (printed_head v)} _ (omega (arith, c.in_err-extend_from_slice-3.ensures.full))

pub returns-in_err-push_text-clause-full : goal.returns-in_err-push_text-clause-full
returns-in_err-push_text-clause-full c =
    let v = c.args.violation.now in
    let all = length_after c.args.to.now.items v in
    let n1 = ap length c.in_ok-push_range.ensures.grown ∙ length-append c.args.to.now.items (printed_range v.text_range) in
    let n2 = c.in_ok-extend_from_slice.ensures.len in
    let n3 = c.in_ok-extend_from_slice-2.ensures.len in
    let name = ap length (c.as_bytes.ensures.value ∙ c.name.ensures) in
    let n4 = c.in_ok-extend_from_slice-3.ensures.len in
    let n5 = length-append c.extend_from_slice-3.new.self.items (escaped v.message) in
    at_err {P = LacksRoom c.args.to.now (printed_head v)} _ (omega (arith, c.in_err-push_text.ensures.full))

pub returns-in_err-extend_from_slice-4-clause-full : goal.returns-in_err-extend_from_slice-4-clause-full
returns-in_err-extend_from_slice-4-clause-full c =
    let v = c.args.violation.now in
    let all = length_after c.args.to.now.items v in
    let n1 = ap length c.in_ok-push_range.ensures.grown ∙ length-append c.args.to.now.items (printed_range v.text_range) in
    let n2 = c.in_ok-extend_from_slice.ensures.len in
    let n3 = c.in_ok-extend_from_slice-2.ensures.len in
    let name = ap length (c.as_bytes.ensures.value ∙ c.name.ensures) in
    let n4 = c.in_ok-extend_from_slice-3.ensures.len in
    let n5 = ap length c.in_ok-push_text.ensures.grown ∙ length-append c.extend_from_slice-3.new.self.items (escaped v.message) in
    at_err {P = LacksRoom c.args.to.now (printed_head v)} _ (omega (arith, c.in_err-extend_from_slice-4.ensures.full))

pub returns-clause-grown : goal.returns-clause-grown
returns-clause-grown c =
    let v = c.args.violation.now in
    let e3 = c.in_ok-extend_from_slice-2.ensures.items ∙ ap (λ l. c.extend_from_slice.new.self.items ++ l) (c.as_bytes.ensures.value ∙ c.name.ensures) in
    joined c.args.to.now.items (printed_range v.text_range) (codes ": warning[") (name_of v.code) (codes "]: ") (escaped v.message) (codes "\n") _ _ _ _ _ _
    c.in_ok-push_range.ensures.grown c.in_ok-extend_from_slice.ensures.items e3
    c.in_ok-extend_from_slice-3.ensures.items c.in_ok-push_text.ensures.grown c.in_ok-extend_from_slice-4.ensures.items
