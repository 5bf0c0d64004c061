use Rattle.std.proofs.Common.{◌≡◌, ℕ, ◌+◌, List, ◌++◌, codes, ap, ◌∙◌, length, length-append, arith}
use Rattle.lint_base.specs.declared.violation.Violation.{Violation}
use Rattle.squawk_print.specs.Printed.{printed_violation, printed_head, printed_fix, labelled}
use Rattle.lint_base.specs.GrownLaws.{at_err}
use Rattle.squawk_print.specs.Room.{LacksRoom}
use Rattle.squawk_print.proofs.Pushes.{pushed}
use Rattle.squawk_print.proofs.report.push_violation.Goals as goal

abbrev note : Violation → List ℕ
note v = labelled (codes "  note: ") v.note

abbrev help : Violation → List ℕ
help v = labelled (codes "  help: ") v.help

length_after : (to : List ℕ) (v : Violation) → length (to ++ printed_violation v)
    ≡ length to + length (printed_head v) + length (note v) + length (help v) + length (printed_fix v.fix)
unfolding printed_violation
length_after to v = simp length-append (omega arith)

-- four pieces
joined : (v : Violation) (a b c d e : List ℕ) → b ≡ a ++ printed_head v → c ≡ b ++ note v → d ≡ c ++ help v → e ≡ d ++ printed_fix v.fix
    → e ≡ a ++ printed_violation v
unfolding printed_violation
joined v a b c d e p q r s =
    pushed a d e _ (printed_fix v.fix) (pushed a c d _ (help v) (pushed a b c (printed_head v) (note v) p q) r) s

pub returns-in_err-push_labelled-clause-full : goal.returns-in_err-push_labelled-clause-full
returns-in_err-push_labelled-clause-full c =
    let v = c.args.violation.now in
    let all = length_after c.args.to.now.items v in
    let n1 = ap length c.in_ok-push_head.ensures.grown ∙ length-append c.args.to.now.items (printed_head v) in
    let n2 = length-append c.push_head.new.to.items (note v) in
    at_err {P = LacksRoom c.args.to.now (printed_violation v)} _ (omega (arith, c.in_err-push_labelled.ensures.full))

pub returns-in_err-push_labelled-2-clause-full : goal.returns-in_err-push_labelled-2-clause-full
returns-in_err-push_labelled-2-clause-full c =
    let v = c.args.violation.now in
    let all = length_after c.args.to.now.items v in
    let n1 = ap length c.in_ok-push_head.ensures.grown ∙ length-append c.args.to.now.items (printed_head v) in
    let n2 = ap length c.in_ok-push_labelled.ensures.grown ∙ length-append c.push_head.new.to.items (note v) in
    let n3 = length-append c.push_labelled.new.to.items (help v) in
    at_err {P = LacksRoom c.args.to.now (printed_violation v)} _ (omega (arith, c.in_err-push_labelled-2.ensures.full))

pub returns-in_err-push_fix-clause-full : goal.returns-in_err-push_fix-clause-full
returns-in_err-push_fix-clause-full c =
    let v = c.args.violation.now in
    let all = length_after c.args.to.now.items v in
    let n1 = ap length c.in_ok-push_head.ensures.grown ∙ length-append c.args.to.now.items (printed_head v) in
    let n2 = ap length c.in_ok-push_labelled.ensures.grown ∙ length-append c.push_head.new.to.items (note v) in
    let n3 = ap length c.in_ok-push_labelled-2.ensures.grown ∙ length-append c.push_labelled.new.to.items (help v) in
    let n4 = length-append c.push_labelled-2.new.to.items (printed_fix v.fix) in
    at_err {P = LacksRoom c.args.to.now (printed_violation v)} _ (omega (arith, c.in_err-push_fix.ensures.full))

pub returns-clause-grown : goal.returns-clause-grown
returns-clause-grown c =
    joined c.args.violation.now _ _ _ _ _ c.in_ok-push_head.ensures.grown c.in_ok-push_labelled.ensures.grown
    c.in_ok-push_labelled-2.ensures.grown c.in_ok-push_fix.ensures.grown
