use Rattle.std.proofs.Common.{◌≡◌, ◌∙◌, ◌≤◌, ◌^◌, ap, length, arith}
use Rattle.law_type_fixes.specs.law_fixes.Edited.{edited}
use Rattle.fix_edit.proofs.EditSteps.{at_edit}
use Rattle.fix_edit.proofs.measure.edited_len.Goals as goal

pub overflow_sub-start : goal.overflow_sub-start
overflow_sub-start c =
    let at = at_edit c.args.text.now c.args.edits.now c.loop-edit.edit-index c.edit-item.result c.loop-edit.place
    c.requires.good c.loop-edit-test.true c.edit-item.is c.loop-edit.invariant.place in
    omega (arith, at.apart, c.raw-start.ensures.value, c.start.ensures.value)

pub returns-in_err-len-clause-none : goal.returns-in_err-len-clause-none
returns-in_err-len-clause-none c =
    let at = at_edit c.args.text.now c.args.edits.now c.loop-edit.edit-index c.edit-item.result c.loop-edit.place
    c.requires.good c.loop-edit-test.true c.edit-item.is c.loop-edit.invariant.place in
    let long : 2 ^ 32 ≤ length (edited c.args.text.now c.args.edits.now) =
    omega (arith, at.longer, c.loop-edit.invariant.so_far, c.in_err-len.ensures.none, c.raw-start.ensures.value, c.start.ensures.value) in
    rw c.from_residual.ensures long

pub returns-in_err-len-2-clause-none : goal.returns-in_err-len-2-clause-none
returns-in_err-len-2-clause-none c =
    let at = at_edit c.args.text.now c.args.edits.now c.loop-edit.edit-index c.edit-item.result c.loop-edit.place
    c.requires.good c.loop-edit-test.true c.edit-item.is c.loop-edit.invariant.place in
    let put = ap length c.put_by.ensures in
    let long : 2 ^ 32 ≤ length (edited c.args.text.now c.args.edits.now) =
    omega (arith, at.longer, c.loop-edit.invariant.so_far, c.in_ok-len.ensures.some, c.in_err-len-2.ensures.none, put, c.raw-start.ensures.value, c.start.ensures.value) in
    rw c.from_residual-in_err-len-2.ensures long

pub loop-edit-preserved : goal.loop-edit-preserved
loop-edit-preserved c =
    let at = at_edit c.args.text.now c.args.edits.now c.loop-edit.edit-index c.edit-item.result c.loop-edit.place
    c.requires.good c.loop-edit-test.true c.edit-item.is c.loop-edit.invariant.place in
    let put = ap length c.put_by.ensures in
    let place : c.raw-place.result ≡ c.edit-item.result.text_range.end = c.raw-place.ensures.value ∙ c.end.ensures.value in
    rw place (record {
      so_far = omega (arith, at.longer, c.loop-edit.invariant.so_far, c.in_ok-len.ensures.some, c.in_ok-len-2.ensures.some, put, c.raw-start.ensures.value, c.start.ensures.value);
      small = c.in_ok-len-2.ensures.some.1;
      place = at.next;
      within = at.in_text.1.0;
    })
