use Rattle.std.proofs.lemmas.Grind.{common_steps}
use Rattle.std.proofs.Common.{◌≡◌, ◌∙◌, ◌++◌, ap, refl, arith, rules}
use Rattle.std.proofs.lemmas.Str.{IsCharBoundary-start}
use Rattle.law_type_fixes.specs.law_fixes.Edited.{edited_from}
use Rattle.fix_edit.proofs.EditSteps.{at_edit}
use Rattle.fix_edit.proofs.build.build.Goals as goal

pub loop-edit-init : goal.loop-edit-init
loop-edit-init c = record {
  so_far = ap (λ t. t ++ edited_from c.args.text.now 0 c.args.edits.now) c.in_ok-made.ensures.bytes;
  place = refl;
  cut = IsCharBoundary-start c.args.text.now c.utf8.text;
}

pub push_edit-requires-clause-apart : goal.push_edit-requires-clause-apart
push_edit-requires-clause-apart c =
    let at = at_edit c.args.text.now c.args.edits.now c.loop-edit.edit-index c.edit-item.result c.loop-edit.place
    c.requires.made.good c.loop-edit-test.true c.edit-item.is c.loop-edit.invariant.place in
    at.apart

pub push_edit-requires-clause-to : goal.push_edit-requires-clause-to
push_edit-requires-clause-to c =
    let at = at_edit c.args.text.now c.args.edits.now c.loop-edit.edit-index c.edit-item.result c.loop-edit.place
    c.requires.made.good c.loop-edit-test.true c.edit-item.is c.loop-edit.invariant.place in
    at.in_text.0

pub loop-edit-preserved : goal.loop-edit-preserved
loop-edit-preserved c =
    let at = at_edit c.args.text.now c.args.edits.now c.loop-edit.edit-index c.edit-item.result c.loop-edit.place
    c.requires.made.good c.loop-edit-test.true c.edit-item.is c.loop-edit.invariant.place in
    let place : c.raw-place.result ≡ c.edit-item.result.text_range.end = c.raw-place.ensures.value ∙ c.end.ensures.value in
    rw place (record {
      so_far = rw c.in_ok-push_edit.ensures (at.grown _ _ c.loop-edit.invariant.so_far);
      place = at.next;
      cut = at.in_text.1;
    })

pub returns-in_err-made-clause-ok : goal.returns-in_err-made-clause-ok
returns-in_err-made-clause-ok c = search rules

pub returns-in_err-made-clause-err : goal.returns-in_err-made-clause-err
returns-in_err-made-clause-err c = search rules

pub push_edit-requires-clause-from : goal.push_edit-requires-clause-from
push_edit-requires-clause-from c = search rules

pub returns-in_err-push_edit-clause-ok : goal.returns-in_err-push_edit-clause-ok
returns-in_err-push_edit-clause-ok c = search rules

pub returns-in_err-push_edit-clause-err : goal.returns-in_err-push_edit-clause-err
returns-in_err-push_edit-clause-err c = search rules

pub returns-in_err-push_str-clause-ok : goal.returns-in_err-push_str-clause-ok
returns-in_err-push_str-clause-ok c = search rules

pub returns-in_err-push_str-clause-err : goal.returns-in_err-push_str-clause-err
returns-in_err-push_str-clause-err c = search rules

pub returns-clause-ok : goal.returns-clause-ok
returns-clause-ok c = grind (arith, common_steps)

pub returns-clause-err : goal.returns-clause-err
returns-clause-err c = search rules
