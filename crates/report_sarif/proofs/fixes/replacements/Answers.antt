use Rattle.std.proofs.Common.{◌∙◌}
use Rattle.serde_json.proofs.Views.{view-Array}
use Rattle.report_sarif.proofs.Edits.{all_in_text, all_made, checked_next, grown_next, made}
use Rattle.report_sarif.proofs.fixes.replacements.Goals as goal

pub loop-edit-preserved : goal.loop-edit-preserved
loop-edit-preserved c =
    let l = c.loop-edit in
    let text = c.args.file.now.text in
    let edits = c.args.edits.now in
    let e = c.edit-item.result in
    let v = c.in-Some.value in
    let m = made text e c.in_ok-checked_replacement.field-0 v c.in_ok-checked_replacement.ensures c.in-Some.is in
    record {
      grown = grown_next text edits l.edit-index e v l.list.items c.push.new.self.items c.loop-edit-test.true c.edit-item.is m c.in_ok-push-in-Some.ensures.items l.invariant.grown;
      checked = checked_next text edits l.edit-index e v c.loop-edit-test.true c.edit-item.is m l.invariant.checked;
    }

pub returns : goal.returns
returns c =
    let l = c.loop-edit in
    let text = c.args.file.now.text in
    let edits = c.args.edits.now in
    (all_in_text text edits l.edit-index c.loop-edit-test.false l.invariant.checked, view-Array l.list ∙ all_made text edits l.edit-index l.list.items c.loop-edit-test.false l.invariant.grown)
