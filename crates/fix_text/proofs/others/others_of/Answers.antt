use Rattle.std.proofs.Common.{◌∙◌, ap}
use Rattle.fix_class.specs.statement_place.Statements.{number_behind}
use Rattle.fix_text.specs.declared.others.Numbered.{Numbered}
use Rattle.fix_text.proofs.Beside.{next_nearest, next_numbered, next_others}
use Rattle.fix_text.proofs.others.others_of.Goals as goal

pub loop-i-preserved : goal.loop-i-preserved
loop-i-preserved c =
    let l = c.loop-i in
    let lt = c.loop-i-test.true in
    let here = c.index-reports-i.is in
    let v = c.index-reports-i.result in
    let file = c.args.file.now in
    let reports = c.args.reports.now in
    let now : Numbered = record { report = l.i; statement = c.number_behind-number.result } in
    let place = c.number_behind-number.ensures.number ∙ ap (number_behind file) c.start.ensures.value in
    let kept = c.last_replacing-last.ensures in
    record {
      found = next_others c.args.wide c.args.settings.now file reports l.i l.last.report v l.others.items c.keep.new.others.items c.in_ok-other.other lt here
          (c.in_ok-other.ensures c.args.settings.now c.in_ok-classes.ensures) c.in_ok-keep.ensures l.invariant.found l.invariant.nearest;
      nearest = next_nearest c.args.wide c.args.settings.now file reports now l.last c.last_replacing-last.result v lt here kept l.invariant.nearest;
      cursor = c.number_behind-number.ensures.cursor;
      numbered = next_numbered c.args.wide c.args.settings.now file reports now l.last c.last_replacing-last.result v lt here place l.invariant.numbered kept;
    }
