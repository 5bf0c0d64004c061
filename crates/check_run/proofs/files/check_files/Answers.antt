use Rattle.std.proofs.Common.{◌≡◌, ◌∙◌, ◌+◌, ◌++◌, ◌∷◌, [], All, List, arith, subst, sym, take}
use Rattle.std.proofs.lemmas.List.Elements.{All-push}
use Rattle.checked_file.specs.declared.checked.Checked.{Checked}
use Rattle.checked_file.specs.Sound.{IsSound}
use Rattle.check_run.specs.Checks.{AreChecked}
use Rattle.check_run.proofs.Lists.{next_checked}
use Rattle.check_run.proofs.files.check_files.Goals as goal

pub loop-i-preserved : goal.loop-i-preserved
loop-i-preserved g c =
    let l = c.loop-i in
    let e = c.in_ok-checked.ensures in
    let file = c.in_ok-checked.checked in
    let answers = g.L.Lint.answers c.args.linter.now in
    let content = g.F.FileStore.content c.args.files.now in
    let first = g.F.FileStore.faults c.args.files.now in
    let before = g.F.FileStore.faults l.files in
    let now = g.F.FileStore.faults c.check_file.new.files in
    let items : c.push.new.self.items ≡ l.all.items ++ file ∷ [] = c.in_ok-push.ensures.items in
    record {
      checked = subst (λ (fs : List Checked). AreChecked answers content first now (take (l.i + 1) c.args.names.now) fs) (sym items)
          (next_checked answers (g.L.Lint.answers l.linter) content (g.F.FileStore.content l.files) first before now c.args.names.now l.i c.get.result.now l.all.items file
          c.get.ensures l.invariant.checked l.invariant.kept l.invariant.same e.checked);
      sound = subst (λ (fs : List Checked). All IsSound fs) (sym items) (All-push IsSound l.all.items file l.invariant.sound e.sound);
      kept = λ name. e.kept name ∙ l.invariant.kept name;
      later = omega (arith, e.later, l.invariant.later);
      same = λ bytes answer h. l.invariant.same bytes answer (e.same bytes answer h);
    }
