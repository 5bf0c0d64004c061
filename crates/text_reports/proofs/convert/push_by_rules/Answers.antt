use Rattle.std.proofs.Common.{◌≡◌, ◌∙◌, ◌++◌, ◌∷◌, [], List, ap, map, sym}
use Rattle.std.proofs.lemmas.List.{append_assoc, map-append}
use Rattle.squawk_linter.specs.lint_base.declared.violation.Violation.{Violation}
use Rattle.fix_class.specs.lint_report.declared.report.Report.{Report}
use Rattle.text_reports.specs.Reports.{by_rule}
use Rattle.text_reports.proofs.convert.push_by_rules.Goals as goal

pub loop-v-preserved : goal.loop-v-preserved
loop-v-preserved c =
    let l = c.loop-v in
    let old : List Report = c.args.list.now.items in
    let v : Violation = c.in-Some.v in
    record {
      cursor = c.by_rule.ensures.cursor;
      added = λ settings known.
          let f = by_rule settings c.args.file.now in
          let done : List Report = map f l.yielded in
          c.in_ok-push.ensures.items ∙ ap (λ (xs : List Report). xs ++ c.by_rule.result ∷ []) (l.invariant.added settings known)
          ∙ ap (λ (x : Report). (old ++ done) ++ x ∷ []) (c.by_rule.ensures.value settings known)
          ∙ append_assoc old done (f v ∷ []) ∙ ap (λ (xs : List Report). old ++ xs) (sym (map-append f l.yielded (v ∷ [])));
      others = l.invariant.others ∙ ap (λ (vs : List Violation). l.yielded ++ vs) c.in-Some.ensures.steps.0 ∙ sym (append_assoc l.yielded (v ∷ []) c.next.new.self.rest.items);
    }
