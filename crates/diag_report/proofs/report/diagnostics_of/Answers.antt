use Rattle.std.proofs.Common.{subst, ◌≡◌, ◌∙◌, ◌∷◌, [], ◌++◌, All, List, map, ap, arith, sym, suc}
use Rattle.std.proofs.lemmas.List.{map-append}
use Rattle.diag_report.specs.Diagnostics.{diagnostic_of}
use Rattle.diag_report.specs.Places.{ReportIn}
use Rattle.diag_report.proofs.report.diagnostics_of.Goals as goal

-- what holds of all holds of those after the first
all_after : {A : Type 0} (P : A → Type 0) (x : A) (all rest : List A) → all ≡ x ∷ rest → All P all → All P rest
all_after P x all rest e h = let g : All P (x ∷ rest) = subst (λ xs. All P xs) e h in λ k d l. g (suc k) d (omega arith)

pub loop-report-preserved : goal.loop-report-preserved
loop-report-preserved c = (
  c.in_ok-push.ensures.items ∙ ap (λ xs. xs ++ c.in_ok-diagnostic_of.field-0 ∷ []) c.loop-report.invariant.0
      ∙ ap (λ x. map (diagnostic_of c.args.text.now) c.loop-report.yielded ++ x ∷ []) (c.in_ok-diagnostic_of.ensures ∙ ap (λ t. diagnostic_of t c.in-Some.report) c.in_ok-index.ensures)
      ∙ sym (map-append (diagnostic_of c.args.text.now) c.loop-report.yielded (c.in-Some.report ∷ [])),
  all_after (ReportIn c.args.text.now) c.in-Some.report c.loop-report.report-iterator.rest.items c.next.new.self.rest.items c.in-Some.ensures.steps.0 c.loop-report.invariant.1,
)
