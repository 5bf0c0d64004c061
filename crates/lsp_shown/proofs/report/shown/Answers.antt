use Rattle.std.proofs.Common.{subst, ◌≡◌, ◌∙◌, ◌∷◌, [], ◌++◌, All, List, map, ap, arith, sym, suc}
use Rattle.std.proofs.lemmas.List.{map-append}
use Rattle.lsp_shown.specs.Places.{ReportIn}
use Rattle.lsp_shown.specs.Shown.{report_of}
use Rattle.lsp_shown.proofs.report.shown.Goals as goal

-- what holds of all holds of those after the first
all_after : {A : Type 0} (P : A → Type 0) (x : A) (all rest : List A) → all ≡ x ∷ rest → All P all → All P rest
all_after P x all rest e h = let g : All P (x ∷ rest) = subst (λ xs. All P xs) e h in λ k d l. g (suc k) d (omega arith)

pub loop-report-preserved : goal.loop-report-preserved
loop-report-preserved c = (
  c.in_ok-push.ensures.items ∙ ap (λ xs. xs ++ c.in_ok-report_of.field-0 ∷ []) c.loop-report.invariant.0
      ∙ ap (λ x. map (report_of c.args.index.now c.args.tokens.now c.args.notes.now) c.loop-report.yielded ++ x ∷ []) c.in_ok-report_of.ensures
      ∙ sym (map-append (report_of c.args.index.now c.args.tokens.now c.args.notes.now) c.loop-report.yielded (c.in-Some.report ∷ [])),
  all_after (ReportIn c.args.index.now) c.in-Some.report c.loop-report.report-iterator.rest.items c.next.new.self.rest.items c.in-Some.ensures.steps.0 c.loop-report.invariant.1,
)
