-- The fixes that set a timeout at the start of a text are steps.
use Rattle.std.proofs.Common.{◌≡◌, ◌≢◌, ◌⊎◌, inl, inr, ℕ, ◌<◌, ◌^◌, Bool, true, false, List, [], ◌∷◌, ◌++◌, length, sym, refl, ap, ◌∙◌, subst, Some}
use Rattle.std.proofs.lemmas.List.Elements.{All-nil, All-append}
use Rattle.std.specs.Prelude.{All, codes}
use Rattle.law_type_fixes.specs.text_pos.Line.{ending_bytes, line_ending_of}
use Rattle.law_type_fixes.specs.sql_token.Token.{Text}
use Rattle.law_type_fixes.specs.sql_tree.declared.nodes.Stmt.{Stmt}
use Rattle.law_type_fixes.specs.sql_tree.Statement.{Tree, IsTree}
use Rattle.law_type_fixes.specs.law_edit_tokens.Edits.{all_quiet, set_made}
use Rattle.law_type_fixes.specs.law_edit_tokens.Exchange.{exchanged, made_text}
use Rattle.law_type_fixes.specs.law_edit_inserts.SetInFront.{set_tree}
use Rattle.law_type_fixes.proofs.of_law_edit_inserts.Sets.{set_in_front}
use Rattle.law_type_fixes.specs.lint_base.declared.edit.Edit.{Edit}
use Rattle.law_type_fixes.specs.lint_base.declared.rule.Rule.TheVariants as rule
use Rattle.law_type_fixes.specs.lint_base.declared.violation.Violation.{Violation}
use Rattle.law_type_fixes.specs.lint_base.Edits.{insertion}
use Rattle.law_type_fixes.specs.lint_base.Fixes.{FixValue}
use Rattle.law_type_fixes.specs.lint_base.RuleSets.{Rules, has}
use Rattle.law_type_fixes.specs.lint_transaction.Earlier.{concat_below}
use Rattle.law_type_fixes.specs.lint_transaction.Transaction.{stmt_at}
use Rattle.law_type_fixes.specs.lint_pass.RuleLaws.{one_all, pieces_all, unless_all}
use Rattle.law_type_fixes.specs.pass_session.RequireTimeoutSettings.{is_first_slow, is_set, lock_report, lock_timeout, setting_fix, statement_report, statement_timeout, timeouts_at, reports_of_require_timeout_settings, both_reports}
use Rattle.law_type_fixes.specs.law_fixes.Edited.{edited}
use Rattle.law_type_fixes.specs.law_fixes.Timeouts.{SetMended}
use Rattle.law_type_fixes.proofs.of_law_fixes.Fixed.{inside_some, one_edited, one_moved}
use Rattle.law_type_fixes.proofs.of_law_fixes.Detached.{where_list}
use Rattle.std.proofs.lemmas.List.Elements.{All-weaker}
use Rattle.law_type_fixes.specs.lint_base.declared.settings.LinterSettings.{LinterSettings}
use Rattle.law_type_fixes.specs.law_fixes.Edited.{place_moved}
use Rattle.law_type_fixes.specs.law_fixes.Mended.{builds, detached, dropped, rebuilt}
use Rattle.law_type_fixes.specs.law_fixes.Moved.{start_moved}
use Rattle.law_type_fixes.proofs.of_law_fixes.TimeoutFixes.{FirstOf, Parameter, timeouts_mend, ending_is, first_is_at, first_of, lock_parameter, lock_text, no_statements, statement_parameter, statement_text}
use Rattle.law_type_fixes.specs.Rules.{type_table, ints, smallints, timestamps, varchars}
use Rattle.law_type_fixes.proofs.of_sql_tree.TreeLaws.{one_tree}
use Rattle.law_fix_steps.specs.Kept.{SameAt}
use Rattle.law_fix_steps.specs.Step.{timeouts}
use Rattle.law_fix_steps.proofs.Fits.{Anywhere, StepsIf}
use Rattle.law_fix_steps.proofs.Comments.{set_ignores, set_says}
use Rattle.law_fix_steps.proofs.InFront.{set_aligned}
use Rattle.law_fix_steps.proofs.Steps.{Aligns, FixAligns, FixSilences, table_steps}

-- ---- the fix

aligns : (tree : Tree) (settings : LinterSettings) (gone : ℕ) (name : Text) (digit : ℕ) (title setting : Text) → IsTree tree → FirstOf tree.toks → Parameter name digit →
    ((ending : Text) → setting ++ ending ≡ made_text (set_made name digit ending)) →
    (f : FixValue) → setting_fix tree title setting ≡ f → length (edited tree.text f.edits) < 2 ^ 32 → Aligns false tree settings gone f.edits
aligns tree settings gone name digit title setting is first parameter texts f has short =
    let ending : Text = ending_bytes (line_ending_of tree.text) in
    let end = ending_is (line_ending_of tree.text) in
    let at : ℕ = first.k.start in
    let put = texts ending in
    let place = first_is_at tree first in
    let edits : f.edits ≡ insertion (made_text (set_made name digit ending)) at ∷ [] = ap (λ (x : FixValue). x.edits) (sym has) ∙ (λ i. insertion (put i) (place i) ∷ []) in
    let text : edited tree.text f.edits ≡ exchanged tree.text at at (made_text (set_made name digit ending)) =
    ap (λ (x : List Edit). edited tree.text x) edits ∙ one_edited tree.text (made_text (set_made name digit ending)) at in
    let reads = set_in_front tree name ending digit first.front first.k first.after is first.parts first.quiet first.significant parameter.plain parameter.symbol parameter.quote end
    (subst (λ (x : Text). length x < 2 ^ 32) text short) in
    record {
      new = set_tree tree name digit ending first.front first.k first.after;
      text = sym text;
      is = reads.is;
      move = start_moved at (length (made_text (set_made name digit ending)));
      place = λ x. ap (λ (es : List Edit). place_moved es x) edits ∙ one_moved (made_text (set_made name digit ending)) at x;
      aligned = set_aligned false gone tree is name digit ending first settings.assume_in_transaction;
      comments = set_says tree name ending digit first.front first.k first.after is first.parts;
      ignores = set_ignores tree name ending digit first.front first.k first.after is first.parts;
    }

module _ (tree : Tree) (rules : Rules) (settings : LinterSettings) (is : IsTree tree) where
  abbrev Goes : Violation → Type 0
  Goes v = FixAligns false tree settings (Anywhere tree) v

  lock_aligns : FirstOf tree.toks → (st : Stmt) → Goes (lock_report tree st)
  unfolding lock_report
  lock_aligns first st f fixed fits short =
      aligns tree settings (lock_report tree st).text_range.start lock_timeout 49 (codes "Add lock timeout") (codes "set lock_timeout = '1s';") is first lock_parameter lock_text f (inside_some fixed) short

  statement_aligns : FirstOf tree.toks → (st : Stmt) → Goes (statement_report tree st)
  unfolding statement_report
  statement_aligns first st f fixed fits short =
      aligns tree settings (statement_report tree st).text_range.start statement_timeout 53 (codes "Add statement timeout") (codes "set statement_timeout = '5s';") is first statement_parameter statement_text f (inside_some fixed) short

  both_align : FirstOf tree.toks → (a b : Bool) (st : Stmt) → All Goes (both_reports a b tree rules st)
  both_align first a b st =
      All-append Goes _ _
      (where_list Goes (has rules rule.RequireLockTimeout) _ (unless_all Goes a (lock_report tree st ∷ []) (one_all Goes (lock_report tree st) (lock_aligns first st))))
      (where_list Goes (has rules rule.RequireStatementTimeout) _ (unless_all Goes b (statement_report tree st ∷ []) (one_all Goes (statement_report tree st) (statement_aligns first st))))

  all_align : All Goes (timeouts tree rules settings)
  all_align = by (first_of tree.toks)
    where
      by : (all_quiet tree.toks ≡ true) ⊎ FirstOf tree.toks → All Goes (reports_of_require_timeout_settings tree rules)
      by (inl quiet) =
          let none = no_statements tree is quiet in
          subst (λ (ss : List Stmt). All Goes (concat_below (timeouts_at tree rules) (length ss))) (sym none) (All-nil Goes)
      by (inr first) =
          pieces_all Goes (timeouts_at tree rules) (length tree.stmts)
          (λ i. where_list Goes (is_first_slow tree i) _ (both_align first (is_set tree lock_timeout i) (is_set tree statement_timeout i) (stmt_at tree i)))

  silences : All (FixSilences timeouts tree rules settings (Anywhere tree)) (timeouts tree rules settings)
  silences =
      All-weaker (λ v. (f : FixValue) → v.fix ≡ Some f → length (edited tree.text f.edits) < 2 ^ 32 → SetMended v.code tree rules f.edits) (FixSilences timeouts tree rules settings (Anywhere tree))
      (λ v h f fixed fits short new text new_is.
      (let m = h f fixed short in
      subst (λ (t : Tree). All (λ w. SameAt (place_moved f.edits) w v → ⊥) (timeouts t rules settings)) (one_tree m.new new (m.text ∙ sym text) m.is new_is)
      (All-weaker (λ w. w.code ≢ v.code) (λ w. SameAt (place_moved f.edits) w v → ⊥) (λ w no same. no same.code) (timeouts m.new rules settings) m.silent)))
      (timeouts tree rules settings) (timeouts_mend tree rules is)

pub timeouts_step : StepsIf Anywhere timeouts
timeouts_step tree rules settings is =
    table_steps (builds ∷ dropped ∷ rebuilt ∷ detached ∷ type_table varchars ∷ type_table timestamps ∷ type_table ints ∷ type_table smallints ∷ []) timeouts [] refl false tree rules settings (Anywhere tree)
    (all_align tree rules settings is) (silences tree rules settings is)
