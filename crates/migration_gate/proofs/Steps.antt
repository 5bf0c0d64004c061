-- The files so far, with the linter as it was at entry.
use Rattle.std.proofs.Common.{◌≡◌, ◌∙◌, sym, ap, arith, ℕ, zero, suc, ◌+◌, ◌≤◌, List, [], ◌∷◌, length, take, drop, Option, Some, None, subst}
use Rattle.std.proofs.lemmas.List.{take_all}
use Rattle.std.proofs.lemmas.Option.{slice_get_within}
use Rattle.std.specs.Prelude.{slice_get}
use Rattle.squawk_linter.specs.sql_token.Token.{Text}
use Rattle.squawk_linter.specs.lint_base.declared.settings.LinterSettings.{LinterSettings}
use Rattle.squawk_linter.specs.lint_base.RuleSets.{Rules}
use Rattle.squawk_linter.specs.law_clean.Clean.{HasDefaults}
use Rattle.squawk_linter.specs.CleanAnswers.{CleanAnswersWorkAlone}
use Rattle.squawk_linter.specs.declared.linter.Linter.{Linter}
use Rattle.migration_gate.specs.declared.verdict.GateWork.{GateWork}
use Rattle.migration_gate.specs.declared.verdict.Verdict.{Verdict}
use Rattle.migration_gate.specs.declared.verdict.Verdict.TheVariants as verdict
use Rattle.migration_gate.specs.declared.verdict.Why.{Why}
use Rattle.migration_gate.specs.Judged.{IsSoFar, IsToldOf}
use Rattle.migration_gate.specs.Laws.{AcceptsClean}
use Rattle.migration_gate.specs.Verdict.{shown}
use Rattle.migration_gate.specs.Verdicts.{IsAccepted, IsRejected, IsVerdict}
use Rattle.migration_gate.proofs.Ages.{files_are_apart}
use Rattle.migration_gate.proofs.Lists.{accepted_runs_clean, so_far_next}

told_back : (l m : Linter) (text : Text) (k : ℕ) (old new : List GateWork) (o p : Option Why) → l ≡ m → o ≡ p
    → IsToldOf l.rules l.settings text k old new o → IsToldOf m.rules m.settings text k old new p
told_back l m text k old new o p e f h =
    subst (λ (q : Option Why). IsToldOf m.rules m.settings text k old new q) f (subst (λ (n : Linter). IsToldOf n.rules n.settings text k old new o) e h)

drop_at : (ts : List Text) (k : ℕ) (text : Text) → slice_get ts k ≡ Some text → drop k ts ≡ text ∷ drop (suc k) ts
drop_at [] k text e = absurd (omega (arith, slice_get_within [] k text e))
drop_at (t ∷ ts) zero text e = let same : t ≡ text = cc in ap (λ x. x ∷ ts) same
drop_at (t ∷ ts) (suc k) text e = drop_at ts k text e

pub stopped_at : (l m : Linter) (ts : List Text) (k : ℕ) (text : Text) (old new : List GateWork) (o : Option Why) (w : Why) → l ≡ m → slice_get ts k ≡ Some text
    → IsSoFar m.rules m.settings (take k ts) old → o ≡ Some w → IsToldOf l.rules l.settings text k old new o → IsRejected m.rules m.settings ts k w
stopped_at l m ts k text old new o w e at so f h =
    record {
      trees = so.trees;
      text = text;
      others = drop (suc k) ts;
      passing = so.passing;
      here = drop_at ts k text at;
      told = told_back l m text k old new o (Some w) e f h;
    }

pub next_at : (l m : Linter) (ts : List Text) (k : ℕ) (text : Text) (old new : List GateWork) (o : Option Why) → l ≡ m → slice_get ts k ≡ Some text
    → IsSoFar m.rules m.settings (take k ts) old → o ≡ None → IsToldOf l.rules l.settings text k old new o
    → IsSoFar m.rules m.settings (take (k + 1) ts) new
next_at l m ts k text old new o e at so f h = so_far_next m.rules m.settings ts k text old new at so (told_back l m text k old new o None e f h)

pub all_accepted : (rules : Rules) (settings : LinterSettings) (ts : List Text) (k : ℕ) (ws : List GateWork) → length ts ≤ k
    → IsSoFar rules settings (take k ts) ws → IsAccepted rules settings ts ws
all_accepted rules settings ts k ws l h =
    let all = subst (λ (us : List Text). IsSoFar rules settings us ws) (take_all k ts l) h in
    record { trees = all.trees; passing = all.passing; listed = all.told ∙ sym (files_are_apart settings all.trees) }

pub accepts_clean : CleanAnswersWorkAlone → (rules : Rules) (settings : LinterSettings) (ts : List Text) (v : Verdict) → HasDefaults rules → IsVerdict rules settings ts (shown v)
    → AcceptsClean rules settings ts v
accepts_clean law rules settings ts (verdict.Accepted works) on h =
    record {
      trees = h.trees;
      passing = h.passing;
      listed = h.listed;
      clean = accepted_runs_clean law rules settings ts h.trees on h.passing;
    }
accepts_clean law rules settings ts (verdict.Rejected file w) on h = tt
