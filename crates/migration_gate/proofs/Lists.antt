-- Files that pass, one after another.
use Rattle.std.proofs.Common.{◌≡◌, ◌∙◌, sym, ap, refl, arith, ℕ, zero, suc, ◌+◌, Bool, true, false, List, [], ◌∷◌, ◌++◌, length, take, Option, Some, None, subst}
use Rattle.std.proofs.lemmas.List.{append-nil}
use Rattle.std.proofs.lemmas.List.Elements.{All-append, All-cons, All-map, All-head, All-nil, All-tail}
use Rattle.std.proofs.lemmas.Option.{slice_get_within}
use Rattle.std.specs.Prelude.{All, if◌then◌else◌, is_some, slice_get}
use Rattle.std.specs.Str.{IsUtf8}
use Rattle.squawk_linter.specs.sql_token.declared.token.Tok.{Tok}
use Rattle.squawk_linter.specs.sql_token.Token.{Text}
use Rattle.squawk_linter.specs.sql_tree.Forms.{either_of}
use Rattle.squawk_linter.specs.sql_tree.Statement.{Tree}
use Rattle.squawk_linter.specs.sql_read.Cause.{IsTreeOf}
use Rattle.squawk_linter.specs.lint_base.declared.settings.LinterSettings.{LinterSettings}
use Rattle.squawk_linter.specs.lint_base.declared.violation.Violation.{Violation}
use Rattle.squawk_linter.specs.lint_base.RuleSets.{Rules}
use Rattle.squawk_linter.specs.lint_ignore.Comment.{ignore_in_token}
use Rattle.squawk_linter.specs.law_clean.Clean.{HasDefaults, IsYoung}
use Rattle.squawk_linter.specs.law_clean.Validations.{ValidatesApart}
use Rattle.squawk_linter.specs.lock_machine.declared.work.Work.{Work}
use Rattle.squawk_linter.specs.lock_machine.Plain.{plain}
use Rattle.squawk_linter.specs.lock_machine.Works.{works}
use Rattle.squawk_linter.specs.Answers.{reports}
use Rattle.squawk_linter.specs.CleanAnswers.{CleanAnswersWorkAlone, WorksAlone}
use Rattle.squawk_linter.specs.Reports.{cleared}
use Rattle.migration_gate.specs.declared.verdict.GateWork.{GateWork}
use Rattle.migration_gate.specs.Judged.{IsAdded, IsSoFar}
use Rattle.migration_gate.specs.Laws.{AcceptedRunsClean}
use Rattle.migration_gate.specs.Passing.{IsPassing, first_found, first_ignore, ignored, unplain, why_in}
use Rattle.migration_gate.specs.Run.{by_file, in_file, settings_for}
use Rattle.migration_gate.specs.Verdicts.{ArePassing}
use Rattle.migration_gate.proofs.Ages.{files_are_apart}

-- ---- why a tree does not pass

neither_some : {X : Type 0} (o : Option X) (s : ℕ) (rest : Option ℕ) → (if is_some o then Some s else rest) ≡ None → (o ≡ None) × (rest ≡ None)
neither_some None s rest e = (refl, e)
neither_some (Some x) s rest e = absurd cc

no_ignore : (t : Text) (ks : List Tok) → first_ignore t ks ≡ None → All (λ tok. ignore_in_token t tok ≡ None) ks
no_ignore t [] e = All-nil (λ tok. ignore_in_token t tok ≡ None)
no_ignore t (k ∷ ks) e =
    let both = neither_some (ignore_in_token t k) k.start (first_ignore t ks) e in
    All-cons (λ tok. ignore_in_token t tok ≡ None) k ks both.0 (no_ignore t ks both.1)

past_none : {X : Type 0} (o : Option X) (s : ℕ) (rest : Option ℕ) → o ≡ None → rest ≡ None → (if is_some o then Some s else rest) ≡ None
past_none None s rest e h = h
past_none (Some x) s rest e h = absurd cc

no_first : (t : Text) (ks : List Tok) → All (λ tok. ignore_in_token t tok ≡ None) ks → first_ignore t ks ≡ None
no_first t [] h = refl
no_first t (k ∷ ks) h =
    past_none (ignore_in_token t k) k.start (first_ignore t ks) (All-head (λ tok. ignore_in_token t tok ≡ None) k ks h)
    (no_first t ks (All-tail (λ tok. ignore_in_token t tok ≡ None) k ks h))

neither : {X : Type 0} (a b : Option X) → either_of a b ≡ None → (a ≡ None) × (b ≡ None)
neither None b e = (refl, e)
neither (Some x) b e = absurd cc

not_ignored : (o : Option ℕ) → ignored o ≡ None → o ≡ None
not_ignored None e = refl
not_ignored (Some at) e = absurd cc

not_unplain : (b : Bool) → unplain b ≡ None → b ≡ true
not_unplain true e = refl
not_unplain false e = absurd cc

none_found : (vs : List Violation) → first_found vs ≡ None → vs ≡ []
none_found [] e = refl
none_found (v ∷ vs) e = absurd cc

pub passing_of : (rules : Rules) (settings : LinterSettings) (text : Text) (tree : Tree) → IsTreeOf text tree → IsUtf8 tree.text → why_in rules settings tree ≡ None
    → IsPassing rules settings text tree
passing_of rules settings text tree is utf8 e =
    let first = neither (ignored (first_ignore tree.text tree.toks)) (either_of (unplain (plain tree)) (first_found (reports tree rules settings))) e in
    let second = neither (unplain (plain tree)) (first_found (reports tree rules settings)) first.1 in
    record {
      is = is.0;
      valid = record { read = is.1; utf8 = utf8 };
      no_ignore = no_ignore tree.text tree.toks (not_ignored (first_ignore tree.text tree.toks) first.0);
      is_plain = not_unplain (plain tree) second.0;
      no_reports = none_found (reports tree rules settings) second.1;
    }

pub tree_of : (rules : Rules) (settings : LinterSettings) (text : Text) (tree : Tree) → IsPassing rules settings text tree → IsTreeOf text tree
tree_of rules settings text tree h = (h.is, h.valid.read)

pub nothing_against : (rules : Rules) (settings : LinterSettings) (text : Text) (tree : Tree) → IsPassing rules settings text tree → why_in rules settings tree ≡ None
nothing_against rules settings text tree h =
    λ i. either_of (ignored (no_first tree.text tree.toks h.no_ignore i)) (either_of (unplain (h.is_plain i)) (first_found (h.no_reports i)))

-- ---- the files so far

count_passing : (rules : Rules) (settings : LinterSettings) (ts : List Text) (k : ℕ) (text : Text) (trees : List Tree) → slice_get ts k ≡ Some text
    → ArePassing rules settings (take k ts) trees → length trees ≡ k
count_passing rules settings [] k text trees e h = absurd (omega (arith, slice_get_within [] k text e))
count_passing rules settings (t ∷ ts) zero text [] e h = refl
count_passing rules settings (t ∷ ts) zero text (r ∷ rs) e h = absurd h
count_passing rules settings (t ∷ ts) (suc k) text [] e h = absurd h
count_passing rules settings (t ∷ ts) (suc k) text (r ∷ rs) e h = ap suc (count_passing rules settings ts k text rs e h.1)

abbrev passes_or : Rules → LinterSettings → Tree → Text → Option Text → Type 0
passes_or rules settings tree t None = IsPassing rules settings t tree
passes_or rules settings tree t (Some text) = IsPassing rules settings text tree

passing_next : (rules : Rules) (settings : LinterSettings) (ts : List Text) (k : ℕ) (text : Text) (trees : List Tree) (tree : Tree) → slice_get ts k ≡ Some text
    → ArePassing rules settings (take k ts) trees → IsPassing rules settings text tree → ArePassing rules settings (take (suc k) ts) (trees ++ tree ∷ [])
passing_next rules settings [] k text trees tree e h g = absurd (omega (arith, slice_get_within [] k text e))
passing_next rules settings (t ∷ ts) zero text [] tree e h g = (subst (passes_or rules settings tree t) (sym e) g, tt)
passing_next rules settings (t ∷ ts) zero text (r ∷ rs) tree e h g = absurd h
passing_next rules settings (t ∷ ts) (suc k) text [] tree e h g = absurd h
passing_next rules settings (t ∷ ts) (suc k) text (r ∷ rs) tree e h g = (h.0, passing_next rules settings ts k text rs tree e h.1 g)

append_assoc : {X : Type 0} (xs ys zs : List X) → (xs ++ ys) ++ zs ≡ xs ++ (ys ++ zs)
append_assoc [] ys zs = refl
append_assoc (x ∷ xs) ys zs = ap (λ ws. x ∷ ws) (append_assoc xs ys zs)

abbrev works_in : LinterSettings → ℕ → Tree → List GateWork
works_in settings n tree = in_file n (works tree (settings_for settings tree))

by_file_next : (settings : LinterSettings) (n m : ℕ) (trees : List Tree) (tree : Tree) → m ≡ n + length trees
    → by_file settings n (trees ++ tree ∷ []) ≡ by_file settings n trees ++ works_in settings m tree
by_file_next settings n m [] tree e =
    let same : n ≡ m = omega (arith, e) in
    append-nil (works_in settings n tree) ∙ ap (λ k. works_in settings k tree) same
by_file_next settings n m (r ∷ rs) tree e =
    let next : m ≡ suc n + length rs = omega (arith, e) in
    ap (λ ws. works_in settings n r ++ ws) (by_file_next settings (suc n) m rs tree next)
    ∙ sym (append_assoc (works_in settings n r) (by_file settings (suc n) rs) (works_in settings m tree))

pub so_far_next : (rules : Rules) (settings : LinterSettings) (ts : List Text) (k : ℕ) (text : Text) (old new : List GateWork)
    → slice_get ts k ≡ Some text → IsSoFar rules settings (take k ts) old → IsAdded rules settings text k old new → IsSoFar rules settings (take (k + 1) ts) new
so_far_next rules settings ts k text old new e h g =
    let count = count_passing rules settings ts k text h.trees e h.passing in
    let next : suc k ≡ k + 1 = omega arith in
    let number : k ≡ 0 + length h.trees = omega (arith, count) in
    record {
      trees = h.trees ++ g.tree ∷ [];
      passing = subst (λ n. ArePassing rules settings (take n ts) (h.trees ++ g.tree ∷ [])) next (passing_next rules settings ts k text h.trees g.tree e h.passing g.passing);
      told = g.added ∙ (ap (λ ws. ws ++ works_in settings k g.tree) h.told ∙ sym (by_file_next settings 0 k h.trees g.tree number));
    }

-- ---- accepted files

alone : CleanAnswersWorkAlone → (rules : Rules) (settings : LinterSettings) (text : Text) (tree : Tree) → HasDefaults rules → IsPassing rules settings text tree
    → WorksAlone tree settings (works tree (cleared tree settings))
alone law rules settings text tree on h =
    law tree rules settings h.valid (record { has_defaults = on; no_comments = h.no_ignore; plain_text = h.is_plain; no_reports = h.no_reports })

abbrev IsYoungWork : GateWork → Type 0
IsYoungWork w = IsYoung w.work

young_files : CleanAnswersWorkAlone → (rules : Rules) (settings : LinterSettings) (n : ℕ) (ts : List Text) (trees : List Tree) → HasDefaults rules
    → ArePassing rules settings ts trees → All IsYoungWork (by_file settings n trees)
young_files law rules settings n ts [] on h = All-nil IsYoungWork
young_files law rules settings n [] (tree ∷ trees) on h = absurd h
young_files law rules settings n (t ∷ ts) (tree ∷ trees) on h =
    All-append IsYoungWork (works_in settings n tree) (by_file settings (suc n) trees)
    (All-map IsYoungWork (λ (w : Work). record { file = n; work = w }) (works tree (cleared tree settings)) (alone law rules settings t tree on h.0).young)
    (young_files law rules settings (suc n) ts trees on h.1)

abbrev IsApart : LinterSettings → Tree → Type 0
IsApart settings tree = ValidatesApart (cleared tree settings).assume_in_transaction tree

apart_files : CleanAnswersWorkAlone → (rules : Rules) (settings : LinterSettings) (ts : List Text) (trees : List Tree) → HasDefaults rules
    → ArePassing rules settings ts trees → All (IsApart settings) trees
apart_files law rules settings ts [] on h = All-nil (IsApart settings)
apart_files law rules settings [] (tree ∷ trees) on h = absurd h
apart_files law rules settings (t ∷ ts) (tree ∷ trees) on h =
    All-cons (IsApart settings) tree trees (alone law rules settings t tree on h.0).apart (apart_files law rules settings ts trees on h.1)

pub accepted_runs_clean : CleanAnswersWorkAlone → AcceptedRunsClean
accepted_runs_clean law rules settings ts trees on h =
    record {
      young = subst (All IsYoungWork) (sym (files_are_apart settings trees)) (young_files law rules settings 0 ts trees on h);
      apart = apart_files law rules settings ts trees on h;
    }
