-- Where a hazard is not found, nothing is said of a statement that rewrites.
use Rattle.std.proofs.Common.{◌≡◌, ◌∙◌, sym, ap, refl, rules, arith, ℕ, zero, suc, ◌<◌, ◌⊎◌, inl, inr, eq-or-lt_of_le, Bool, true, false, cond, List, [], ◌∷◌, ◌++◌, length, Option, Some, None}
use Rattle.std.specs.List.{flat_map, list_any}
use Rattle.std.specs.Option.{option_map}
use Rattle.std.proofs.lemmas.Bool.{false_from_ne_true, or_left, or_parts, false≢true}
use Rattle.std.proofs.lemmas.List.Folds.{list_any-append, list_any_none}
use denote.Enum.Bare.{same_true, true_same}
use Rattle.law_renumber.specs.sql_tree.declared.nodes.Stmt.{Stmt}
use Rattle.law_renumber.specs.sql_tree.Range.{stmt_range_of}
use Rattle.law_renumber.specs.sql_tree.Statement.{Tree}
use Rattle.hazard_find.specs.lint_base.declared.settings.LinterSettings.{LinterSettings}
use Rattle.hazard_find.specs.lint_node.Parts.{table_actions}
use Rattle.hazard_find.specs.lint_transaction.Earlier.{concat_below}
use Rattle.hazard_find.specs.lint_transaction.Transaction.{stmt_at}
use Rattle.hazard_find.specs.hazard_base.contracts.hazard.Hazard.{the_type}
use Rattle.hazard_find.specs.hazard_base.declared.finding.Finding.{Finding}
use Rattle.hazard_find.specs.hazard_base.declared.hazard.Hazard.{Hazard}
use Rattle.hazard_find.specs.hazard_base.declared.hazard.Hazard.TheVariants as hazard
use Rattle.hazard_find.specs.hazard_base.declared.hazard_set.HazardSet.{HazardSet}
use Rattle.hazard_find.specs.hazard_base.Hazards.{same_hazard}
use Rattle.hazard_find.specs.hazard_base.HazardSets.{has}
use Rattle.hazard_find.specs.Findings.{action_findings, enabled_of, findings_at, findings_by, findings_of, kept_finding, refresh_finding, refused_finding, rewrite_finding, rewritten, statement_findings, timeout_finding}
use Rattle.hazard_find.specs.Here.{known_at}
use Rattle.hazard_find.specs.Laws.{IsSilent, is_of}
use Rattle.hazard_find.specs.Rewrites.{rewrites}
use Rattle.law_hazards.specs.Silence.{IsNotFound}

hazard_is : (a b : Hazard) → same_hazard a b ≡ true → a ≡ b
unfolding same_hazard
hazard_is a b e = same_true the_type (search rules) a b e

hazard_on : (a b : Hazard) → a ≡ b → same_hazard a b ≡ true
unfolding same_hazard
hazard_on a b e = true_same the_type a b e

pub silent : (h : Hazard) (enabled : HazardSet) (settings : LinterSettings) (tree : Tree) → IsNotFound h enabled settings tree → IsSilent h enabled settings tree
silent h enabled settings tree quiet = record {
  enabled_here = quiet.is_enabled;
  none_found = list_any_none (is_of h) (findings_of enabled settings tree)
      (λ k d l. false_from_ne_true _ (λ e. quiet.no_findings k d l (hazard_is _ h e)));
}

-- ---- parts of a list

front : {X : Type 0} (p : X → Bool) (xs ys : List X) → list_any p (xs ++ ys) ≡ false → list_any p xs ≡ false
front p xs ys h = (or_parts (list_any p xs) (list_any p ys) (sym (list_any-append p xs ys) ∙ h)).0

rest : {X : Type 0} (p : X → Bool) (xs ys : List X) → list_any p (xs ++ ys) ≡ false → list_any p ys ≡ false
rest p xs ys h = (or_parts (list_any p xs) (list_any p ys) (sym (list_any-append p xs ys) ∙ h)).1

piece_by : {X : Type 0} (p : X → Bool) (f : ℕ → List X) (n i : ℕ) → (i ≡ n) ⊎ (i < n) → list_any p (f n) ≡ false → ((k : ℕ) → k < n → list_any p (f k) ≡ false)
    → list_any p (f i) ≡ false
piece_by p f n i (inl e) last front = ap (λ k. list_any p (f k)) e ∙ last
piece_by p f n i (inr l) last front = front i l

piece : {X : Type 0} (p : X → Bool) (f : ℕ → List X) (n : ℕ) → list_any p (concat_below f n) ≡ false → (i : ℕ) → i < n → list_any p (f i) ≡ false
piece p f zero h i l = absurd (omega (arith, l))
piece p f (suc n) h i l =
    piece_by p f n i (eq-or-lt_of_le (omega (arith, l))) (rest p (concat_below f n) (f n) h) (piece p f n (front p (concat_below f n) (f n) h))

-- ---- statements that rewrite

none_said : {X : Type 0} (enabled : HazardSet) (make : X → Finding) (o : Option X) → has enabled hazard.TableRewrite ≡ true → ((x : X) → (make x).hazard ≡ hazard.TableRewrite)
    → list_any (is_of hazard.TableRewrite) (enabled_of enabled (option_map make o)) ≡ false → o ≡ None
none_said enabled make None on of quiet = refl
none_said enabled make (Some x) on of quiet =
    let here : has enabled (make x).hazard ≡ true = ap (has enabled) (of x) ∙ on in
    let own : is_of hazard.TableRewrite (make x) ≡ true = hazard_on (make x).hazard hazard.TableRewrite (of x) in
    let one : list_any (is_of hazard.TableRewrite) (make x ∷ []) ≡ false = ap (λ (b : Bool). list_any (is_of hazard.TableRewrite) (cond b (make x ∷ []) [])) (sym here) ∙ quiet in
    absurd (false≢true (sym one ∙ or_left (is_of hazard.TableRewrite (make x)) false own))

rewrite_quiet : (enabled : HazardSet) (settings : LinterSettings) (tree : Tree) (i : ℕ) (s : Stmt)
    → list_any (is_of hazard.TableRewrite) (findings_by enabled tree (known_at settings tree i) s) ≡ false
    → list_any (is_of hazard.TableRewrite) (enabled_of enabled (rewrite_finding (known_at settings tree i) tree s)) ≡ false
unfolding findings_by statement_findings
rewrite_quiet enabled settings tree i s h =
    let known = known_at settings tree i in
    let p = is_of hazard.TableRewrite in
    let one = enabled_of enabled (refused_finding known tree s) in
    let two = enabled_of enabled (rewrite_finding known tree s) in
    let three = enabled_of enabled (timeout_finding known tree s) in
    let four = enabled_of enabled (kept_finding known tree s) in
    let five = enabled_of enabled (refresh_finding known tree s) in
    rest p one two
    (front p (one ++ two) three
    (front p (one ++ two ++ three) four
    (front p (one ++ two ++ three ++ four) five
    (front p (one ++ two ++ three ++ four ++ five) (flat_map (action_findings enabled known tree) (table_actions s)) h))))

pub none_rewrites : (enabled : HazardSet) (settings : LinterSettings) (tree : Tree) → IsNotFound hazard.TableRewrite enabled settings tree
    → (i : ℕ) → i < length tree.stmts → rewrites (known_at settings tree i) (stmt_at tree i) ≡ None
unfolding rewrite_finding rewritten
none_rewrites enabled settings tree quiet i l =
    let known = known_at settings tree i in
    let here = piece (is_of hazard.TableRewrite) (findings_at enabled settings tree) (length tree.stmts) (silent hazard.TableRewrite enabled settings tree quiet).none_found i l in
    none_said enabled (rewritten (stmt_range_of tree.toks (stmt_at tree i))) (rewrites known (stmt_at tree i)) quiet.is_enabled (λ m. refl)
    (rewrite_quiet enabled settings tree i (stmt_at tree i) here)
