-- What is known of one statement more.
use Rattle.std.proofs.Common.{◌≡◌, ℕ, ℤ, ◌+◌, ◌<◌, ◌∙◌, Bool, List, [], ◌∷◌, ◌++◌, length, get_or, sym, ap, arith, below_more, length-append}
use Rattle.std.proofs.lemmas.List.{get_or_append_left}
use Rattle.std.proofs.Math.Seq.{get_or-append_seam}
use Rattle.std.specs.List.{list_any}
use Rattle.lint_ignore.specs.sql_tree.Statement.{Tree}
use Rattle.lint_report.specs.lint_base.declared.settings.LinterSettings.{LinterSettings}
use Rattle.lint_transaction.specs.Earlier.{any_below}
use Rattle.lint_transaction.specs.Transaction.{is_open, stmt_at}
use Rattle.fix_class.specs.declared.known.Known.{Known}
use Rattle.fix_class.specs.Known.{indexed_by, is_assumed, is_outside_work, is_partitioned_at, known_at, limits, major_of, nothing}

pub known_is : (settings : LinterSettings) (tree : Tree) (i : ℕ) (a b c d : Bool) (e : ℤ) → a ≡ is_open (is_assumed settings tree) tree i
    → b ≡ any_below (λ j. limits tree (stmt_at tree j)) i → c ≡ is_partitioned_at tree i (indexed_by (stmt_at tree i).body) → d ≡ list_any is_outside_work tree.stmts
    → e ≡ major_of settings → record { is_inside = a; is_limited = b; is_on_partitioned = c; has_outside_work = d; major = e } ≡ known_at settings tree i
unfolding known_at
known_is settings tree i a b c d e p q r s t = λ j. record { is_inside = p j; is_limited = q j; is_on_partitioned = r j; has_outside_work = s j; major = t j }

pub more_count : (all : List Known) (x : Known) (new : List Known) (i : ℕ) → length all ≡ i → new ≡ all ++ x ∷ [] → length new ≡ i + 1
more_count all x new i e is = omega (arith, ap length is, length-append all (x ∷ []), e)

pub more_known : (known : ℕ → Known) (all : List Known) (x : Known) (new : List Known) (i : ℕ) → length all ≡ i → new ≡ all ++ x ∷ []
    → ((k : ℕ) → k < i → get_or all k nothing ≡ known k) → x ≡ known i → (k : ℕ) → k < i + 1 → get_or new k nothing ≡ known k
more_known known all x new i e is each here =
    below_more (λ k. get_or new k nothing ≡ known k) i
    (λ k h. ap (λ (xs : List Known). get_or xs k nothing) is ∙ get_or_append_left all (x ∷ []) nothing k (omega (arith, e, h)) ∙ each k h)
    (ap (λ (xs : List Known). get_or xs i nothing) is ∙ ap (λ (n : ℕ). get_or (all ++ x ∷ []) n nothing) (sym e) ∙ get_or-append_seam all x [] nothing ∙ here)
