-- A text in which no ignore comment is found has none.
use Rattle.std.proofs.Common.{◌≡◌, ◌∙◌, ℕ, false, List, [], ◌∷◌, length, sym, refl, ap, Option, Some, None}
use Rattle.std.proofs.lemmas.List.{nil_from_length}
use Rattle.std.specs.List.{cons_option, filter_map, list_any}
use Rattle.std.specs.Prelude.{◌||◌, is_some}
use Rattle.law_next_fix.specs.sql_token.declared.token.Tok.{Tok}
use Rattle.law_next_fix.specs.sql_tree.Statement.{Tree}
use Rattle.law_next_fix.specs.lint_ignore.declared.ignore.IgnoreKind.{IgnoreKind}
use Rattle.law_next_fix.specs.lint_ignore.Comment.{ignore_in_token}
use Rattle.law_next_fix.specs.lint_ignore.Found.{Lists, all_said, followed_by, found_from, ignore_comments, nothing}
use Rattle.law_next_fix.specs.lint_ignore.Part.{Part}
use Rattle.law_next_fix.specs.law_fix_steps.Step.{has_ignore_comment}

none_said : (number : ℕ) (cs : List (Part × IgnoreKind)) → (all_said number cs).ignores ≡ [] → cs ≡ []
none_said number [] e = refl
none_said number (c ∷ cs) e = absurd (cc)

no_comment : (text : List ℕ) (toks : List Tok) → filter_map (ignore_in_token text) toks ≡ [] → list_any (λ k. is_some (ignore_in_token text k)) toks ≡ false
no_comment text [] e = refl
no_comment text (k ∷ ks) e = by (ignore_in_token text k) refl e (no_comment text ks)
  where
    by : (o : Option (Part × IgnoreKind)) → ignore_in_token text k ≡ o → cons_option o (filter_map (ignore_in_token text) ks) ≡ [] →
        (filter_map (ignore_in_token text) ks ≡ [] → list_any (λ k. is_some (ignore_in_token text k)) ks ≡ false) → (is_some (ignore_in_token text k) || list_any (λ k. is_some (ignore_in_token text k)) ks) ≡ false
    by None same e rest = (λ i. is_some (same i) || list_any (λ k. is_some (ignore_in_token text k)) ks) ∙ rest e
    by (Some c) same e rest = absurd (cc)

pub plain_from : (tree : Tree) (number : ℕ) (old new : Lists) → old ≡ nothing → new ≡ followed_by old (found_from number tree) → length new.ignores ≡ 0 → has_ignore_comment tree ≡ false
plain_from tree number old new none found empty =
    let here : new.ignores ≡ (found_from number tree).ignores = ap (λ (l : Lists). l.ignores) (found ∙ ap (λ (l : Lists). followed_by l (found_from number tree)) none) in
    no_comment tree.text tree.toks (none_said number (ignore_comments tree.text tree.toks) (sym here ∙ nil_from_length new.ignores empty))
