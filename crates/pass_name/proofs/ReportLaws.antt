-- What the loops over elements and groups keep.
use Rattle.std.proofs.Common.{◌≡◌, ◌∙◌, sym, ap, refl, ℕ, ◌+◌, ◌<◌, ◌≤◌, Bool, true, false, true≢false, cond, Option, Some, None, List, [], ◌∷◌, ◌++◌, length, take, get_or, map, filter, arith}
use Rattle.std.proofs.lemmas.List.{append-nil, take_more, take_all}
use Rattle.std.proofs.lemmas.List.Elements.{filter_map-append}
use Rattle.std.proofs.lemmas.List.Folds.{flat_map-map}
use Rattle.std.specs.List.{cons_option, filter_map, flat_map}
use Rattle.std.specs.Prelude.{Vec, option_to_list}
use Rattle.lint_pass.specs.sql_tree.declared.nodes.Body.{Body}
use Rattle.lint_pass.specs.sql_tree.declared.nodes.Body.TheVariants as body
use Rattle.lint_pass.specs.sql_tree.declared.nodes.Stmt.{Stmt}
use Rattle.lint_pass.specs.sql_tree.Statement.{Tree}
use Rattle.lint_pass.specs.lint_base.declared.violation.Violation.{Violation}
use Rattle.pass_name.specs.declared.members.ListKind.{ListKind}
use Rattle.pass_name.specs.declared.members.Member.{Member}
use Rattle.pass_name.specs.BanDuplicateColumnAssignments.{reports_of_ban_duplicate_column_assignments, lists_columns, reports_by, reports_of_group, reports_of_names}
use Rattle.pass_name.specs.Entries.{items_of}
use Rattle.pass_name.specs.Groups.{groups}
use Rattle.pass_name.specs.Members.{same_name}

module _ {A B : Type 0} (f : A → Option B) where
  one_given : (x : A) → filter_map f (x ∷ []) ≡ option_to_list (f x)
  one_given x = by (f x)
    where
      by : (o : Option B) → cons_option o [] ≡ option_to_list o
      by None = refl
      by (Some y) = refl

  pub given_next : (xs : List A) (i : ℕ) (x : A) (was new : List B) → i < length xs → x ≡ get_or xs i x → was ≡ filter_map f (take i xs) → new ≡ was ++ option_to_list (f x)
      → new ≡ filter_map f (take (i + 1) xs)
  given_next xs i x was new l e w n =
      n ∙ ap (λ ys. ys ++ option_to_list (f x)) w ∙ ap (λ ys. filter_map f (take i xs) ++ ys) (sym (one_given x))
      ∙ sym (filter_map-append f (take i xs) (x ∷ []))
      ∙ ap (λ y. filter_map f (take i xs ++ y ∷ [])) e ∙ ap (filter_map f) (sym (take_more xs i x l))

-- what has no lists has no reports
pub no_lists : (tree : Tree) (s : Stmt) (out : List Violation) → lists_columns s.body ≡ false → out ≡ out ++ reports_of_ban_duplicate_column_assignments tree s
unfolding reports_of_ban_duplicate_column_assignments
no_lists tree s out h = sym (append-nil out) ∙ ap (λ vs. out ++ vs) (sym (by s.body h))
  where
    by : (b : Body) → lists_columns b ≡ false → reports_by tree b ≡ []
    by (body.Table temp guarded on_commit_drop word path elems) e = absurd (true≢false e)
    by (body.Into path targets) e = absurd (true≢false e)
    by (body.View view) e = absurd (true≢false e)
    by (body.Write write) e = absurd (true≢false e)
    by _ e = refl

pub all_groups : {Z : Type 0} (kind : ListKind) (tree : Tree) (names : List Member) (old out : List Violation) (items found : List (Vec Member Z)) (n : ℕ)
    → length items ≤ n → items ≡ found → map items_of found ≡ groups (same_name tree) names
    → out ≡ old ++ flat_map (λ (v : Vec Member Z). reports_of_group kind tree (items_of v)) (take n items)
    → out ≡ old ++ reports_of_names kind tree names
unfolding reports_of_names
all_groups {Z = Z} kind tree names old out items found n l e g h =
    h ∙ ap (λ vs. old ++ flat_map (λ (v : Vec Member Z). reports_of_group kind tree (items_of v)) vs) (take_all n items l ∙ e)
    ∙ ap (λ vs. old ++ vs) (sym (flat_map-map (reports_of_group kind tree) items_of found))
    ∙ ap (λ gs. old ++ flat_map (reports_of_group kind tree) gs) g
