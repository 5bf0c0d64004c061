-- Columns with a CHECK, and columns of type json, are added to tables of ours.
use Rattle.std.proofs.Common.{◌≡◌, ◌∙◌, sym, ap, subst, refl, ℕ, ◌+◌, Bool, true, false, ◌&&◌, not, cond, List, [], ◌∷◌, codes, drop, Option, Some, None, is_some, Contains, option_and_then}
use Rattle.std.proofs.lemmas.Bool.{not_from_false, false≢true}
use Rattle.law_renumber.specs.sql_keyword.declared.words.TheConstants.Keyword as keyword
use Rattle.law_renumber.specs.sql_token.declared.token.Span.{Span}
use Rattle.law_renumber.specs.sql_token.declared.token.Tok.{Tok}
use Rattle.law_renumber.specs.sql_tree.declared.nodes.Action.{Action}
use Rattle.law_renumber.specs.sql_tree.declared.nodes.Column.{Column}
use Rattle.law_renumber.specs.sql_tree.declared.nodes.ConKind.TheVariants as con
use Rattle.law_renumber.specs.sql_tree.declared.nodes.Constraint.{Constraint}
use Rattle.law_renumber.specs.sql_tree.Statement.{Tree}
use Rattle.hazard_find.specs.lint_transaction.Names.{is_one_name}
use Rattle.hazard_find.specs.lint_transaction.Transaction.{stmt_at}
use Rattle.hazard_find.specs.hazard_base.declared.hazard.Hazard.TheVariants as hazard
use Rattle.hazard_find.specs.Columns.{added_json, is_excused, is_excused_by, is_scanned, json_in}
use Rattle.hazard_find.specs.lint_node.ColumnTypes.{added_type}
use Rattle.hazard_find.specs.Laws.{ColumnsAreNoJson, ColumnsAreUnchecked}
use Rattle.hazard_find.specs.Look.{after_optional, token_from}
use Rattle.law_hazards.specs.Additions.{HasCheck, IsEnforced, IsJson, behind}
use Rattle.law_hazards.specs.Laws.{OnlyOursGetChecks, OnlyOursGetJson}
use Rattle.law_hazards.specs.Words.{begin_with, shown}
use Rattle.law_hazards.proofs.Nodes.{action_in, both_on, constraint_on, constraints_are, name_on, some_where, spoken, table_is, type_is}
use Rattle.law_hazards.proofs.RewriteLaws.{named_ours}
use Rattle.law_hazards.proofs.Silent.{silent}
use Rattle.law_hazards.proofs.WordLaws.{after_two, optional_shown, some_shown, words_so}

-- ---- checks

module _ (tree : Tree) (k : Constraint) (condition : Span) (enforced : IsEnforced tree k condition) where
  -- the tokens behind the bracket, where it has this number
  behind_is : (close : ℕ) → token_from tree (k.last + 1) (condition.last + 1) ≡ Some close → shown tree (close + 1) (k.last + 1) ≡ behind tree k condition
  behind_is close at = sym (ap (drop 1) (some_shown tree (k.last + 1) (condition.last + 1) close at).shows)

  -- what comes behind it, and perhaps after NO INHERIT, is not NOT ENFORCED
  not_behind : (toks : List Tok) → toks ≡ behind tree k condition → (b : Bool) → begin_with tree.text (keyword.NO ∷ keyword.INHERIT ∷ []) toks ≡ b
      → begin_with tree.text (keyword.NOT ∷ keyword.ENFORCED ∷ []) (cond b (drop 2 toks) toks) ≡ false
  not_behind toks is true inherits =
      sym (after_two tree.text keyword.NO keyword.INHERIT (keyword.NOT ∷ keyword.ENFORCED ∷ []) toks inherits)
      ∙ (ap (begin_with tree.text (keyword.NO ∷ keyword.INHERIT ∷ keyword.NOT ∷ keyword.ENFORCED ∷ [])) is ∙ enforced.after_no_inherit)
  not_behind toks is false inherits = ap (begin_with tree.text (keyword.NOT ∷ keyword.ENFORCED ∷ [])) is ∙ enforced.at_once

  not_excused_by : (o : Option ℕ) → token_from tree (k.last + 1) (condition.last + 1) ≡ o → is_excused_by tree (k.last + 1) o ≡ false
  not_excused_by None at = refl
  not_excused_by (Some close) at =
      words_so tree (k.last + 1) (keyword.NOT ∷ keyword.ENFORCED ∷ []) (after_optional tree (k.last + 1) (keyword.NO ∷ keyword.INHERIT ∷ []) (close + 1))
      ∙ (ap (begin_with tree.text (keyword.NOT ∷ keyword.ENFORCED ∷ [])) (optional_shown tree (k.last + 1) (keyword.NO ∷ keyword.INHERIT ∷ []) (close + 1))
      ∙ not_behind (shown tree (close + 1) (k.last + 1)) (behind_is close at) (begin_with tree.text (keyword.NO ∷ keyword.INHERIT ∷ []) (shown tree (close + 1) (k.last + 1))) refl)

  not_excused : is_excused tree (k.last + 1) (Some condition) ≡ false
  unfolding is_excused
  not_excused = not_excused_by (token_from tree (k.last + 1) (condition.last + 1)) refl

never_excused : (tree : Tree) (k : Constraint) → ((condition : Span) → k.expr_span ≡ Some condition → IsEnforced tree k condition) → is_excused tree (k.last + 1) k.expr_span ≡ false
unfolding is_excused
never_excused tree k enforced = by_condition k.expr_span refl
  where
    by_condition : (o : Option Span) → k.expr_span ≡ o → is_excused tree (k.last + 1) o ≡ false
    by_condition None e = refl
    by_condition (Some condition) e = not_excused tree k condition (enforced condition e)

scanned : (tree : Tree) (c : Column) (check : HasCheck tree c) → is_scanned tree check.constraint ≡ true
unfolding is_scanned
scanned tree c check =
    both_on _ _ (constraint_on check.constraint.kind con.Check check.checks) (not_from_false _ (never_excused tree check.constraint check.is_enforced))

pub only_ours_get_checks : ColumnsAreUnchecked → OnlyOursGetChecks
only_ours_get_checks unchecked enabled settings tree quiet i table c l adds check =
    named_ours settings tree i table (table_is (stmt_at tree i) table adds.actions adds.alters adds.has_actions)
    (λ old. false≢true
    (sym (unchecked enabled settings tree (silent hazard.ColumnWithCheck enabled settings tree quiet) i l old adds.addition
    (action_in (stmt_at tree i) table adds.actions adds.alters adds.has_actions adds.addition adds.has_addition) check.constraint
    (subst (λ (ks : List Constraint). Contains ks check.constraint) (sym (constraints_are adds.addition c adds.adds adds.has_column)) check.has_constraint))
    ∙ scanned tree c check))

-- ---- json

json_there : (tree : Tree) (a : Action) (c : Column) (json : IsJson tree c) → added_type a ≡ Some json.of_type → is_some (added_json tree a) ≡ true
unfolding added_json
json_there tree a c json is =
    ap (λ o. is_some (option_and_then (json_in tree) o)) is
    ∙ some_where (not json.of_type.array && is_one_name tree json.of_type.inner (codes "json")) _
    (both_on _ _ (not_from_false _ json.no_array) (name_on tree json.of_type.inner (codes "json") json.one_name json.is_name))

pub only_ours_get_json : ColumnsAreNoJson → OnlyOursGetJson
only_ours_get_json none enabled settings tree quiet i table c l adds json =
    named_ours settings tree i table (table_is (stmt_at tree i) table adds.actions adds.alters adds.has_actions)
    (λ old. spoken (added_json tree adds.addition)
    (none enabled settings tree (silent hazard.JsonColumn enabled settings tree quiet) i l old adds.addition
    (action_in (stmt_at tree i) table adds.actions adds.alters adds.has_actions adds.addition adds.has_addition))
    (json_there tree adds.addition c json (type_is adds.addition c adds.adds adds.has_column json.of_type json.has_type)))
