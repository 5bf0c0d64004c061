-- How reports grow on a walk over the column types of a statement, and which statements have none.
use Rattle.std.proofs.Common.{◌≡◌, ◌∙◌, sym, ap, refl, Bool, true, false, true≢false, ◌||◌, cond, List, [], ◌++◌}
use Rattle.std.proofs.lemmas.Grind.{flat_map-append}
use Rattle.std.proofs.lemmas.List.{append-nil}
use Rattle.std.specs.List.{flat_map}
use Rattle.lint_pass.specs.sql_tree.declared.kinds.StmtKind.TheVariants as stmt
use Rattle.lint_pass.specs.sql_tree.declared.nodes.Action.{Action}
use Rattle.lint_pass.specs.sql_tree.declared.nodes.ColType.{ColType}
use Rattle.lint_pass.specs.sql_tree.declared.nodes.Elem.{Elem}
use Rattle.lint_pass.specs.sql_tree.declared.nodes.Stmt.{Stmt}
use Rattle.lint_pass.specs.lint_base.Grown.{GrownBy}
use Rattle.lint_pass.specs.lint_node.ColumnTypes.{action_types, column_types, element_types}
use Rattle.lint_pass.specs.lint_node.Parts.{elements_of}
use Rattle.lint_pass.specs.lint_node.Same.{same_kind}
use Rattle.pass_data_type.specs.TypedKinds.{types_columns}

-- the reports of what the walk has passed are a prefix of all
pub walk_refused : {A B : Type 0} (f : A → List B) (all seen rest : List A) (old mid new : List B) → seen ++ rest ≡ all → mid ≡ old ++ flat_map f seen → new ≡ mid → GrownBy old new (flat_map f all)
walk_refused f all seen rest old mid new is m n =
    record {
      added = flat_map f seen;
      left = flat_map f rest;
      grown = n ∙ m;
      front = ap (flat_map f) (sym is) ∙ flat_map-append f seen rest;
    }

-- the test and the lists agree on the kind
typed_by : (a b : Bool) (elements : List Elem) (actions : List Action) → (a || b) ≡ false → element_types (cond a elements []) ++ flat_map action_types (cond b actions []) ≡ []
typed_by true b elements actions e = absurd (true≢false e)
typed_by false true elements actions e = absurd (true≢false e)
typed_by false false elements actions e = refl

-- a statement of another kind has none
none_typed : (s : Stmt) → types_columns s.kind ≡ false → column_types s ≡ []
unfolding column_types
none_typed s h = typed_by (same_kind s.kind stmt.CreateTable) (same_kind s.kind stmt.AlterTable) (elements_of s) _ h

pub no_types : {B : Type 0} (f : ColType → List B) (s : Stmt) (out : List B) → types_columns s.kind ≡ false → out ≡ out ++ flat_map f (column_types s)
no_types f s out h = sym (append-nil out) ∙ ap (λ ts. out ++ flat_map f ts) (sym (none_typed s h))
