-- Columns, elements of a table's list, and domains, of changed terminals.
use Rattle.std.proofs.Common.{◌≡◌, Bool, true, false, cond, List, [], ◌∷◌, map, refl, ap, Option, Some, None}
use Rattle.std.specs.Option.{option_map, option_and_then}
use Rattle.std.proofs.lemmas.List.{take-map}
use Rattle.sql_token.specs.declared.terminal.Terminal.{Terminal}
use Rattle.sql_tree.specs.declared.nodes.Column.{Column}
use Rattle.sql_tree.specs.declared.nodes.Constraint.{Constraint}
use Rattle.sql_tree.specs.declared.nodes.Elem.{Elem}
use Rattle.sql_tree.specs.Split.{comma, split, on_commit_drop}
use Rattle.sql_tree.specs.Groups.{inside_list}
use Rattle.sql_tree.specs.Constraint.{column_constraints}
use Rattle.sql_tree.specs.Column.{column_with, column, leads_constraint, constraint_element, column_element, element, listed, elements, drops_on_commit, domain_constraints}
use Rattle.law_renumber.specs.Moved.{constraint_moved, column_moved, elem_moved}
use Rattle.law_renumber.specs.Trees.{ColumnRenumbers, ElementsRenumber, DropRenumbers, DomainRenumbers}
use Rattle.law_renumber.proofs.Seen.{Change, Changes, changed}
use Rattle.law_renumber.proofs.Basics.{moves, map_moved}
use Rattle.law_renumber.proofs.Marks.{comma_is_blind, on_commit_drop_is_blind, before_renumbers, split_renumbers}
use Rattle.law_renumber.proofs.Groups.{is_empty_moved, inside_list_moved}
use Rattle.law_renumber.proofs.Types.{type_len_renumbers, type_renumbers}
use Rattle.law_renumber.proofs.Constraints.{exclusion_sees, constraint_renumbers, column_constraints_moved}

-- ---- columns

column_with_moved : (f : Change) (t : Terminal) (ts : List Terminal) (constraints : List Constraint) →
    column_with (changed f t) (map (changed f) ts) (map (constraint_moved f.number) constraints) ≡ column_moved f.number (column_with t ts constraints)
column_with_moved f t ts constraints = simp (type_len_renumbers, take-map, type_renumbers)

column_after_moved : (f : Change) (t : Terminal) (ts : List Terminal) (r : Option (List Constraint)) →
    option_and_then (λ constraints. Some (column_with (changed f t) (map (changed f) ts) constraints)) (option_map (map (constraint_moved f.number)) r)
    ≡ option_map (column_moved f.number) (option_and_then (λ constraints. Some (column_with t ts constraints)) r)
column_after_moved f t ts None = refl
column_after_moved f t ts (Some constraints) = ap Some (column_with_moved f t ts constraints)

pub column_renumbers : Changes ColumnRenumbers
unfolding column
column_renumbers f [] = refl
column_renumbers f (t ∷ ts) =
    rw (column_constraints_moved f (Some t) ts, column_after_moved f t ts (column_constraints (Some t) ts)) (simp moves)

-- ---- elements

leads_sees : (f : Change) (t : Terminal) (ts : List Terminal) → leads_constraint (changed f t) (map (changed f) ts) ≡ leads_constraint t ts
unfolding leads_constraint
leads_sees f t ts = simp (moves, exclusion_sees)

constraint_element_moved : (f : Change) (r : Option Constraint) →
    constraint_element (option_map (constraint_moved f.number) r) ≡ elem_moved f.number (constraint_element r)
constraint_element_moved f None = refl
constraint_element_moved f (Some c) = refl

column_element_moved : (f : Change) (r : Option Column) → column_element (option_map (column_moved f.number) r) ≡ elem_moved f.number (column_element r)
column_element_moved f None = refl
column_element_moved f (Some c) = refl

elem_cond : (f : Change) (b : Bool) (x y : Elem) → elem_moved f.number (cond b x y) ≡ cond b (elem_moved f.number x) (elem_moved f.number y)
elem_cond f true x y = refl
elem_cond f false x y = refl

element_moved : (f : Change) (ts : List Terminal) → element (map (changed f) ts) ≡ elem_moved f.number (element ts)
unfolding element
element_moved f [] = refl
element_moved f (t ∷ ts) =
    simp (
      leads_sees f t ts,
      constraint_renumbers f (t ∷ ts),
      constraint_element_moved,
      column_renumbers f (t ∷ ts),
      column_element_moved,
      elem_cond,
      moves,
    )

listed_moved : (f : Change) (inside : List Terminal) → listed (map (changed f) inside) ≡ map (elem_moved f.number) (listed inside)
listed_moved f inside =
    rw (split_renumbers comma comma_is_blind f inside)
    (map_moved (map (changed f)) (elem_moved f.number) element element (element_moved f) (split comma inside))

pub elements_renumber : Changes ElementsRenumber
unfolding elements
elements_renumber f tail =
    rw (inside_list_moved f tail, is_empty_moved (changed f) (inside_list tail), listed_moved f (inside_list tail)) (simp moves)

pub drop_renumbers : Changes DropRenumbers
unfolding drops_on_commit
drop_renumbers f tail = simp (before_renumbers on_commit_drop on_commit_drop_is_blind, moves)

-- ---- domains

pub domain_renumbers : Changes DomainRenumbers
unfolding domain_constraints
domain_renumbers f [] = refl
domain_renumbers f (t ∷ ts) = column_constraints_moved f None (t ∷ ts)
