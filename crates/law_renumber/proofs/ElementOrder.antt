-- The columns and constraints in the lists of tables begin at tokens that ascend.
use Rattle.std.proofs.Common.{ℕ, suc, ◌+◌, ◌-◌, ◌≤◌, ◌≡◌, Bool, true, false, List, [], ◌∷◌, length, map, take, drop, refl, Option, Some, None, arith}
use Rattle.std.specs.Prelude.{if◌then◌else◌}
use Rattle.std.specs.List.{flat_map}
use Rattle.std.specs.Option.{option_and_then}
use Rattle.sql_tree.specs.sql_keyword.declared.words.TheConstants.Keyword as keyword
use Rattle.sql_token.specs.declared.terminal.Terminal.{Terminal}
use Rattle.sql_token.specs.Terminal.{is_keyword, is_name}
use Rattle.sql_tree.specs.declared.nodes.Constraint.{Constraint}
use Rattle.sql_tree.specs.declared.nodes.Elem.{Elem}
use Rattle.sql_tree.specs.declared.nodes.Elem.TheVariants as elem
use Rattle.sql_tree.specs.Action.{actions_of}
use Rattle.sql_tree.specs.Column.{column_with, column, leads_constraint, constraint_element, column_element, element, listed, elements}
use Rattle.sql_tree.specs.Constraint.{constraint_name, constraint_kind, constraint_in, table_constraint_in, constraint_after, table_constraint, column_constraints}
use Rattle.sql_tree.specs.Groups.{is_empty, inside_list}
use Rattle.sql_tree.specs.Nodes.{element_start, element_starts, elements_in}
use Rattle.sql_tree.specs.Split.{begins_list, closing, comma, split}
use Rattle.law_renumber.specs.Order.{ElementsAscend}
use Rattle.law_renumber.proofs.There.{IfThere, then_there}
use Rattle.law_renumber.proofs.Ordered.{Up, up-append, Numbered, numbered_le, drop_left}
use Rattle.law_renumber.proofs.NodeOrder.{Sliced, split_sliced, take_numbered, statement_up, tree_up, increasing}

-- ---- what an element is

constraint_first : (t : Terminal) (ts : List Terminal) → IfThere (λ c. c.first ≡ t.number) (table_constraint (t ∷ ts))
unfolding table_constraint constraint_in
constraint_first t ts =
    then_there (λ c. c.first ≡ t.number) (constraint_after (t ∷ ts))
    (λ called. then_there (λ c. c.first ≡ t.number) (λ found. Some (table_constraint_in (t ∷ ts) called.0 found)) (λ found. refl) (constraint_kind called.1))
    (constraint_name (t ∷ ts))

-- What holds of other elements, of constraints that begin with t, and of columns of that name holds of the element.
module _ (P : Elem → Type 0) (other : P elem.Other) (like : P elem.Like) (t : Terminal) (ts : List Terminal)
    (constrained : (c : Constraint) → c.first ≡ t.number → P (elem.Constraint c))
    (named : (constraints : List Constraint) → P (elem.Column (column_with t ts constraints))) where
  of_constraint : (o : Option Constraint) → IfThere (λ c. c.first ≡ t.number) o → P (constraint_element o)
  of_constraint None h = other
  of_constraint (Some c) h = constrained c h

  of_constraints : (o : Option (List Constraint)) → P (column_element (option_and_then (λ constraints. Some (column_with t ts constraints)) o))
  of_constraints None = other
  of_constraints (Some constraints) = named constraints

  of_column : (b : Bool) → P (column_element (if b then option_and_then (λ constraints. Some (column_with t ts constraints)) (column_constraints (Some t) ts) else None))
  of_column true = of_constraints (column_constraints (Some t) ts)
  of_column false = other

  either : (a b : Bool) (x y : Elem) → P x → P y → P (if a then x else (if b then elem.Like else y))
  either true b x y h k = h
  either false true x y h k = like
  either false false x y h k = k

  pub element_is : P (element (t ∷ ts))
  unfolding element column
  element_is =
      either (leads_constraint t ts) (is_keyword keyword.LIKE t) (constraint_element (table_constraint (t ∷ ts))) (column_element (column (t ∷ ts)))
      (of_constraint (table_constraint (t ∷ ts)) (constraint_first t ts)) (of_column (is_name t))

-- ---- lists of elements

by_list : (b : Bool) (lo : ℕ) (ts : List Terminal) (hi : ℕ) → lo ≤ hi → Numbered lo ts hi → Numbered lo (if b then ts else []) hi
by_list true lo ts hi le h = h
by_list false lo ts hi le h = le

inside_numbered : (lo : ℕ) (ts : List Terminal) (hi : ℕ) → Numbered lo ts hi → Numbered lo (inside_list ts) hi
unfolding inside_list
inside_numbered lo ts hi h =
    by_list (begins_list ts) lo (take (closing 0 0 ts - 2) (drop 1 ts)) hi (numbered_le lo ts hi h)
    (take_numbered (closing 0 0 ts - 2) lo (drop 1 ts) hi (drop_left lo hi 1 ts h))

-- What holds of no elements and of the elements of ascending slices holds of the elements of a list.
pub elements_are : (P : List Elem → Type 0) (lo hi : ℕ) → (lo ≤ hi → P []) → ((ps : List (List Terminal)) → Sliced lo ps hi → P (map element ps))
    → (ts : List Terminal) → Numbered lo ts hi → P (elements ts)
unfolding elements split
elements_are P lo hi none some ts h = by (is_empty (inside_list ts))
  where
    by : (b : Bool) → P (if b then [] else listed (inside_list ts))
    by true = none (numbered_le lo ts hi h)
    by false = some (split comma (inside_list ts)) (split_sliced comma None 0 0 lo (inside_list ts) hi (inside_numbered lo ts hi h))

-- ---- where they begin

element_up : (lo : ℕ) (ts : List Terminal) (hi : ℕ) → Numbered lo ts hi → Up lo (element_start (element ts)) hi
unfolding element
element_up lo [] hi h = h
element_up lo (t ∷ ts) hi h =
    let rest = numbered_le (suc t.number) ts hi h.1 in
    let le : lo ≤ hi = numbered_le lo (t ∷ ts) hi h in
    element_is (λ e. Up lo (element_start e) hi) le le t ts
    (λ c is. (omega (arith, h.0, is), omega (arith, rest, is))) (λ constraints. (h.0, rest))

listed_up : (lo hi : ℕ) (ps : List (List Terminal)) → Sliced lo ps hi → Up lo (flat_map element_start (map element ps)) hi
listed_up lo hi [] h = h
listed_up lo hi (p ∷ ps) h =
    up-append lo (element_start (element p)) h.0 (flat_map element_start (map element ps)) hi (element_up lo p h.0 h.1.0) (listed_up h.0 hi ps h.1.1)

none_there : {X : Type 0} (P : Type 0) → P → (o : Option X) → IfThere (λ x. P) o
none_there P h None = tt
none_there P h (Some x) = h

pub elements_ascend : ElementsAscend
elements_ascend tree is =
    increasing 0 (element_starts tree) (0 + length tree.toks)
    (tree_up (λ s. flat_map element_start (elements_in s.body))
    (λ lo t ts hi h. statement_up (λ es xs. flat_map element_start es) lo hi (λ le. le)
    (λ ts k. elements_are (λ es. Up lo (flat_map element_start es) hi) lo hi (λ le. le) (listed_up lo hi) ts k)
    (λ kind ts k. none_there (lo ≤ hi) (numbered_le lo ts hi k) (actions_of kind ts)) (t ∷ ts) h) tree is)
