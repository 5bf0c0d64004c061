-- What queries of changed terminals give, and what statements of them write.
use Rattle.std.proofs.Common.{◌≡◌, ℕ, List, [], ◌∷◌, map, drop, refl, ap, Option, Some, None}
use Rattle.std.specs.Option.{option_map, option_and_then, option_to_list}
use Rattle.std.proofs.lemmas.List.{length-map, drop-map}
use Rattle.sql_tree.specs.sql_keyword.declared.words.TheConstants.Keyword as keyword
use Rattle.sql_token.specs.declared.terminal.Terminal.{Terminal}
use Rattle.sql_tree.specs.declared.kinds.StmtKind.{StmtKind}
use Rattle.sql_tree.specs.declared.kinds.StmtKind.TheVariants as stmt
use Rattle.sql_tree.specs.declared.nodes.Target.{Target}
use Rattle.sql_tree.specs.Forms.{after_word, after_words}
use Rattle.sql_tree.specs.Groups.{inside_list}
use Rattle.sql_tree.specs.Split.{Test, comma, word, equals, do_update_set, then_update_set, then_insert, clause_end, merge_clause_end, target_list_end, until, from_mark, after_list, split}
use Rattle.sql_tree.specs.Write.{is_after_dot, begins_name, no_accessor, target, targets_between, assigned, list_targets, set_part_of, set_part, set_clause, others, set_clauses, update_clause, sets_of, begins_query, column_list, after_name, after_alias, insert_lists, lists_of, table_write, name_after_as, alias_name, path_name, name_or, query_target, left_or, after_distinct, targets, column_name, view_columns, targets_of_select, view_targets, named_or, view_definition}
use Rattle.law_renumber.specs.Moved.{target_moved, set_part_moved}
use Rattle.law_renumber.specs.Trees.{TargetsRenumber, ViewRenumbers, WriteRenumbers}
use Rattle.law_renumber.proofs.Seen.{query_sees, Change, Changes, Blind, changed}
use Rattle.law_renumber.proofs.Basics.{moves, all_moved, map_moved, filter_map_moved, after_word_moved, after_words_moved, HasEnds, ends}
use Rattle.law_renumber.proofs.Marks.{comma_is_blind, word_is_blind, equals_is_blind, do_update_set_is_blind, then_update_set_is_blind, then_insert_is_blind, clause_end_is_blind, merge_clause_end_is_blind, target_list_end_is_blind, begins_list_sees, before_renumbers, from_mark_moved, until_moved, split_renumbers, after_list_moved}
use Rattle.law_renumber.proofs.Groups.{is_list_sees, inside_list_moved, names_end_moved}

-- ---- names with accessors

after_dot_sees : (f : Change) (earlier : Option Terminal) → is_after_dot (option_map (changed f) earlier) ≡ is_after_dot earlier
after_dot_sees f None = refl
after_dot_sees f (Some earlier) = simp moves

begins_name_sees : (f : Change) (ts : List Terminal) → begins_name (map (changed f) ts) ≡ begins_name ts
begins_name_sees f [] = refl
begins_name_sees f (t ∷ ts) = simp moves

pub no_accessor_is_blind : Blind no_accessor
unfolding no_accessor
no_accessor_is_blind f earlier t after = simp (moves, after_dot_sees, begins_name_sees)

target_of_moved : (f : Change) (ts : List Terminal) → target (map (changed f) ts) ≡ option_map (target_moved f.number) (target ts)
unfolding target
target_of_moved f [] = refl
target_of_moved f (t ∷ ts) = simp (before_renumbers no_accessor no_accessor_is_blind f ts, length-map ts (changed f), moves)

targets_between_moved : (f : Change) (ts : List Terminal) →
    targets_between (map (changed f) ts) ≡ map (target_moved f.number) (targets_between ts)
unfolding targets_between
targets_between_moved f ts =
    rw (split_renumbers comma comma_is_blind f ts)
    (filter_map_moved (map (changed f)) (target_moved f.number) target target (target_of_moved f) (split comma ts))

-- ---- SET clauses

assigned_moved : (f : Change) (ts : List Terminal) → assigned (map (changed f) ts) ≡ map (changed f) (assigned ts)
unfolding assigned
assigned_moved f ts = simp (before_renumbers equals equals_is_blind f, moves)

list_targets_moved : (f : Change) (left : List Terminal) → list_targets (map (changed f) left) ≡ map (target_moved f.number) (list_targets left)
list_targets_moved f left = simp (is_list_sees, inside_list_moved, targets_between_moved, moves)

set_part_of_moved : (f : Change) (ts : List Terminal) → HasEnds f ts → (left : List Terminal) (t : Option Target) →
    set_part_of (map (changed f) ts) (map (changed f) left) (option_map (target_moved f.number) t) ≡ set_part_moved f.number (set_part_of ts left t)
set_part_of_moved f ts e left None = rw (list_targets_moved f left) (simp (length-map, e.first, e.last))
set_part_of_moved f ts e left (Some t) = simp (length-map, e.first, e.last)

set_part_of_list_moved : (f : Change) (ts : List Terminal) → set_part (map (changed f) ts) ≡ option_map (set_part_moved f.number) (set_part ts)
unfolding set_part
set_part_of_list_moved f [] = refl
set_part_of_list_moved f (t ∷ ts) =
    rw (assigned_moved f (t ∷ ts), target_of_moved f (assigned (t ∷ ts)))
    (ap Some (set_part_of_moved f (t ∷ ts) (ends f t ts) (assigned (t ∷ ts)) (target (assigned (t ∷ ts)))))

set_clause_moved : (end : Test) → Blind end → (f : Change) (ts : List Terminal) →
    set_clause end (map (changed f) ts) ≡ map (set_part_moved f.number) (set_clause end ts)
unfolding set_clause
set_clause_moved end blind f ts =
    rw (until_moved end blind f ts, split_renumbers comma comma_is_blind f (until end ts))
    (filter_map_moved (map (changed f)) (set_part_moved f.number) set_part set_part (set_part_of_list_moved f) (split comma (until end ts)))

others_moved : {A B : Type 0} (g : A → B) (xs : List A) → others (map g xs) ≡ map g (others xs)
others_moved g [] = refl
others_moved g (x ∷ xs) = refl

set_clauses_moved : (mark : Test) → Blind mark → (end : Test) → Blind end → (f : Change) (tail : List Terminal) →
    set_clauses mark end (map (changed f) tail) ≡ map (map (set_part_moved f.number)) (set_clauses mark end tail)
unfolding set_clauses
set_clauses_moved mark blind end same f tail =
    rw (split_renumbers mark blind f tail, others_moved (map (changed f)) (split mark tail))
    (map_moved (map (changed f)) (map (set_part_moved f.number)) (λ part. set_clause end (drop 2 part)) (λ part. set_clause end (drop 2 part))
    (λ part. rw (drop-map (changed f) 2 part) (set_clause_moved end same f (drop 2 part))) (others (split mark tail)))

update_clause_moved : (f : Change) (tail : List Terminal) →
    update_clause (map (changed f) tail) ≡ map (map (set_part_moved f.number)) (update_clause tail)
unfolding update_clause
update_clause_moved f tail =
    simp (before_renumbers (word keyword.SET) (word_is_blind keyword.SET) f, set_clause_moved clause_end clause_end_is_blind f, moves)

sets_of_moved : (f : Change) (kind : StmtKind) (tail : List Terminal) →
    sets_of kind (map (changed f) tail) ≡ map (map (set_part_moved f.number)) (sets_of kind tail)
unfolding sets_of
sets_of_moved f stmt.Update tail = update_clause_moved f tail
sets_of_moved f stmt.Insert tail = set_clauses_moved do_update_set do_update_set_is_blind clause_end clause_end_is_blind f tail
sets_of_moved f stmt.Merge tail = set_clauses_moved then_update_set then_update_set_is_blind merge_clause_end merge_clause_end_is_blind f tail
sets_of_moved f kind tail = refl

-- ---- lists of columns

begins_query_sees : (f : Change) (ts : List Terminal) → begins_query (map (changed f) ts) ≡ begins_query ts
begins_query_sees f [] = refl
begins_query_sees f (t ∷ ts) = query_sees f t

column_list_moved : (f : Change) (ts : List Terminal) →
    column_list (map (changed f) ts) ≡ option_map (map (target_moved f.number)) (column_list ts)
unfolding column_list
column_list_moved f ts = simp (begins_list_sees, inside_list_moved, begins_query_sees, targets_between_moved, moves)

after_name_moved : (f : Change) (ts rest : List Terminal) →
    after_name (map (changed f) ts) (map (changed f) rest) ≡ map (changed f) (after_name ts rest)
after_name_moved f ts [] = refl
after_name_moved f ts (t ∷ rest) = simp moves

after_alias_moved : (f : Change) (ts : List Terminal) → after_alias (map (changed f) ts) ≡ map (changed f) (after_alias ts)
unfolding after_alias
after_alias_moved f [] = refl
after_alias_moved f (t ∷ ts) = simp (after_name_moved f (t ∷ ts) ts, moves)

insert_lists_moved : (f : Change) (tail : List Terminal) →
    insert_lists (map (changed f) tail) ≡ map (map (target_moved f.number)) (insert_lists tail)
unfolding insert_lists
insert_lists_moved f tail =
    rw (split_renumbers then_insert then_insert_is_blind f tail, others_moved (map (changed f)) (split then_insert tail))
    (filter_map_moved (map (changed f)) (map (target_moved f.number)) (λ part. column_list (drop 1 part)) (λ part. column_list (drop 1 part))
    (λ part. rw (drop-map (changed f) 1 part) (column_list_moved f (drop 1 part))) (others (split then_insert tail)))

to_list_moved : {A B : Type 0} (g : A → B) (o : Option A) → option_to_list (option_map g o) ≡ map g (option_to_list o)
to_list_moved g None = refl
to_list_moved g (Some a) = refl

lists_of_moved : (f : Change) (kind : StmtKind) (tail : List Terminal) →
    lists_of kind (map (changed f) tail) ≡ map (map (target_moved f.number)) (lists_of kind tail)
unfolding lists_of
lists_of_moved f stmt.Insert tail = simp (after_alias_moved, column_list_moved, to_list_moved)
lists_of_moved f stmt.Merge tail = insert_lists_moved f tail
lists_of_moved f kind tail = refl

pub write_renumbers : Changes WriteRenumbers
unfolding table_write
write_renumbers f kind path tail = simp (sets_of_moved, lists_of_moved)

-- ---- targets of queries

after_as_moved : (f : Change) (ts : List Terminal) → name_after_as (map (changed f) ts) ≡ option_map f.number (name_after_as ts)
after_as_moved f [] = refl
after_as_moved f (a ∷ []) = refl
after_as_moved f (a ∷ t ∷ []) = simp moves
after_as_moved f (a ∷ t ∷ u ∷ ts) = refl

alias_name_moved : (f : Change) (ts : List Terminal) → alias_name (map (changed f) ts) ≡ option_map f.number (alias_name ts)
unfolding alias_name
alias_name_moved f ts = simp (length-map, drop-map, after_as_moved)

path_name_moved : (f : Change) (ts : List Terminal) → path_name (map (changed f) ts) ≡ option_map f.number (path_name ts)
unfolding path_name
path_name_moved f [] = refl
path_name_moved f (t ∷ ts) = simp (names_end_moved f t.number ts, moves)

name_or_moved : (f : Change) (x y : Option ℕ) → name_or (option_map f.number x) (option_map f.number y) ≡ option_map f.number (name_or x y)
name_or_moved f None y = refl
name_or_moved f (Some n) y = refl

query_target_moved : (f : Change) (ts : List Terminal) → query_target (map (changed f) ts) ≡ option_map (target_moved f.number) (query_target ts)
unfolding query_target
query_target_moved f ts = simp (alias_name_moved, path_name_moved, name_or_moved, moves)

left_or_moved : (f : Change) (ts : List Terminal) (r : Option (List Terminal)) →
    left_or (map (changed f) ts) (option_map (map (changed f)) r) ≡ map (changed f) (left_or ts r)
left_or_moved f ts None = refl
left_or_moved f ts (Some rest) = refl

on_list_moved : (f : Change) (ts : List Terminal) →
    option_and_then after_list (after_word keyword.ON (map (changed f) ts)) ≡ option_map (map (changed f)) (option_and_then after_list (after_word keyword.ON ts))
on_list_moved f ts = simp (after_word_moved, after_list_moved, moves)

after_distinct_moved : (f : Change) (ts : List Terminal) → after_distinct (map (changed f) ts) ≡ map (changed f) (after_distinct ts)
unfolding after_distinct
after_distinct_moved f [] = refl
after_distinct_moved f (t ∷ ts) =
    rw (on_list_moved f ts, left_or_moved f ts (option_and_then after_list (after_word keyword.ON ts))) (simp moves)

pub targets_renumber : Changes TargetsRenumber
unfolding targets
targets_renumber f ts =
    rw (
      after_distinct_moved f ts,
      until_moved target_list_end target_list_end_is_blind f (after_distinct ts),
      split_renumbers comma comma_is_blind f (until target_list_end (after_distinct ts)),
    )
    (filter_map_moved (map (changed f)) (target_moved f.number) query_target query_target (query_target_moved f)
    (split comma (until target_list_end (after_distinct ts))))

-- ---- views

column_name_moved : (f : Change) (ts : List Terminal) → column_name (map (changed f) ts) ≡ option_map (target_moved f.number) (column_name ts)
unfolding column_name
column_name_moved f [] = refl
column_name_moved f (t ∷ []) = simp moves
column_name_moved f (t ∷ u ∷ ts) = refl

view_columns_moved : (f : Change) (tail : List Terminal) →
    view_columns (map (changed f) tail) ≡ option_map (map (target_moved f.number)) (view_columns tail)
unfolding view_columns
view_columns_moved f tail =
    rw (
      inside_list_moved f tail,
      split_renumbers comma comma_is_blind f (inside_list tail),
      all_moved (map (changed f)) (target_moved f.number) column_name column_name (column_name_moved f) (split comma (inside_list tail)),
    )
    (simp (begins_list_sees, moves))

of_select_moved : (f : Change) (r : Option (List Terminal)) →
    targets_of_select (option_map (map (changed f)) r) ≡ map (target_moved f.number) (targets_of_select r)
of_select_moved f None = refl
of_select_moved f (Some ts) = targets_renumber f ts

view_targets_moved : (f : Change) (ts : List Terminal) → view_targets (map (changed f) ts) ≡ map (target_moved f.number) (view_targets ts)
unfolding view_targets
view_targets_moved f ts =
    rw (
      from_mark_moved (word keyword.AS) (word_is_blind keyword.AS) f ts,
      after_words_moved f (keyword.AS ∷ keyword.SELECT ∷ []) (from_mark (word keyword.AS) ts),
    )
    (of_select_moved f (after_words (keyword.AS ∷ keyword.SELECT ∷ []) (from_mark (word keyword.AS) ts)))

named_or_moved : {A B : Type 0} (g : A → B) (other : List A) (r : Option (List A)) →
    named_or (map g other) (option_map (map g) r) ≡ map g (named_or other r)
named_or_moved g other None = refl
named_or_moved g other (Some xs) = refl

pub view_renumbers : Changes ViewRenumbers
unfolding view_definition
view_renumbers f replace tail = rw (view_columns_moved f tail, view_targets_moved f tail, named_or_moved (target_moved f.number) [] (view_columns tail)) refl
