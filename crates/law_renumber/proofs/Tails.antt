-- What follows the lead words of statements, of changed terminals.
use Rattle.std.proofs.Common.{◌≡◌, ℕ, Bool, List, [], ◌∷◌, map, refl, sym, ◌∙◌, ap, Option, Some, None}
use Rattle.std.specs.Option.{option_map, option_and_then}
use Rattle.std.specs.List.{list_any}
use Rattle.sql_tree.specs.sql_keyword.declared.words.Keyword.{Keyword}
use Rattle.sql_tree.specs.sql_keyword.declared.words.TheConstants.Keyword as keyword
use Rattle.sql_token.specs.declared.token.Span.{Span}
use Rattle.sql_token.specs.declared.terminal.Terminal.{Terminal}
use Rattle.sql_token.specs.Terminal.{is_keyword}
use Rattle.sql_token.specs.Depth.{nothing}
use Rattle.sql_tree.specs.declared.nodes.LockMode.{LockMode}
use Rattle.sql_tree.specs.declared.nodes.ReindexTarget.{ReindexTarget}
use Rattle.sql_tree.specs.declared.other_forms.TheConstants.{LOCK_MODES}
use Rattle.sql_tree.specs.Forms.{after_word, after_words}
use Rattle.sql_tree.specs.Split.{comma, split}
use Rattle.sql_tree.specs.Groups.{path_first}
use Rattle.sql_tree.specs.Tails.{from_to, paths_from, all_read, whole_path, after_options, any_option, after_flag, target_symbol, is_concurrent, is_valued, reindex_body, reindex_object, reindex, is_on, is_full, is_full_vacuum, some_span, after_either, vacuum_tables, cascade_number, last_cascade, begins_value, path_to, parameter, ends, does_end, is_mode, mode_by, mode_of, lock_mode}
use Rattle.sql_tree.proofs.TailWalks.{paths_walk, lock_walk, by_paths, by_lock}
use Rattle.law_renumber.specs.Moved.{span_moved, body_moved}
use Rattle.law_renumber.proofs.Basics as basics
use Rattle.law_renumber.proofs.Seen.{reindex_target_sees, Change, changed}
use Rattle.law_renumber.proofs.Basics.{moves, either_moved, after_word_moved, after_words_moved}
use Rattle.law_renumber.proofs.Marks.{comma_is_blind, split_renumbers, begins_sees, begins_list_sees, closing_renumbers}
use Rattle.law_renumber.proofs.Groups.{inside_list_moved, path_moved, path_first_moved}

-- ---- paths

paths_walk_moved : (f : Change) (first last : ℕ) (ts : List Terminal) →
    paths_walk (f.number first) (f.number last) (map (changed f) ts) ≡ map (span_moved f.number) (paths_walk first last ts)
paths_walk_moved f first last [] = refl
paths_walk_moved f first last (d ∷ []) = refl
paths_walk_moved f first last (d ∷ t ∷ ts) =
    simp (paths_walk_moved f first t.number ts, paths_walk_moved f t.number t.number ts, moves)

pub paths_from_moved : (f : Change) (first last : ℕ) (ts : List Terminal) →
    paths_from (f.number first) (f.number last) (map (changed f) ts) ≡ map (span_moved f.number) (paths_from first last ts)
paths_from_moved f first last ts =
    by_paths (f.number first) (f.number last) (map (changed f) ts) ∙ paths_walk_moved f first last ts ∙ sym (ap (map (span_moved f.number)) (by_paths first last ts))

all_read_moved : (f : Change) (r : Span × List Terminal) → all_read (path_moved f r) ≡ option_map (option_map (span_moved f.number)) (all_read r)
all_read_moved f (path, []) = refl
all_read_moved f (path, t ∷ ts) = refl

whole_path_moved : (f : Change) (ts : List Terminal) →
    whole_path (map (changed f) ts) ≡ option_map (option_map (span_moved f.number)) (whole_path ts)
unfolding whole_path
whole_path_moved f [] = refl
whole_path_moved f (t ∷ ts) =
    rw (path_first_moved f (t ∷ ts)) (basics.bind_moved _ _ _ _ (all_read_moved f) (path_first (t ∷ ts)))

-- ---- options in brackets

after_options_moved : (f : Change) (ts : List Terminal) → after_options (map (changed f) ts) ≡ map (changed f) (after_options ts)
unfolding after_options
after_options_moved f ts = simp (begins_list_sees, closing_renumbers, moves)

any_sees : (f : Change) (test : List Terminal → Bool) → ((ts : List Terminal) → test (map (changed f) ts) ≡ test ts) →
    (xs : List (List Terminal)) → list_any test (map (map (changed f)) xs) ≡ list_any test xs
any_sees f test sees [] = refl
any_sees f test sees (x ∷ xs) = rw (sees x, any_sees f test sees xs) refl

any_option_sees : (f : Change) (test : List Terminal → Bool) → ((ts : List Terminal) → test (map (changed f) ts) ≡ test ts) →
    (inside : List Terminal) → any_option test (map (changed f) inside) ≡ any_option test inside
unfolding any_option
any_option_sees f test sees inside = rw (split_renumbers comma comma_is_blind f inside) (any_sees f test sees (split comma inside))

after_flag_moved : (f : Change) (w : Keyword) (ts : List Terminal) →
    after_flag w (map (changed f) ts) ≡ map (changed f) (after_flag w ts)
unfolding after_flag
after_flag_moved f w [] = refl
after_flag_moved f w (t ∷ ts) = simp moves

-- ---- REINDEX

concurrent_sees : (f : Change) (option : List Terminal) → is_concurrent (map (changed f) option) ≡ is_concurrent option
unfolding is_concurrent
concurrent_sees f option = begins_sees f keyword.CONCURRENTLY option

valued_sees : (f : Change) (option : List Terminal) → is_valued (map (changed f) option) ≡ is_valued option
unfolding is_valued
valued_sees f option = simp (begins_sees, moves)

reindex_body_moved : (f : Change) (inside : List Terminal) (t : Terminal) (rest : List Terminal) (found : ReindexTarget) (path : Option Span) →
    reindex_body (map (changed f) inside) (changed f t) (map (changed f) rest) found (option_map (span_moved f.number) path)
    ≡ body_moved f.number (reindex_body inside t rest found path)
reindex_body_moved f inside t rest found path =
    simp (begins_sees, any_option_sees f is_concurrent (concurrent_sees f), any_option_sees f is_valued (valued_sees f))

reindex_object_moved : (f : Change) (inside ts : List Terminal) →
    reindex_object (map (changed f) inside) (map (changed f) ts) ≡ option_map (body_moved f.number) (reindex_object inside ts)
unfolding reindex_object
reindex_object_moved f inside [] = refl
reindex_object_moved f inside (t ∷ ts) =
    rw (after_flag_moved f keyword.CONCURRENTLY ts, whole_path_moved f (after_flag keyword.CONCURRENTLY ts))
    (ap (λ (x : Option ReindexTarget). option_and_then (λ found. option_and_then (λ path.
    Some (reindex_body (map (changed f) inside) (changed f t) (map (changed f) ts) found path)) (option_map (option_map (span_moved f.number)) (whole_path (after_flag keyword.CONCURRENTLY ts)))) x) (reindex_target_sees f t)
    ∙ kind_and_body (target_symbol t.symbol) (whole_path (after_flag keyword.CONCURRENTLY ts)))
  where
    kind_and_body : (x : Option ReindexTarget) (y : Option (Option Span)) →
        option_and_then (λ found. option_and_then (λ path.
        Some (reindex_body (map (changed f) inside) (changed f t) (map (changed f) ts) found path)) (option_map (option_map (span_moved f.number)) y)) x
        ≡ option_map (body_moved f.number) (option_and_then (λ found. option_and_then (λ path. Some (reindex_body inside t ts found path)) y) x)
    kind_and_body None y = refl
    kind_and_body (Some found) None = refl
    kind_and_body (Some found) (Some path) = ap Some (reindex_body_moved f inside t ts found path)

pub reindex_moved : (f : Change) (ts : List Terminal) → reindex (map (changed f) ts) ≡ option_map (body_moved f.number) (reindex ts)
unfolding reindex
reindex_moved f ts = simp (inside_list_moved, after_options_moved, reindex_object_moved)

-- ---- VACUUM

on_sees : (f : Change) (t : Terminal) → is_on (changed f t) ≡ is_on t
unfolding is_on
on_sees f t = simp moves

full_sees : (f : Change) (ts : List Terminal) → is_full (map (changed f) ts) ≡ is_full ts
unfolding is_full
full_sees f [] = refl
full_sees f (t ∷ []) = simp moves
full_sees f (t ∷ v ∷ []) = simp (moves, on_sees)
full_sees f (t ∷ v ∷ u ∷ ts) = refl

pub full_vacuum_sees : (f : Change) (ts : List Terminal) → is_full_vacuum (map (changed f) ts) ≡ is_full_vacuum ts
unfolding is_full_vacuum
full_vacuum_sees f ts = simp (after_options_moved, begins_sees, inside_list_moved, any_option_sees f is_full (full_sees f))

some_span_moved : (f : Change) (ts : List Terminal) → some_span (map (changed f) ts) ≡ option_map (span_moved f.number) (some_span ts)
some_span_moved f [] = refl
some_span_moved f (t ∷ ts) = ap (λ last. Some (from_to (f.number t.number) last)) (basics.last_moved f t ts)

after_either_moved : (f : Change) (v w : Keyword) (ts : List Terminal) →
    after_either v w (map (changed f) ts) ≡ map (changed f) (after_either v w ts)
after_either_moved f v w [] = refl
after_either_moved f v w (t ∷ ts) = simp moves

pub vacuum_tables_moved : (f : Change) (ts : List Terminal) → vacuum_tables (map (changed f) ts) ≡ option_map (span_moved f.number) (vacuum_tables ts)
unfolding vacuum_tables
vacuum_tables_moved f ts = simp (after_options_moved, after_flag_moved, after_either_moved, some_span_moved)

-- ---- TRUNCATE

number_moved : (f : Change) (t u : Terminal) → u ≡ changed f t → cascade_number u ≡ option_map f.number (cascade_number t)
number_moved f t u is = rw is (simp moves)

none_there : cascade_number nothing ≡ None
unfolding is_keyword
none_there = refl

pub last_cascade_moved : (f : Change) (ts : List Terminal) → last_cascade (map (changed f) ts) ≡ option_map f.number (last_cascade ts)
unfolding last_cascade
last_cascade_moved f [] = rw none_there refl
last_cascade_moved f (t ∷ ts) = number_moved f _ _ (basics.last_terminal f t ts)

-- ---- SET

begins_value_sees : (f : Change) (ts : List Terminal) → begins_value (map (changed f) ts) ≡ begins_value ts
unfolding begins_value
begins_value_sees f [] = refl
begins_value_sees f (t ∷ ts) = simp moves

path_to_moved : (f : Change) (r : Span × List Terminal) → path_to (path_moved f r) ≡ option_map (span_moved f.number) (path_to r)
path_to_moved f (path, rest) = simp (begins_value_sees f rest, moves)

pub parameter_moved : (f : Change) (ts : List Terminal) → parameter (map (changed f) ts) ≡ option_map (span_moved f.number) (parameter ts)
unfolding parameter
parameter_moved f ts = rw (path_first_moved f ts) (basics.bind_moved _ _ _ _ (path_to_moved f) (path_first ts))

-- ---- LOCK

ends_see : (f : Change) (ts : List Terminal) → ends (map (changed f) ts) ≡ ends ts
ends_see f [] = refl
ends_see f (t ∷ []) = simp moves
ends_see f (t ∷ u ∷ ts) = refl

does_end_sees : (f : Change) (r : Option (List Terminal)) → does_end (option_map (map (changed f)) r) ≡ does_end r
does_end_sees f None = refl
does_end_sees f (Some rest) = ends_see f rest

mode_sees : (f : Change) (ws : List Keyword) (ts : List Terminal) → is_mode ws (map (changed f) ts) ≡ is_mode ws ts
unfolding is_mode
mode_sees f ws ts =
    rw (
      after_words_moved f ws ts,
      basics.bind_moved (map (changed f)) (map (changed f)) (after_word keyword.MODE) (after_word keyword.MODE) (after_word_moved f keyword.MODE) (after_words ws ts),
    )
    (does_end_sees f (option_and_then (after_word keyword.MODE) (after_words ws ts)))

mode_by_sees : (f : Change) (rows : List (LockMode × List Keyword)) (ts : List Terminal) → mode_by rows (map (changed f) ts) ≡ mode_by rows ts
mode_by_sees f [] ts = refl
mode_by_sees f (r ∷ rs) ts = rw (mode_sees f r.1 ts, mode_by_sees f rs ts) refl

mode_of_sees : (f : Change) (ts : List Terminal) → mode_of (map (changed f) ts) ≡ mode_of ts
unfolding mode_of
mode_of_sees f ts = mode_by_sees f (map (λ r. (r.0, r.1.now)) LOCK_MODES) ts

lock_walk_sees : (f : Change) (ts : List Terminal) → lock_walk (map (changed f) ts) ≡ lock_walk ts
lock_walk_sees f [] = refl
lock_walk_sees f (t ∷ ts) = simp (mode_of_sees f ts, lock_walk_sees f ts, moves)

pub lock_mode_sees : (f : Change) (ts : List Terminal) → lock_mode (map (changed f) ts) ≡ lock_mode ts
lock_mode_sees f ts = by_lock (map (changed f) ts) ∙ lock_walk_sees f ts ∙ sym (by_lock ts)
