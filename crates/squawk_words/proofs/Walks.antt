-- `clap`'s faults and matches at the command, word by word, and what the definition says.
use Rattle.std.proofs.Common.{◌≡◌, ◌∙◌, ◌&&◌, ◌⊎◌, Bool, true, false, not, refl, sym, ap, subst, inl, inr, List, [], ◌∷◌, ◌++◌, Option, Some, None, option_map, codes}
use Rattle.std.specs.Prelude.{fold, option_and_then}
use Rattle.std.specs.List.{list_all, list_any}
use Rattle.std.proofs.lemmas.List.{append-nil, map-append}
use Rattle.std.specs.Option.{option_map_or}
use Rattle.clap.specs.Takes.{is_given}
use Rattle.clap.specs.declared.parser.matches.ValueSource.TheVariants.{CommandLine}
use Rattle.clap.specs.declared.builder.value_parser.Reading.TheVariants as reading
use Rattle.clap.specs.Walk.{Held, Row, Rule, Step, Waiting, Walk, arg_by_index, reacted, with_values, after_flag, after_step, arg_by_id, arg_by_long, finished, has_row, idle, long_met, nothing_held, option, settled, settled_rows, used, walk_from, walked, with_default}
use Rattle.clap.specs.Kinds.{Kinds, or_else}
use Rattle.clap.specs.Faults.{check_fault, default_fault, defaults_fault, long_fault, react_fault, settle_fault, step_fault, turn_fault, use_fault, walk_fault}
use Rattle.clap.specs.declared.error.kind.ErrorKind.TheVariants as kind
use Rattle.squawk_words.specs.Command.{is_tidy}
use Rattle.squawk_words.specs.Words.{Settings, Table, Text, after_dashes, has, name_in, named_word, put, read_from, set_to, takes_value, value_in}
use Rattle.squawk_words.proofs.Lookup.{IsLong, IsPlainWord, at_no_row, bytes_refl, by_id, by_long, has_row_for, long_or_plain, row_for, rows_for, rule_for, rules_for, shape_for}

-- ---- lists of kinds

pub first_none : (a b : Kinds) → (a ≡ [] → ⊥) → or_else a b ≡ [] → ⊥
first_none [] b h e = h refl
first_none (k ∷ ks) b h e = h e

pub some_kind : (k : _) (ks : Kinds) → (k ∷ ks) ≡ [] → ⊥
some_kind k ks e = cc

-- ---- the outcome of a walk

abbrev pub end_fault : Table → Held → Kinds
end_fault t h = or_else (settle_fault (rules_for t) false h)
    (or_else (defaults_fault (settled (rules_for t) h).rows (rules_for t)) (check_fault (shape_for t) (finished (rules_for t) h) false))

abbrev pub fault_from : Table → Walk → List Text → Kinds
fault_from t w ws = or_else (walk_fault (shape_for t) [] w ws) (end_fault t (fold (walked (rules_for t) []) w ws).held)

abbrev pub rows_from : Table → Walk → List Text → List Row
rows_from t w ws = finished (rules_for t) (fold (walked (rules_for t) []) w ws).held

abbrev pub final : Table → Settings → List Row
final t said = fold with_default (rows_for said) (rules_for t)

abbrev pub Match : Table → Option Settings → Kinds → List Row → Type 0
Match t None k rows = k ≡ [] → ⊥
Match t (Some said) k rows = (k ≡ []) × (rows ≡ final t said)

abbrev pub Same : Table → Option Settings → Walk → List Text → Type 0
Same t o w ws = Match t o (fault_from t w ws) (rows_from t w ws)

pub pass : (t : Table) (o : Option Settings) (w next : Walk) (word : Text) (ws : List Text) → turn_fault (shape_for t) [] w word ≡ []
    → walked (rules_for t) [] w word ≡ next → Same t o next ws → Same t o w (word ∷ ws)
unfolding walk_fault
pass t o w next word ws none is h =
    let at_walked : Same t o (walked (rules_for t) [] w word) ws = subst (λ x. Same t o x ws) (sym is) h in
    subst (λ k. Match t o (or_else (or_else k (walk_fault (shape_for t) [] (walked (rules_for t) [] w word) ws)) (end_fault t (fold (walked (rules_for t) []) w (word ∷ ws)).held))
    (rows_from t w (word ∷ ws))) (sym none) at_walked

pub refuse : (t : Table) (w : Walk) (word : Text) (ws : List Text) → (turn_fault (shape_for t) [] w word ≡ [] → ⊥) → Same t None w (word ∷ ws)
unfolding walk_fault
refuse t w word ws h = first_none _ _ (first_none _ _ h)

-- ---- where the walk is there

abbrev pub waiting_for : Option Text → Waiting
waiting_for None = idle
waiting_for (Some name) = option name

abbrev pub at : Held → Option Text → Walk
at h waits = record { held = h; waiting = waiting_for waits; position = 1; is_trailing = false; stopped = None }

-- `p` is an option with its value, which is not yet used
abbrev pub held : Settings → Option (Text × Text) → Held
held said p = record { rows = rows_for said; pending = option_map (λ q. (q.0, q.1 ∷ [])) p; skip = 0 }

abbrev pub waits : Settings → Text → Held
waits said name = record { rows = rows_for said; pending = Some (name, []); skip = 0 }

abbrev pub settle : Option (Text × Text) → Settings → Option Settings
settle None said = Some said
settle (Some p) said = put p.0 p.1 said

abbrev pub IsOption : Table → Option (Text × Text) → Type 0
IsOption t None = Unit {0}
IsOption t (Some p) = takes_value t p.0 ≡ Some true

-- ---- a long word

abbrev met_of : Table → Held → Option Text → Text → Text → Option Text → Option Bool → Held × Step
met_of t h wt word name v o =
    after_flag (rules_for t) (waiting_for wt) word (long_met (rules_for t) (option_map (rule_for name) o) v h).0
    (long_met (rules_for t) (option_map (rule_for name) o) v h).1

abbrev turn_of : Table → Held → Option Text → Text → Text → Option Text → Option Bool → Kinds
turn_of t h wt word name v o =
    or_else (long_fault (rules_for t) false (option_map (rule_for name) o) v h)
    (step_fault (shape_for t) 1 (met_of t h wt word name v o).0 (met_of t h wt word name v o).1)

abbrev next_of : Table → Held → Option Text → Text → Text → Option Text → Option Bool → Walk
next_of t h wt word name v o =
    after_step (rules_for t) word (at h wt) (met_of t h wt word name v o).0 (met_of t h wt word name v o).1

pub long_turn : (t : Table) (h : Held) (wt : Option Text) (word : Text) (l : IsLong word)
    → turn_fault (shape_for t) [] (at h wt) word ≡ turn_of t h wt word (name_in l.rest) (value_in l.rest) (takes_value t (name_in l.rest))
long_turn t h None word l = rw (l.more, l.long, by_long t (name_in l.rest)) refl
long_turn t h (Some n) word l = rw (l.more, l.long, by_long t (name_in l.rest)) refl

pub long_next : (t : Table) (h : Held) (wt : Option Text) (word : Text) (l : IsLong word)
    → walked (rules_for t) [] (at h wt) word ≡ next_of t h wt word (name_in l.rest) (value_in l.rest) (takes_value t (name_in l.rest))
unfolding walked
long_next t h None word l = rw (l.more, l.long, by_long t (name_in l.rest)) refl
long_next t h (Some n) word l = rw (l.more, l.long, by_long t (name_in l.rest)) refl

second_none : (a b : Kinds) → a ≡ [] → (b ≡ [] → ⊥) → or_else a b ≡ [] → ⊥
second_none a b none h = let P : Kinds → Type 0 = λ k. or_else k b ≡ [] → ⊥ in subst P (sym none) h

both_none : (a b : Kinds) → a ≡ [] → b ≡ [] → or_else a b ≡ []
both_none a b na nb = ap (λ k. or_else k b) na ∙ nb

-- ---- one use

abbrev vals : Bool → Text → List Text
vals true v = v ∷ []
vals false v = []

abbrev given : Bool → Text → Text
given true v = v
given false v = codes "true"

use_again : (said : Settings) (name : Text) (b : Bool) (v : Text) → has name said ≡ true
    → use_fault false (rule_for name b) (vals b v) (rows_for said) ≡ kind.ArgumentConflict ∷ []
use_again said name true v h = let r : has_row name (rows_for said) ≡ true = has_row_for name said ∙ h in rw r refl
use_again said name false v h = let r : has_row name (rows_for said) ≡ true = has_row_for name said ∙ h in rw r refl

use_first : (said : Settings) (name : Text) (b : Bool) (v : Text) → has name said ≡ false
    → use_fault false (rule_for name b) (vals b v) (rows_for said) ≡ []
use_first said name true v h = let r : has_row name (rows_for said) ≡ false = has_row_for name said ∙ h in rw r refl
use_first said name false v h = let r : has_row name (rows_for said) ≡ false = has_row_for name said ∙ h in rw r refl

one_more : (said : Settings) (name v : Text) → has name said ≡ false
    → with_values name reading.AsWritten CommandLine (v ∷ []) (Rattle.clap.specs.Walk.without name (rows_for said)) ≡ rows_for (said ++ (name, v) ∷ [])
one_more said name v h =
    let r : has_row name (rows_for said) ≡ false = has_row_for name said ∙ h in
    ap (with_values name reading.AsWritten CommandLine (v ∷ [])) (at_no_row name (λ x. []) [] (rows_for said) r ∙ append-nil (rows_for said))
    ∙ at_no_row name (Rattle.clap.specs.Walk.more_values CommandLine (v ∷ [])) _ (rows_for said) r ∙ sym (map-append row_for said ((name, v) ∷ []))

use_rows : (said : Settings) (name : Text) (b : Bool) (v : Text) → has name said ≡ false
    → used (rule_for name b) (vals b v) (rows_for said) ≡ rows_for (said ++ (name, given b v) ∷ [])
use_rows said name true v h = one_more said name v h
use_rows said name false v h = one_more said name (codes "true") h

-- ---- the pending option is used

record IsStuck (t : Table) (said : Settings) (p : Option (Text × Text)) : Type 0 where
  puts : settle p said ≡ None
  fails : settle_fault (rules_for t) false (held said p) ≡ [] → ⊥

record IsSettled (t : Table) (said : Settings) (p : Option (Text × Text)) : Type 0 where
  after : Settings
  puts : settle p said ≡ Some after
  passes : settle_fault (rules_for t) false (held said p) ≡ []
  rows : (settled (rules_for t) (held said p)).rows ≡ rows_for after

settled_or : (t : Table) (said : Settings) (p : Option (Text × Text)) → IsOption t p → IsStuck t said p ⊎ IsSettled t said p
settled_or t said None h = inr (record { after = said; puts = refl; passes = refl; rows = refl })
settled_or t said (Some p) h = go (has p.0 said) refl
  where
    rule_is : arg_by_id (rules_for t) p.0 ≡ Some (rule_for p.0 true)
    rule_is = by_id t p.0 ∙ ap (option_map (rule_for p.0)) h

    fault_is : settle_fault (rules_for t) false (held said (Some p)) ≡ use_fault false (rule_for p.0 true) (p.1 ∷ []) (rows_for said)
    fault_is = ap (λ o. option_map_or (λ a. use_fault false a (p.1 ∷ []) (rows_for said)) o []) rule_is

    go : (b : Bool) → has p.0 said ≡ b → IsStuck t said (Some p) ⊎ IsSettled t said (Some p)
    go true q = inl (record { puts = rw q refl; fails = λ e. some_kind _ _ (sym (fault_is ∙ use_again said p.0 true p.1 q) ∙ e) })
    go false q = inr (record {
      after = said ++ (p.0, p.1) ∷ [];
      puts = rw q refl;
      passes = fault_is ∙ use_first said p.0 true p.1 q;
      rows = ap (λ o. Rattle.clap.specs.Walk.used_by_id o (p.1 ∷ []) (rows_for said)) rule_is ∙ use_rows said p.0 true p.1 q;
    })

stuck_turn : (t : Table) (h : Held) (wt : Option Text) (word name : Text) (v : Option Text) (o : Option Bool)
    → (settle_fault (rules_for t) false h ≡ [] → ⊥) → turn_of t h wt word name v o ≡ [] → ⊥
stuck_turn t h wt word name v None stuck e = some_kind _ _ e
stuck_turn t h wt word name (Some v) (Some true) stuck e = first_none _ _ (first_none _ _ stuck) e
stuck_turn t h wt word name None (Some true) stuck e = first_none _ _ stuck e
stuck_turn t h wt word name (Some v) (Some false) stuck e = some_kind _ _ e
stuck_turn t h wt word name None (Some false) stuck e = first_none _ _ (first_none _ _ stuck) e

-- ---- the steps

record Both (t : Table) (ws : List Text) : Type 0 where
  on_idle : (said : Settings) (p : Option (Text × Text)) → IsOption t p
      → Same t (option_and_then (λ s. read_from t None s ws) (settle p said)) (at (held said p) None) ws
  on_wait : (said : Settings) (name : Text) → takes_value t name ≡ Some true
      → Same t (read_from t (Some name) said ws) (at (waits said name) (Some name)) ws

set_word : (t : Table) (said after : Settings) (p : Option (Text × Text)) (word name : Text) (b : Bool) (v : Text) (ws : List Text)
    → settle_fault (rules_for t) false (held said p) ≡ [] → (settled (rules_for t) (held said p)).rows ≡ rows_for after
    → turn_fault (shape_for t) [] (at (held said p) None) word ≡ or_else (react_fault (rules_for t) false (rule_for name b) (vals b v) (held said p)) []
    → walked (rules_for t) [] (at (held said p) None) word ≡ at (reacted (rules_for t) (rule_for name b) (vals b v) (held said p)) None
    → Both t ws
    → Same t (option_and_then (λ st. read_from t st.0 st.1 ws) (set_to name (given b v) after)) (at (held said p) None) (word ∷ ws)
set_word t said after p word name b v ws passes rows turn next both = go (has name after) refl
  where
    use_is : use_fault false (rule_for name b) (vals b v) (settled (rules_for t) (held said p)).rows ≡ use_fault false (rule_for name b) (vals b v) (rows_for after)
    use_is = ap (use_fault false (rule_for name b) (vals b v)) rows

    go : (q : Bool) → has name after ≡ q → Same t (option_and_then (λ st. read_from t st.0 st.1 ws) (set_to name (given b v) after)) (at (held said p) None) (word ∷ ws)
    go true q = rw q (refuse t _ word ws (λ e. first_none _ _ (second_none _ _ passes
        (λ f. some_kind _ _ (sym (use_is ∙ use_again after name b v q) ∙ f))) (sym turn ∙ e)))
    go false q = rw q (pass t (read_from t None (after ++ (name, given b v) ∷ []) ws) _ (at (held (after ++ (name, given b v) ∷ []) None) None) word ws
        (turn ∙ both_none _ _ (both_none _ _ passes (use_is ∙ use_first after name b v q)) refl)
        (next ∙ ap (λ rs. at (record { rows = rs; pending = None; skip = 0 }) None) (ap (used (rule_for name b) (vals b v)) rows ∙ use_rows after name b v q))
        (both.on_idle (after ++ (name, given b v) ∷ []) None tt))

settled_word : (t : Table) (said after : Settings) (p : Option (Text × Text)) (word name : Text) (v : Option Text) (ws : List Text) (o : Option Bool)
    → takes_value t name ≡ o
    → settle_fault (rules_for t) false (held said p) ≡ [] → (settled (rules_for t) (held said p)).rows ≡ rows_for after
    → turn_fault (shape_for t) [] (at (held said p) None) word ≡ turn_of t (held said p) None word name v o
    → walked (rules_for t) [] (at (held said p) None) word ≡ next_of t (held said p) None word name v o
    → Both t ws
    → Same t (option_and_then (λ st. read_from t st.0 st.1 ws) (named_word name o v after)) (at (held said p) None) (word ∷ ws)
settled_word t said after p word name v ws None is passes rows turn next both = refuse t _ word ws (λ e. some_kind _ _ (sym turn ∙ e))
settled_word t said after p word name (Some v) ws (Some true) is passes rows turn next both = set_word t said after p word name true v ws passes rows turn next both
settled_word t said after p word name None ws (Some true) is passes rows turn next both =
    pass t (read_from t (Some name) after ws) _ (at (waits after name) (Some name)) word ws (turn ∙ both_none _ _ passes refl)
    (next ∙ ap (λ rs. at (record { rows = rs; pending = Some (name, []); skip = 0 }) (Some name)) rows)
    (both.on_wait after name is)
settled_word t said after p word name (Some v) ws (Some false) is passes rows turn next both = refuse t _ word ws (λ e. some_kind _ _ (sym turn ∙ e))
settled_word t said after p word name None ws (Some false) is passes rows turn next both = set_word t said after p word name false [] ws passes rows turn next both

no_position : (t : Table) → arg_by_index (rules_for t) 1 ≡ None
no_position [] = refl
no_position (e ∷ t) = no_position t

plain_turn : (t : Table) (h : Held) (word : Text) → IsPlainWord word → turn_fault (shape_for t) [] (at h None) word ≡ kind.UnknownArgument ∷ []
plain_turn t h word p = rw (p.more, p.long, p.short, no_position t) refl

plain_wait_turn : (t : Table) (h : Held) (name word : Text) → IsPlainWord word → turn_fault (shape_for t) [] (at h (Some name)) word ≡ []
plain_wait_turn t h name word p = rw (p.more, p.long, p.short) refl

plain_wait_next : (t : Table) (said : Settings) (name word : Text) → takes_value t name ≡ Some true → IsPlainWord word
    → walked (rules_for t) [] (at (waits said name) (Some name)) word ≡ at (held said (Some (name, word))) None
unfolding walked
plain_wait_next t said name word is p =
    let rule_is : arg_by_id (rules_for t) name ≡ Some (rule_for name true) = by_id t name ∙ ap (option_map (rule_for name)) is in
    rw (p.more, p.long, p.short, rule_is, bytes_refl name) refl

waits_fault : (t : Table) (said : Settings) (name : Text) → takes_value t name ≡ Some true → settle_fault (rules_for t) false (waits said name) ≡ [] → ⊥
waits_fault t said name is e =
    let rule_is : arg_by_id (rules_for t) name ≡ Some (rule_for name true) = by_id t name ∙ ap (option_map (rule_for name)) is in
    some_kind kind.InvalidValue [] (sym (ap (λ o. option_map_or (λ a. use_fault false a [] (rows_for said)) o []) rule_is) ∙ e)

refused_at : (t : Table) (o : Option Settings) (word : Text) (words : List Text) → after_dashes word ≡ None
    → option_and_then (λ s. read_from t None s (word ∷ words)) o ≡ None
unfolding read_from
refused_at t None word words h = refl
refused_at t (Some s) word words h = rw h refl

idle_step : (t : Table) (word : Text) (ws : List Text) → IsLong word ⊎ IsPlainWord word → Both t ws → (said : Settings) (p : Option (Text × Text)) → IsOption t p
    → Same t (option_and_then (λ s. read_from t None s (word ∷ ws)) (settle p said)) (at (held said p) None) (word ∷ ws)
unfolding read_from
idle_step t word ws (inl l) both said p is = elim (settled_or t said p is) [
  | inl s ↦ rw s.puts (refuse t _ word ws (λ e. stuck_turn t (held said p) None word (name_in l.rest) (value_in l.rest) (takes_value t (name_in l.rest)) s.fails
      (sym (long_turn t (held said p) None word l) ∙ e)))
  | inr s ↦ rw (s.puts, l.dashes) (settled_word t said s.after p word (name_in l.rest) (value_in l.rest) ws (takes_value t (name_in l.rest)) refl s.passes s.rows
      (long_turn t (held said p) None word l) (long_next t (held said p) None word l) both)
]
idle_step t word ws (inr q) both said p is =
    subst (λ o. Same t o (at (held said p) None) (word ∷ ws)) (sym (refused_at t (settle p said) word ws q.dashes))
    (refuse t _ word ws (λ e. some_kind _ _ (sym (plain_turn t (held said p) word q) ∙ e)))

wait_step : (t : Table) (word : Text) (ws : List Text) → IsLong word ⊎ IsPlainWord word → Both t ws → (said : Settings) (name : Text) → takes_value t name ≡ Some true
    → Same t (read_from t (Some name) said (word ∷ ws)) (at (waits said name) (Some name)) (word ∷ ws)
unfolding read_from
wait_step t word ws (inl l) both said name is = rw l.begins
    (refuse t _ word ws (λ e. stuck_turn t (waits said name) (Some name) word (name_in l.rest) (value_in l.rest) (takes_value t (name_in l.rest)) (waits_fault t said name is)
    (sym (long_turn t (waits said name) (Some name) word l) ∙ e)))
wait_step t word ws (inr q) both said name is = rw q.begins (go (has name said) refl)
  where
    later : Same t (option_and_then (λ s. read_from t None s ws) (put name word said)) (at (waits said name) (Some name)) (word ∷ ws)
    later = pass t _ _ _ word ws (plain_wait_turn t (waits said name) name word q) (plain_wait_next t said name word is q) (both.on_idle said (Some (name, word)) is)

    go : (b : Bool) → has name said ≡ b → Same t (option_and_then (λ st. read_from t st.0 st.1 ws) (set_to name word said)) (at (waits said name) (Some name)) (word ∷ ws)
    go true e = rw e (rw e at later)
    go false e = rw e (rw e at later)

-- ---- the end

default_none : (rows : List Row) (name : Text) (b : Bool) → default_fault rows (rule_for name b) ≡ []
default_none rows name true = go (has_row name rows) refl
  where
    go : (q : Bool) → has_row name rows ≡ q → default_fault rows (rule_for name true) ≡ []
    go true q = rw q refl
    go false q = rw q refl
default_none rows name false = go (has_row name rows) refl
  where
    go : (q : Bool) → has_row name rows ≡ q → default_fault rows (rule_for name false) ≡ []
    go true q = rw q refl
    go false q = rw q refl

no_defaults : (t : Table) (rows : List Row) → defaults_fault rows (rules_for t) ≡ []
unfolding defaults_fault
no_defaults [] rows = refl
no_defaults (e ∷ t) rows = both_none _ _ (default_none rows e.0 e.1) (no_defaults t _)

none_required : (t : Table) (rows : List Row) → list_any (λ a. a.required && not (is_given a.id rows)) (rules_for t) ≡ false
none_required [] rows = refl
none_required (e ∷ t) rows = none_required t rows

checks : (t : Table) (rows : List Row) → check_fault (shape_for t) rows false ≡ []
checks t rows = rw (none_required t rows) refl

at_end : (t : Table) → Both t []
unfolding read_from walk_fault
at_end t = record {
  on_idle = λ said p is. elim (settled_or t said p is) [
    | inl s ↦ rw s.puts (λ e. first_none _ _ s.fails e)
    | inr s ↦ rw s.puts (both_none _ _ s.passes (both_none _ _ (no_defaults t _) (checks t _)), ap (λ rs. fold with_default rs (rules_for t)) s.rows)
  ];
  on_wait = λ said name is e. first_none _ _ (waits_fault t said name is) e;
}

all_steps : (t : Table) (ws : List Text) → list_all is_tidy ws ≡ true → Both t ws
all_steps t [] h = at_end t
all_steps t (word ∷ ws) h =
    let parts = Rattle.clap.proofs.WalkLemmas.both (is_tidy word) (list_all is_tidy ws) h in
    let below = all_steps t ws parts.1 in
    record {
      on_idle = λ said p is. idle_step t word ws (long_or_plain word parts.0) below said p is;
      on_wait = λ said name is. wait_step t word ws (long_or_plain word parts.0) below said name is;
    }

pub as_defined : (t : Table) (ws : List Text) → list_all is_tidy ws ≡ true → Same t (read_from t None [] ws) (walk_from nothing_held) ws
as_defined t ws h = (all_steps t ws h).on_idle [] None tt
