-- A type before what a column or a SET TYPE goes on with, and a word in the place of its run.
use Rattle.std.proofs.Common.{◌≡◌, ◌⊎◌, inl, inr, ℕ, zero, suc, ◌+◌, Bool, true, false, cond, List, [], ◌∷◌, ◌++◌, take, drop, append-nil, append_assoc, sym, refl, ap, ◌∙◌, subst, arith, Option, Some, None}
use Rattle.std.proofs.lemmas.Bool.{false≢true}
use Rattle.std.proofs.lemmas.Bool.Decides.{nat_tests}
use Rattle.std.proofs.lemmas.List.{take-append-drop}
use Rattle.std.specs.Prelude.{◌==◌, ◌&&◌}
use Rattle.std.specs.Option.{option_map, option_and_then}
use Rattle.law_edit_inserts.specs.sql_token.declared.token.Span.{Span}
use Rattle.law_edit_inserts.specs.sql_token.declared.terminal.Terminal.{Terminal}
use Rattle.law_edit_inserts.specs.sql_token.Terminal.{is_name, is_opener, is_closer}
use Rattle.law_edit_inserts.specs.sql_token.Depth.{span_of, one_if, opened, closed, nothing}
use Rattle.law_edit_inserts.specs.sql_tree.declared.nodes.ColType.{ColType}
use Rattle.law_edit_inserts.specs.sql_tree.declared.nodes.Column.{Column}
use Rattle.law_edit_inserts.specs.sql_tree.declared.nodes.Constraint.{Constraint}
use Rattle.law_edit_inserts.specs.sql_tree.Split.{before_from, before}
use Rattle.law_edit_inserts.specs.sql_tree.Constraint.{column_constraints}
use Rattle.law_edit_inserts.specs.sql_tree.ColumnMarks.{is_type_end, type_end}
use Rattle.law_edit_inserts.specs.sql_tree.ColumnType.{type_len, column_type}
use Rattle.law_edit_inserts.specs.sql_tree.Column.{column, column_with}
use Rattle.law_edit_inserts.specs.sql_tree.Statement.{last_of}
use Rattle.law_edit_inserts.specs.law_renumber.Moved.{type_moved, column_moved}
use Rattle.law_edit_inserts.specs.law_edit_cuts.Runs.{is_run_from, is_closed, nowhere}
use Rattle.law_edit_inserts.proofs.of_law_edit_cuts.Nested.{Next, step}
use Rattle.law_edit_inserts.proofs.of_law_edit_cuts.Nested.Next.{opens, closes, passes}
use Rattle.law_edit_inserts.proofs.TakenConcurrently.{last_after}
use Rattle.law_edit_types.specs.Runs.{IsTypeSymbol, last_or}
use Rattle.law_edit_types.specs.Types.{is_replaced, retyped_type, retyped_column, is_inside_type, IsLoose, ends_type, typed_column}
use Rattle.law_edit_types.proofs.ColumnTypes.{type_is, column_type_exchanges}
use Rattle.law_edit_types.proofs.Counts.{Stops, stops}
use Rattle.law_edit_types.proofs.TypeParts.{Ends, type_of}
use Rattle.law_edit_types.proofs.TypeRuns.{put, run_join, run_rest, run_closed}
use Rattle.law_edit_types.proofs.TypeShapes.{IsOpen, last_append}
use Rattle.law_edit_types.proofs.TypeWords.{word_is_type, word_is_loose}

-- ---- up to the end of the type

abbrev ahead : Option Terminal → ℕ → ℕ → List Terminal → List Terminal
ahead e o c ts = take (before_from type_end e o c ts) ts

abbrev far : Bool → ℕ → ℕ
far b n = cond b 0 (suc n)

-- What comes before the end of a type is inside the type, if its brackets close.
inside_of : (d c : ℕ) (e : Option Terminal) (ts : List Terminal) → is_run_from nowhere d (ahead e (c + d) c ts) ≡ true → is_run_from is_type_end d (ahead e (c + d) c ts) ≡ true
unfolding type_end
inside_of zero c e [] h = h
inside_of (suc d) c e [] h = h
inside_of d c e (t ∷ ts) h = by (c + d == c && is_type_end t) refl h (λ d c g. inside_of d c (Some t) ts g)
  where
    past : ℕ → ℕ → List Terminal
    past o c = ahead (Some t) (o + one_if (is_opener t)) (c + one_if (is_closer t)) ts

    same_counts : (o c o' c' : ℕ) (a b : Bool) → is_opener t ≡ a → is_closer t ≡ b → o + one_if a ≡ o' → c + one_if b ≡ c' → past o c ≡ ahead (Some t) o' c' ts
    same_counts o c o' c' a b p q x y = (λ i. ahead (Some t) (o + one_if (p i)) (c + one_if (q i)) ts) ∙ (λ i. ahead (Some t) (x i) (y i) ts)

    level : (d : ℕ) → d ≡ 0 → (c + d == c) ≡ true
    level d h = grind (arith, nat_tests)

    is_end : (a b : Bool) → (a && b) ≡ false → a ≡ true → b ≡ false
    is_end true b h p = h
    is_end false b h p = absurd (false≢true p)

    by : (b : Bool) → (c + d == c && is_type_end t) ≡ b → is_run_from nowhere d (take (far b (before_from type_end (Some t) (c + d + one_if (is_opener t)) (c + one_if (is_closer t)) ts)) (t ∷ ts)) ≡ true →
        ((d c : ℕ) → is_run_from nowhere d (ahead (Some t) (c + d) c ts) ≡ true → is_run_from is_type_end d (ahead (Some t) (c + d) c ts) ≡ true) →
        is_run_from is_type_end d (take (far b (before_from type_end (Some t) (c + d + one_if (is_opener t)) (c + one_if (is_closer t)) ts)) (t ∷ ts)) ≡ true
    by true a h each = at d h
      where
        at : (d : ℕ) → is_run_from nowhere d [] ≡ true → is_run_from is_type_end d [] ≡ true
        at zero h = h
        at (suc d) h = h
    by false a h each = put is_type_end d t (past (c + d) c) (λ z. is_end (c + d == c) (is_type_end t) a (level d z)) (go (step nowhere d t (past (c + d) c) h).next)
      where
        within : (x c' : ℕ) → past (c + d) c ≡ ahead (Some t) (c' + x) c' ts → is_run_from nowhere x (past (c + d) c) ≡ true → is_run_from is_type_end x (past (c + d) c) ≡ true
        within x c' same f = ap (is_run_from is_type_end x) same ∙ each x c' (ap (is_run_from nowhere x) (sym same) ∙ f)

        go : Next nowhere d t (past (c + d) c) → Next is_type_end d t (past (c + d) c)
        go (opens p q f) = opens p q (within (suc d) c (same_counts (c + d) c (c + suc d) c true false p q (omega arith) (omega arith)) f)
        go (closes below e p q f) = closes below e p q (within below (c + 1) (same_counts (c + d) c (c + 1 + below) (c + 1) false true p q (omega (arith, e)) (omega arith)) f)
        go (passes p q f) = passes p q (within d c (same_counts (c + d) c (c + d) c false false p q (omega arith) (omega arith)) f)

end_begins : (e : Option Terminal) (t : Terminal) (ts : List Terminal) → type_end e t ts ≡ true → ends_type (t ∷ ts) ≡ true
unfolding type_end
end_begins e t ts h = h

type_stops : (us : List Terminal) → Stops ends_type 0 0 (take (type_len us) us) (drop (type_len us) us)
unfolding type_len before
type_stops us = stops type_end ends_type refl end_begins None 0 0 us

type_inside : (us : List Terminal) → is_closed (take (type_len us) us) ≡ true → is_inside_type (take (type_len us) us) ≡ true
unfolding type_len before
type_inside us h = inside_of 0 0 None us h

-- ---- the type that comes first

pub record TypeAt (us : List Terminal) (ty : ColType) : Type 0 where
  pub r : Terminal
  pub run : List Terminal
  pub groups : List Terminal
  pub rest : List Terminal
  pub parts : us ≡ ((r ∷ run) ++ groups) ++ rest
  pub inner : ty.inner ≡ span_of (r ∷ run)
  pub whole : ty.whole ≡ span_of ((r ∷ run) ++ groups)
  pub fine : Ends r run groups ⊎ IsOpen ((r ∷ run) ++ groups)
  pub level : (opened ((r ∷ run) ++ groups) ≡ closed ((r ∷ run) ++ groups)) ⊎ (rest ≡ [])
  pub ends : ends_type rest ≡ true
  pub inside : Ends r run groups → is_inside_type ((r ∷ run) ++ groups) ≡ true
  pub becomes : (w : Terminal) → IsTypeSymbol w.symbol → column_type (w ∷ groups) ≡ Some (record (retyped_type w.number ty) { whole = span_of (w ∷ groups) })

ends_closed : (r : Terminal) (run groups : List Terminal) → Ends r run groups → is_closed ((r ∷ run) ++ groups) ≡ true
ends_closed r run groups e = run_join nowhere 0 (r ∷ run) groups (run_closed (r ∷ run) e.closed) e.after.closed

pub type_at : (us : List Terminal) (ty : ColType) → column_type (take (type_len us) us) ≡ Some ty → is_replaced ty ≡ true → TypeAt us ty
type_at us ty h replaced =
    let type = type_of nothing (take (type_len us) us) ty h replaced in
    let parts = type.parts in
    let stop = type_stops us in
    record {
      r = type.r;
      run = type.run;
      groups = type.groups;
      rest = drop (type_len us) us;
      parts = sym (take-append-drop (type_len us) us) ∙ ap (λ (x : List Terminal). x ++ drop (type_len us) us) parts;
      inner = type.inner;
      whole = type.whole ∙ ap span_of parts;
      fine = type.fine;
      level = level_of (take (type_len us) us) ((type.r ∷ type.run) ++ type.groups) (drop (type_len us) us) parts stop.level;
      ends = stop.begins_there;
      inside = λ e. ap is_inside_type (sym parts) ∙ type_inside us (ap is_closed parts ∙ ends_closed type.r type.run type.groups e);
      becomes = type.becomes;
    }
  where
    level_of : (xs ys rest : List Terminal) → xs ≡ ys → (0 + opened xs ≡ 0 + closed xs) ⊎ (rest ≡ []) → (opened ys ≡ closed ys) ⊎ (rest ≡ [])
    level_of xs ys rest same (inl l) = inl (omega (arith, l, ap opened same, ap closed same))
    level_of xs ys rest same (inr l) = inr l

-- ---- the word for its run

pub word_inside : (w r : Terminal) (run groups : List Terminal) → IsTypeSymbol w.symbol → Ends r run groups → is_inside_type ((r ∷ run) ++ groups) ≡ true → is_inside_type (w ∷ groups) ≡ true
word_inside w r run groups s e h =
    let word = word_is_type w s in
    put is_type_end 0 w groups (λ z. word.end) (passes word.opener word.closer (run_rest is_type_end 0 (r ∷ run) groups (run_closed (r ∷ run) e.closed) h))

-- a type ends with the word and its groups where it ended before
pub type_reads : (us : List Terminal) (ty : ColType) (at : TypeAt us ty) (w : Terminal) → IsTypeSymbol w.symbol → Ends at.r at.run at.groups →
    column_type (take (type_len ((w ∷ at.groups) ++ at.rest)) ((w ∷ at.groups) ++ at.rest)) ≡ Some (record (retyped_type w.number ty) { whole = span_of (w ∷ at.groups) })
type_reads us ty at w s e = ap column_type (type_is nothing (w ∷ at.groups) at.rest (word_inside w at.r at.run at.groups s e (at.inside e)) at.ends) ∙ at.becomes w s

-- ---- columns

-- what a column is read of
pub record Read (t : Terminal) (us : List Terminal) (c : Column) : Type 0 where
  pub name : is_name t ≡ true
  pub number : c.name ≡ t.number
  pub ty : c.ty ≡ column_type (take (type_len us) us)

pub read_of : (t : Terminal) (us : List Terminal) (c : Column) → column (t ∷ us) ≡ Some c → Read t us c
unfolding column
read_of t us c e = by (is_name t) (column_constraints (Some t) us) refl e
  where
    inside : {x : Column} → Some x ≡ Some c → c ≡ x
    inside e = cc

    by : (b : Bool) (r : Option (List Constraint)) → is_name t ≡ b → cond b (option_and_then (λ constraints. Some (column_with t us constraints)) r) None ≡ Some c → Read t us c
    by false r p e = cc
    by true None p e = cc
    by true (Some x) p e = record { name = p; number = ap (λ (y : Column). y.name) (inside e); ty = ap (λ (y : Column). y.ty) (inside e) }

-- the column with another whole type
abbrev pub column_worded : Terminal → List Terminal → ColType → Column → Column
column_worded w groups ty c = typed_column (Some (record (retyped_type w.number ty) { whole = span_of (w ∷ groups) })) c

pub record ColumnAt (t : Terminal) (us : List Terminal) (c : Column) (ty : ColType) : Type 0 where
  pub name : is_name t ≡ true
  pub number : c.name ≡ t.number
  pub type : TypeAt us ty
  pub becomes : (w : Terminal) → IsTypeSymbol w.symbol → Ends type.r type.run type.groups → column (t ∷ ((w ∷ type.groups) ++ type.rest)) ≡ Some (column_worded w type.groups ty c)

pub column_at : (t : Terminal) (us : List Terminal) (c : Column) (ty : ColType) → column (t ∷ us) ≡ Some c → c.ty ≡ Some ty → is_replaced ty ≡ true → ColumnAt t us c ty
column_at t us c ty e typed replaced =
    let read = read_of t us c e in
    let at = type_at us ty (sym read.ty ∙ typed) replaced in
    record {
      name = read.name;
      number = read.number;
      type = at;
      becomes = λ w s g.
          column_type_exchanges t at.r (at.run ++ at.groups) at.rest w at.groups (at.inside g) (word_inside w at.r at.run at.groups s g (at.inside g)) at.ends
          (subst IsLoose (sym (last_append at.r at.run at.groups)) (g.after.loose (last_or at.r at.run) g.loose)) (g.after.loose w (word_is_loose w s))
          ∙ (λ i. option_map (typed_column (at.becomes w s i)) (column (t ∷ sym at.parts i)))
          ∙ ap (λ (x : Option Column). option_map (typed_column (Some (record (retyped_type w.number ty) { whole = span_of (w ∷ at.groups) }))) x) e;
    }

-- ---- under other numbers

pub last_or_is : (r : Terminal) (run : List Terminal) → last_of (r ∷ run) ≡ last_or r run
last_or_is r [] = refl
last_or_is r (u ∷ us) = last_after (r ∷ []) u us ∙ last_or_is u us

-- A list ends at the same number with the word for the run.
pub last_number : (f : ℕ → ℕ) (front : List Terminal) (r : Terminal) (run T : List Terminal) (word : Terminal) → f word.number ≡ f (last_or r run).number → f (last_of (front ++ word ∷ T)).number ≡ f (last_of (front ++ ((r ∷ run) ++ T))).number
last_number f front r run [] word h =
    ap (λ (x : Terminal). f x.number) (last_after front word []) ∙ h ∙ ap (λ (x : Terminal). f x.number) (sym (last_or_is r run))
    ∙ ap (λ (x : Terminal). f x.number) (sym (ap (λ (x : List Terminal). last_of (front ++ x)) (append-nil (r ∷ run)) ∙ last_after front r run))
last_number f front r run (y ∷ ys) word h =
    ap (λ (x : Terminal). f x.number)
    (ap last_of (sym (append_assoc front (word ∷ []) (y ∷ ys))) ∙ last_after (front ++ word ∷ []) y ys
    ∙ sym (ap last_of (sym (append_assoc front (r ∷ run) (y ∷ ys))) ∙ last_after (front ++ (r ∷ run)) y ys))

-- The numbers of the run are that of the word, which stays.
pub record Fuses (f : ℕ → ℕ) (w r : Terminal) (run : List Terminal) : Type 0 where
  pub fixed : f w.number ≡ w.number
  pub first : f w.number ≡ f r.number
  pub last : f w.number ≡ f (last_or r run).number

pub type_moves : (f : ℕ → ℕ) (ty : ColType) (w r : Terminal) (run groups : List Terminal) → Fuses f w r run → ty.whole ≡ span_of ((r ∷ run) ++ groups) →
    type_moved f (record (retyped_type w.number ty) { whole = span_of (w ∷ groups) }) ≡ retyped_type w.number (type_moved f ty)
type_moves f ty w r run groups fuses whole =
    let fixed = fuses.fixed in
    let first : f w.number ≡ f ty.whole.first = fuses.first ∙ ap (λ (x : Span). f x.first) (sym whole) in
    let last : f (last_of (w ∷ groups)).number ≡ f ty.whole.last = last_number f [] r run groups w fuses.last ∙ ap (λ (x : Span). f x.last) (sym whole) in
    λ i. record (retyped_type w.number (type_moved f ty)) { whole = record { first = first i; last = last i }; inner = record { first = fixed i; last = fixed i }; name = fixed i }

pub column_moves : (f : ℕ → ℕ) (c : Column) (ty : ColType) (w r : Terminal) (run groups : List Terminal) → Fuses f w r run → c.ty ≡ Some ty → ty.whole ≡ span_of ((r ∷ run) ++ groups) →
    column_moved f (column_worded w groups ty c) ≡ retyped_column w.number (column_moved f c)
column_moves f c ty w r run groups fuses typed whole =
    let type = type_moves f ty w r run groups fuses whole in
    (λ i. record (column_moved f c) { ty = Some (type i) }) ∙ (λ i. record (column_moved f c) { ty = option_map (retyped_type w.number) (option_map (type_moved f) (sym typed i)) })
