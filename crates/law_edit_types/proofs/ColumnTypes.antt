-- A column with other terminals for its type: where the type ends, and that the constraints stay.
use Rattle.std.proofs.Common.{◌≡◌, ℕ, zero, suc, ◌+◌, Bool, true, false, cond, List, [], ◌∷◌, ◌++◌, length, take, drop, sym, refl, ap, ◌∙◌, arith, Option, Some, None}
use Rattle.std.proofs.lemmas.Bool.{false≢true, or_parts}
use Rattle.std.proofs.lemmas.Bool.Decides.{nat_tests}
use Rattle.std.proofs.lemmas.List.{take_at, drop-drop, drop_at}
use Rattle.std.specs.Prelude.{◌==◌, ◌&&◌, ◌||◌, not, is_some}
use Rattle.std.specs.Option.{option_map, option_and_then}
use Rattle.law_edit_inserts.specs.sql_keyword.declared.words.Keyword.{Keyword}
use Rattle.law_edit_inserts.specs.sql_keyword.declared.words.Keyword.TheVariants as k
use Rattle.law_edit_inserts.specs.sql_keyword.declared.words.Object.TheVariants as objects
use Rattle.law_edit_inserts.specs.sql_keyword.declared.words.Other.TheVariants as others
use Rattle.law_edit_inserts.specs.sql_keyword.declared.words.TheConstants.Keyword as keyword
use Rattle.law_edit_inserts.specs.sql_keyword.Same.{same_keyword}
use Rattle.law_edit_inserts.specs.sql_token.declared.terminal.Symbol.{Symbol}
use Rattle.law_edit_inserts.specs.sql_token.declared.terminal.Symbol.TheVariants as s
use Rattle.law_edit_inserts.specs.sql_token.declared.terminal.Terminal.{Terminal}
use Rattle.law_edit_inserts.specs.sql_token.Terminal.{is_keyword, is_keyword_symbol, is_name, is_opener, is_closer}
use Rattle.law_edit_inserts.specs.sql_token.Depth.{one_if}
use Rattle.law_edit_inserts.specs.sql_tree.declared.nodes.ColType.{ColType}
use Rattle.law_edit_inserts.specs.sql_tree.declared.nodes.Column.{Column}
use Rattle.law_edit_inserts.specs.sql_tree.declared.nodes.Constraint.{Constraint}
use Rattle.law_edit_inserts.specs.sql_tree.Split.{Test, before_from, before, all_of}
use Rattle.law_edit_inserts.specs.sql_tree.Constraint.{column_constraint, column_constraints}
use Rattle.law_edit_inserts.specs.sql_tree.Pieces.{Head, before_after_head, pieces_at, pieces}
use Rattle.law_edit_inserts.specs.sql_tree.ColumnMarks.{is_type_end, type_end, is_value_end_word, is_value_end_symbol, kind_of_word, kind_of_symbol, kind_led, kind_after_name, is_bound, constraint_start, constraint_head}
use Rattle.law_edit_inserts.specs.sql_tree.ColumnType.{type_len, column_type}
use Rattle.law_edit_inserts.specs.sql_tree.Column.{column}
use Rattle.law_edit_inserts.specs.law_edit_cuts.Runs.{is_run_from}
use Rattle.law_edit_inserts.proofs.of_law_edit_cuts.Nested.{Next, step, end_zero, not_both}
use Rattle.law_edit_inserts.proofs.of_law_edit_cuts.Nested.Next.{opens, closes, passes}
use Rattle.law_edit_types.specs.Runs.{last_or}
use Rattle.law_edit_types.specs.Types.{is_inside_type, IsLoose, ends_type, typed_column, ColumnTypeExchanges}

-- ---- how far a mark is

no_head : (mark : Test) (e : Option Terminal) (o c : ℕ) (ts : List Terminal) → before_after_head mark 0 e o c ts ≡ before_from mark e o c ts
no_head mark e o c [] = refl
no_head mark e o c (t ∷ ts) =
    let rest = no_head mark (Some t) (o + one_if (is_opener t)) (c + one_if (is_closer t)) ts in
    λ i. cond (o == c && mark e t ts) 0 (suc (rest i))

shifted : (o c d : ℕ) → (o + d == c + d) ≡ (o == c)
shifted o c d = grind (arith, nat_tests)

shift : (mark : Test) (d : ℕ) (e : Option Terminal) (o c : ℕ) (ts : List Terminal) → before_from mark e (o + d) (c + d) ts ≡ before_from mark e o c ts
shift mark d e o c [] = refl
shift mark d e o c (t ∷ ts) =
    let op : o + d + one_if (is_opener t) ≡ o + one_if (is_opener t) + d = omega arith in
    let cl : c + d + one_if (is_closer t) ≡ c + one_if (is_closer t) + d = omega arith in
    let rest = (λ i. before_from mark (Some t) (op i) (cl i) ts) ∙ shift mark d (Some t) (o + one_if (is_opener t)) (c + one_if (is_closer t)) ts in
    λ i. cond (shifted o c d i && mark e t ts) 0 (suc (rest i))

level : (mark : Test) (e : Option Terminal) (d : ℕ) (ts : List Terminal) → before_from mark e d d ts ≡ before_from mark e 0 0 ts
level mark e d ts = let zero : d ≡ 0 + d = omega arith in (λ i. before_from mark e (zero i) (zero i) ts) ∙ shift mark d e 0 0 ts

-- Such a mark is only where a type ends.
abbrev EndsTypes : Test → Type 0
EndsTypes mark = (e : Option Terminal) (t : Terminal) (after : List Terminal) → is_type_end t ≡ false → mark e t after ≡ false

deep : (c d : ℕ) → (c + suc d == c) ≡ false
deep c d = grind (arith, nat_tests)

-- no mark begins here
passed : (mark : Test) (e : Option Terminal) (o c : ℕ) (t : Terminal) (ts : List Terminal) → (o == c && mark e t ts) ≡ false →
    before_from mark e o c (t ∷ ts) ≡ suc (before_from mark (Some t) (o + one_if (is_opener t)) (c + one_if (is_closer t)) ts)
passed mark e o c t ts h = λ i. cond (h i) 0 (suc (before_from mark (Some t) (o + one_if (is_opener t)) (c + one_if (is_closer t)) ts))

counts : (mark : Test) (e : Option Terminal) (o c o' c' : ℕ) (t : Terminal) (ts : List Terminal) (a b : Bool) → is_opener t ≡ a → is_closer t ≡ b → o + one_if a ≡ o' → c + one_if b ≡ c' →
    before_from mark e (o + one_if (is_opener t)) (c + one_if (is_closer t)) ts ≡ before_from mark e o' c' ts
counts mark e o c o' c' t ts a b p q x y =
    let left = ap (λ (v : Bool). o + one_if v) p ∙ x in let right = ap (λ (v : Bool). c + one_if v) q ∙ y in
    λ i. before_from mark e (left i) (right i) ts

-- A closed run without such an end is passed by.
run_before : (mark : Test) → EndsTypes mark → (d c : ℕ) (e : Terminal) (run rest : List Terminal) → is_run_from is_type_end d run ≡ true →
    before_from mark (Some e) (c + d) c (run ++ rest) ≡ length run + before_from mark (Some (last_or e run)) 0 0 rest
run_before mark ends d c e [] rest h =
    let none = end_zero d h in
    let same : c + d ≡ c = omega arith in
    let zero : before_from mark (Some e) 0 0 rest ≡ 0 + before_from mark (Some e) 0 0 rest = omega arith in
    (λ i. before_from mark (Some e) (same i) c rest) ∙ level mark (Some e) c rest ∙ zero
run_before mark ends d c e (t ∷ run) rest h =
    let here = step is_type_end d t run h in
    passed mark (Some e) (c + d) c t (run ++ rest) (no_mark d here.quiet) ∙ ap suc (by here.next (λ d c f. run_before mark ends d c t run rest f)) ∙ add _
  where
    add : (n : ℕ) → suc (length run + n) ≡ suc (length run) + n
    add n = omega arith

    no_mark : (d : ℕ) → (d ≡ 0 → is_type_end t ≡ false) → (c + d == c && mark (Some e) t (run ++ rest)) ≡ false
    no_mark zero quiet = ap (λ (b : Bool). c + 0 == c && b) (ends (Some e) t (run ++ rest) (quiet refl)) ∙ not_both (c + 0 == c)
    no_mark (suc d) quiet = λ i. deep c d i && mark (Some e) t (run ++ rest)

    by : Next is_type_end d t run →
        ((d c : ℕ) → is_run_from is_type_end d run ≡ true → before_from mark (Some t) (c + d) c (run ++ rest) ≡ length run + before_from mark (Some (last_or t run)) 0 0 rest) →
        before_from mark (Some t) (c + d + one_if (is_opener t)) (c + one_if (is_closer t)) (run ++ rest) ≡ length run + before_from mark (Some (last_or t run)) 0 0 rest
    by (opens p q f) each = counts mark (Some t) (c + d) c (c + suc d) c t (run ++ rest) true false p q (omega arith) (omega arith) ∙ each (suc d) c f
    by (closes below x p q f) each = counts mark (Some t) (c + d) c (c + 1 + below) (c + 1) t (run ++ rest) false true p q (omega (arith, x)) (omega arith) ∙ each below (c + 1) f
    by (passes p q f) each = counts mark (Some t) (c + d) c (c + d) c t (run ++ rest) false false p q (omega arith) (omega arith) ∙ each d c f

-- ---- the marks of columns

type_ends_types : EndsTypes type_end
unfolding type_end
type_ends_types e t after h = h

no_kind : (w : Keyword) (after : List Terminal) → is_value_end_word w ≡ false → kind_of_word w after ≡ None
no_kind (k.Object objects.Constraint) after h = refl
no_kind (k.Other others.Not) after h = absurd (false≢true (sym h))
no_kind (k.Other others.Null) after h = absurd (false≢true (sym h))
no_kind (k.Other others.Check) after h = absurd (false≢true (sym h))
no_kind (k.Other others.Default) after h = absurd (false≢true (sym h))
no_kind (k.Other others.Generated) after h = absurd (false≢true (sym h))
no_kind (k.Other others.Unique) after h = absurd (false≢true (sym h))
no_kind (k.Other others.Primary) after h = absurd (false≢true (sym h))
no_kind (k.Other others.References) after h = absurd (false≢true (sym h))
no_kind w after h = refl

no_constraint : (w : Keyword) → is_value_end_word w ≡ false → same_keyword w keyword.CONSTRAINT ≡ false
unfolding same_keyword
no_constraint (k.Object objects.Constraint) h = absurd (false≢true (sym h))
no_constraint w h = refl

symbol_kind : (x : Symbol) (after : List Terminal) → is_value_end_symbol x ≡ false → kind_of_symbol x after ≡ None
symbol_kind (s.Keyword w) after h = no_kind w after h
symbol_kind x after h = refl

symbol_constraint : (x : Symbol) → is_value_end_symbol x ≡ false → is_keyword_symbol keyword.CONSTRAINT x ≡ false
symbol_constraint (s.Keyword w) h = no_constraint w h
symbol_constraint x h = refl

constraint_ends_types : EndsTypes constraint_start
unfolding constraint_start kind_led is_keyword
constraint_ends_types e t after h =
    let value = (or_parts (is_value_end_symbol t.symbol) _ (or_parts _ _ (or_parts _ _ h).0).0).0 in
    let kind = symbol_kind t.symbol after value in
    let word = symbol_constraint t.symbol value in
    λ i. cond (word i) (is_some (kind_after_name after)) (is_some (kind i) && not (is_bound e t))

-- ---- the length of a type

first_blind : (e d : Option Terminal) (ts : List Terminal) → before_from type_end e 0 0 ts ≡ before_from type_end d 0 0 ts
unfolding type_end
first_blind e d [] = refl
first_blind e d (t ∷ ts) = refl

nothing_left : (e : Option Terminal) (rest : List Terminal) → ends_type rest ≡ true → before_from type_end e 0 0 rest ≡ 0
unfolding type_end
nothing_left e [] h = refl
nothing_left e (t ∷ ts) h = λ i. cond (h i) 0 (suc (before_from type_end (Some t) (0 + one_if (is_opener t)) (0 + one_if (is_closer t)) ts))

pub type_is : (e : Terminal) (run rest : List Terminal) → is_inside_type run ≡ true → ends_type rest ≡ true → take (type_len (run ++ rest)) (run ++ rest) ≡ run
unfolding type_len before
type_is e run rest h ends =
    let far = first_blind None (Some e) (run ++ rest) ∙ run_before type_end type_ends_types 0 0 e run rest h in
    let left = nothing_left (Some (last_or e run)) rest ends in
    let len : length run + before_from type_end (Some (last_or e run)) 0 0 rest ≡ length run = omega arith in
    (λ i. take ((far ∙ len) i) (run ++ rest)) ∙ take_at run rest (length run) refl

-- ---- the constraints after it

bound_same : (a b : Terminal) (t : Terminal) → IsLoose a → IsLoose b → is_bound (Some a) t ≡ is_bound (Some b) t
unfolding is_bound
bound_same a b t p q =
    let set = p.set ∙ sym q.set in let by = p.by ∙ sym q.by in
    λ i. is_keyword keyword.NULL t && set i || is_keyword keyword.DEFAULT t && (set i || by i)

start_same : (a b : Terminal) → IsLoose a → IsLoose b → (ts : List Terminal) → before_from constraint_start (Some a) 0 0 ts ≡ before_from constraint_start (Some b) 0 0 ts
unfolding constraint_start
start_same a b p q [] = refl
start_same a b p q (t ∷ ts) =
    let bound = bound_same a b t p q in
    λ i. cond (cond (is_keyword keyword.CONSTRAINT t) (is_some (kind_after_name ts)) (is_some (kind_led t ts) && not (bound i)))
    0 (suc (before_from constraint_start (Some t) (0 + one_if (is_opener t)) (0 + one_if (is_closer t)) ts))

pieces_after : (head : Head) (e : Terminal) (run rest : List Terminal) → is_inside_type run ≡ true →
    pieces constraint_start head (Some e) (run ++ rest) ≡ pieces_at constraint_start head (drop (before_from constraint_start (Some (last_or e run)) 0 0 rest) rest)
unfolding pieces
pieces_after head e run rest h =
    let far = no_head constraint_start (Some e) 0 0 (run ++ rest) ∙ run_before constraint_start constraint_ends_types 0 0 e run rest h in
    let n = before_from constraint_start (Some (last_or e run)) 0 0 rest in
    (λ i. pieces_at constraint_start head (drop (far i) (run ++ rest)))
    ∙ ap (λ (x : List Terminal). pieces_at constraint_start head x) (sym (drop-drop n (length run) (run ++ rest)) ∙ ap (λ (x : List Terminal). drop n x) (drop_at run rest (length run) refl))

constraints_same : (t r : Terminal) (run rest : List Terminal) (u : Terminal) (new : List Terminal) → is_inside_type (r ∷ run) ≡ true → is_inside_type (u ∷ new) ≡ true → IsLoose (last_or r run) → IsLoose (last_or u new) →
    column_constraints (Some t) ((u ∷ new) ++ rest) ≡ column_constraints (Some t) ((r ∷ run) ++ rest)
unfolding column_constraints
constraints_same t r run rest u new h g p q =
    let now = pieces_after constraint_head t (u ∷ new) rest g in
    let old = pieces_after constraint_head t (r ∷ run) rest h in
    let same = start_same (last_or u new) (last_or r run) q p rest in
    ap (λ (x : List (List Terminal)). all_of column_constraint x) (now ∙ (λ i. pieces_at constraint_start constraint_head (drop (same i) rest)) ∙ sym old)

-- ---- the column

abbrev column_by : Bool → ℕ → Option ColType → Option (List Constraint) → Option Column
column_by named n ty constraints = cond named (option_and_then (λ (x : List Constraint). Some (record { name = n; ty = ty; constraints = x })) constraints) None

column_is : (t : Terminal) (ts : List Terminal) → column (t ∷ ts) ≡ column_by (is_name t) t.number (column_type (take (type_len ts) ts)) (column_constraints (Some t) ts)
unfolding column
column_is t ts = refl

typed_by : (named : Bool) (n : ℕ) (ty now : Option ColType) (constraints : Option (List Constraint)) → column_by named n now constraints ≡ option_map (typed_column now) (column_by named n ty constraints)
typed_by false n ty now constraints = refl
typed_by true n ty now None = refl
typed_by true n ty now (Some x) = refl

pub column_type_exchanges : ColumnTypeExchanges
column_type_exchanges t r run rest u new h g ends p q =
    let now : List Terminal = (u ∷ new) ++ rest in
    let old : List Terminal = (r ∷ run) ++ rest in
    let ty : column_type (take (type_len now) now) ≡ column_type (u ∷ new) = ap column_type (type_is t (u ∷ new) rest g ends) in
    let constraints = constraints_same t r run rest u new h g p q in
    column_is t now
    ∙ (λ i. column_by (is_name t) t.number (ty i) (constraints i))
    ∙ typed_by (is_name t) t.number (column_type (take (type_len old) old)) (column_type (u ∷ new)) (column_constraints (Some t) old)
    ∙ ap (λ (x : Option Column). option_map (typed_column (column_type (u ∷ new))) x) (sym (column_is t old))
