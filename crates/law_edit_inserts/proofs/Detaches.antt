-- The word CONCURRENTLY in DETACH PARTITION.
use Rattle.std.proofs.Common.{◌≡◌, ℕ, suc, ◌-◌, Bool, true, false, cond, get_or, List, [], ◌∷◌, ◌++◌, map, length, length-append, sym, refl, ap, ◌∙◌, subst, arith, Option, Some, None}
use Rattle.std.proofs.lemmas.Bool.{false≢true, and_parts}
use Rattle.std.proofs.lemmas.Bool.Decides.{nat_tests}
use Rattle.std.proofs.lemmas.List.{get_or_at}
use Rattle.std.specs.Prelude.{◌==◌, ◌&&◌, ◌||◌, not}
use Rattle.std.specs.List.{list_all}
use Rattle.std.specs.Option.{option_map, option_and_then}
use Rattle.law_edit_cuts.specs.sql_keyword.declared.words.Keyword.{Keyword}
use Rattle.law_edit_cuts.specs.sql_keyword.declared.words.Keyword.TheVariants as k
use Rattle.law_edit_cuts.specs.sql_keyword.declared.words.Verb.TheVariants as verbs
use Rattle.law_edit_cuts.specs.sql_keyword.declared.words.Object.TheVariants as objects
use Rattle.law_edit_cuts.specs.sql_keyword.declared.words.Other.TheVariants as others
use Rattle.law_edit_cuts.specs.sql_keyword.declared.words.TheConstants.Keyword as keyword
use Rattle.law_edit_cuts.specs.sql_keyword.Same.{same_keyword}
use Rattle.law_edit_cuts.specs.sql_token.declared.terminal.Symbol.{Symbol}
use Rattle.law_edit_cuts.specs.sql_token.declared.terminal.Symbol.TheVariants as s
use Rattle.law_edit_cuts.specs.sql_token.declared.terminal.Terminal.{Terminal}
use Rattle.law_edit_cuts.specs.sql_token.Depth.{span_of, nothing, closed}
use Rattle.law_edit_cuts.specs.sql_token.Terminal.{is_keyword, is_keyword_symbol, is_name, is_name_symbol, is_dot, is_dot_symbol, is_closer, is_closer_symbol}
use Rattle.law_edit_cuts.specs.sql_tree.declared.kinds.ActionKind.{ActionKind}
use Rattle.law_edit_cuts.specs.sql_tree.declared.kinds.ActionKind.TheVariants as a
use Rattle.law_edit_cuts.specs.sql_tree.declared.kinds.StmtKind.TheVariants as stmt
use Rattle.law_edit_cuts.specs.sql_tree.declared.forms.Captures.{Captures}
use Rattle.law_edit_cuts.specs.sql_tree.declared.forms.Part.{Part}
use Rattle.law_edit_cuts.specs.sql_tree.declared.forms.Part.TheVariants as p
use Rattle.law_edit_cuts.specs.sql_tree.declared.nodes.Action.{Action}
use Rattle.law_edit_cuts.specs.sql_tree.Forms.{State, at, take_part, in_turn, all_taken, either_of, names_end, fresh, ActionRow, finished, first_whole, or_here, nothing_kept, word_kept, after_word}
use Rattle.law_edit_cuts.specs.sql_tree.Action.{action, listed_action, unlisted_action, options, general_action, own_action, own_part, added_constraint, takes_constraint, add_constraint, adding_after, adding, by_rows, built, column_in, pieces_in, action_in, first_symbol}
use Rattle.law_edit_cuts.specs.sql_tree.ActionRows.{first_rows, first_rows_at, own_rows, general_rows, general_rows_at}
use Rattle.law_edit_cuts.specs.sql_tree.declared.actions.TheConstants.{OTHER}
use Rattle.law_edit_cuts.specs.sql_tree.Constraint.{table_constraint}
use Rattle.law_edit_inserts.specs.Concurrently.{key, concurrent_action, DetachConcurrently}
use Rattle.law_edit_inserts.specs.Actions.{DetachShape, DetachShows}
use Rattle.law_edit_inserts.proofs.Leading.{Given, given_then, given_any, given_is}

-- ---- with the word

names_all : (n e : ℕ) (t : Terminal) (path : List Terminal) → is_dot t ≡ false → names_end n path ≡ (e, []) → names_end n (path ++ t ∷ []) ≡ (e, t ∷ [])
names_all n e t [] h p = λ i. ((p i).0, t ∷ [])
names_all n e t (d ∷ []) h p = absurd (none (ap (λ (x : ℕ × List Terminal). x.1) p))
  where
    none : d ∷ [] ≡ [] → ⊥
    none e = cc
names_all n e t (d ∷ u ∷ path) h p = by (is_dot d && is_name u) p (names_all u.number e t path h)
  where
    none : d ∷ u ∷ path ≡ [] → ⊥
    none e = cc

    by : (b : Bool) → cond b (names_end u.number path) (n, d ∷ u ∷ path) ≡ (e, []) → (names_end u.number path ≡ (e, []) → names_end u.number (path ++ t ∷ []) ≡ (e, t ∷ [])) →
        cond b (names_end u.number (path ++ t ∷ [])) (n, d ∷ u ∷ (path ++ t ∷ [])) ≡ (e, t ∷ [])
    by true q each = each q
    by false q each = absurd (none (ap (λ (x : ℕ × List Terminal). x.1) q))

abbrev read_path : ℕ → Bool → ℕ × List Terminal → Option State
read_path n b r = cond b (Some (at (record fresh { path = Some (record { first = n; last = r.0 }) }) r.1)) None

abbrev detach_by : List Terminal → Option State → Option Action
detach_by ts r =
    either_of (option_and_then (λ (f : ActionKind × State). built ts f.0 f.1)
    (either_of (option_and_then (λ (e : State). option_and_then (λ (w : State). Some (a.DetachPartition, w)) (all_taken e))
    (option_and_then (λ (s : State). in_turn (p.Either keyword.CONCURRENTLY keyword.FINALIZE ∷ []) s.kept s.left) r)) None))
    (unlisted_action stmt.AlterTable ts)

detach_reads : (d x : ℕ) (t : Terminal) (path : List Terminal) →
    action stmt.AlterTable (key keyword.DETACH d ∷ key keyword.PARTITION x ∷ t ∷ path)
    ≡ detach_by (key keyword.DETACH d ∷ key keyword.PARTITION x ∷ t ∷ path) (read_path t.number (is_name t) (names_end t.number path))
unfolding action listed_action first_rows_at first_rows own_action own_part own_rows general_action added_constraint takes_constraint add_constraint general_rows_at general_rows by_rows take_part is_keyword same_keyword
detach_reads d x t path = refl

abbrev detached : List Terminal → ℕ → ℕ → Option ℕ → Action
detached ts n e word = action_in ts a.DetachPartition (record fresh { path = Some (record { first = n; last = e }); word = word }) None []

detach_bare : (ts : List Terminal) (n e : ℕ) → detach_by ts (read_path n true (e, [])) ≡ Some (detached ts n e None)
unfolding take_part built column_in pieces_in
detach_bare ts n e = refl

detach_word : (ts : List Terminal) (n e w : ℕ) → detach_by ts (read_path n true (e, key keyword.CONCURRENTLY w ∷ [])) ≡ Some (detached ts n e (Some w))
unfolding take_part built column_in pieces_in is_keyword same_keyword
detach_word ts n e w = refl

last_is : (xs : List Terminal) (y : Terminal) → get_or (xs ++ y ∷ []) (length (xs ++ y ∷ []) - 1) nothing ≡ y
last_is xs y = get_or_at xs y [] nothing (length (xs ++ y ∷ []) - 1) (omega (arith, length-append xs (y ∷ [])))

key_no_dot : (n : ℕ) → is_dot (key keyword.CONCURRENTLY n) ≡ false
unfolding is_dot
key_no_dot n = refl

pub detach_concurrently : DetachConcurrently
detach_concurrently d x n e t path name ends =
    let ts = key keyword.DETACH d ∷ key keyword.PARTITION x ∷ t ∷ path in
    let us = key keyword.DETACH d ∷ key keyword.PARTITION x ∷ t ∷ (path ++ key keyword.CONCURRENTLY n ∷ []) in
    let more = names_all t.number e (key keyword.CONCURRENTLY n) path (key_no_dot n) ends in
    let last : (span_of us).last ≡ n = ap (λ (y : Terminal). y.number) (last_is ts (key keyword.CONCURRENTLY n)) in
    detach_reads d x t (path ++ key keyword.CONCURRENTLY n ∷ [])
    ∙ (λ i. detach_by us (read_path t.number (name i) (more i)))
    ∙ detach_word us t.number e n
    ∙ (λ i. Some (record (detached us t.number e (Some n)) { last = last i }))
    ∙ ap (λ (r : Option Action). option_map (concurrent_action n) r) (sym (detach_reads d x t path ∙ (λ i. detach_by ts (read_path t.number (name i) (ends i))) ∙ detach_bare ts t.number e))

-- ---- back from the action

detach_word_is : (w : Keyword) → same_keyword w keyword.DETACH ≡ true → w ≡ keyword.DETACH
unfolding same_keyword
detach_word_is (k.Verb verbs.Create) h = absurd (false≢true h)
detach_word_is (k.Object objects.Index) h = absurd (false≢true h)
detach_word_is (k.Other others.Detach) h = refl
detach_word_is w h = absurd (false≢true h)

partition_word_is : (w : Keyword) → same_keyword w keyword.PARTITION ≡ true → w ≡ keyword.PARTITION
unfolding same_keyword
partition_word_is (k.Verb verbs.Create) h = absurd (false≢true h)
partition_word_is (k.Object objects.Partition) h = refl
partition_word_is (k.Other others.Detach) h = absurd (false≢true h)
partition_word_is w h = absurd (false≢true h)

symbol_of_word : (v : Keyword) → ((w : Keyword) → same_keyword w v ≡ true → w ≡ v) → (x : Symbol) → is_keyword_symbol v x ≡ true → x ≡ s.Keyword v
symbol_of_word v each (s.Keyword w) h = ap (λ (y : Keyword). s.Keyword y) (each w h)
symbol_of_word v each x h = absurd (false≢true h)

word_is : (v : Keyword) → ((w : Keyword) → same_keyword w v ≡ true → w ≡ v) → (t : Terminal) → is_keyword v t ≡ true → t ≡ key v t.number
unfolding is_keyword
word_is v each t h = ap (λ (x : Symbol). record { symbol = x; number = t.number }) (symbol_of_word v each t.symbol h)

abbrev is_detach : ActionKind → Bool
is_detach a.DetachPartition = true
is_detach _ = false

abbrev Shown : List Terminal → Action → Type 0
Shown ts b = is_detach b.kind ≡ true → b.word ≡ None → DetachShape ts b

given_either : {A : Type 0} (P : A → Type 0) (x y : Option A) → Given P x → Given P y → Given P (either_of x y)
given_either P None y g h = h
given_either P (Some a) y g h = g

-- an action of another kind shows nothing
other_kind : (all ts : List Terminal) (kind : ActionKind) (st : State) → is_detach kind ≡ false → Given (Shown all) (built ts kind st)
unfolding built
other_kind all ts kind st h =
    given_any (Shown all) _ (column_in kind st.left) (λ column. given_any (Shown all) _ (pieces_in kind st.left) (λ pieces is. absurd (false≢true (sym h ∙ is))))

abbrev no_detach : List ActionRow → Bool
no_detach rows = list_all (λ r. not (is_detach r.0)) rows

row_kind : (kind : ActionKind) (parts : List Part) (st : State) → Given (λ f. f.0 ≡ kind) (finished kind parts st)
row_kind kind parts st =
    given_any (λ f. f.0 ≡ kind) (λ e. option_and_then (λ w. Some (kind, w)) (all_taken e)) (in_turn parts st.kept st.left)
    (λ e. given_any (λ f. f.0 ≡ kind) (λ w. Some (kind, w)) (all_taken e) (λ w. refl))

rows_kind : (rows : List ActionRow) (ts : List Terminal) → no_detach rows ≡ true → Given (λ f. is_detach f.0 ≡ false) (first_whole rows ts)
rows_kind [] ts h = tt
rows_kind (r ∷ rows) ts h =
    let both = and_parts (not (is_detach r.0)) (no_detach rows) h in
    given_either (λ f. is_detach f.0 ≡ false) (finished r.0 r.1 (at fresh ts)) (first_whole rows ts)
    (by (finished r.0 r.1 (at fresh ts)) (row_kind r.0 r.1 (at fresh ts)) (none (is_detach r.0) both.0)) (rows_kind rows ts both.1)
  where
    none : (b : Bool) → not b ≡ true → b ≡ false
    none true h = absurd (false≢true h)
    none false h = refl

    by : (o : Option (ActionKind × State)) → Given (λ f. f.0 ≡ r.0) o → is_detach r.0 ≡ false → Given (λ f. is_detach f.0 ≡ false) o
    by None g e = tt
    by (Some f) g e = ap is_detach g ∙ e

quiet_rows : (all : List Terminal) (rows : List ActionRow) (ts : List Terminal) → no_detach rows ≡ true → Given (Shown all) (by_rows rows ts)
unfolding by_rows
quiet_rows all rows ts h =
    given_then (λ f. is_detach f.0 ≡ false) (Shown all) (λ f. built ts f.0 f.1) (first_whole rows ts) (rows_kind rows ts h) (λ f e. other_kind all ts f.0 f.1 e)

-- ---- the last name of a path

name_no_closer : (x : Symbol) → is_name_symbol x ≡ true → is_closer_symbol x ≡ false
name_no_closer (s.Keyword w) h = refl
name_no_closer s.Word h = refl
name_no_closer s.Quoted h = refl
name_no_closer x h = absurd (false≢true h)

dot_no_closer : (x : Symbol) → is_dot_symbol x ≡ true → is_closer_symbol x ≡ false
dot_no_closer s.Dot h = refl
dot_no_closer x h = absurd (false≢true h)

flat_name : (t : Terminal) → is_name t ≡ true → is_closer t ≡ false
unfolding is_name is_closer
flat_name t h = name_no_closer t.symbol h

flat_dot : (t : Terminal) → is_dot t ≡ true → is_closer t ≡ false
unfolding is_dot is_closer
flat_dot t h = dot_no_closer t.symbol h

-- all but the last name of a path, and that one
pub record NameLast (t : Terminal) (path : List Terminal) (e : ℕ) : Type 0 where
  pub front : List Terminal
  pub r : Terminal
  pub parts : t ∷ path ≡ front ++ r ∷ []
  pub number : r.number ≡ e
  pub name : is_name r ≡ true
  pub flat : closed front ≡ 0

pub name_last : (t : Terminal) (path : List Terminal) (e : ℕ) → is_name t ≡ true → names_end t.number path ≡ (e, []) → NameLast t path e
name_last t [] e name h = record { front = []; r = t; parts = refl; number = ap (λ (x : ℕ × List Terminal). x.0) h; name = name; flat = refl }
name_last t (d ∷ []) e name h = absurd (none (ap (λ (x : ℕ × List Terminal). x.1) h))
  where
    none : d ∷ [] ≡ [] → ⊥
    none e = cc
name_last t (d ∷ u ∷ path) e name h = by (is_dot d && is_name u) refl h (λ p q. name_last u path e p q)
  where
    none : d ∷ u ∷ path ≡ [] → ⊥
    none e = cc

    by : (b : Bool) → (is_dot d && is_name u) ≡ b → cond b (names_end u.number path) (t.number, d ∷ u ∷ path) ≡ (e, []) →
        (is_name u ≡ true → names_end u.number path ≡ (e, []) → NameLast u path e) → NameLast t (d ∷ u ∷ path) e
    by true p q each =
        let both = and_parts (is_dot d) (is_name u) p in
        let r = each both.1 q in
        let first = flat_name t name in
        let dot = flat_dot d both.0 in
        record {
          front = t ∷ d ∷ r.front;
          r = r.r;
          parts = ap (λ (x : List Terminal). t ∷ d ∷ x) r.parts;
          number = r.number;
          name = r.name;
          flat = (λ i. cond (first i) (suc (cond (dot i) (suc (closed r.front)) (closed r.front))) (cond (dot i) (suc (closed r.front)) (closed r.front))) ∙ r.flat;
        }
    by false p q each = absurd (none (ap (λ (x : ℕ × List Terminal). x.1) q))

-- ---- the one row of DETACH

abbrev either_word : List Part
either_word = p.Either keyword.CONCURRENTLY keyword.FINALIZE ∷ []

-- the action of a row's state, where all was taken
abbrev detach_of : List Terminal → State → Option Action
detach_of all e = option_and_then (λ (f : ActionKind × State). built all f.0 f.1) (either_of (option_and_then (λ (w : State). Some (a.DetachPartition, w)) (all_taken e)) None)

-- the same where these parts are still to be taken
abbrev detach_from : List Terminal → List Part → Option State → Option Action
detach_from all parts r =
    option_and_then (λ (f : ActionKind × State). built all f.0 f.1)
    (either_of (option_and_then (λ (e : State). option_and_then (λ (w : State). Some (a.DetachPartition, w)) (all_taken e))
    (option_and_then (λ (s : State). in_turn parts s.kept s.left) r)) None)

abbrev chosen : Terminal → Captures → List Terminal → Bool → State
chosen u kept us b = or_here (cond b (Some (at (word_kept u kept) us)) None) kept (u ∷ us)

no_zero : (n : ℕ) → (suc n == 0) ≡ false
no_zero n = grind (arith, nat_tests)

left_shows : (all : List Terminal) (e : State) → (e.kept.open_ended || length e.left == 0) ≡ false → Given (Shown all) (detach_of all e)
left_shows all e h =
    subst (λ (b : Bool). Given (Shown all) (option_and_then (λ (f : ActionKind × State). built all f.0 f.1) (either_of (option_and_then (λ (w : State). Some (a.DetachPartition, w)) (cond b (Some e) None)) None))) (sym h) tt

some_none : {A : Type 0} (n : A) → Some n ≡ None → ⊥
some_none n h = cc

abbrev path_kept : ℕ → ℕ → Captures
path_kept n e = record fresh { path = Some (record { first = n; last = e }) }

word_shows : (all : List Terminal) (n e : ℕ) (u : Terminal) (b : Bool) → Given (Shown all) (detach_of all (at (chosen u (path_kept n e) [] b).kept (chosen u (path_kept n e) [] b).left))
unfolding built column_in pieces_in
word_shows all n e u true = λ is none. absurd (some_none u.number none)
word_shows all n e u false = left_shows all (at (path_kept n e) (u ∷ [])) (no_zero 0)

more_shows : (all : List Terminal) (n e : ℕ) (u v : Terminal) (us : List Terminal) (b : Bool) → Given (Shown all) (detach_of all (at (chosen u (path_kept n e) (v ∷ us) b).kept (chosen u (path_kept n e) (v ∷ us) b).left))
more_shows all n e u v us true = left_shows all (at (word_kept u (path_kept n e)) (v ∷ us)) (no_zero (length us))
more_shows all n e u v us false = left_shows all (at (path_kept n e) (u ∷ v ∷ us)) (no_zero (suc (length us)))

path_last : (all : List Terminal) (d x : ℕ) (t : Terminal) (path : List Terminal) (e : ℕ) → all ≡ key keyword.DETACH d ∷ key keyword.PARTITION x ∷ t ∷ path → NameLast t path e → (span_of all).last ≡ e
path_last all d x t path e parts last =
    let name = last.parts in
    ap (λ (l : List Terminal). (span_of l).last) (parts ∙ (λ i. key keyword.DETACH d ∷ key keyword.PARTITION x ∷ name i))
    ∙ ap (λ (y : Terminal). y.number) (last_is (key keyword.DETACH d ∷ key keyword.PARTITION x ∷ last.front) last.r)
    ∙ last.number

after_path : (all : List Terminal) (d x : ℕ) (t : Terminal) (path : List Terminal) → all ≡ key keyword.DETACH d ∷ key keyword.PARTITION x ∷ t ∷ path → is_name t ≡ true →
    (ends : ℕ × List Terminal) → names_end t.number path ≡ ends → Given (Shown all) (detach_from all either_word (read_path t.number true ends))
unfolding take_part built column_in pieces_in
after_path all d x t path parts name (e, []) ends = λ is none. record {
  detach = d;
  partition = x;
  t = t;
  path = path;
  e = e;
  parts = parts;
  name = name;
  ends = ends;
  path_is = refl;
  begins = ap (λ (l : List Terminal). (span_of l).first) parts;
  last = path_last all d x t path e parts (name_last t path e name ends);
}
after_path all d x t path parts name (e, u ∷ []) ends = word_shows all t.number e u (is_keyword keyword.CONCURRENTLY u || is_keyword keyword.FINALIZE u)
after_path all d x t path parts name (e, u ∷ v ∷ us) ends = more_shows all t.number e u v us (is_keyword keyword.CONCURRENTLY u || is_keyword keyword.FINALIZE u)

third_shows : (t u v : Terminal) (path : List Terminal) → is_keyword keyword.DETACH t ≡ true → is_keyword keyword.PARTITION u ≡ true → (b : Bool) → is_name v ≡ b →
    Given (Shown (t ∷ u ∷ v ∷ path)) (detach_from (t ∷ u ∷ v ∷ path) either_word (read_path v.number b (names_end v.number path)))
third_shows t u v path p q false h = tt
third_shows t u v path p q true h =
    let first = word_is keyword.DETACH detach_word_is t p in
    let second = word_is keyword.PARTITION partition_word_is u q in
    after_path (t ∷ u ∷ v ∷ path) t.number u.number v path (λ i. first i ∷ second i ∷ v ∷ path) h (names_end v.number path) refl

second_shows : (t u : Terminal) (ts : List Terminal) → is_keyword keyword.DETACH t ≡ true → (b : Bool) → is_keyword keyword.PARTITION u ≡ b →
    Given (Shown (t ∷ u ∷ ts)) (detach_from (t ∷ u ∷ ts) (p.Path ∷ either_word) (cond b (Some (at (nothing_kept u fresh) ts)) None))
unfolding take_part
second_shows t u ts p false h = tt
second_shows t u [] p true h = tt
second_shows t u (v ∷ path) p true h = third_shows t u v path p h (is_name v) refl

first_shows : (t : Terminal) (ts : List Terminal) (b : Bool) → is_keyword keyword.DETACH t ≡ b →
    Given (Shown (t ∷ ts)) (detach_from (t ∷ ts) (p.Word keyword.PARTITION ∷ p.Path ∷ either_word) (cond b (Some (at (nothing_kept t fresh) ts)) None))
unfolding take_part
first_shows t ts false h = tt
first_shows t [] true h = tt
first_shows t (u ∷ ts) true h = second_shows t u ts h (is_keyword keyword.PARTITION u) refl

row_shows : (ts : List Terminal) → Given (Shown ts) (by_rows (general_rows keyword.DETACH) ts)
unfolding by_rows general_rows take_part
row_shows [] = tt
row_shows (t ∷ ts) = first_shows t ts (is_keyword keyword.DETACH t) refl

-- ---- all actions

first_quiet : (w : Keyword) → no_detach (first_rows w) ≡ true
unfolding first_rows
first_quiet (k.Verb verbs.Set) = refl
first_quiet (k.Object objects.Table) = refl
first_quiet (k.Other others.Owner) = refl
first_quiet w = refl

first_at_quiet : (x : Symbol) → no_detach (first_rows_at x) ≡ true
unfolding first_rows_at
first_at_quiet (s.Keyword w) = first_quiet w
first_at_quiet x = refl

abbrev leads : Keyword → Bool
leads (k.Other others.Detach) = true
leads _ = false

general_quiet : (w : Keyword) → leads w ≡ false → no_detach (general_rows w) ≡ true
unfolding general_rows
general_quiet (k.Verb verbs.Set) h = refl
general_quiet (k.Object objects.Table) h = refl
general_quiet (k.Other others.Detach) h = absurd (false≢true (sym h))
general_quiet w h = refl

lead_word : (w : Keyword) → leads w ≡ true → keyword.DETACH ≡ w
lead_word (k.Other others.Detach) h = refl
lead_word w h = absurd (false≢true h)

led_shows : (ts : List Terminal) (w : Keyword) (b : Bool) → leads w ≡ b → Given (Shown ts) (by_rows (general_rows w) ts)
led_shows ts w true h = subst (λ (v : Keyword). Given (Shown ts) (by_rows (general_rows v) ts)) (lead_word w h) (row_shows ts)
led_shows ts w false h = quiet_rows ts (general_rows w) ts (general_quiet w h)

general_shows : (ts : List Terminal) (x : Symbol) → Given (Shown ts) (by_rows (general_rows_at x) ts)
unfolding general_rows_at
general_shows ts (s.Keyword w) = led_shows ts w (leads w) refl
general_shows ts x = quiet_rows ts [] ts refl

added_shows : (ts : List Terminal) → Given (Shown ts) (added_constraint stmt.AlterTable ts)
unfolding added_constraint takes_constraint add_constraint
added_shows ts =
    given_any (Shown ts) (adding_after ts) (after_word keyword.ADD ts)
    (λ rest. given_any (Shown ts) (λ constraint. Some (adding ts constraint)) (table_constraint rest) (λ constraint is. absurd (false≢true is)))

own_shows : (ts : List Terminal) → Given (Shown ts) (own_action stmt.AlterTable ts)
unfolding own_action own_part own_rows
own_shows ts = quiet_rows ts [] ts refl

unlisted_shows : (ts : List Terminal) → Given (Shown ts) (unlisted_action stmt.AlterTable ts)
unfolding unlisted_action options
unlisted_shows ts = quiet_rows ts (map (λ r. (r.0, r.1.now)) OTHER) ts refl

listed_shows : (ts : List Terminal) → Given (Shown ts) (listed_action stmt.AlterTable ts)
unfolding listed_action general_action
listed_shows ts =
    given_either (Shown ts) (by_rows (first_rows_at (first_symbol ts)) ts) _ (quiet_rows ts (first_rows_at (first_symbol ts)) ts (first_at_quiet (first_symbol ts)))
    (given_either (Shown ts) (own_action stmt.AlterTable ts) _ (own_shows ts)
    (given_either (Shown ts) (added_constraint stmt.AlterTable ts) (by_rows (general_rows_at (first_symbol ts)) ts) (added_shows ts) (general_shows ts (first_symbol ts))))

action_tells : (ts : List Terminal) → Given (Shown ts) (action stmt.AlterTable ts)
unfolding action
action_tells [] = tt
action_tells (t ∷ ts) = given_either (Shown (t ∷ ts)) (listed_action stmt.AlterTable (t ∷ ts)) (unlisted_action stmt.AlterTable (t ∷ ts)) (listed_shows (t ∷ ts)) (unlisted_shows (t ∷ ts))

pub detach_shows : DetachShows
detach_shows ts b e kind none = given_is (Shown ts) (action stmt.AlterTable ts) b (action_tells ts) e (ap is_detach kind) none
