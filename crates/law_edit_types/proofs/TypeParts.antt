-- The terminals that a type is read of: those that become the word, and what follows them in an array.
use Rattle.std.proofs.Common.{◌≡◌, ◌<◌, ◌≤◌, ◌⊎◌, inl, inr, ℕ, zero, suc, ◌+◌, ◌-◌, Bool, true, false, cond, List, [], ◌∷◌, ◌++◌, length, take, drop, append-nil, append_assoc, sym, refl, ap, ◌∙◌, arith, Option, Some, None}
use Rattle.std.proofs.lemmas.Bool.{false≢true, and_parts}
use Rattle.std.proofs.lemmas.Bool.Decides.{nat_tests}
use Rattle.std.proofs.lemmas.List.{take_at, drop_at, length-append, length-take-le, take-append-drop}
use Rattle.std.specs.Prelude.{◌==◌, ◌&&◌, nat_lt, not}
use Rattle.std.specs.Option.{option_and_then}
use Rattle.law_edit_inserts.specs.sql_keyword.declared.words.Keyword.{Keyword}
use Rattle.law_edit_inserts.specs.sql_keyword.declared.words.Keyword.TheVariants as k
use Rattle.law_edit_inserts.specs.sql_keyword.declared.words.Verb.TheVariants as verbs
use Rattle.law_edit_inserts.specs.sql_keyword.declared.words.Object.TheVariants as objects
use Rattle.law_edit_inserts.specs.sql_keyword.declared.words.Other.TheVariants as others
use Rattle.law_edit_inserts.specs.sql_keyword.declared.words.TheConstants.Keyword as keyword
use Rattle.law_edit_inserts.specs.sql_keyword.Same.{same_keyword}
use Rattle.law_edit_inserts.specs.sql_token.declared.terminal.Symbol.{Symbol}
use Rattle.law_edit_inserts.specs.sql_token.declared.terminal.Symbol.TheVariants as s
use Rattle.law_edit_inserts.specs.sql_token.declared.terminal.Terminal.{Terminal}
use Rattle.law_edit_inserts.specs.sql_token.Terminal.{is_keyword, is_keyword_symbol, is_opener, is_closer, is_opener_symbol}
use Rattle.law_edit_inserts.specs.sql_token.Depth.{span_of, one_if, opened, closed}
use Rattle.law_edit_inserts.specs.sql_tree.declared.nodes.ColType.{ColType}
use Rattle.law_edit_inserts.specs.sql_tree.Forms.{either_of}
use Rattle.law_edit_inserts.specs.sql_tree.Groups.{is_open_square_symbol}
use Rattle.law_edit_inserts.specs.sql_tree.Split.{before_from, before, closing, begins_with}
use Rattle.law_edit_inserts.specs.sql_tree.ColumnType.{plain_type, no_group, only_groups, before_groups, arrayed, array_of, array_by_groups, ends_with, has_word_array, array_by_word, column_type}
use Rattle.law_edit_inserts.specs.law_edit_cuts.Runs.{is_run_from, is_closed, nowhere}
use Rattle.law_edit_inserts.proofs.of_law_edit_cuts.Nested.{open_not_closed, opened_is, closed_is, closed_is_level}
use Rattle.law_edit_inserts.proofs.of_law_edit_cuts.Nested.Next.{opens, closes, passes}
use Rattle.law_edit_inserts.proofs.Apart.{lasts}
use Rattle.law_edit_inserts.proofs.Leading.{given_is}
use Rattle.law_edit_types.specs.Runs.{IsTypeSymbol, last_or, is_type_run}
use Rattle.law_edit_types.specs.Types.{is_replaced, retyped_type, IsLoose}
use Rattle.law_edit_types.proofs.Counts.{opened_append, closed_append, Flat, none_flat, Stops, stops, before_within}
use Rattle.law_edit_types.proofs.TypeRuns.{put, run_closed}
use Rattle.law_edit_types.proofs.TypeShapes.{Fine, IsOpen, Shape, plain_shape, closer_loose}
use Rattle.law_edit_types.proofs.TypeWords.{begins_groups, groups_begin, array_symbol, word_is_type, word_alone, word_grouped, word_arrayed}

-- ---- bracket groups

-- closed brackets, with no word SET or BY at the end
pub record ClosedGroups (groups : List Terminal) : Type 0 where
  pub closed : is_closed groups ≡ true
  pub loose : (t : Terminal) → IsLoose t → IsLoose (last_or t groups)

pub no_groups : ClosedGroups []
no_groups = record { closed = refl; loose = λ t h. h }

square_opens : (x : Symbol) → is_open_square_symbol x ≡ true → is_opener_symbol x ≡ true
square_opens s.OpenSquare h = refl
square_opens x h = absurd (false≢true h)

abbrev Closes : ℕ → Terminal → List Terminal → Type 0
Closes d u ts = ((is_run_from nowhere d ts ≡ true) × IsLoose (last_or u ts)) ⊎ (closed ts < d + opened ts)

abbrev no_group_left : Option Terminal → ℕ → ℕ → List Terminal → Bool
no_group_left e o c ts = nat_lt (before_from no_group e o c ts) (length ts)

first_less : (n : ℕ) → nat_lt 0 (suc n) ≡ true
first_less n = grind (arith, nat_tests)

both_less : (n m : ℕ) → nat_lt (suc n) (suc m) ≡ nat_lt n m
both_less n m = grind (arith, nat_tests)

at_ground : (c : ℕ) → (c + 0 == c) ≡ true
at_ground c = grind (arith, nat_tests)

above_ground : (c d : ℕ) → (c + suc d == c) ≡ false
above_ground c d = grind (arith, nat_tests)

-- Where d brackets are open, and nothing but groups comes: they close, or stay open.
groups_close : (e : Option Terminal) (d c : ℕ) (u : Terminal) (ts : List Terminal) → no_group_left e (c + d) c ts ≡ false → (d ≡ 0 → IsLoose u) → Closes d u ts
unfolding no_group is_opener
groups_close e zero c u [] h loose = inl (refl, loose refl)
groups_close e (suc d) c u [] h loose = inr (omega arith)
groups_close e d c u (t ∷ ts) h loose = by (λ d c g l. groups_close (Some t) d c t ts g l) d refl
  where
    next : (o' c' : ℕ) (a b : Bool) → is_opener t ≡ a → is_closer t ≡ b → c + d + one_if a ≡ o' → c + one_if b ≡ c' → (c + d == c && no_group e t ts) ≡ false → no_group_left (Some t) o' c' ts ≡ false
    next o' c' a b p q x y none =
        sym
        ((λ i. nat_lt (cond (none i) 0 (suc (before_from no_group (Some t) (c + d + one_if (p i)) (c + one_if (q i)) ts))) (suc (length ts)))
        ∙ (λ i. nat_lt (suc (before_from no_group (Some t) (x i) (y i) ts)) (suc (length ts)))
        ∙ both_less (before_from no_group (Some t) o' c' ts) (length ts))
        ∙ h

    Each : Type 0
    Each = (d c : ℕ) → no_group_left (Some t) (c + d) c ts ≡ false → (d ≡ 0 → IsLoose t) → Closes d t ts

    -- an opening square bracket, where none is open
    square : d ≡ 0 → is_open_square_symbol t.symbol ≡ true
    square z = by (is_open_square_symbol t.symbol) refl
      where
        level : (c + d == c) ≡ true
        level = ap (λ (x : ℕ). c + x == c) z ∙ at_ground c

        by : (b : Bool) → is_open_square_symbol t.symbol ≡ b → is_open_square_symbol t.symbol ≡ true
        by true q = q
        by false q =
            absurd (false≢true (sym h
            ∙ (λ i. nat_lt (cond (level i && not (q i)) 0 (suc (before_from no_group (Some t) (c + d + one_if (is_opener t)) (c + one_if (is_closer t)) ts))) (suc (length ts)))
            ∙ first_less (length ts)))

    quiet : (d' : ℕ) → d ≡ d' → (c + d == c && no_group e t ts) ≡ false
    quiet zero z = let q = square z in let level = ap (λ (x : ℕ). c + x == c) z ∙ at_ground c in λ i. level i && not (q i)
    quiet (suc d') z = let deep = ap (λ (x : ℕ). c + x == c) z ∙ above_ground c d' in λ i. deep i && no_group e t ts

    opening : Each → is_opener t ≡ true → Closes d u (t ∷ ts)
    opening each p =
        let q = open_not_closed t p in
        let o = opened_is t ts true p in let x = closed_is t ts false q in
        elim (each (suc d) c (next (c + suc d) c true false p q (omega arith) (omega arith) (quiet d refl)) (λ z. absurd (no d z))) [
          | inl g ↦ inl (put nowhere d t ts (λ z. refl) (opens p q g.0), g.1)
          | inr g ↦ inr (omega (arith, g, o, x))
        ]
      where
        no : (d : ℕ) → suc d ≡ 0 → ⊥
        no d z = omega arith

    by : Each → (d' : ℕ) → d ≡ d' → Closes d u (t ∷ ts)
    by each zero z = opening each (square_opens t.symbol (square z))
    by each (suc d') z = go (is_opener t) (is_closer t) refl refl
      where
        go : (a b : Bool) → is_opener t ≡ a → is_closer t ≡ b → Closes d u (t ∷ ts)
        go true b p q = opening each p
        go false true p q =
            let o = opened_is t ts false p in let x = closed_is t ts true q in
            elim (each d' (c + 1) (next (c + 1 + d') (c + 1) false true p q (omega (arith, z)) (omega arith) (quiet (suc d') z)) (λ y. closer_loose t q)) [
              | inl g ↦ inl (put nowhere d t ts (λ y. refl) (closes d' z p q g.0), g.1)
              | inr g ↦ inr (omega (arith, g, o, x, z))
            ]
        go false false p q =
            let o = opened_is t ts false p in let x = closed_is t ts false q in
            elim (each d c (next (c + d) c false false p q (omega arith) (omega arith) (quiet (suc d') z)) (λ y. absurd (no d' (sym z ∙ y)))) [
              | inl g ↦ inl (put nowhere d t ts (λ y. refl) (passes p q g.0), g.1)
              | inr g ↦ inr (omega (arith, g, o, x))
            ]
          where
            no : (d : ℕ) → suc d ≡ 0 → ⊥
            no d z = omega arith

-- groups that come next close, or stay open
groups_fine : (ts : List Terminal) → begins_groups ts ≡ true → ClosedGroups ts ⊎ IsOpen ts
unfolding only_groups before is_keyword
groups_fine [] h = inl no_groups
groups_fine (t ∷ ts) h =
    let none : no_group_left None 0 0 (t ∷ ts) ≡ false = not_false (no_group_left None 0 0 (t ∷ ts)) h in
    elim (groups_close None 0 0 (record { symbol = s.Other; number = 0 }) (t ∷ ts) none (λ z. other_loose)) [
      | inl g ↦ inl (record { closed = g.0; loose = λ u l. g.1 })
      | inr g ↦ inr (let x : closed (t ∷ ts) < 0 + opened (t ∷ ts) = g in omega (arith, x))
    ]
  where
    not_false : (b : Bool) → not b ≡ true → b ≡ false
    not_false true h = absurd (false≢true h)
    not_false false h = refl

    other_loose : IsLoose (record { symbol = s.Other; number = 0 })
    other_loose = record { set = refl; by = refl }

-- ---- the run and its groups

pub record Ends (r : Terminal) (run groups : List Terminal) : Type 0 where
  pub closed : is_type_run (r ∷ run) ≡ true
  pub loose : IsLoose (last_or r run)
  pub after : ClosedGroups groups

joined_fine : (e r : Terminal) (run groups : List Terminal) → Fine e (r ∷ run) → ClosedGroups groups ⊎ IsOpen groups → (opened (r ∷ run) ≡ closed (r ∷ run)) ⊎ Flat groups → Ends r run groups ⊎ IsOpen ((r ∷ run) ++ groups)
joined_fine e r run groups (inl c) (inl g) l = inl (record { closed = c.closed; loose = c.loose; after = g })
joined_fine e r run groups (inl c) (inr o) l =
    let level = (closed_is_level (r ∷ run) (run_closed (r ∷ run) c.closed)).level in
    inr (omega (arith, o, level, opened_append (r ∷ run) groups, closed_append (r ∷ run) groups))
joined_fine e r run groups (inr o) g (inl level) = absurd (omega (arith, o, level))
joined_fine e r run groups (inr o) g (inr flat) = inr (omega (arith, o, flat.opens, flat.closes, opened_append (r ∷ run) groups, closed_append (r ∷ run) groups))

-- What a type is read of, and what it is with a word for the run.
pub record TypeOf (ts : List Terminal) (ty : ColType) : Type 0 where
  pub r : Terminal
  pub run : List Terminal
  pub groups : List Terminal
  pub parts : ts ≡ (r ∷ run) ++ groups
  pub inner : ty.inner ≡ span_of (r ∷ run)
  pub whole : ty.whole ≡ span_of ts
  pub fine : Ends r run groups ⊎ IsOpen ((r ∷ run) ++ groups)
  pub becomes : (w : Terminal) → IsTypeSymbol w.symbol → column_type (w ∷ groups) ≡ Some (record (retyped_type w.number ty) { whole = span_of (w ∷ groups) })

no_type : plain_type [] ≡ None
unfolding plain_type
no_type = refl

none_some : (ty : ColType) → None ≡ Some ty → ⊥
none_some ty e = cc

pub some_type : {x y : ColType} → Some x ≡ Some y → x ≡ y
some_type e = cc

-- a type that is no array
plain_case : (e : Terminal) (ts : List Terminal) (ty : ColType) → plain_type ts ≡ Some ty → is_replaced ty ≡ true → TypeOf ts ty
plain_case e [] ty h replaced = absurd (none_some ty (sym no_type ∙ h))
plain_case e (r ∷ run) ty h replaced =
    let shape = given_is (Shape e (r ∷ run)) (plain_type (r ∷ run)) ty (plain_shape e (r ∷ run)) h in
    let flat = shape.flat in
    record {
      r = r;
      run = run;
      groups = [];
      parts = sym (append-nil (r ∷ run));
      inner = shape.inner;
      whole = shape.whole;
      fine = joined_fine e r run [] (shape.fine replaced) (inl no_groups) (inr none_flat);
      becomes = λ w s. word_alone w (word_is_type w s) ∙ (λ i. Some (record (retyped_type w.number ty) { whole = span_of (w ∷ []); array = sym flat i }));
    }

-- an array, which a type and these groups are
array_case : (e : Terminal) (ts inner groups : List Terminal) (ty : ColType) → array_of ts inner ≡ Some ty → is_replaced ty ≡ true → ts ≡ inner ++ groups → ClosedGroups groups ⊎ IsOpen groups → (opened inner ≡ closed inner) ⊎ Flat groups →
    ((w : Terminal) → IsTypeSymbol w.symbol → column_type (w ∷ groups) ≡ Some (record (retyped_type w.number ty) { whole = span_of (w ∷ groups); array = true })) → TypeOf ts ty
unfolding array_of
array_case e ts inner groups ty h replaced parts fine level becomes = by (plain_type inner) refl h
  where
    put_in : (inner : List Terminal) (plain : ColType) → plain_type inner ≡ Some plain → ty ≡ arrayed ts plain → ts ≡ inner ++ groups → (opened inner ≡ closed inner) ⊎ Flat groups → TypeOf ts ty
    put_in [] plain p is parts level = absurd (none_some plain (sym no_type ∙ p))
    put_in (r ∷ run) plain p is parts level =
        let shape = given_is (Shape e (r ∷ run)) (plain_type (r ∷ run)) plain (plain_shape e (r ∷ run)) p in
        record {
          r = r;
          run = run;
          groups = groups;
          parts = parts;
          inner = ap (λ (x : ColType). x.inner) is ∙ shape.inner;
          whole = ap (λ (x : ColType). x.whole) is;
          fine = joined_fine e r run groups (shape.fine (ap is_replaced (sym is) ∙ replaced)) fine level;
          becomes = λ w s. becomes w s ∙ (λ i. Some (record (retyped_type w.number ty) { whole = span_of (w ∷ groups); array = (sym is i).array }));
        }

    by : (o : Option ColType) → plain_type inner ≡ o → option_and_then (λ x. Some (arrayed ts x)) o ≡ Some ty → TypeOf ts ty
    by None p h = absurd (none_some ty h)
    by (Some plain) p h = put_in inner plain p (sym (some_type h)) parts level

-- ---- where the groups begin

groups_stop : (ts : List Terminal) → Stops begins_groups 0 0 (take (before_groups ts) ts) (drop (before_groups ts) ts)
unfolding before_groups before
groups_stop ts = stops only_groups begins_groups refl groups_begin None 0 0 ts

groups_within : (ts : List Terminal) → before_groups ts ≤ length ts
unfolding before_groups before
groups_within ts = before_within only_groups None 0 0 ts

ground : (xs ys : List Terminal) → (0 + opened xs ≡ 0 + closed xs) ⊎ (ys ≡ []) → (opened xs ≡ closed xs) ⊎ (ys ≡ [])
ground xs ys (inl l) = inl (omega (arith, l))
ground xs ys (inr l) = inr l

some_after : (n : ℕ) (ts : List Terminal) → nat_lt n (length ts) ≡ true → drop n ts ≡ [] → ⊥
some_after n [] h e = absurd (by n h)
  where
    by : (n : ℕ) → nat_lt n 0 ≡ true → ⊥
    by n h = grind (arith, nat_tests)
some_after zero (t ∷ ts) h e = cc
some_after (suc n) (t ∷ ts) h e = some_after n ts (sym (both_less n (length ts)) ∙ h) e

-- the array of a type and groups
groups_case : (e : Terminal) (ts : List Terminal) (ty : ColType) → array_by_groups ts ≡ Some ty → is_replaced ty ≡ true → TypeOf ts ty
unfolding array_by_groups
groups_case e ts ty h replaced = by (nat_lt (before_groups ts) (length ts)) refl h
  where
    xs : List Terminal
    xs = take (before_groups ts) ts

    level : drop (before_groups ts) ts ≡ drop (before_groups ts) ts → nat_lt (before_groups ts) (length ts) ≡ true → opened xs ≡ closed xs
    level same less = elim (ground xs (drop (before_groups ts) ts) (groups_stop ts).level) [
      | inl l ↦ l
      | inr none ↦ absurd (some_after (before_groups ts) ts less none)
    ]

    word : (ys : List Terminal) → (ys ≡ [] → ⊥) → begins_groups ys ≡ true → (w : Terminal) → IsTypeSymbol w.symbol → column_type (w ∷ ys) ≡ Some (record (retyped_type w.number ty) { whole = span_of (w ∷ ys); array = true })
    word [] some begins w s = absurd (some refl)
    word (y ∷ ys) some begins w s = word_grouped w y ys (word_is_type w s) begins

    by : (b : Bool) → nat_lt (before_groups ts) (length ts) ≡ b → cond b (array_of ts (take (before_groups ts) ts)) None ≡ Some ty → TypeOf ts ty
    by false less h = absurd (none_some ty h)
    by true less h =
        array_case e ts xs (drop (before_groups ts) ts) ty h replaced (sym (take-append-drop (before_groups ts) ts)) (groups_fine (drop (before_groups ts) ts) (groups_stop ts).begins_there) (inl (level refl less))
        (word (drop (before_groups ts) ts) (some_after (before_groups ts) ts less) (groups_stop ts).begins_there)

-- ---- the word ARRAY

array_loose : (w : Keyword) → same_keyword w keyword.ARRAY ≡ true → (same_keyword w keyword.SET ≡ false) × (same_keyword w keyword.BY ≡ false)
unfolding same_keyword
array_loose (k.Verb verbs.Set) h = absurd (false≢true h)
array_loose (k.Object objects.Table) h = absurd (false≢true h)
array_loose (k.Other others.Array) h = (refl, refl)
array_loose w h = absurd (false≢true h)

loose_symbol : (x : Symbol) → is_keyword_symbol keyword.ARRAY x ≡ true → (is_keyword_symbol keyword.SET x ≡ false) × (is_keyword_symbol keyword.BY x ≡ false)
loose_symbol (s.Keyword w) h = array_loose w h
loose_symbol x h = absurd (false≢true h)

array_word_loose : (a : Terminal) → is_keyword keyword.ARRAY a ≡ true → IsLoose a
unfolding is_keyword
array_word_loose a h = let p = loose_symbol a.symbol h in record { set = p.0; by = p.1 }

array_flat : (a : Terminal) → is_keyword keyword.ARRAY a ≡ true → (is_opener a ≡ false) × (is_closer a ≡ false)
unfolding is_keyword is_opener is_closer
array_flat a h = let p = array_symbol a.symbol h in (p.1, p.2)

-- it and groups
array_fine : (a : Terminal) (gs : List Terminal) → is_keyword keyword.ARRAY a ≡ true → ClosedGroups gs ⊎ IsOpen gs → ClosedGroups (a ∷ gs) ⊎ IsOpen (a ∷ gs)
array_fine a gs h fine =
    let flat = array_flat a h in
    elim fine [
      | inl g ↦ inl (record { closed = put nowhere 0 a gs (λ z. refl) (passes flat.0 flat.1 g.closed); loose = λ t l. g.loose a (array_word_loose a h) })
      | inr g ↦ inr (omega (arith, g, opened_is a gs false flat.0, closed_is a gs false flat.1))
    ]

-- a list that ends with the word, and what comes before it
record WordLast (xs : List Terminal) : Type 0 where
  pub front : List Terminal
  pub a : Terminal
  pub parts : xs ≡ front ++ a ∷ []
  pub word : is_keyword keyword.ARRAY a ≡ true

word_last : (xs : List Terminal) → ends_with keyword.ARRAY xs ≡ true → WordLast xs
unfolding ends_with
word_last [] h = absurd (false≢true h)
word_last (x ∷ xs) h =
    let l = lasts x xs in
    let parts = l.parts in
    let size : length (x ∷ xs) - 1 ≡ length l.front = omega (arith, ap length parts, length-append l.front (l.end ∷ [])) in
    let last : drop (length (x ∷ xs) - 1) (x ∷ xs) ≡ l.end ∷ [] = (λ i. drop (size i) (parts i)) ∙ drop_at l.front (l.end ∷ []) (length l.front) refl in
    record { front = l.front; a = l.end; parts = parts; word = sym (ap (begins_with keyword.ARRAY) last) ∙ h }

-- the array of a type and the word ARRAY
array_word_case : (e : Terminal) (ts : List Terminal) (ty : ColType) → array_by_word ts ≡ Some ty → is_replaced ty ≡ true → TypeOf ts ty
unfolding array_by_word
array_word_case e ts ty h replaced = by (has_word_array ts (before_groups ts)) refl h
  where
    xs : List Terminal
    xs = take (before_groups ts) ts

    gs : List Terminal
    gs = drop (before_groups ts) ts

    case : array_of ts (take (before_groups ts - 1) ts) ≡ Some ty → (l : WordLast xs) → (closing 0 0 gs == length gs) ≡ true → TypeOf ts ty
    case h l one =
        let flat = array_flat l.a l.word in
        let list : ts ≡ l.front ++ l.a ∷ gs = sym (take-append-drop (before_groups ts) ts) ∙ ap (λ (x : List Terminal). x ++ gs) l.parts ∙ append_assoc l.front (l.a ∷ []) gs in
        let size : before_groups ts - 1 ≡ length l.front =
        omega (arith, length-take-le (before_groups ts) ts (groups_within ts), ap length l.parts, length-append l.front (l.a ∷ [])) in
        let inner : take (before_groups ts - 1) ts ≡ l.front = (λ i. take (size i) (list i)) ∙ take_at l.front (l.a ∷ gs) (length l.front) refl in
        array_case e ts l.front (l.a ∷ gs) ty (ap (array_of ts) (sym inner) ∙ h) replaced list (array_fine l.a gs l.word (groups_fine gs (groups_stop ts).begins_there)) (level flat.0 flat.1)
        (λ w s. word_arrayed w l.a gs (word_is_type w s) l.word (groups_stop ts).begins_there one)
      where
        level : is_opener l.a ≡ false → is_closer l.a ≡ false → (opened l.front ≡ closed l.front) ⊎ Flat (l.a ∷ gs)
        level p q = elim (ground xs gs (groups_stop ts).level) [
          | inl same ↦
              (let x = ap opened l.parts in
              let y = ap closed l.parts in
              inl (omega (arith, same, x, y, opened_append l.front (l.a ∷ []), closed_append l.front (l.a ∷ []), opened_is l.a [] false p, closed_is l.a [] false q)))
          | inr none ↦ inr (record { opens = opened_is l.a gs false p ∙ ap opened none; closes = closed_is l.a gs false q ∙ ap closed none })
        ]

    by : (b : Bool) → has_word_array ts (before_groups ts) ≡ b → cond b (array_of ts (take (before_groups ts - 1) ts)) None ≡ Some ty → TypeOf ts ty
    by false p h = absurd (none_some ty h)
    by true p h =
        let both = and_parts (ends_with keyword.ARRAY xs) (closing 0 0 gs == length gs) p in
        case h (word_last xs both.0) both.1

-- ---- all types

pub type_of : (e : Terminal) (ts : List Terminal) (ty : ColType) → column_type ts ≡ Some ty → is_replaced ty ≡ true → TypeOf ts ty
unfolding column_type
type_of e ts ty h replaced = by (array_by_word ts) (array_by_groups ts) refl refl h
  where
    by : (a b : Option ColType) → array_by_word ts ≡ a → array_by_groups ts ≡ b → either_of a (either_of b (plain_type ts)) ≡ Some ty → TypeOf ts ty
    by (Some a) b p q h = array_word_case e ts ty (p ∙ h) replaced
    by None (Some b) p q h = groups_case e ts ty (q ∙ h) replaced
    by None None p q h = plain_case e ts ty h replaced
