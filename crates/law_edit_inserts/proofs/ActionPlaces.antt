-- One action of ALTER TABLE changes, at its place.
use Rattle.std.proofs.Common.{◌≡◌, ◌≤◌, ◌⊎◌, inl, inr, length-append, ℕ, ◌+◌, Bool, true, false, cond, List, [], ◌∷◌, ◌++◌, length, append_assoc, append-nil, sym, refl, ap, ◌∙◌, arith, Option, Some, None}
use Rattle.std.proofs.lemmas.Bool.{false≢true}
use Rattle.std.proofs.lemmas.Bool.Decides.{nat_tests}
use Rattle.std.specs.Prelude.{◌==◌, ◌&&◌}
use Rattle.law_edit_cuts.specs.sql_token.declared.token.Span.{Span}
use Rattle.law_edit_cuts.specs.sql_token.declared.terminal.Symbol.{Symbol}
use Rattle.law_edit_cuts.specs.sql_token.declared.terminal.Symbol.TheVariants as s
use Rattle.law_edit_cuts.specs.sql_token.declared.terminal.Terminal.{Terminal}
use Rattle.law_edit_cuts.specs.sql_token.Terminal.{is_opener, is_closer}
use Rattle.law_edit_cuts.specs.sql_token.Depth.{onto, one_if, opened, closed}
use Rattle.law_edit_cuts.specs.sql_tree.declared.kinds.StmtKind.TheVariants as stmt
use Rattle.law_edit_cuts.specs.sql_tree.declared.nodes.Action.{Action}
use Rattle.law_edit_cuts.specs.sql_tree.Action.{action, several_actions}
use Rattle.law_edit_cuts.specs.sql_tree.Split.{split, split_from, comma, is_comma_symbol, and_others, all_of}
use Rattle.law_edit_cuts.specs.sql_tree.Statement.{form_of}
use Rattle.law_edit_tokens.specs.Beside.{is_punct_symbol, begins_punct_or_ends}
use Rattle.law_edit_cuts.specs.Runs.{is_uncut}
use Rattle.law_edit_cuts.proofs.Cuts.{opened_if, closed_if, heads, rests}
use Rattle.law_edit_cuts.proofs.CutLaws.{part_exchanges}
use Rattle.law_edit_inserts.specs.Shapes.{AlterShape}
use Rattle.law_edit_inserts.specs.Actions.{ActionChangesAt, ActionShows}
use Rattle.law_edit_inserts.proofs.AlterShapes.{alter_table_shows, with_path}

-- ---- lists

first : {x y : Terminal} {us vs : List Terminal} → x ∷ us ≡ y ∷ vs → x ≡ y
first e = cc

rest : {x y : Terminal} {us vs : List Terminal} → x ∷ us ≡ y ∷ vs → us ≡ vs
rest e = cc

empty : {y : Terminal} {vs : List Terminal} → [] ≡ y ∷ vs → ⊥
empty e = cc

no_lists : (xs : List (List Terminal)) (y : List Terminal) (ys : List (List Terminal)) → [] ≡ xs ++ y ∷ ys → ⊥
no_lists [] y ys e = cc
no_lists (x ∷ xs) y ys e = cc

-- ---- parts between commas

-- a list between commas has a part
pub record Parts (xs : List (List Terminal)) : Type 0 where
  pub first : List Terminal
  pub rest : List (List Terminal)
  pub both : xs ≡ first ∷ rest

pub onto_parts : (t : Terminal) (xs : List (List Terminal)) → Parts (onto t xs)
onto_parts t [] = record { first = t ∷ []; rest = []; both = refl }
onto_parts t (x ∷ xs) = record { first = t ∷ x; rest = xs; both = refl }

pub split_parts : (e : Option Terminal) (o c : ℕ) (ts : List Terminal) → Parts (split_from comma e o c ts)
unfolding comma
split_parts e o c [] = record { first = []; rest = []; both = refl }
split_parts e o c (t ∷ ts) = by (o == c && is_comma_symbol t.symbol)
  where
    by : (b : Bool) → Parts (cond b ([] ∷ split_from comma (Some t) 0 0 ts) (onto t (split_from comma (Some t) (o + one_if (is_opener t)) (c + one_if (is_closer t)) ts)))
    by true = record { first = []; rest = split_from comma (Some t) 0 0 ts; both = refl }
    by false = onto_parts t (split_from comma (Some t) (o + one_if (is_opener t)) (c + one_if (is_closer t)) ts)

-- ---- the last part

-- nothing follows it
abbrev AtEnd : List Terminal → List (List Terminal) → List Terminal → Type 0
AtEnd ts [] p = ts ≡ p
AtEnd ts (x ∷ xs) p = (earlier : List Terminal) × (ts ≡ earlier ++ p)

end_later : (t : Terminal) (ts : List Terminal) (xs : List (List Terminal)) (p : List Terminal) → AtEnd ts xs p → (earlier : List Terminal) × (t ∷ ts ≡ earlier ++ p)
end_later t ts [] p h = (t ∷ [], ap (λ (x : List Terminal). t ∷ x) h)
end_later t ts (x ∷ xs) p h = (t ∷ h.0, ap (λ (x : List Terminal). t ∷ x) h.1)

-- The last part of a list that is split at commas ends it.
ends_list : (e : Option Terminal) (o c : ℕ) (ts : List Terminal) (xs : List (List Terminal)) (p : List Terminal) → split_from comma e o c ts ≡ xs ++ p ∷ [] → AtEnd ts xs p
unfolding comma
ends_list e o c [] [] p h = heads h
ends_list e o c [] (x ∷ xs) p h = absurd (no_lists xs p [] (rests h))
ends_list e o c (t ∷ ts) xs p h =
    by (o == c && is_comma_symbol t.symbol) xs h (λ us g. ends_list (Some t) 0 0 ts us p g) (λ us v g. ends_list (Some t) (o + one_if (is_opener t)) (c + one_if (is_closer t)) ts us v g)
  where
    S : List (List Terminal)
    S = split_from comma (Some t) (o + one_if (is_opener t)) (c + one_if (is_closer t)) ts

    by : (b : Bool) (xs : List (List Terminal)) → cond b ([] ∷ split_from comma (Some t) 0 0 ts) (onto t S) ≡ xs ++ p ∷ [] →
        ((us : List (List Terminal)) → split_from comma (Some t) 0 0 ts ≡ us ++ p ∷ [] → AtEnd ts us p) →
        ((us : List (List Terminal)) (v : List Terminal) → S ≡ us ++ v ∷ [] → AtEnd ts us v) → AtEnd (t ∷ ts) xs p
    by true [] h cut on =
        let parts = split_parts (Some t) 0 0 ts in
        absurd (no_lists [] parts.first parts.rest (sym (rests h) ∙ parts.both))
    by true (x ∷ xs) h cut on = end_later t ts xs p (cut xs (rests h))
    by false [] h cut on =
        let parts = split_parts (Some t) (o + one_if (is_opener t)) (c + one_if (is_closer t)) ts in
        let both = sym (ap (λ (l : List (List Terminal)). onto t l) parts.both) ∙ h in
        let f = heads both in let g = rests both in
        ap (λ (x : List Terminal). t ∷ x) (on [] parts.first (parts.both ∙ (λ i. parts.first ∷ g i))) ∙ f
    by false (x ∷ xs) h cut on =
        let parts = split_parts (Some t) (o + one_if (is_opener t)) (c + one_if (is_closer t)) ts in
        let both = sym (ap (λ (l : List (List Terminal)). onto t l) parts.both) ∙ h in
        let g = rests both in
        let end = on (parts.first ∷ xs) p (parts.both ∙ (λ i. parts.first ∷ g i)) in
        (t ∷ end.0, ap (λ (x : List Terminal). t ∷ x) end.1)

pub last_part : (ts : List Terminal) (xs : List (List Terminal)) (p : List Terminal) → split comma ts ≡ xs ++ p ∷ [] → (q : List Terminal) × (ts ≡ q ++ p)
unfolding split
last_part ts [] p h = ([], ends_list None 0 0 ts [] p h)
last_part ts (x ∷ xs) p h = ends_list None 0 0 ts (x ∷ xs) p h

-- ---- where a part ends

-- all brackets of the part are closed, where o openers and c closers came before the first one
abbrev Level : ℕ → ℕ → List (List Terminal) → List Terminal → Type 0
Level o c [] p = o + opened p ≡ c + closed p
Level o c (x ∷ xs) p = opened p ≡ closed p

level_zero : (xs : List (List Terminal)) (p : List Terminal) → Level 0 0 xs p → opened p ≡ closed p
level_zero [] p h = omega (arith, h)
level_zero (x ∷ xs) p h = h

-- A part of a list that is split at commas has all its brackets closed, or ends the list.
part_ends : (e : Option Terminal) (o c : ℕ) (ts : List Terminal) (xs : List (List Terminal)) (p : List Terminal) (ys : List (List Terminal)) → split_from comma e o c ts ≡ xs ++ p ∷ ys → Level o c xs p ⊎ AtEnd ts xs p
unfolding comma
part_ends e o c [] [] p ys h = inr (heads h)
part_ends e o c [] (x ∷ xs) p ys h = absurd (no_lists xs p ys (rests h))
part_ends e o c (t ∷ ts) xs p ys h =
    by (o == c && is_comma_symbol t.symbol) refl xs h (λ us g. part_ends (Some t) 0 0 ts us p ys g) (λ us v g. part_ends (Some t) (o + one_if (is_opener t)) (c + one_if (is_closer t)) ts us v ys g)
  where
    S : List (List Terminal)
    S = split_from comma (Some t) (o + one_if (is_opener t)) (c + one_if (is_closer t)) ts

    equal : (a b : Bool) → (a && b) ≡ true → a ≡ true
    equal true b h = refl
    equal false b h = h

    counts : (o == c && is_comma_symbol t.symbol) ≡ true → o ≡ c
    counts h = by (equal (o == c) (is_comma_symbol t.symbol) h)
      where
        by : (o == c) ≡ true → o ≡ c
        by h = grind (arith, nat_tests)

    first_level : (v : List Terminal) → t ∷ v ≡ p → Level (o + one_if (is_opener t)) (c + one_if (is_closer t)) [] v → Level o c [] p
    first_level v same l = let x = opened_if t v in let y = closed_if t v in omega (arith, l, x, y, ap opened same, ap closed same)

    by : (b : Bool) → (o == c && is_comma_symbol t.symbol) ≡ b → (xs : List (List Terminal)) → cond b ([] ∷ split_from comma (Some t) 0 0 ts) (onto t S) ≡ xs ++ p ∷ ys →
        ((us : List (List Terminal)) → split_from comma (Some t) 0 0 ts ≡ us ++ p ∷ ys → Level 0 0 us p ⊎ AtEnd ts us p) →
        ((us : List (List Terminal)) (v : List Terminal) → S ≡ us ++ v ∷ ys → Level (o + one_if (is_opener t)) (c + one_if (is_closer t)) us v ⊎ AtEnd ts us v) → Level o c xs p ⊎ AtEnd (t ∷ ts) xs p
    by true a [] h cut on = let none = heads h in let same = counts a in inl (omega (arith, same, ap opened none, ap closed none))
    by true a (x ∷ xs) h cut on = elim (cut xs (rests h)) [
      | inl l ↦ inl (level_zero xs p l)
      | inr g ↦ inr (end_later t ts xs p g)
    ]
    by false a [] h cut on =
        let parts = split_parts (Some t) (o + one_if (is_opener t)) (c + one_if (is_closer t)) ts in
        let both = sym (ap (λ (l : List (List Terminal)). onto t l) parts.both) ∙ h in
        let f = heads both in let g = rests both in
        elim (on [] parts.first (parts.both ∙ (λ i. parts.first ∷ g i))) [
          | inl l ↦ inl (first_level parts.first f l)
          | inr l ↦ inr (ap (λ (x : List Terminal). t ∷ x) l ∙ f)
        ]
    by false a (x ∷ xs) h cut on =
        let parts = split_parts (Some t) (o + one_if (is_opener t)) (c + one_if (is_closer t)) ts in
        let both = sym (ap (λ (l : List (List Terminal)). onto t l) parts.both) ∙ h in
        let g = rests both in
        elim (on (parts.first ∷ xs) p (parts.both ∙ (λ i. parts.first ∷ g i))) [
          | inl l ↦ inl l
          | inr l ↦ inr (t ∷ l.0, ap (λ (x : List Terminal). t ∷ x) l.1)
        ]

pub part_is_level : (ts : List Terminal) (xs : List (List Terminal)) (p : List Terminal) (ys : List (List Terminal)) → split comma ts ≡ xs ++ p ∷ ys →
    (opened p ≡ closed p) ⊎ ((q : List Terminal) × (ts ≡ q ++ p))
unfolding split
part_is_level ts xs p ys h = elim (part_ends None 0 0 ts xs p ys h) [
  | inl l ↦ inl (level_zero xs p l)
  | inr e ↦ inr (whole xs e)
]
  where
    whole : (xs : List (List Terminal)) → AtEnd ts xs p → (q : List Terminal) × (ts ≡ q ++ p)
    whole [] e = ([], e)
    whole (x ∷ xs) e = e

-- ---- what follows a part

comma_is_mark : (x : Symbol) → is_comma_symbol x ≡ true → is_punct_symbol x ≡ true
comma_is_mark s.Comma h = refl
comma_is_mark x h = absurd (false≢true h)

second : (a b : Bool) → (a && b) ≡ true → b ≡ true
second true b h = h
second false b h = absurd (false≢true h)

-- a run that is the first part, all of it, is followed by a comma or nothing
run_ends : (e : Option Terminal) (o c : ℕ) (run later : List Terminal) (ys : List (List Terminal)) → split_from comma e o c (run ++ later) ≡ run ∷ ys → begins_punct_or_ends later ≡ true
unfolding comma
run_ends e o c [] [] ys h = refl
run_ends e o c [] (v ∷ later) ys h = by (o == c && is_comma_symbol v.symbol) refl h
  where
    by : (b : Bool) → (o == c && is_comma_symbol v.symbol) ≡ b →
        cond b ([] ∷ split_from comma (Some v) 0 0 later) (onto v (split_from comma (Some v) (o + one_if (is_opener v)) (c + one_if (is_closer v)) later)) ≡ [] ∷ ys → is_punct_symbol v.symbol ≡ true
    by true q h = comma_is_mark v.symbol (second (o == c) (is_comma_symbol v.symbol) q)
    by false q h =
        let parts = split_parts (Some v) (o + one_if (is_opener v)) (c + one_if (is_closer v)) later in
        absurd (empty (sym (heads (sym (ap (λ (l : List (List Terminal)). onto v l) parts.both) ∙ h))))
run_ends e o c (r ∷ run) later ys h =
    by (o == c && is_comma_symbol r.symbol) h (λ g. run_ends (Some r) (o + one_if (is_opener r)) (c + one_if (is_closer r)) run later ys g)
  where
    S : List (List Terminal)
    S = split_from comma (Some r) (o + one_if (is_opener r)) (c + one_if (is_closer r)) (run ++ later)

    by : (b : Bool) → cond b ([] ∷ split_from comma (Some r) 0 0 (run ++ later)) (onto r S) ≡ (r ∷ run) ∷ ys → (S ≡ run ∷ ys → begins_punct_or_ends later ≡ true) → begins_punct_or_ends later ≡ true
    by true h on = absurd (empty (heads h))
    by false h on =
        let parts = split_parts (Some r) (o + one_if (is_opener r)) (c + one_if (is_closer r)) (run ++ later) in
        let both = sym (ap (λ (l : List (List Terminal)). onto r l) parts.both) ∙ h in
        let f = rest (heads both) in let g = rests both in
        on (parts.both ∙ (λ i. f i ∷ g i))

none_left : (u : Terminal) (p run : List Terminal) → p ++ (u ∷ run) ≡ [] → ⊥
none_left u [] run e = cc
none_left u (x ∷ p) run e = cc

-- So it is in a part that begins with p, where the list before the run ends with p.
part_then : (e : Option Terminal) (o c : ℕ) (earlier : List Terminal) (xs : List (List Terminal)) (p : List Terminal) (u : Terminal) (run later : List Terminal) (ys : List (List Terminal)) →
    split_from comma e o c earlier ≡ xs ++ p ∷ [] → split_from comma e o c (earlier ++ ((u ∷ run) ++ later)) ≡ xs ++ (p ++ (u ∷ run)) ∷ ys → begins_punct_or_ends later ≡ true
unfolding comma
part_then e o c [] [] p u run later ys g h = run_ends e o c (u ∷ run) later ys (h ∙ ap (λ (l : List Terminal). (l ++ (u ∷ run)) ∷ ys) (sym (heads g)))
part_then e o c [] (x ∷ xs) p u run later ys g h = absurd (no_lists xs p [] (rests g))
part_then e o c (t ∷ ts) xs p u run later ys g h =
    by (o == c && is_comma_symbol t.symbol) xs p g h
    (λ us v g h. part_then (Some t) 0 0 ts us v u run later ys g h)
    (λ us v g h. part_then (Some t) (o + one_if (is_opener t)) (c + one_if (is_closer t)) ts us v u run later ys g h)
  where
    all : List Terminal
    all = ts ++ ((u ∷ run) ++ later)

    S : List (List Terminal)
    S = split_from comma (Some t) (o + one_if (is_opener t)) (c + one_if (is_closer t)) ts

    T : List (List Terminal)
    T = split_from comma (Some t) (o + one_if (is_opener t)) (c + one_if (is_closer t)) all

    further : (f f' : List Terminal) (p : List Terminal) → t ∷ f ≡ p → t ∷ f' ≡ p ++ (u ∷ run) → f' ≡ f ++ (u ∷ run)
    further f f' p q h = rest (h ∙ ap (λ (l : List Terminal). l ++ (u ∷ run)) (sym q))

    by : (b : Bool) (xs : List (List Terminal)) (p : List Terminal) → cond b ([] ∷ split_from comma (Some t) 0 0 ts) (onto t S) ≡ xs ++ p ∷ [] →
        cond b ([] ∷ split_from comma (Some t) 0 0 all) (onto t T) ≡ xs ++ (p ++ (u ∷ run)) ∷ ys →
        ((us : List (List Terminal)) (v : List Terminal) → split_from comma (Some t) 0 0 ts ≡ us ++ v ∷ [] → split_from comma (Some t) 0 0 all ≡ us ++ (v ++ (u ∷ run)) ∷ ys → begins_punct_or_ends later ≡ true) →
        ((us : List (List Terminal)) (v : List Terminal) → S ≡ us ++ v ∷ [] → T ≡ us ++ (v ++ (u ∷ run)) ∷ ys → begins_punct_or_ends later ≡ true) → begins_punct_or_ends later ≡ true
    by true [] p g h cut on =
        let parts = split_parts (Some t) 0 0 ts in
        absurd (no_lists [] parts.first parts.rest (sym (rests g) ∙ parts.both))
    by true (x ∷ xs) p g h cut on = cut xs p (rests g) (rests h)
    by false [] p g h cut on =
        let a = split_parts (Some t) (o + one_if (is_opener t)) (c + one_if (is_closer t)) ts in
        let b = split_parts (Some t) (o + one_if (is_opener t)) (c + one_if (is_closer t)) all in
        let g' = sym (ap (λ (l : List (List Terminal)). onto t l) a.both) ∙ g in
        let h' = sym (ap (λ (l : List (List Terminal)). onto t l) b.both) ∙ h in
        let more = further a.first b.first p (heads g') (heads h') in
        let none = rests g' in let same = rests h' in
        on [] a.first (a.both ∙ (λ i. a.first ∷ none i)) (b.both ∙ (λ i. more i ∷ same i))
    by false (x ∷ xs) p g h cut on =
        let a = split_parts (Some t) (o + one_if (is_opener t)) (c + one_if (is_closer t)) ts in
        let b = split_parts (Some t) (o + one_if (is_opener t)) (c + one_if (is_closer t)) all in
        let g' = sym (ap (λ (l : List (List Terminal)). onto t l) a.both) ∙ g in
        let h' = sym (ap (λ (l : List (List Terminal)). onto t l) b.both) ∙ h in
        let more = rest (heads h' ∙ sym (heads g')) in
        let left = rests g' in let same = rests h' in
        on (a.first ∷ xs) p (a.both ∙ (λ i. a.first ∷ left i)) (b.both ∙ (λ i. more i ∷ same i))

part_is_followed : (earlier : List Terminal) (xs : List (List Terminal)) (p : List Terminal) (u : Terminal) (run later : List Terminal) (ys : List (List Terminal)) →
    split comma earlier ≡ xs ++ p ∷ [] → split comma (earlier ++ ((u ∷ run) ++ later)) ≡ xs ++ (p ++ (u ∷ run)) ∷ ys → begins_punct_or_ends later ≡ true
unfolding split
part_is_followed earlier xs p u run later ys g h = part_then None 0 0 earlier xs p u run later ys g h

-- ---- one of several actions

module _ {X A : Type 0} (f : X → Option A) where
  pub record FirstOf (x : X) (others : List X) (all : List A) : Type 0 where
    pub one : A
    pub rest : List A
    pub here : f x ≡ Some one
    pub there : all_of f others ≡ Some rest
    pub both : all ≡ one ∷ rest

  pub first_of : (x : X) (others : List X) (all : List A) → all_of f (x ∷ others) ≡ Some all → FirstOf x others all
  first_of x others all e = by (f x) (all_of f others) refl refl e
    where
      by : (a : Option A) (r : Option (List A)) → f x ≡ a → all_of f others ≡ r → and_others a r ≡ Some all → FirstOf x others all
      by None r p q e = cc
      by (Some a) None p q e = cc
      by (Some a) (Some rest) p q e = record { one = a; rest = rest; here = p; there = q; both = cc }

  pub both_of : (x : X) (others : List X) (a : A) (rest : List A) → f x ≡ Some a → all_of f others ≡ Some rest → all_of f (x ∷ others) ≡ Some (a ∷ rest)
  both_of x others a rest p q = λ i. and_others (p i) (q i)

record PieceAt (f : List Terminal → Option Action) (ss : List (List Terminal)) (before : List Action) (a : Action) (after : List Action) : Type 0 where
  pub earlier : List (List Terminal)
  pub here : List Terminal
  pub later : List (List Terminal)
  pub parts : ss ≡ earlier ++ here ∷ later
  pub is : f here ≡ Some a
  pub becomes : (us : List Terminal) (b : Action) → f us ≡ Some b → all_of f (earlier ++ us ∷ later) ≡ Some (before ++ b ∷ after)

pub acts_first : {x y : Action} {us vs : List Action} → x ∷ us ≡ y ∷ vs → x ≡ y
acts_first e = cc

pub acts_rest : {x y : Action} {us vs : List Action} → x ∷ us ≡ y ∷ vs → us ≡ vs
acts_rest e = cc

abbrev some_acts : List Action → Option (List Action)
some_acts as' = Some as'

piece_at : (f : List Terminal → Option Action) (ss : List (List Terminal)) (before : List Action) (a : Action) (after : List Action) → all_of f ss ≡ Some (before ++ a ∷ after) → PieceAt f ss before a after
piece_at f [] [] a after e = absurd (none (inside e))
  where
    inside : {us vs : List Action} → some_acts us ≡ some_acts vs → us ≡ vs
    inside e = cc

    none : [] ≡ a ∷ after → ⊥
    none e = cc
piece_at f [] (b ∷ before) a after e = absurd (none (inside e))
  where
    inside : {us vs : List Action} → some_acts us ≡ some_acts vs → us ≡ vs
    inside e = cc

    none : [] ≡ b ∷ (before ++ a ∷ after) → ⊥
    none e = cc
piece_at f (s ∷ ss) [] a after e =
    let p = first_of f s ss (a ∷ after) e in
    record {
      earlier = [];
      here = s;
      later = ss;
      parts = refl;
      is = p.here ∙ ap (λ (x : Action). Some x) (sym (acts_first p.both));
      becomes = λ us b h. both_of f us ss b after h (p.there ∙ ap some_acts (sym (acts_rest p.both)));
    }
piece_at f (s ∷ ss) (b ∷ before) a after e =
    let p = first_of f s ss (b ∷ (before ++ a ∷ after)) e in
    let q = piece_at f ss before a after (p.there ∙ ap some_acts (sym (acts_rest p.both))) in
    record {
      earlier = s ∷ q.earlier;
      here = q.here;
      later = q.later;
      parts = ap (λ (x : List (List Terminal)). s ∷ x) q.parts;
      is = q.is;
      becomes = λ us x h. both_of f s (q.earlier ++ us ∷ q.later) b (before ++ x ∷ after) (p.here ∙ ap (λ (x : Action). Some x) (sym (acts_first p.both))) (q.becomes us x h);
    }

-- ---- the statement

-- two terminals and more
record Two (ts : List Terminal) : Type 0 where
  pub t : Terminal
  pub u : Terminal
  pub rest : List Terminal
  pub parts : ts ≡ t ∷ u ∷ rest

two : (ts : List Terminal) → 2 ≤ length ts → Two ts
two [] h = absurd (omega arith)
two (t ∷ []) h = absurd (omega arith)
two (t ∷ u ∷ ts) h = record { t = t; u = u; rest = ts; parts = refl }

to_several : (ts : List Terminal) (r : Option (List Action)) → all_of (action stmt.AlterTable) (split comma ts) ≡ r → several_actions stmt.AlterTable ts ≡ r
unfolding several_actions
to_several ts r e = e

of_several : (ts : List Terminal) (r : Option (List Action)) → several_actions stmt.AlterTable ts ≡ r → all_of (action stmt.AlterTable) (split comma ts) ≡ r
unfolding several_actions
of_several ts r e = e

change_at : (ts : List Terminal) (path : Option Span) (before : List Action) (b : Action) (after : List Action) (shape : AlterShape ts path (before ++ b ∷ after))
    (piece : PieceAt (action stmt.AlterTable) (split comma shape.tail) before b after) (p : List Terminal) (r : Terminal) (run q : List Terminal) →
    piece.here ≡ p ++ ((r ∷ run) ++ q) → is_uncut (r ∷ run) ≡ true → 2 ≤ length p → closed p ≤ opened p → ActionChangesAt ts path before after p (r ∷ run) q
change_at ts path before b after shape piece p r run q h uncut long low =
    let f : List Terminal → Option Action = action stmt.AlterTable in
    let place = part_exchanges shape.tail piece.earlier p r run q piece.later uncut low (piece.parts ∙ ap (λ (l : List Terminal). piece.earlier ++ l ∷ piece.later) h) in
    let there = place.there in
    let end = last_part place.earlier piece.earlier p there.starts in
    let size = ap length end.1 in
    let w = two place.earlier (omega (arith, size, length-append end.0 p)) in
    let tail_is : shape.tail ≡ w.t ∷ w.u ∷ (w.rest ++ ((r ∷ run) ++ place.later)) = place.list ∙ ap (λ (l : List Terminal). l ++ ((r ∷ run) ++ place.later)) w.parts in
    let front = shape.fronts w.t w.u (w.rest ++ ((r ∷ run) ++ place.later)) tail_is in
    record {
      front = front.front ++ w.t ∷ w.u ∷ w.rest;
      tail = place.later;
      earlier = front.front ++ end.0;
      there = ap (λ (l : List Terminal). front.front ++ l) (sym w.parts ∙ end.1) ∙ sym (append_assoc front.front end.0 p);
      parts = front.parts ∙ sym (append_assoc front.front (w.t ∷ w.u ∷ w.rest) ((r ∷ run) ++ place.later));
      becomes = λ x xs c g act.
          let pieces : all_of f (split comma ((w.t ∷ w.u ∷ w.rest) ++ ((x ∷ xs) ++ place.later))) ≡ Some (before ++ c ∷ after) =
          ap (λ (l : List Terminal). all_of f (split comma (l ++ ((x ∷ xs) ++ place.later)))) (sym w.parts)
          ∙ ap (λ (l : List (List Terminal)). all_of f l) (there.cut x xs g)
          ∙ piece.becomes (p ++ ((x ∷ xs) ++ q)) c act in
          ap form_of (append_assoc front.front (w.t ∷ w.u ∷ w.rest) ((x ∷ xs) ++ place.later))
          ∙ front.stays (w.rest ++ ((x ∷ xs) ++ place.later))
          ∙ ap (λ (o : Option (List Action)). with_path path o) (to_several ((w.t ∷ w.u ∷ w.rest) ++ ((x ∷ xs) ++ place.later)) (Some (before ++ c ∷ after)) pieces);
      ends = λ none.
          part_is_followed place.earlier piece.earlier p r run place.later piece.later there.starts
          (there.cut r run uncut ∙ ap (λ (l : List Terminal). piece.earlier ++ (p ++ l) ∷ piece.later) (ap (λ (l : List Terminal). (r ∷ run) ++ l) none ∙ append-nil (r ∷ run)));
    }

-- An action has all its brackets closed, or ends the statement.
action_ends : (ts : List Terminal) (path : Option Span) (actions : List Action) (shape : AlterShape ts path actions) (xs : List (List Terminal)) (p : List Terminal) (ys : List (List Terminal)) →
    split comma shape.tail ≡ xs ++ p ∷ ys → 2 ≤ length p → (opened p ≡ closed p) ⊎ ((front : List Terminal) × (ts ≡ front ++ p))
action_ends ts path actions shape xs p ys h long = elim (part_is_level shape.tail xs p ys h) [
  | inl l ↦ inl l
  | inr e ↦ inr (by e.0 e.1)
]
  where
    by : (q : List Terminal) → shape.tail ≡ q ++ p → (front : List Terminal) × (ts ≡ front ++ p)
    by q e =
        let size = ap length e in
        let w = two shape.tail (omega (arith, size, length-append q p)) in
        let front = shape.fronts w.t w.u w.rest w.parts in
        (front.front ++ q, front.parts ∙ ap (λ (x : List Terminal). front.front ++ x) (sym w.parts ∙ e) ∙ sym (append_assoc front.front q p))

pub action_shows : ActionShows
action_shows ts path before b after e =
    let shape = alter_table_shows ts path (before ++ b ∷ after) e in
    let piece = piece_at (action stmt.AlterTable) (split comma shape.tail) before b after (of_several shape.tail (Some (before ++ b ∷ after)) shape.actions_are) in
    record {
      here = piece.here;
      is = piece.is;
      ends = λ long. action_ends ts path (before ++ b ∷ after) shape piece.earlier piece.here piece.later piece.parts long;
      changes = λ p r run q h uncut long low. change_at ts path before b after shape piece p r run q h uncut long low;
    }
