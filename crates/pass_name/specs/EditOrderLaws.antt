-- The deletions of names in the order of their parts come one after the other.
use Rattle.std.proofs.Common.{◌≡◌, ◌<◌, ◌≤◌, ◌==◌, ℕ, zero, suc, ◌+◌, refl, sym, subst, Bool, true, false, cond, ◌&&◌, Option, Some, None, unwrap_or, List, [], ◌∷◌, ◌++◌, length, take, get_or, map, filter, arith}
use Rattle.std.proofs.lemmas.Bool.Decides.{nat_tests}
use Rattle.std.proofs.lemmas.List.Elements.{All-append, All-cons, All-drop, All-filter, All-head, All-nil, All-tail, All-take}
use Rattle.std.specs.Prelude.{All}
use Rattle.lint_pass.specs.lint_base.declared.edit.Edit.{Edit}
use Rattle.lint_pass.specs.Laws.{AreApart}
use Rattle.lint_pass.specs.RuleLaws.{one_all}
use Rattle.law_renumber.proofs.Ordered.{Up, up_le, up_lower}
use Rattle.sql_token.specs.declared.token.Tok.{Tok}
use Rattle.sql_token.specs.Token.{Text, Leads}
use Rattle.lint_pass.specs.sql_tree.declared.nodes.SetPart.{SetPart}
use Rattle.lint_pass.specs.sql_tree.declared.nodes.Target.{Target}
use Rattle.lint_pass.specs.sql_tree.Range.{token_at}
use Rattle.lint_pass.specs.sql_tree.Statement.{Tree, IsTree, no_token}
use Rattle.pass_name.specs.declared.members.Member.{Member}
use Rattle.pass_name.specs.declared.members.Removable.{Removable}
use Rattle.pass_name.specs.BanDuplicateColumnAssignments.{after_comma, between, deletion_end, deletion_of, deletions_of, first_comment, is_comma, is_comment}
use Rattle.pass_name.specs.Members.{assigned, assigned_in, removable}
use Rattle.pass_name.specs.SetOrder.{part_starts}
use Rattle.pass_name.specs.EditOrder.{InPairs, FollowsBy, Follows, InOrder, StartsBy, EndsBefore, edits_by}

module _ {A : Type 0} (R : A → A → Type 0) where
  pub pairs-filter : (p : A → Bool) (xs : List A) → InPairs R xs → InPairs R (filter p xs)
  pairs-filter p [] h = tt
  pairs-filter p (x ∷ xs) h =
      elim (p x) as (λ (b : Bool). InPairs R (cond b (x ∷ filter p xs) (filter p xs))) [ true ↦ (All-filter p (R x) xs h.0, pairs-filter p xs h.1) | false ↦ pairs-filter p xs h.1 ]

  pub pairs-take : (n : ℕ) (xs : List A) → InPairs R xs → InPairs R (take n xs)
  pairs-take zero xs h = tt
  pairs-take (suc n) [] h = tt
  pairs-take (suc n) (x ∷ xs) h = (All-take (R x) n xs h.0, pairs-take n xs h.1)

  pub pairs-append : (xs ys : List A) → InPairs R xs → InPairs R ys → All (λ x. All (R x) ys) xs → InPairs R (xs ++ ys)
  pairs-append [] ys h g c = g
  pairs-append (x ∷ xs) ys h g c =
      (All-append (R x) xs ys h.0 (All-head (λ (x : A). All (R x) ys) x xs c), pairs-append xs ys h.1 g (All-tail (λ (x : A). All (R x) ys) x xs c))

pub map_all : {X Y : Type 0} (P : Y → Type 0) (f : X → Y) (xs : List X) → ((x : X) → P (f x)) → All P (map f xs)
map_all P f [] h = All-nil P
map_all P f (x ∷ xs) h = All-cons P (f x) (map f xs) (h x) (map_all P f xs h)

pub any_all : {A : Type 0} (P : A → Type 0) (xs : List A) → ((x : A) → P x) → All P xs
any_all P [] h = All-nil P
any_all P (x ∷ xs) h = All-cons P x xs (h x) (any_all P xs h)

-- names without parts
none_pairs : (count : ℕ) (ms : List Member) → All (λ m. m.part ≡ None) ms → InPairs (Follows count) ms
none_pairs count [] h = tt
none_pairs count (m ∷ ms) h =
    let e : m.part ≡ None = All-head (λ (m : Member). m.part ≡ None) m ms h in
    (any_all (Follows count m) ms (λ n. subst (λ (o : Option Removable). FollowsBy count o n.part) (sym e) tt), none_pairs count ms (All-tail (λ (m : Member). m.part ≡ None) m ms h))

one_pairs : (count : ℕ) (o : Option Removable) (ts : List Target) → length ts ≤ 1 → InPairs (Follows count) (map (assigned_in o) ts)
one_pairs count o [] h = tt
one_pairs count o (t ∷ []) h = (All-nil (Follows count (assigned_in o t)), tt)
one_pairs count o (t ∷ u ∷ ts) h = absurd (omega arith)

-- a part follows another where it begins no sooner than the part after that one
removable_follows : (count : ℕ) (r : Removable) (q : SetPart) (later : List SetPart) → r.first ≤ r.next → r.next ≤ q.first → q.first < count → FollowsBy count (Some r) (removable q later)
removable_follows count r q [] a b c = tt
removable_follows count r q (next ∷ later) a b c =
    elim (q.single && length q.targets == 1) as (λ (s : Bool). FollowsBy count (Some r) (cond s (Some (record { first = q.first; last = q.last; next = next.first })) None)) [ true ↦ (a, b, c) | false ↦ tt ]

later_follow : (count : ℕ) (r : Removable) (parts : List SetPart) → r.first ≤ r.next → Up r.next (part_starts parts) count → All (λ n. FollowsBy count (Some r) n.part) (assigned parts)
unfolding assigned
later_follow count r [] a h = All-nil (λ (n : Member). FollowsBy count (Some r) n.part)
later_follow count r (q ∷ later) a h =
    let within = up_le (suc q.first) (part_starts later) count h.1 in
    All-append (λ (n : Member). FollowsBy count (Some r) n.part) (map (assigned_in (removable q later)) q.targets) (assigned later)
    (map_all (λ (n : Member). FollowsBy count (Some r) n.part) (assigned_in (removable q later)) q.targets (λ t. removable_follows count r q later a h.0 (omega (arith, within))))
    (later_follow count r later a (up_lower r.next (suc q.first) (part_starts later) count (omega (arith, h.0)) h.1))

-- the names of a part that stays, and those after it
kept_pairs : (count : ℕ) (ts : List Target) (ms : List Member) → InPairs (Follows count) ms → InPairs (Follows count) (map (assigned_in None) ts ++ ms)
kept_pairs count ts ms ih =
    pairs-append (Follows count) (map (assigned_in None) ts) ms
    (none_pairs count (map (assigned_in None) ts) (map_all (λ (m : Member). m.part ≡ None) (assigned_in None) ts (λ t. refl))) ih
    (map_all (λ (m : Member). All (Follows count m) ms) (assigned_in None) ts (λ t. any_all (Follows count (assigned_in None t)) ms (λ n. tt)))

-- the one name of a part that can be deleted, and those after it
removed_pairs : (count : ℕ) (r : Removable) (ts : List Target) (later : List SetPart) → length ts ≤ 1 → r.first ≤ r.next → Up r.next (part_starts later) count → InPairs (Follows count) (assigned later)
    → InPairs (Follows count) (map (assigned_in (Some r)) ts ++ assigned later)
removed_pairs count r ts later one forward up ih =
    pairs-append (Follows count) (map (assigned_in (Some r)) ts) (assigned later) (one_pairs count (Some r) ts one) ih
    (map_all (λ (m : Member). All (Follows count m) (assigned later)) (assigned_in (Some r)) ts (λ t. later_follow count r later forward up))

is_one : (a : Bool) (n : ℕ) → (a && n == 1) ≡ true → n ≤ 1
is_one true n e = grind (arith, nat_tests)
is_one false n e = absurd (cc)

part_pairs : (count lo : ℕ) (q : SetPart) (later : List SetPart) → Up lo (part_starts (q ∷ later)) count → InPairs (Follows count) (assigned later)
    → InPairs (Follows count) (map (assigned_in (removable q later)) q.targets ++ assigned later)
part_pairs count lo q [] up ih = kept_pairs count q.targets (assigned []) ih
part_pairs count lo q (next ∷ later) up ih = by (q.single && length q.targets == 1) refl
  where
    by : (b : Bool) → (q.single && length q.targets == 1) ≡ b
        → InPairs (Follows count) (map (assigned_in (cond b (Some (record { first = q.first; last = q.last; next = next.first })) None)) q.targets ++ assigned (next ∷ later))
    by true e =
        removed_pairs count (record { first = q.first; last = q.last; next = next.first }) q.targets (next ∷ later) (is_one q.single (length q.targets) e)
        (let after = up.1.0 in omega (arith, after)) (omega arith, up.1.1) ih
    by false e = kept_pairs count q.targets (assigned (next ∷ later)) ih

-- the names of a clause whose parts ascend
pub clause_pairs : (count lo : ℕ) (parts : List SetPart) → Up lo (part_starts parts) count → InPairs (Follows count) (assigned parts)
unfolding assigned
clause_pairs count lo [] up = tt
clause_pairs count lo (q ∷ later) up = part_pairs count lo q later up (clause_pairs count (suc q.first) later up.1)

pub unset_pairs : (tree : Tree) (ms : List Member) → All (λ m. m.part ≡ None) ms → InOrder tree ms
unset_pairs tree ms h = none_pairs (length tree.toks) ms h

-- ---- tokens

leads_start : (t : Text) (a b : ℕ) (ks : List Tok) (i : ℕ) (d : Tok) → Leads t a ks b → i < length ks → (a ≤ (get_or ks i d).start) × ((get_or ks i d).start < (get_or ks i d).end)
leads_start t a b [] i d lead h = absurd (omega arith)
leads_start t a b (k ∷ ks) zero d lead h = let before = lead.1.before in (omega (arith, lead.0), omega (arith, lead.0))
leads_start t a b (k ∷ ks) (suc i) d lead h =
    let before = lead.1.before in
    let rest = leads_start t k.end b ks i d lead.2 (omega arith) in
    (omega (arith, rest.0), rest.1)

-- a token begins no sooner than an earlier one
starts_ascend : (t : Text) (a b : ℕ) (ks : List Tok) (i j : ℕ) (d e : Tok) → Leads t a ks b → i ≤ j → j < length ks → (get_or ks i d).start ≤ (get_or ks j e).start
starts_ascend t a b [] i j d e lead le h = absurd (omega arith)
starts_ascend t a b (k ∷ ks) zero zero d e lead le h = omega arith
starts_ascend t a b (k ∷ ks) zero (suc j) d e lead le h =
    let before = lead.1.before in
    let rest = leads_start t k.end b ks j e lead.2 (omega arith) in
    omega (arith, lead.0, rest.0)
starts_ascend t a b (k ∷ ks) (suc i) zero d e lead le h = absurd (omega arith)
starts_ascend t a b (k ∷ ks) (suc i) (suc j) d e lead le h = starts_ascend t k.end b ks i j d e lead.2 (omega arith) (omega arith)

after_comma-by : (place : ℕ) (text : Text) (ts : List Tok) → All (StartsBy place) ts → All (StartsBy place) (after_comma text ts)
unfolding after_comma
after_comma-by place text [] h = h
after_comma-by place text (t ∷ ts) h =
    elim (is_comma text t) as (λ (b : Bool). All (StartsBy place) (cond b ts (after_comma text ts))) [
      | true ↦ All-tail (StartsBy place) t ts h
      | false ↦ after_comma-by place text ts (All-tail (StartsBy place) t ts h)
    ]

comment_by : (place : ℕ) (ts : List Tok) (next : ℕ) → All (StartsBy place) ts → next ≤ place → unwrap_or (first_comment ts) next ≤ place
unfolding first_comment
comment_by place [] next h n = n
comment_by place (t ∷ ts) next h n =
    elim (is_comment t.kind) as (λ (b : Bool). unwrap_or (cond b (Some t.start) (first_comment ts)) next ≤ place) [
      | true ↦ All-head (StartsBy place) t ts h
      | false ↦ comment_by place ts next (All-tail (StartsBy place) t ts h) n
    ]

front_by : (t : Text) (a b : ℕ) (ks : List Tok) (n : ℕ) → Leads t a ks b → n < length ks → All (StartsBy (token_at ks n).start) (take n ks)
front_by t a b [] n lead h = absurd (omega arith)
front_by t a b (k ∷ ks) zero lead h = All-nil (StartsBy k.start)
front_by t a b (k ∷ ks) (suc n) lead h =
    All-cons (StartsBy (token_at ks n).start) k (take n ks) (starts_ascend t a b (k ∷ ks) 0 (suc n) no_token no_token lead (omega arith) h) (front_by t k.end b ks n lead.2 (omega arith))

-- each edit ends before the next one begins
next_apart : (es : List Edit) → InPairs EndsBefore es → AreApart es
next_apart [] h = tt
next_apart (e ∷ []) h = tt
next_apart (e ∷ d ∷ es) h = (All-head (EndsBefore e) d es h.0, next_apart (d ∷ es) h.1)

module _ (tree : Tree) (tree_is : IsTree tree) where
  -- the tokens before a token begin no later
  before_by : (n : ℕ) → n < length tree.toks → All (StartsBy (token_at tree.toks n).start) (take n tree.toks)
  before_by n h = front_by tree.text 0 (length tree.text) tree.toks n tree_is.lexed h

  deletion_before : (r s : Removable) → r.first ≤ r.next → r.next ≤ s.first → s.first < length tree.toks → EndsBefore (deletion_of tree r) (deletion_of tree s)
  unfolding deletion_of
  deletion_before r s forward later within =
      let start : (token_at tree.toks r.first).start ≤ (token_at tree.toks s.first).start = starts_ascend tree.text 0 (length tree.text) tree.toks r.first s.first no_token no_token tree_is.lexed (omega arith) within in
      let next : (token_at tree.toks r.next).start ≤ (token_at tree.toks s.first).start = starts_ascend tree.text 0 (length tree.text) tree.toks r.next s.first no_token no_token tree_is.lexed later within in
      let inside : All (StartsBy (token_at tree.toks r.next).start) (between tree r) = All-drop (StartsBy (token_at tree.toks r.next).start) (r.last + 1) _ (before_by r.next (omega arith)) in
      let end : deletion_end tree r ≤ (token_at tree.toks r.next).start =
      comment_by (token_at tree.toks r.next).start (after_comma tree.text (between tree r)) (token_at tree.toks r.next).start (after_comma-by (token_at tree.toks r.next).start tree.text (between tree r) inside) (omega arith) in
      omega arith

  part_before : (r : Removable) (o : Option Removable) → FollowsBy (length tree.toks) (Some r) o → All (EndsBefore (deletion_of tree r)) (deletions_of tree o)
  part_before r None h = All-nil (EndsBefore (deletion_of tree r))
  part_before r (Some s) h = one_all (EndsBefore (deletion_of tree r)) (deletion_of tree s) (deletion_before r s h.0 h.1 h.2)

  edits_after : (r : Removable) (ms : List Member) → All (λ n. FollowsBy (length tree.toks) (Some r) n.part) ms → All (EndsBefore (deletion_of tree r)) (edits_by tree ms)
  edits_after r [] h = All-nil (EndsBefore (deletion_of tree r))
  edits_after r (m ∷ ms) h =
      All-append (EndsBefore (deletion_of tree r)) (deletions_of tree m.part) (edits_by tree ms)
      (part_before r m.part (All-head (λ (n : Member). FollowsBy (length tree.toks) (Some r) n.part) m ms h))
      (edits_after r ms (All-tail (λ (n : Member). FollowsBy (length tree.toks) (Some r) n.part) m ms h))

  edits_pairs : (ms : List Member) → InPairs (Follows (length tree.toks)) ms → InPairs EndsBefore (edits_by tree ms)
  edits_pairs [] h = tt
  edits_pairs (m ∷ ms) h = by (edits_pairs ms h.1) m.part h.0
    where
      by : InPairs EndsBefore (edits_by tree ms) → (o : Option Removable) → All (λ n. FollowsBy (length tree.toks) o n.part) ms → InPairs EndsBefore (deletions_of tree o ++ edits_by tree ms)
      by ih None g = ih
      by ih (Some r) g = (edits_after r ms g, ih)

  -- the deletions of names in their order
  pub deletions_apart : (ms : List Member) → InOrder tree ms → AreApart (edits_by tree ms)
  deletions_apart ms h = next_apart (edits_by tree ms) (edits_pairs ms h)
