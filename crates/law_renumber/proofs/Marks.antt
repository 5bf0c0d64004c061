-- Marks are at the same places among changed terminals.
use Rattle.std.proofs.Common.{◌≡◌, ℕ, ◌+◌, List, [], ◌∷◌, map, refl, Option, Some, None}
use Rattle.std.specs.Option.{option_map}
use Rattle.std.proofs.lemmas.List.{length-map, take-map, drop-map}
use Rattle.sql_tree.specs.sql_keyword.declared.words.Keyword.{Keyword}
use Rattle.sql_token.specs.declared.terminal.Terminal.{Terminal}
use Rattle.sql_token.specs.Terminal.{is_opener, is_closer}
use Rattle.sql_token.specs.Depth.{one_if, onto}
use Rattle.sql_tree.specs.Split.{Test, comma, not_valid, into, verb, privileges, word, operator, cast, on_commit_drop, equals, do_update_set, then_update_set, then_insert, clause_end, merge_clause_end, target_list_end, begins_with_colon, begins_with_both, is_as_or_dot, begins_with, before_from, before, has, until, from_mark, split_from, split, begins_list, after_list}
use Rattle.law_renumber.specs.Renumber.{ClosingRenumbers}
use Rattle.law_renumber.proofs.Seen as seen
use Rattle.law_renumber.proofs.Seen.{Change, Changes, Blind, changed, comma_sees, verb_sees, equals_sees, targets_end_sees, round_opener_sees}
use Rattle.law_renumber.proofs.Basics.{moves}

-- ---- marks

pub comma_is_blind : Blind comma
unfolding comma
comma_is_blind f earlier t after = comma_sees f t

pub begins_sees : (f : Change) (w : Keyword) (ts : List Terminal) → begins_with w (map (changed f) ts) ≡ begins_with w ts
begins_sees f w [] = refl
begins_sees f w (t ∷ ts) = simp moves

pub not_valid_is_blind : Blind not_valid
unfolding not_valid
not_valid_is_blind f earlier t after = simp (moves, begins_sees)

pub as_or_dot_sees : (f : Change) (earlier : Option Terminal) → is_as_or_dot (option_map (changed f) earlier) ≡ is_as_or_dot earlier
as_or_dot_sees f None = refl
as_or_dot_sees f (Some t) = simp moves

pub into_is_blind : Blind into
unfolding into
into_is_blind f earlier t after = simp (moves, as_or_dot_sees)

pub verb_is_blind : Blind verb
unfolding verb
verb_is_blind f earlier t after = verb_sees f t

pub privileges_is_blind : Blind privileges
unfolding privileges
privileges_is_blind f earlier t after = simp moves

pub word_is_blind : (w : Keyword) → Blind (word w)
unfolding word
word_is_blind w f earlier t after = simp moves

pub operator_is_blind : Blind operator
unfolding operator
operator_is_blind f earlier t after = simp moves

colon_sees : (f : Change) (ts : List Terminal) → begins_with_colon (map (changed f) ts) ≡ begins_with_colon ts
colon_sees f [] = refl
colon_sees f (t ∷ ts) = seen.colon_sees f t

pub cast_is_blind : Blind cast
unfolding cast
cast_is_blind f earlier t after = simp (moves, colon_sees)

both_see : (f : Change) (v w : Keyword) (ts : List Terminal) → begins_with_both v w (map (changed f) ts) ≡ begins_with_both v w ts
both_see f v w [] = refl
both_see f v w (t ∷ ts) = simp (begins_sees f w ts, moves)

pub on_commit_drop_is_blind : Blind on_commit_drop
unfolding on_commit_drop
on_commit_drop_is_blind f earlier t after = simp (moves, both_see)

pub equals_is_blind : Blind equals
unfolding equals
equals_is_blind f earlier t after = equals_sees f t

pub do_update_set_is_blind : Blind do_update_set
unfolding do_update_set
do_update_set_is_blind f earlier t after = simp (moves, both_see)

pub then_update_set_is_blind : Blind then_update_set
unfolding then_update_set
then_update_set_is_blind f earlier t after = simp (moves, both_see)

pub then_insert_is_blind : Blind then_insert
unfolding then_insert
then_insert_is_blind f earlier t after = simp (moves, begins_sees)

pub clause_end_is_blind : Blind clause_end
unfolding clause_end
clause_end_is_blind f earlier t after = simp moves

pub merge_clause_end_is_blind : Blind merge_clause_end
unfolding merge_clause_end
merge_clause_end_is_blind f earlier t after = simp (moves, begins_sees, both_see)

pub target_list_end_is_blind : Blind target_list_end
unfolding target_list_end
target_list_end_is_blind f earlier t after = targets_end_sees f t

-- ---- the first mark of depth 0

pub before_moved : (mark : Test) → Blind mark → (f : Change) (e : Option Terminal) (o c : ℕ) (ts : List Terminal) →
    before_from mark (option_map (changed f) e) o c (map (changed f) ts) ≡ before_from mark e o c ts
before_moved mark blind f e o c [] = refl
before_moved mark blind f e o c (t ∷ ts) =
    simp (moves, blind f e t ts, before_moved mark blind f (Some t) (o + one_if (is_opener t)) (c + one_if (is_closer t)) ts)

pub before_renumbers : (mark : Test) → Blind mark → (f : Change) (ts : List Terminal) → before mark (map (changed f) ts) ≡ before mark ts
unfolding before
before_renumbers mark blind f ts = before_moved mark blind f None 0 0 ts

pub has_moved : (mark : Test) → Blind mark → (f : Change) (ts : List Terminal) → has mark (map (changed f) ts) ≡ has mark ts
has_moved mark blind f ts = simp (before_renumbers mark blind f, length-map)

pub from_mark_moved : (mark : Test) → Blind mark → (f : Change) (ts : List Terminal) →
    from_mark mark (map (changed f) ts) ≡ map (changed f) (from_mark mark ts)
from_mark_moved mark blind f ts = simp (before_renumbers mark blind f, drop-map)

pub until_moved : (mark : Test) → Blind mark → (f : Change) (ts : List Terminal) →
    until mark (map (changed f) ts) ≡ map (changed f) (until mark ts)
until_moved mark blind f ts = simp (before_renumbers mark blind f, take-map)

-- ---- the parts between marks

pub onto_moved : (f : Change) (t : Terminal) (parts : List (List Terminal)) →
    onto (changed f t) (map (map (changed f)) parts) ≡ map (map (changed f)) (onto t parts)
onto_moved f t [] = refl
onto_moved f t (p ∷ ps) = refl

pub split_moved : (mark : Test) → Blind mark → (f : Change) (e : Option Terminal) (o c : ℕ) (ts : List Terminal) →
    split_from mark (option_map (changed f) e) o c (map (changed f) ts) ≡ map (map (changed f)) (split_from mark e o c ts)
split_moved mark blind f e o c [] = refl
split_moved mark blind f e o c (t ∷ ts) =
    simp (
      moves,
      onto_moved,
      blind f e t ts,
      split_moved mark blind f (Some t) 0 0 ts,
      split_moved mark blind f (Some t) (o + one_if (is_opener t)) (c + one_if (is_closer t)) ts,
    )

pub split_renumbers : (mark : Test) → Blind mark → (f : Change) (ts : List Terminal) → split mark (map (changed f) ts) ≡ map (map (changed f)) (split mark ts)
unfolding split
split_renumbers mark blind f ts = split_moved mark blind f None 0 0 ts

-- ---- bracket lists

pub closing_renumbers : Changes ClosingRenumbers
closing_renumbers f o c [] = refl
closing_renumbers f o c (t ∷ ts) = simp (moves, closing_renumbers f (o + one_if (is_opener t)) (c + one_if (is_closer t)) ts)

pub begins_list_sees : (f : Change) (ts : List Terminal) → begins_list (map (changed f) ts) ≡ begins_list ts
begins_list_sees f [] = refl
begins_list_sees f (t ∷ ts) = round_opener_sees f t

pub after_list_moved : (f : Change) (ts : List Terminal) →
    after_list (map (changed f) ts) ≡ option_map (map (changed f)) (after_list ts)
unfolding after_list
after_list_moved f ts = simp (moves, begins_list_sees, closing_renumbers)
