-- Lists of terminals, split at marks of depth 0.
-- Depth is counted from the start of the list, by the two counts of openers and closers.
use Rattle.std.specs.Prelude.{◌≡◌, ◌≤◌, ℕ, suc, ◌+◌, ◌==◌, nat_lt, Bool, true, false, not, ◌&&◌, ◌||◌, if◌then◌else◌, List, [], ◌∷◌, length, take, drop, Option, Some, None}
use Rattle.sql_token.specs.sql_keyword.declared.words.Keyword.{Keyword}
use Rattle.sql_token.specs.sql_keyword.declared.words.Keyword.TheVariants as k
use Rattle.sql_token.specs.sql_keyword.declared.words.Verb.TheVariants as verbs
use Rattle.sql_token.specs.sql_keyword.declared.words.Object.TheVariants as objects
use Rattle.sql_token.specs.sql_keyword.declared.words.Other.TheVariants as others
use Rattle.sql_token.specs.sql_keyword.declared.words.TheConstants.Keyword as keyword
use Rattle.sql_token.specs.declared.terminal.Symbol.{Symbol}
use Rattle.sql_token.specs.declared.terminal.Symbol.TheVariants as s
use Rattle.sql_token.specs.declared.terminal.Terminal.{Terminal}
use Rattle.sql_token.specs.Terminal.{is_keyword, is_dot, is_opener, is_closer}
pub use Rattle.sql_token.specs.Chunks.{chunks_after}
unfoldable pub use Rattle.sql_token.specs.Chunks.{chunks}
use Rattle.sql_token.specs.Depth.{one_if, onto}

-- Whether a mark begins at a terminal, known by the terminal before it in the list, itself, and those after it.
abbrev pub Test : Type 0
Test = Option Terminal → Terminal → List Terminal → Bool

-- ---- marks

abbrev pub is_comma_symbol : Symbol → Bool
is_comma_symbol s.Comma = true
is_comma_symbol _ = false

-- ,
unfoldable pub comma : Option Terminal → Terminal → List Terminal → Bool
comma earlier t after = is_comma_symbol t.symbol

abbrev pub begins_with : Keyword → List Terminal → Bool
begins_with w [] = false
begins_with w (t ∷ ts) = is_keyword w t

-- the adjacent words NOT VALID
unfoldable pub not_valid : Option Terminal → Terminal → List Terminal → Bool
not_valid earlier t after = is_keyword keyword.NOT t && begins_with keyword.VALID after

abbrev pub is_as_or_dot : Option Terminal → Bool
is_as_or_dot None = false
is_as_or_dot (Some t) = is_keyword keyword.AS t || is_dot t

-- the word INTO after neither the word AS nor a dot
unfoldable pub into : Option Terminal → Terminal → List Terminal → Bool
into earlier t after = is_keyword keyword.INTO t && not (is_as_or_dot earlier)

abbrev pub is_verb_word : Keyword → Bool
is_verb_word (k.Verb verbs.Select) = true
is_verb_word (k.Verb verbs.Insert) = true
is_verb_word (k.Verb verbs.Update) = true
is_verb_word (k.Verb verbs.Delete) = true
is_verb_word (k.Verb verbs.Merge) = true
is_verb_word (k.Verb verbs.Values) = true
is_verb_word (k.Object objects.Table) = true
is_verb_word _ = false

abbrev pub is_verb_symbol : Symbol → Bool
is_verb_symbol (s.Keyword w) = is_verb_word w
is_verb_symbol _ = false

-- a word that begins what a statement led by WITH does
unfoldable pub verb : Option Terminal → Terminal → List Terminal → Bool
verb earlier t after = is_verb_symbol t.symbol

-- the word GRANT or REVOKE
unfoldable pub privileges : Option Terminal → Terminal → List Terminal → Bool
privileges earlier t after = is_keyword keyword.GRANT t || is_keyword keyword.REVOKE t

-- this key word
unfoldable pub word : Keyword → Option Terminal → Terminal → List Terminal → Bool
word w earlier t after = is_keyword w t

abbrev pub is_operator_symbol : Symbol → Bool
is_operator_symbol s.Star = true
is_operator_symbol s.Equals = true
is_operator_symbol s.EqualsOperator = true
is_operator_symbol s.Operator = true
is_operator_symbol _ = false

abbrev pub is_operator : Terminal → Bool
is_operator t = is_operator_symbol t.symbol || is_keyword keyword.AND t || is_keyword keyword.OR t

-- an operator sign, AND or OR
unfoldable pub operator : Option Terminal → Terminal → List Terminal → Bool
operator earlier t after = is_operator t

abbrev pub is_colon_symbol : Symbol → Bool
is_colon_symbol s.Colon = true
is_colon_symbol _ = false

abbrev pub begins_with_colon : List Terminal → Bool
begins_with_colon [] = false
begins_with_colon (t ∷ ts) = is_colon_symbol t.symbol

abbrev pub is_cast : Terminal → List Terminal → Bool
is_cast t after = is_keyword keyword.COLLATE t || is_colon_symbol t.symbol && begins_with_colon after

-- `::` or COLLATE
unfoldable pub cast : Option Terminal → Terminal → List Terminal → Bool
cast earlier t after = is_cast t after

abbrev pub begins_with_both : Keyword → Keyword → List Terminal → Bool
begins_with_both v w [] = false
begins_with_both v w (t ∷ ts) = is_keyword v t && begins_with w ts

abbrev pub is_on_commit_drop : Terminal → List Terminal → Bool
is_on_commit_drop t after = is_keyword keyword.ON t && begins_with_both keyword.COMMIT keyword.DROP after

-- the adjacent words ON COMMIT DROP
unfoldable pub on_commit_drop : Option Terminal → Terminal → List Terminal → Bool
on_commit_drop earlier t after = is_on_commit_drop t after

-- =
abbrev pub is_equals_symbol : Symbol → Bool
is_equals_symbol s.Equals = true
is_equals_symbol _ = false

unfoldable pub equals : Option Terminal → Terminal → List Terminal → Bool
equals earlier t after = is_equals_symbol t.symbol

-- the words DO UPDATE SET
unfoldable pub do_update_set : Option Terminal → Terminal → List Terminal → Bool
do_update_set earlier t after = is_keyword keyword.DO t && begins_with_both keyword.UPDATE keyword.SET after

-- the words THEN UPDATE SET
unfoldable pub then_update_set : Option Terminal → Terminal → List Terminal → Bool
then_update_set earlier t after = is_keyword keyword.THEN t && begins_with_both keyword.UPDATE keyword.SET after

-- the words THEN INSERT
unfoldable pub then_insert : Option Terminal → Terminal → List Terminal → Bool
then_insert earlier t after = is_keyword keyword.THEN t && begins_with keyword.INSERT after

abbrev pub is_clause_end : Terminal → Bool
is_clause_end t = is_keyword keyword.FROM t || is_keyword keyword.WHERE t || is_keyword keyword.RETURNING t

-- the end of a SET clause: FROM, WHERE or RETURNING
unfoldable pub clause_end : Option Terminal → Terminal → List Terminal → Bool
clause_end earlier t after = is_clause_end t

abbrev pub is_matched : List Terminal → Bool
is_matched after = begins_with keyword.MATCHED after || begins_with_both keyword.NOT keyword.MATCHED after

-- the end of a SET clause of MERGE: the same, or the word WHEN of WHEN MATCHED and WHEN NOT MATCHED
unfoldable pub merge_clause_end : Option Terminal → Terminal → List Terminal → Bool
merge_clause_end earlier t after = is_clause_end t || (is_keyword keyword.WHEN t && is_matched after)

abbrev pub is_target_list_end : Keyword → Bool
is_target_list_end (k.Other others.Into) = true
is_target_list_end (k.Other others.From) = true
is_target_list_end (k.Other others.Where) = true
is_target_list_end (k.Object objects.Group) = true
is_target_list_end (k.Other others.Having) = true
is_target_list_end (k.Other others.Window) = true
is_target_list_end (k.Other others.Union) = true
is_target_list_end (k.Other others.Intersect) = true
is_target_list_end (k.Other others.Except) = true
is_target_list_end (k.Other others.Order) = true
is_target_list_end (k.Other others.Limit) = true
is_target_list_end (k.Other others.Offset) = true
is_target_list_end (k.Verb verbs.Fetch) = true
is_target_list_end (k.Other others.For) = true
is_target_list_end _ = false

abbrev pub ends_targets : Symbol → Bool
ends_targets (s.Keyword w) = is_target_list_end w
ends_targets _ = false

-- the word that ends the targets of a SELECT
unfoldable pub target_list_end : Option Terminal → Terminal → List Terminal → Bool
target_list_end earlier t after = ends_targets t.symbol

-- ---- depth 0

-- How many terminals come before the first mark of depth 0, all where there is none. Before them are there `earlier`,
-- o openers and c closers.
abbrev pub before_from : Test → Option Terminal → ℕ → ℕ → List Terminal → ℕ
before_from mark earlier o c [] = 0
before_from mark earlier o c (t ∷ ts) =
    if o == c && mark earlier t ts then 0
    else suc (before_from mark (Some t) (o + one_if (is_opener t)) (c + one_if (is_closer t)) ts)

unfoldable pub before : Test → List Terminal → ℕ
before mark ts = before_from mark None 0 0 ts

-- whether the mark is at depth 0
abbrev pub has : Test → List Terminal → Bool
has mark ts = nat_lt (before mark ts) (length ts)

-- from the first mark of depth 0 on: nothing where there is none
abbrev pub from_mark : Test → List Terminal → List Terminal
from_mark mark ts = drop (before mark ts) ts

-- The parts between the marks of depth 0.
abbrev pub split_from : Test → Option Terminal → ℕ → ℕ → List Terminal → List (List Terminal)
split_from mark earlier o c [] = [] ∷ []
split_from mark earlier o c (t ∷ ts) =
    if o == c && mark earlier t ts then [] ∷ split_from mark (Some t) 0 0 ts
    else onto t (split_from mark (Some t) (o + one_if (is_opener t)) (c + one_if (is_closer t)) ts)

unfoldable pub split : Test → List Terminal → List (List Terminal)
split mark ts = split_from mark None 0 0 ts

-- ---- chunks

-- Chunks follow one another: the first, where it has a terminal, and those of what follows it.
abbrev pub ChunksFollow : Type 0
ChunksFollow =
    (len : List Terminal → ℕ) (t : Terminal) (ts : List Terminal) → 1 ≤ len (t ∷ ts) →
    chunks len (t ∷ ts) ≡ take (len (t ∷ ts)) (t ∷ ts) ∷ chunks len (drop (len (t ∷ ts)) (t ∷ ts))

-- ---- bracket lists

-- How many terminals come up to where as many closers as openers have come, where o openers and c closers came
-- earlier.
abbrev pub closing : ℕ → ℕ → List Terminal → ℕ
closing o c [] = 0
closing o c (t ∷ ts) =
    if o + one_if (is_opener t) == c + one_if (is_closer t) then 1
    else suc (closing (o + one_if (is_opener t)) (c + one_if (is_closer t)) ts)

abbrev pub is_open_round_symbol : Symbol → Bool
is_open_round_symbol s.OpenRound = true
is_open_round_symbol _ = false

abbrev pub begins_list : List Terminal → Bool
begins_list [] = false
begins_list (t ∷ ts) = is_open_round_symbol t.symbol

-- what follows the bracket list ( .. ) that comes first
unfoldable pub after_list : List Terminal → Option (List Terminal)
after_list ts = if begins_list ts then Some (drop (closing 0 0 ts) ts) else None

-- what comes before the first mark of depth 0
abbrev pub until : Test → List Terminal → List Terminal
until mark ts = take (before mark ts) ts

-- ---- lists

-- the first of a list, and the others
abbrev pub uncons : {A : Type 0} → List A → Option A × List A
uncons [] = (None, [])
uncons (x ∷ xs) = (Some x, xs)

abbrev pub with_first : {A : Type 0} → A → Option (List A) → Option (List A)
with_first x None = None
with_first x (Some xs) = Some (x ∷ xs)

abbrev pub and_others : {A : Type 0} → Option A → Option (List A) → Option (List A)
and_others None others = None
and_others (Some x) others = with_first x others

-- what each of a list gives: None where one gives nothing
abbrev pub all_of : {X A : Type 0} → (X → Option A) → List X → Option (List A)
all_of f [] = Some []
all_of f (x ∷ xs) = and_others (f x) (all_of f xs)
