-- The types that one word is, and arrays of it.
use Rattle.std.proofs.Common.{◌≡◌, ℕ, suc, ◌+◌, ◌-◌, Bool, true, false, cond, List, [], ◌∷◌, length, take, refl, ap, ◌∙◌, arith, Option, Some, None}
use Rattle.std.proofs.lemmas.Bool.{false≢true}
use Rattle.std.proofs.lemmas.Bool.Decides.{nat_tests}
use Rattle.std.specs.Prelude.{◌==◌, ◌&&◌, not, nat_lt}
use Rattle.std.specs.Option.{option_and_then}
use Rattle.law_edit_inserts.specs.sql_keyword.Same.{same_keyword}
use Rattle.law_edit_inserts.specs.sql_keyword.declared.words.TheConstants.Keyword as keyword
use Rattle.law_edit_inserts.specs.sql_token.declared.token.Span.{Span}
use Rattle.law_edit_inserts.specs.sql_token.declared.terminal.Symbol.{Symbol}
use Rattle.law_edit_inserts.specs.sql_token.declared.terminal.Symbol.TheVariants as s
use Rattle.law_edit_inserts.specs.sql_token.declared.terminal.Terminal.{Terminal}
use Rattle.law_edit_inserts.specs.sql_token.Terminal.{is_keyword, is_keyword_symbol, is_name, is_opener, is_closer, is_opener_symbol, is_closer_symbol}
use Rattle.law_edit_inserts.specs.sql_token.Depth.{one_if}
use Rattle.law_edit_inserts.specs.sql_tree.declared.nodes.ColType.{ColType}
use Rattle.law_edit_inserts.specs.sql_tree.declared.nodes.TyKind.TheVariants.{Path}
use Rattle.law_edit_inserts.specs.sql_tree.Forms.{either_of}
use Rattle.law_edit_inserts.specs.sql_tree.Groups.{path_first, is_open_square_symbol}
use Rattle.law_edit_inserts.specs.sql_tree.Split.{before, before_from, closing}
use Rattle.law_edit_inserts.specs.sql_tree.ColumnMarks.{is_type_end}
use Rattle.law_edit_inserts.specs.sql_tree.ColumnType.{plain_of, arguments, with_arguments, path_type, plain_type, symbol_type, word_type, no_group, only_groups, before_groups, arrayed, array_of, array_by_groups, ends_with, has_word_array, array_by_word, column_type}
use Rattle.law_edit_types.specs.Runs.{IsTypeSymbol}
use Rattle.law_edit_types.specs.Types.{IsLoose}
use Rattle.law_edit_types.proofs.Runs.{of_type}

-- ---- the word

-- the type that one name is, where no kind of type opens with it
abbrev pub named_type : ℕ → ColType
named_type n = plain_of Path n (record { first = n; last = n }) None false

-- a name that opens no listed type, is not the word ARRAY and ends no type
pub record IsTypeWord (w : Terminal) : Type 0 where
  pub name : is_name w ≡ true
  pub unlisted : (ts rest : List Terminal) → symbol_type w.symbol ts rest ≡ None
  pub array : is_keyword keyword.ARRAY w ≡ false
  pub square : is_open_square_symbol w.symbol ≡ false
  pub end : is_type_end w ≡ false
  pub opener : is_opener w ≡ false
  pub closer : is_closer w ≡ false

pub word_is_type : (w : Terminal) → IsTypeSymbol w.symbol → IsTypeWord w
unfolding is_name is_keyword same_keyword is_opener is_closer word_type
word_is_type w h =
    of_type (λ (x : Symbol). IsTypeWord (record { symbol = x; number = w.number }))
    (record { name = refl; unlisted = λ ts rest. refl; array = refl; square = refl; end = refl; opener = refl; closer = refl })
    (record { name = refl; unlisted = λ ts rest. refl; array = refl; square = refl; end = refl; opener = refl; closer = refl }) w.symbol h

pub word_is_loose : (w : Terminal) → IsTypeSymbol w.symbol → IsLoose w
unfolding is_keyword same_keyword
word_is_loose w h = of_type (λ (x : Symbol). IsLoose (record { symbol = x; number = w.number })) (record { set = refl; by = refl }) (record { set = refl; by = refl }) w.symbol h

path_of_word : (w : Terminal) → is_name w ≡ true → path_type (w ∷ []) ≡ Some (named_type w.number)
unfolding path_type path_first arguments
path_of_word w h = λ i. option_and_then (λ (r : Span × List Terminal). with_arguments Path r.0.last (w ∷ []) r.1) (cond (h i) (Some (record { first = w.number; last = w.number }, [])) None)

pub plain_of_word : (w : Terminal) → IsTypeWord w → plain_type (w ∷ []) ≡ Some (named_type w.number)
unfolding plain_type
plain_of_word w h = let none = h.unlisted (w ∷ []) [] in let path = path_of_word w h.name in λ i. either_of (none i) (path i)

-- ---- bracket groups

-- only groups [ .. ] come next, or nothing
abbrev pub begins_groups : List Terminal → Bool
begins_groups [] = true
begins_groups (t ∷ ts) = only_groups None t ts

pub groups_begin : (e : Option Terminal) (t : Terminal) (ts : List Terminal) → only_groups e t ts ≡ true → begins_groups (t ∷ ts) ≡ true
unfolding only_groups
groups_begin e t ts h = h

some_left : (n : ℕ) → nat_lt 0 (suc n) ≡ true
some_left n = grind (arith, nat_tests)

one_and_more : (n : ℕ) → nat_lt 1 (suc (suc n)) ≡ true
one_and_more n = grind (arith, nat_tests)

no_groups : (e : Option Terminal) (t : Terminal) (ts : List Terminal) → is_open_square_symbol t.symbol ≡ false → only_groups e t ts ≡ false
unfolding only_groups no_group before
no_groups e t ts h =
    let some = some_left (length ts) in
    (λ i. not (nat_lt (cond (not (h i)) 0 (suc (before_from no_group (Some t) (0 + one_if (is_opener t)) (0 + one_if (is_closer t)) ts))) (suc (length ts)))) ∙ (λ i. not (some i))

groups_next : (e : Option Terminal) (ts : List Terminal) → begins_groups ts ≡ true → before_from only_groups e 0 0 ts ≡ 0
unfolding only_groups
groups_next e [] h = refl
groups_next e (t ∷ ts) h = λ i. cond (h i) 0 (suc (before_from only_groups (Some t) (0 + one_if (is_opener t)) (0 + one_if (is_closer t)) ts))

-- a terminal that is no bracket is passed by
passes_one : (e : Option Terminal) (t : Terminal) (ts : List Terminal) → is_open_square_symbol t.symbol ≡ false → is_opener t ≡ false → is_closer t ≡ false →
    before_from only_groups e 0 0 (t ∷ ts) ≡ suc (before_from only_groups (Some t) 0 0 ts)
passes_one e t ts h p q =
    let none = no_groups e t ts h in
    (λ i. cond (none i) 0 (suc (before_from only_groups (Some t) (0 + one_if (is_opener t)) (0 + one_if (is_closer t)) ts)))
    ∙ (λ i. suc (before_from only_groups (Some t) (0 + one_if (p i)) (0 + one_if (q i)) ts))

word_then_groups : (w : Terminal) (ts : List Terminal) → IsTypeWord w → begins_groups ts ≡ true → before_groups (w ∷ ts) ≡ 1
unfolding before_groups before
word_then_groups w ts h g = passes_one None w ts h.square h.opener h.closer ∙ ap suc (groups_next (Some w) ts g)

-- ---- the word alone

by_word_none : (w : Terminal) (ts : List Terminal) → IsTypeWord w → begins_groups ts ≡ true → array_by_word (w ∷ ts) ≡ None
unfolding array_by_word ends_with
by_word_none w ts h g =
    let n = word_then_groups w ts h g in let none = h.array in
    (λ i. cond (has_word_array (w ∷ ts) (n i)) (array_of (w ∷ ts) (take (n i - 1) (w ∷ ts))) None)
    ∙ (λ i. cond (none i && closing 0 0 ts == length ts) (array_of (w ∷ ts) (take (1 - 1) (w ∷ ts))) None)

alone_no_array : (w : Terminal) → IsTypeWord w → array_by_groups (w ∷ []) ≡ None
unfolding array_by_groups
alone_no_array w h = let n = word_then_groups w [] h refl in λ i. cond (nat_lt (n i) 1) (array_of (w ∷ []) (take (n i) (w ∷ []))) None

pub word_alone : (w : Terminal) → IsTypeWord w → column_type (w ∷ []) ≡ Some (named_type w.number)
unfolding column_type
word_alone w h =
    let word = by_word_none w [] h refl in let groups = alone_no_array w h in let plain = plain_of_word w h in
    λ i. either_of (word i) (either_of (groups i) (plain i))

-- ---- arrays of the word

array_of_word : (w : Terminal) (ts : List Terminal) → IsTypeWord w → array_of ts (w ∷ []) ≡ Some (arrayed ts (named_type w.number))
unfolding array_of
array_of_word w ts h = ap (λ (x : Option ColType). option_and_then (λ ty. Some (arrayed ts ty)) x) (plain_of_word w h)

by_groups : (w t : Terminal) (ts : List Terminal) → IsTypeWord w → begins_groups (t ∷ ts) ≡ true → array_by_groups (w ∷ t ∷ ts) ≡ Some (arrayed (w ∷ t ∷ ts) (named_type w.number))
unfolding array_by_groups
by_groups w t ts h g =
    let n = word_then_groups w (t ∷ ts) h g in
    let some = one_and_more (length ts) in
    (λ i. cond (nat_lt (n i) (suc (suc (length ts)))) (array_of (w ∷ t ∷ ts) (take (n i) (w ∷ t ∷ ts))) None)
    ∙ (λ i. cond (some i) (array_of (w ∷ t ∷ ts) (w ∷ [])) None)
    ∙ array_of_word w (w ∷ t ∷ ts) h

-- before groups [ .. ]
pub word_grouped : (w t : Terminal) (ts : List Terminal) → IsTypeWord w → begins_groups (t ∷ ts) ≡ true → column_type (w ∷ t ∷ ts) ≡ Some (arrayed (w ∷ t ∷ ts) (named_type w.number))
unfolding column_type
word_grouped w t ts h g =
    let word = by_word_none w (t ∷ ts) h g in let groups = by_groups w t ts h g in
    λ i. either_of (word i) (either_of (groups i) (plain_type (w ∷ t ∷ ts)))

-- the word ARRAY is no bracket
pub array_symbol : (x : Symbol) → is_keyword_symbol keyword.ARRAY x ≡ true → (is_open_square_symbol x ≡ false) × (is_opener_symbol x ≡ false) × (is_closer_symbol x ≡ false)
array_symbol (s.Keyword w) h = (refl, refl, refl)
array_symbol x h = absurd (false≢true h)

-- before the word ARRAY and a group, or none
pub word_arrayed : (w a : Terminal) (ts : List Terminal) → IsTypeWord w → is_keyword keyword.ARRAY a ≡ true → begins_groups ts ≡ true → (closing 0 0 ts == length ts) ≡ true →
    column_type (w ∷ a ∷ ts) ≡ Some (arrayed (w ∷ a ∷ ts) (named_type w.number))
unfolding column_type array_by_word ends_with before_groups before is_keyword is_opener is_closer
word_arrayed w a ts h array g one =
    let mark = array_symbol a.symbol array in
    let n : before_from only_groups None 0 0 (w ∷ a ∷ ts) ≡ 2 =
    passes_one None w (a ∷ ts) h.square h.opener h.closer ∙ ap suc (passes_one (Some w) a ts mark.0 mark.1 mark.2 ∙ ap suc (groups_next (Some a) ts g)) in
    let found : array_by_word (w ∷ a ∷ ts) ≡ Some (arrayed (w ∷ a ∷ ts) (named_type w.number)) =
    (λ i. cond (has_word_array (w ∷ a ∷ ts) (n i)) (array_of (w ∷ a ∷ ts) (take (n i - 1) (w ∷ a ∷ ts))) None)
    ∙ (λ i. cond (array i && one i) (array_of (w ∷ a ∷ ts) (w ∷ [])) None)
    ∙ array_of_word w (w ∷ a ∷ ts) h in
    λ i. either_of (found i) (either_of (array_by_groups (w ∷ a ∷ ts)) (plain_type (w ∷ a ∷ ts)))
