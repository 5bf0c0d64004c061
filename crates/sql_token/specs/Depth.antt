-- Depth, and the statements of a text.
-- The depth at a place is the number of openers before it less that of closers. It is known by the two counts, and is 0
-- where they are equal: so nothing is said of a closer too many.
use Rattle.std.specs.Prelude.{ℕ, zero, suc, ◌+◌, ◌-◌, ◌==◌, Bool, true, false, ◌&&◌, if◌then◌else◌, List, [], ◌∷◌, length, take, slice_index_or}
use Rattle.sql_keyword.specs.declared.words.Keyword.{Keyword}
use Rattle.sql_token.specs.declared.token.Span.{Span}
use Rattle.sql_token.specs.declared.terminal.Symbol.TheVariants as s
use Rattle.sql_token.specs.declared.terminal.Terminal.{Terminal}
use Rattle.sql_token.specs.Chunks.{chunks}
use Rattle.sql_token.specs.Terminal.{is_opener, is_closer, is_semicolon, is_keyword}

-- how many of these terminals open a bracket, and how many close one
abbrev pub opened : List Terminal → ℕ
opened [] = 0
opened (t ∷ ts) = if is_opener t then suc (opened ts) else opened ts

abbrev pub closed : List Terminal → ℕ
closed [] = 0
closed (t ∷ ts) = if is_closer t then suc (closed ts) else closed ts

abbrev pub nothing : Terminal
nothing = record { symbol = s.Other; number = 0 }

-- the place i is at depth 0
abbrev pub is_outside : List Terminal → ℕ → Bool
is_outside ts i = opened (take i ts) == closed (take i ts)

-- a statement may end at the place i: a `;` of depth 0 is there
abbrev pub ends_at : List Terminal → ℕ → Bool
ends_at ts i = is_outside ts i && is_semicolon (slice_index_or ts i nothing)

-- the first place below n at which the test passes, or n where there is none
abbrev pub first_place : (ℕ → Bool) → ℕ → ℕ
first_place test zero = zero
first_place test (suc n) = if test 0 then 0 else suc (first_place (λ i. test (suc i)) n)

-- how many terminals the first statement has: it ends with its first `;` of depth 0, or with the text
abbrev pub first_len : List Terminal → ℕ
first_len ts = suc (first_place (ends_at ts) (length ts))

-- The statements of a text, each with its `;`. The depth is counted anew in each.
unfoldable pub statements : List Terminal → List (List Terminal)
statements ts = chunks first_len ts

-- from the first token of a list to its last one
abbrev pub span_of : List Terminal → Span
span_of ts = record { first = (slice_index_or ts 0 nothing).number; last = (slice_index_or ts (length ts - 1) nothing).number }

-- ---- the same, terminal by terminal, where o openers and c closers came before

abbrev pub one_if : Bool → ℕ
one_if b = if b then 1 else 0

-- t before the first of these lists
abbrev pub onto : Terminal → List (List Terminal) → List (List Terminal)
onto t [] = (t ∷ []) ∷ []
onto t (p ∷ ps) = (t ∷ p) ∷ ps

abbrev pub statements_from : ℕ → ℕ → List Terminal → List (List Terminal)
statements_from o c [] = []
statements_from o c (t ∷ ts) =
    if o == c && is_semicolon t then (t ∷ []) ∷ statements_from 0 0 ts
    else onto t (statements_from (o + one_if (is_opener t)) (c + one_if (is_closer t)) ts)

-- Whether the key word is at depth 0, where o openers and c closers stood earlier.
abbrev pub has_keyword_from : Keyword → ℕ → ℕ → List Terminal → Bool
has_keyword_from w o c [] = false
has_keyword_from w o c (t ∷ ts) =
    if o == c && is_keyword w t then true
    else has_keyword_from w (o + one_if (is_opener t)) (c + one_if (is_closer t)) ts

unfoldable pub has_keyword : Keyword → List Terminal → Bool
has_keyword w ts = has_keyword_from w 0 0 ts
