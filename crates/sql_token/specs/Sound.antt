-- A statement is sound where closers match openers in kind, no depth passes 128, the last depth is 0,
-- and it has no Unicode-escaped name and no adjacent words BEGIN ATOMIC at depth 0.
use Rattle.std.specs.Prelude.{ℕ, suc, zero, ◌+◌, ◌==◌, Bool, true, false, not, ◌&&◌, nat_lt, if◌then◌else◌, List, [], ◌∷◌, Option, Some, None}
use Rattle.sql_keyword.specs.declared.words.TheConstants.Keyword as keyword
use Rattle.sql_token.specs.declared.terminal.Terminal.{Terminal}
pub use Rattle.sql_token.specs.Depth.{opened, closed}
use Rattle.sql_token.specs.Terminal.{is_opener, is_closer, is_round, is_unicode_name, is_keyword}

abbrev pub same : Bool → Bool → Bool
same true b = b
same false b = not b

-- The terminals before are given from the last to the first. Counting back, this is the opener that the next closer
-- matches: the last one that is still open. The next d openers are passed by first, since closers after them match them.
abbrev pub partner : ℕ → List Terminal → Option Terminal
partner d [] = None
partner zero (t ∷ earlier) = if is_opener t then Some t else (if is_closer t then partner 1 earlier else partner zero earlier)
partner (suc d) (t ∷ earlier) = if is_opener t then partner d earlier else (if is_closer t then partner (suc (suc d)) earlier else partner (suc d) earlier)

-- a round bracket closes a round one, and a square bracket a square one
abbrev pub matches : Option Terminal → Terminal → Bool
matches None t = false
matches (Some o) t = same (is_round o) (is_round t)

unfoldable pub begins_atomic : Terminal → List Terminal → Bool
begins_atomic t [] = false
begins_atomic t (u ∷ us) = is_keyword keyword.BEGIN t && is_keyword keyword.ATOMIC u

-- whether t may come after the terminals before, and before those after
abbrev pub may_stand : List Terminal → Terminal → List Terminal → Bool
may_stand earlier t ts =
    if is_unicode_name t then false
    else (if is_opener t then nat_lt (opened earlier) (closed earlier + 128)
    else (if is_closer t then matches (partner 0 earlier) t
    else not (opened earlier == closed earlier && begins_atomic t ts)))

abbrev pub sound_from : List Terminal → List Terminal → Bool
sound_from earlier [] = opened earlier == closed earlier
sound_from earlier (t ∷ ts) = if may_stand earlier t ts then sound_from (t ∷ earlier) ts else false

unfoldable pub is_sound : List Terminal → Bool
is_sound ts = sound_from [] ts
