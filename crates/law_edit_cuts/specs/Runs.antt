-- Runs of terminals that may be exchanged in a list: the brackets of such a run are all closed in it.
use Rattle.std.specs.Prelude.{ℕ, zero, suc, ◌-◌, ◌==◌, nat_le, Bool, false, not, ◌&&◌, if◌then◌else◌, List, [], ◌∷◌}
use Rattle.law_renumber.specs.sql_keyword.declared.words.TheConstants.Keyword as keyword
use Rattle.law_renumber.specs.sql_token.declared.terminal.Terminal.{Terminal}
use Rattle.law_renumber.specs.sql_token.Terminal.{is_opener, is_closer, is_semicolon, is_keyword}
use Rattle.law_renumber.specs.sql_tree.Split.{is_comma_symbol}

-- Where d brackets are open before it: each closer closes one that is open, none is open at the end, and no terminal at
-- which the test passes is outside of the brackets.
abbrev pub is_run_from : (Terminal → Bool) → ℕ → List Terminal → Bool
is_run_from test d [] = d == 0
is_run_from test zero (t ∷ ts) =
    if test t then false
    else (if is_opener t then is_run_from test 1 ts else (if is_closer t then false else is_run_from test 0 ts))
is_run_from test (suc d) (t ∷ ts) =
    if is_opener t then is_run_from test (suc (suc d)) ts
    else (if is_closer t then is_run_from test d ts else is_run_from test (suc d) ts)

abbrev pub nowhere : Terminal → Bool
nowhere t = false

-- closed: as many closers as openers, and at no place more closers than openers before it
abbrev pub is_closed : List Terminal → Bool
is_closed run = is_run_from nowhere 0 run

-- closed, with no `;` outside of its brackets: no statement ends in it (manual 4.1.4: `;` ends a command)
abbrev pub is_neutral : List Terminal → Bool
is_neutral run = is_run_from is_semicolon 0 run

abbrev pub is_comma : Terminal → Bool
is_comma t = is_comma_symbol t.symbol

-- closed, with no comma outside of its brackets: it is in one part of a list that commas separate (manual 4.1.4)
abbrev pub is_uncut : List Terminal → Bool
is_uncut run = is_run_from is_comma 0 run

-- ---- in a sound statement

abbrev pub greater : ℕ → ℕ → ℕ
greater n m = if nat_le n m then m else n

-- how many brackets are open at once, at most, after one that the run opens, where d are open before it
abbrev pub deepest : ℕ → List Terminal → ℕ
deepest d [] = 0
deepest d (t ∷ ts) =
    if is_opener t then greater (suc d) (deepest (suc d) ts)
    else (if is_closer t then deepest (d - 1) ts else deepest d ts)

-- neither of the words BEGIN ATOMIC, which begin the body of an SQL function (manual: CREATE FUNCTION)
abbrev pub begins_no_body : Terminal → Bool
begins_no_body t = not (is_keyword keyword.BEGIN t) && not (is_keyword keyword.ATOMIC t)
