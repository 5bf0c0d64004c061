-- What follows the lead words of a statement, read from left to right.
use Rattle.std.proofs.Common.{◌≡◌, ◌∙◌, ◌≤◌, ◌&&◌, if◌then◌else◌, cond, ℕ, zero, suc, Bool, true, false, List, [], ◌∷◌, length, map, refl, sym, ap, arith, rules, not, Option, Some, None}
use Rattle.std.specs.Option.{option_and_then}
use denote.Enum.Bare.{same_true}
use Rattle.sql_token.specs.sql_keyword.contracts.words.Verb as verb
use Rattle.sql_token.specs.sql_keyword.contracts.words.Object as object
use Rattle.sql_token.specs.sql_keyword.contracts.words.Other as other
use Rattle.sql_token.specs.sql_keyword.Same.{same_keyword}
use Rattle.sql_token.specs.sql_keyword.declared.words.Keyword.{Keyword}
use Rattle.sql_token.specs.sql_keyword.declared.words.Keyword.TheVariants as k
use Rattle.sql_token.specs.sql_keyword.declared.words.TheConstants.Keyword as keyword
use Rattle.sql_token.specs.declared.token.Span.{Span}
use Rattle.sql_token.specs.declared.terminal.Symbol.{Symbol}
use Rattle.sql_token.specs.declared.terminal.Symbol.TheVariants as s
use Rattle.sql_token.specs.declared.terminal.Terminal.{Terminal}
use Rattle.sql_token.specs.Terminal.{is_keyword, is_keyword_symbol, is_name, is_dot}
use Rattle.sql_tree.specs.declared.nodes.LockMode.{LockMode}
use Rattle.sql_tree.specs.declared.other_forms.TheConstants.{LOCK_MODES}
use Rattle.sql_tree.specs.Forms.{names_end, after_word, after_words, either_of}
use Rattle.sql_tree.specs.Groups.{path_first}
use Rattle.sql_tree.specs.Split.{is_comma_symbol}
use Rattle.sql_tree.specs.Tails.{from_to, path_and_more, paths_after, path_then, paths_from, ends, does_end, is_mode, mode_by, mode_of, after_last, lock_mode}

-- ---- paths

-- the paths, where the names from `first` to `last` of one were read
abbrev pub paths_walk : ℕ → ℕ → List Terminal → List Span
paths_walk first last [] = from_to first last ∷ []
paths_walk first last (d ∷ []) = from_to first last ∷ []
paths_walk first last (d ∷ t ∷ ts) =
    if is_dot d && is_name t then paths_walk first t.number ts
    else (if is_comma_symbol d.symbol && is_name t then from_to first last ∷ paths_walk t.number t.number ts
    else from_to first last ∷ [])

names_shorter : (n : ℕ) (ts : List Terminal) → length (names_end n ts).1 ≤ length ts
names_shorter n [] = omega arith
names_shorter n (d ∷ []) = omega arith
names_shorter n (d ∷ t ∷ ts) = by (is_dot d && is_name t) (names_end t.number ts) (names_shorter t.number ts)
  where
    by : (b : Bool) (e : ℕ × List Terminal) → length e.1 ≤ length ts → length (cond b e (n, d ∷ t ∷ ts)).1 ≤ length (d ∷ t ∷ ts)
    by true e h = omega (arith, h)
    by false e h = omega arith

-- at most n paths, or at most m: both are enough
enough : (n m : ℕ) (ts : List Terminal) → length ts ≤ n → length ts ≤ m → paths_after n ts ≡ paths_after m ts
unfolding path_first
enough zero zero ts h g = refl
enough zero (suc m) [] h g = refl
enough zero (suc m) (d ∷ ts) h g = absurd (omega arith)
enough (suc n) zero [] h g = refl
enough (suc n) zero (d ∷ ts) h g = absurd (omega arith)
enough (suc n) (suc m) [] h g = refl
enough (suc n) (suc m) (d ∷ []) h g = by (is_comma_symbol d.symbol)
  where
    by : (b : Bool) → path_and_more (paths_after n) (cond b None None) ≡ path_and_more (paths_after m) (cond b None None)
    by true = refl
    by false = refl
enough (suc n) (suc m) (d ∷ t ∷ ts) h g =
    let rest : List Terminal = (names_end t.number ts).1 in
    let less = names_shorter t.number ts in
    by (is_comma_symbol d.symbol) (is_name t) (from_to t.number (names_end t.number ts).0) rest (enough n m rest (omega (arith, less, h)) (omega (arith, less, g)))
  where
    by : (b c : Bool) (path : Span) (rest : List Terminal) → paths_after n rest ≡ paths_after m rest →
        path_and_more (paths_after n) (cond b (cond c (Some (path, rest)) None) None) ≡ path_and_more (paths_after m) (cond b (cond c (Some (path, rest)) None) None)
    by true true path rest e = ap (λ more. path ∷ more) e
    by true false path rest e = refl
    by false c path rest e = refl

pub by_paths : (first last : ℕ) (ts : List Terminal) → paths_from first last ts ≡ paths_walk first last ts
unfolding path_first
by_paths first last [] = refl
by_paths first last (d ∷ []) = by (is_comma_symbol d.symbol)
  where
    by : (b : Bool) → from_to first last ∷ path_and_more (paths_after 0) (cond b None None) ≡ from_to first last ∷ []
    by true = refl
    by false = refl
by_paths first last (d ∷ t ∷ ts) =
    under (is_dot d && is_name t)
    ∙ by (is_dot d) (is_name t) (is_comma_symbol d.symbol) (paths_walk first t.number ts) (paths_walk t.number t.number ts) (paths_after (suc (suc (length ts))) (d ∷ t ∷ ts))
    (by_paths first t.number ts)
    (next (is_comma_symbol d.symbol) (is_name t)
    (ap (λ more. from_to t.number (names_end t.number ts).0 ∷ more) (enough (suc (length ts)) (length (names_end t.number ts).1) (names_end t.number ts).1 (omega (arith, names_shorter t.number ts)) (omega arith)) ∙ by_paths t.number t.number ts))
  where
    under : (b : Bool) → path_then first (cond b (names_end t.number ts) (last, d ∷ t ∷ ts))
        ≡ cond b (path_then first (names_end t.number ts)) (from_to first last ∷ paths_after (suc (suc (length ts))) (d ∷ t ∷ ts))
    under true = refl
    under false = refl

    next : (comma name : Bool) {others : List Span} → from_to t.number (names_end t.number ts).0 ∷ paths_after (suc (length ts)) (names_end t.number ts).1 ≡ others →
        path_and_more (paths_after (suc (length ts))) (cond comma (cond name (Some (from_to t.number (names_end t.number ts).0, (names_end t.number ts).1)) None) None)
        ≡ cond (comma && name) others []
    next true true e = e
    next true false e = refl
    next false name e = refl

    by : (dot name comma : Bool) (on others here : List Span) → path_then first (names_end t.number ts) ≡ on → here ≡ cond (comma && name) others [] →
        cond (dot && name) (path_then first (names_end t.number ts)) (from_to first last ∷ here)
        ≡ cond (dot && name) on (cond (comma && name) (from_to first last ∷ others) (from_to first last ∷ []))
    by true true comma on others here h g = h
    by true false true on others here h g = ap (λ more. from_to first last ∷ more) g
    by true false false on others here h g = ap (λ more. from_to first last ∷ more) g
    by false true true on others here h g = ap (λ more. from_to first last ∷ more) g
    by false true false on others here h g = ap (λ more. from_to first last ∷ more) g
    by false false true on others here h g = ap (λ more. from_to first last ∷ more) g
    by false false false on others here h g = ap (λ more. from_to first last ∷ more) g

-- ---- LOCK

-- the mode after the first IN that has one
abbrev pub lock_walk : List Terminal → Option LockMode
lock_walk [] = None
lock_walk (t ∷ ts) = if is_keyword keyword.IN t then either_of (mode_of ts) (lock_walk ts) else lock_walk ts

same_so : (v w : Keyword) → same_keyword v w ≡ true → v ≡ w
unfolding same_keyword
same_so (k.Verb a) (k.Verb b) h = ap k.Verb (same_true verb.the_type (search rules) a b h)
same_so (k.Object a) (k.Object b) h = ap k.Object (same_true object.the_type (search rules) a b h)
same_so (k.Other a) (k.Other b) h = ap k.Other (same_true other.the_type (search rules) a b h)
same_so (k.Verb a) (k.Object b) h = absurd (cc)
same_so (k.Verb a) (k.Other b) h = absurd (cc)
same_so (k.Object a) (k.Verb b) h = absurd (cc)
same_so (k.Object a) (k.Other b) h = absurd (cc)
same_so (k.Other a) (k.Verb b) h = absurd (cc)
same_so (k.Other a) (k.Object b) h = absurd (cc)

other_symbol : (w v : Keyword) (y : Symbol) → same_keyword w v ≡ false → is_keyword_symbol w y ≡ true → is_keyword_symbol v y ≡ false
other_symbol w v (s.Keyword found) h e = ap (λ x. same_keyword x v) (same_so found w e) ∙ h
other_symbol w v _ h e = absurd (cc)

-- one word is no other
other_word : (w v : Keyword) (t : Terminal) → same_keyword w v ≡ false → is_keyword w t ≡ true → is_keyword v t ≡ false
unfolding is_keyword
other_word w v t h e = other_symbol w v t.symbol h e

either_none : {A : Type 0} (o : Option A) → either_of o None ≡ o
either_none None = refl
either_none (Some x) = refl

-- a terminal that is not the word is passed by
last_passed : (v : Keyword) (t : Terminal) (ts : List Terminal) → is_keyword v t ≡ false → after_last v (t ∷ ts) ≡ after_last v ts
last_passed v t ts h = ap (λ b. either_of (after_last v ts) (cond b (Some ts) None)) h ∙ either_none (after_last v ts)

-- none of these words is IN
abbrev are_free : List Keyword → Bool
are_free [] = true
are_free (w ∷ ws) = not (same_keyword w keyword.IN) && are_free ws

both_free : (b c : Bool) → (not b && c) ≡ true → (b ≡ false) × (c ≡ true)
both_free true c h = absurd (cc)
both_free false c h = (refl, h)

words_passed : (ws : List Keyword) (ts rest : List Terminal) → are_free ws ≡ true → after_words ws ts ≡ Some rest → after_last keyword.IN ts ≡ after_last keyword.IN rest
words_passed [] ts rest free h = let same : ts ≡ rest = cc in ap (after_last keyword.IN) same
words_passed (w ∷ ws) [] rest free h = absurd (cc)
words_passed (w ∷ ws) (t ∷ ts) rest free h =
    let are = both_free (same_keyword w keyword.IN) (are_free ws) free in
    by (is_keyword w t) refl h (words_passed ws ts rest are.1) are.0
  where
    by : (b : Bool) → b ≡ is_keyword w t → option_and_then (after_words ws) (cond b (Some ts) None) ≡ Some rest →
        (after_words ws ts ≡ Some rest → after_last keyword.IN ts ≡ after_last keyword.IN rest) → same_keyword w keyword.IN ≡ false →
        after_last keyword.IN (t ∷ ts) ≡ after_last keyword.IN rest
    by true e g more apart = last_passed keyword.IN t ts (other_word w keyword.IN t apart (sym e)) ∙ more g
    by false e g more apart = absurd (cc)

end_passed : (ts : List Terminal) → ends ts ≡ true → after_last keyword.IN ts ≡ None
unfolding same_keyword
end_passed [] h = refl
end_passed (t ∷ []) h = last_passed keyword.IN t [] (other_word keyword.NOWAIT keyword.IN t refl h)
end_passed (t ∷ u ∷ ts) h = absurd (cc)

mode_passed : (ts : List Terminal) → does_end (after_word keyword.MODE ts) ≡ true → after_last keyword.IN ts ≡ None
unfolding same_keyword
mode_passed [] h = absurd (cc)
mode_passed (t ∷ ts) h = by (is_keyword keyword.MODE t) refl h
  where
    by : (b : Bool) → b ≡ is_keyword keyword.MODE t → does_end (cond b (Some ts) None) ≡ true → after_last keyword.IN (t ∷ ts) ≡ None
    by true e g = last_passed keyword.IN t ts (other_word keyword.MODE keyword.IN t refl (sym e)) ∙ end_passed ts g
    by false e g = absurd (cc)

no_in : (ws : List Keyword) (ts : List Terminal) → are_free ws ≡ true → is_mode ws ts ≡ true → after_last keyword.IN ts ≡ None
unfolding is_mode
no_in ws ts free h = by (after_words ws ts) refl h
  where
    by : (o : Option (List Terminal)) → o ≡ after_words ws ts → does_end (option_and_then (after_word keyword.MODE) o) ≡ true → after_last keyword.IN ts ≡ None
    by None e g = absurd (cc)
    by (Some rest) e g = words_passed ws ts rest free (sym e) ∙ mode_passed rest g

abbrev rows_free : List (LockMode × List Keyword) → Bool
rows_free [] = true
rows_free (r ∷ rs) = are_free r.1 && rows_free rs

both_true : (b c : Bool) → (b && c) ≡ true → (b ≡ true) × (c ≡ true)
both_true true c h = (refl, h)
both_true false c h = absurd (cc)

-- where a word IN follows, no mode comes first
none_before : (rows : List (LockMode × List Keyword)) (ts rest : List Terminal) → rows_free rows ≡ true → after_last keyword.IN ts ≡ Some rest → mode_by rows ts ≡ None
none_before [] ts rest free h = refl
none_before (r ∷ rs) ts rest free h =
    let are = both_true (are_free r.1) (rows_free rs) free in
    by (is_mode r.1 ts) refl are.0 (none_before rs ts rest are.1 h)
  where
    by : (b : Bool) → b ≡ is_mode r.1 ts → are_free r.1 ≡ true → mode_by rs ts ≡ None → cond b (Some r.0) (mode_by rs ts) ≡ None
    by true e are more = let none = no_in r.1 ts are (sym e) in absurd (cc)
    by false e are more = more

modes_free : rows_free (map (λ r. (r.0, r.1.now)) LOCK_MODES) ≡ true
unfolding same_keyword
modes_free = refl

mode_before : (ts rest : List Terminal) → after_last keyword.IN ts ≡ Some rest → mode_of ts ≡ None
unfolding mode_of
mode_before ts rest h = none_before (map (λ r. (r.0, r.1.now)) LOCK_MODES) ts rest modes_free h

-- only the last IN can have a mode
pub by_lock : (ts : List Terminal) → lock_mode ts ≡ lock_walk ts
by_lock [] = refl
by_lock (t ∷ ts) = by (after_last keyword.IN ts) refl (is_keyword keyword.IN t) (by_lock ts)
  where
    by : (o : Option (List Terminal)) → o ≡ after_last keyword.IN ts → (b : Bool) → option_and_then mode_of o ≡ lock_walk ts →
        option_and_then mode_of (either_of o (cond b (Some ts) None)) ≡ cond b (either_of (mode_of ts) (lock_walk ts)) (lock_walk ts)
    by None e false h = h
    by None e true h = sym (either_none (mode_of ts)) ∙ ap (either_of (mode_of ts)) h
    by (Some rest) e false h = h
    by (Some rest) e true h = h ∙ ap (λ m. either_of m (lock_walk ts)) (sym (mode_before ts rest (sym e)))
