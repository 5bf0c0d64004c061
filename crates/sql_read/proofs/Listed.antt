-- Where one bracket list is all that follows the path of CREATE TABLE, no mark of its tail is at depth 0.
use Rattle.std.proofs.Common.{◌≡◌, ℕ, suc, ◌+◌, ◌==◌, nat_lt, Bool, true, false, if◌then◌else◌, List, [], ◌∷◌, length, refl, arith, Option, Some, None}
use Rattle.std.proofs.lemmas.Bool.{eqb-true, le-ltb}
use Rattle.sql_tree.specs.sql_keyword.declared.words.Keyword.{Keyword}
use Rattle.sql_tree.specs.sql_keyword.declared.words.TheConstants.Keyword as keyword
use Rattle.sql_token.specs.declared.terminal.Symbol.{Symbol}
use Rattle.sql_token.specs.declared.terminal.Symbol.TheVariants as s
use Rattle.sql_token.specs.declared.terminal.Terminal.{Terminal}
use Rattle.sql_token.specs.Terminal.{is_keyword, is_opener, is_closer}
use Rattle.sql_token.specs.Depth.{one_if, has_keyword, has_keyword_from}
use Rattle.sql_tree.specs.Split.{Test, before, before_from, closing, on_commit_drop}
use Rattle.sql_tree.specs.declared.forms.Captures.{Captures}
use Rattle.sql_tree.specs.declared.kinds.StmtKind.TheVariants.{CreateTable}
use Rattle.sql_tree.specs.Forms.{at}
use Rattle.sql_tree.specs.Groups.{is_empty, is_list, inside_list}
use Rattle.sql_tree.specs.Column.{drops_on_commit, elements, listed}
use Rattle.sql_tree.specs.Statement.{table_kind, table_body}
use Rattle.sql_read.specs.Pushes.{form_with}
use Rattle.sql_read.specs.Table.{table_of}

-- ---- after the opener of the list

word_step : (balanced : Bool) (w : Keyword) (o c n : ℕ) (ts : List Terminal)
    → (if balanced then 1 else suc n) ≡ suc (length ts) → (balanced ≡ false → n ≡ length ts → has_keyword_from w o c ts ≡ false) → has_keyword_from w o c ts ≡ false
word_step true w o c n [] all later = refl
word_step true w o c n (t ∷ ts) all later = absurd (omega (arith, all))
word_step false w o c n ts all later = later refl (omega (arith, all))

word_after : (w : Keyword) (o c : ℕ) (ts : List Terminal) → (o == c) ≡ false → closing o c ts ≡ length ts → has_keyword_from w o c ts ≡ false
word_after w o c [] inside all = refl
word_after w o c (t ∷ ts) inside all =
    rw inside (word_step (o + one_if (is_opener t) == c + one_if (is_closer t)) w _ _ _ ts all
    (word_after w (o + one_if (is_opener t)) (c + one_if (is_closer t)) ts))

mark_step : (balanced : Bool) (mark : Test) (e : Option Terminal) (o c n : ℕ) (ts : List Terminal)
    → (if balanced then 1 else suc n) ≡ suc (length ts) → (balanced ≡ false → n ≡ length ts → before_from mark e o c ts ≡ length ts) → suc (before_from mark e o c ts) ≡ suc (length ts)
mark_step true mark e o c n [] all later = refl
mark_step true mark e o c n (t ∷ ts) all later = absurd (omega (arith, all))
mark_step false mark e o c n ts all later = rw (later refl (omega (arith, all))) refl

mark_after : (mark : Test) (e : Option Terminal) (o c : ℕ) (ts : List Terminal) → (o == c) ≡ false → closing o c ts ≡ length ts → before_from mark e o c ts ≡ length ts
mark_after mark e o c [] inside all = refl
mark_after mark e o c (t ∷ ts) inside all =
    rw inside (mark_step (o + one_if (is_opener t) == c + one_if (is_closer t)) mark _ _ _ _ ts all
    (mark_after mark (Some t) (o + one_if (is_opener t)) (c + one_if (is_closer t)) ts))

-- ---- the list

word_by : (w : Keyword) (y : Symbol) (n : ℕ) (ts : List Terminal) → is_list (record { symbol = y; number = n } ∷ ts) ≡ true → has_keyword w (record { symbol = y; number = n } ∷ ts) ≡ false
unfolding is_list has_keyword is_keyword is_opener is_closer
word_by w s.OpenRound n ts h = word_after w 1 0 ts refl (omega (arith, eqb-true (suc (closing 1 0 ts)) (suc (length ts)) h))
word_by w _ n ts h = cc

pub no_word : (w : Keyword) (ts : List Terminal) → is_list ts ≡ true → has_keyword w ts ≡ false
unfolding is_list
no_word w [] h = cc
no_word w (t ∷ ts) h = word_by w t.symbol t.number ts h

mark_by : (y : Symbol) (n : ℕ) (ts : List Terminal) → is_list (record { symbol = y; number = n } ∷ ts) ≡ true
    → before on_commit_drop (record { symbol = y; number = n } ∷ ts) ≡ suc (length ts)
unfolding is_list before on_commit_drop is_keyword is_opener is_closer
mark_by s.OpenRound n ts h = rw (mark_after on_commit_drop (Some (record { symbol = s.OpenRound; number = n })) 1 0 ts refl (omega (arith, eqb-true (suc (closing 1 0 ts)) (suc (length ts)) h))) refl
mark_by _ n ts h = cc

below_itself : (n : ℕ) → nat_lt n n ≡ false
below_itself n = le-ltb n n (omega arith)

pub no_drop : (ts : List Terminal) → is_list ts ≡ true → drops_on_commit ts ≡ false
unfolding is_list drops_on_commit
no_drop [] h = cc
no_drop (t ∷ ts) h = rw (mark_by t.symbol t.number ts h) (below_itself (suc (length ts)))

-- ---- the statement

same_inside : (a b : List Terminal) → Some a ≡ Some b → a ≡ b
same_inside a b h = cc

listed_by : (b : Bool) (kept : Captures) (tail inside : List Terminal) → is_list tail ≡ b → Some inside ≡ (if b then Some (inside_list tail) else None)
    → form_with (table_kind tail) (table_body (at kept tail)) ≡ form_with CreateTable (table_of kept false (if is_empty inside then [] else listed inside))
unfolding elements
listed_by true kept tail inside is h = rw (no_word keyword.AS tail is, no_drop tail is, same_inside inside (inside_list tail) h) refl
listed_by false kept tail inside is h = cc

-- What is read of a tail that is one list, by what is inside it.
pub listed_table : (kept : Captures) (tail inside : List Terminal) → Some inside ≡ (if is_list tail then Some (inside_list tail) else None)
    → form_with (table_kind tail) (table_body (at kept tail)) ≡ form_with CreateTable (table_of kept false (if is_empty inside then [] else listed inside))
listed_table kept tail inside h = listed_by (is_list tail) kept tail inside refl h
