-- The word CONCURRENTLY in REINDEX.
use Rattle.std.proofs.Common.{◌≡◌, ℕ, suc, ◌+◌, ◌-◌, ◌≤◌, Bool, true, false, cond, List, [], ◌∷◌, ◌++◌, length, take, drop, sym, refl, ap, ◌∙◌, arith, Option, Some, None}
use Rattle.std.proofs.lemmas.Bool.{false≢true}
use Rattle.std.proofs.lemmas.List.{take-append-le, drop_at}
use Rattle.std.specs.Prelude.{◌==◌, ◌||◌}
use Rattle.std.specs.Option.{option_map, option_and_then}
use Rattle.law_edit_cuts.specs.sql_keyword.declared.words.TheConstants.Keyword as keyword
use Rattle.law_edit_cuts.specs.sql_keyword.Same.{same_keyword}
use Rattle.law_edit_cuts.specs.sql_token.declared.token.Span.{Span}
use Rattle.law_edit_cuts.specs.sql_token.declared.terminal.Terminal.{Terminal}
use Rattle.law_edit_cuts.specs.sql_token.Terminal.{is_keyword, is_opener, is_closer}
use Rattle.law_edit_cuts.specs.sql_token.Depth.{one_if}
use Rattle.law_edit_cuts.specs.sql_tree.declared.kinds.StmtKind.{StmtKind}
use Rattle.law_edit_cuts.specs.sql_tree.declared.kinds.StmtKind.TheVariants as stmt
use Rattle.law_edit_cuts.specs.sql_tree.declared.nodes.Body.{Body}
use Rattle.law_edit_cuts.specs.sql_tree.declared.nodes.Body.TheVariants as body
use Rattle.law_edit_cuts.specs.sql_tree.declared.nodes.ReindexTarget.{ReindexTarget}
use Rattle.law_edit_cuts.specs.sql_tree.Forms.{one_word_kind, led_by}
use Rattle.law_edit_cuts.specs.sql_tree.Groups.{inside_list}
use Rattle.law_edit_cuts.specs.sql_tree.Split.{begins_with, begins_list, closing}
use Rattle.law_edit_cuts.specs.sql_tree.Tails.{whole_path, after_options, any_option, after_flag, is_concurrent, is_valued, target_symbol, reindex_object, reindex}
use Rattle.law_edit_cuts.specs.sql_tree.Statement.{final_kind, body_shape_of, body_by, kind_and_body, front_by, from_verb, form_from, form_of}
use Rattle.law_edit_inserts.specs.Concurrently.{key, concurrent_body, concurrent_form, ReindexConcurrently, ReindexOptionsConcurrently}

-- ---- REINDEX

abbrev reindexed : Option Body → Option (StmtKind × Body)
reindexed r = option_and_then (λ b. Some (stmt.Reindex, b)) r

reindex_form : (c : ℕ) (ts : List Terminal) → form_of (key keyword.REINDEX c ∷ ts) ≡ reindexed (reindex ts)
unfolding form_of from_verb form_from front_by led_by one_word_kind kind_and_body body_shape_of final_kind body_by is_keyword same_keyword
reindex_form c ts = refl

reindexed_concurrently : (n : ℕ) (r : Option Body) → reindexed (option_map (concurrent_body n) r) ≡ option_map (concurrent_form n) (reindexed r)
reindexed_concurrently n None = refl
reindexed_concurrently n (Some b) = refl

flag_concurrently : (n : ℕ) (rest : List Terminal) → after_flag keyword.CONCURRENTLY (key keyword.CONCURRENTLY n ∷ rest) ≡ rest
unfolding after_flag is_keyword same_keyword
flag_concurrently n rest = refl

flag_untold : (rest : List Terminal) → begins_with keyword.CONCURRENTLY rest ≡ false → after_flag keyword.CONCURRENTLY rest ≡ rest
unfolding after_flag
flag_untold [] h = refl
flag_untold (t ∷ ts) h = λ i. cond (h i) ts (t ∷ ts)

begins_concurrently : (n : ℕ) (rest : List Terminal) → begins_with keyword.CONCURRENTLY (key keyword.CONCURRENTLY n ∷ rest) ≡ true
unfolding is_keyword same_keyword
begins_concurrently n rest = refl

abbrev object_by : List Terminal → Terminal → Bool → List Terminal → Option ReindexTarget → Option Body
object_by inside t kind_and_body rest found =
    option_and_then (λ found. option_and_then (λ path.
    Some (body.Reindex found t.number (kind_and_body || any_option is_concurrent inside) (any_option is_valued inside) path)) (whole_path rest)) found

object_concurrently : (n : ℕ) (inside : List Terminal) (t : Terminal) (rest : List Terminal) → begins_with keyword.CONCURRENTLY rest ≡ false →
    reindex_object inside (t ∷ key keyword.CONCURRENTLY n ∷ rest) ≡ option_map (concurrent_body n) (reindex_object inside (t ∷ rest))
unfolding reindex_object
object_concurrently n inside t rest h =
    let kind_and_body = begins_concurrently n rest in let flag = flag_concurrently n rest in let plain = flag_untold rest h in
    (λ i. object_by inside t (kind_and_body i) (flag i) (target_symbol t.symbol))
    ∙ by (target_symbol t.symbol) (whole_path rest)
    ∙ (λ i. option_map (concurrent_body n) (object_by inside t (begins_with keyword.CONCURRENTLY rest) (sym plain i) (target_symbol t.symbol)))
  where
    by : (found : Option ReindexTarget) (path : Option (Option Span)) →
        option_and_then (λ found. option_and_then (λ path. Some (body.Reindex found t.number (true || any_option is_concurrent inside) (any_option is_valued inside) path)) path) found
        ≡ option_map (concurrent_body n) (option_and_then (λ found. option_and_then (λ path. Some (body.Reindex found t.number (begins_with keyword.CONCURRENTLY rest || any_option is_concurrent inside) (any_option is_valued inside) path)) path) found)
    by None path = refl
    by (Some f) None = refl
    by (Some f) (Some x) = refl

no_options : (t : Terminal) (ts : List Terminal) → begins_list (t ∷ []) ≡ false → reindex (t ∷ ts) ≡ reindex_object [] (t ∷ ts)
unfolding reindex inside_list after_options
no_options t ts h = λ i. reindex_object (cond (h i) (take (closing 0 0 (t ∷ ts) - 2) ts) []) (cond (h i) (drop (closing 0 0 (t ∷ ts)) (t ∷ ts)) (t ∷ ts))

pub reindex_concurrently : ReindexConcurrently
reindex_concurrently c n target rest plain h =
    reindex_form c (target ∷ key keyword.CONCURRENTLY n ∷ rest)
    ∙ ap reindexed (no_options target (key keyword.CONCURRENTLY n ∷ rest) plain ∙ object_concurrently n [] target rest h ∙ ap (λ (x : Option Body). option_map (concurrent_body n) x) (sym (no_options target rest plain)))
    ∙ reindexed_concurrently n (reindex (target ∷ rest))
    ∙ ap (λ (r : Option (StmtKind × Body)). option_map (concurrent_form n) r) (sym (reindex_form c (target ∷ rest)))

-- ---- options

pub closing_some : (o c : ℕ) (t : Terminal) (ts : List Terminal) → 1 ≤ closing o c (t ∷ ts)
closing_some o c t ts = by (o + one_if (is_opener t) == c + one_if (is_closer t)) (closing (o + one_if (is_opener t)) (c + one_if (is_closer t)) ts)
  where
    by : (b : Bool) (n : ℕ) → 1 ≤ cond b 1 (suc n)
    by true n = omega arith
    by false n = omega arith

-- a bracket list ends where it does, whatever follows
pub closing_same : (o c : ℕ) (x : Terminal) (xs : List Terminal) (y z : Terminal) (ys zs : List Terminal) → closing o c (x ∷ (xs ++ y ∷ ys)) ≡ suc (length xs) → closing o c (x ∷ (xs ++ z ∷ zs)) ≡ suc (length xs)
closing_same o c x [] y z ys zs h = by (o + one_if (is_opener x) == c + one_if (is_closer x)) (closing (o + one_if (is_opener x)) (c + one_if (is_closer x)) (y ∷ ys)) _ (closing_some (o + one_if (is_opener x)) (c + one_if (is_closer x)) y ys) h
  where
    by : (b : Bool) (n m : ℕ) → 1 ≤ n → cond b 1 (suc n) ≡ 1 → cond b 1 (suc m) ≡ 1
    by true n m some e = refl
    by false n m some e = absurd (omega arith)
closing_same o c x (w ∷ xs) y z ys zs h =
    by (o + one_if (is_opener x) == c + one_if (is_closer x)) _ _ (closing_same (o + one_if (is_opener x)) (c + one_if (is_closer x)) w xs y z ys zs) h
  where
    by : (b : Bool) (n m : ℕ) → (n ≡ suc (length xs) → m ≡ suc (length xs)) → cond b 1 (suc n) ≡ suc (suc (length xs)) → cond b 1 (suc m) ≡ suc (suc (length xs))
    by true n m each e = absurd (omega arith)
    by false n m each e = let same = each (omega arith) in omega arith

with_options : (o : Terminal) (os : List Terminal) (t : Terminal) (ts : List Terminal) → begins_list (o ∷ os) ≡ true → closing 0 0 (o ∷ (os ++ t ∷ ts)) ≡ suc (length os) →
    reindex (o ∷ (os ++ t ∷ ts)) ≡ reindex_object (take (suc (length os) - 2) os) (t ∷ ts)
unfolding reindex inside_list after_options
with_options o os t ts h e =
    let inside : take (suc (length os) - 2) (os ++ t ∷ ts) ≡ take (suc (length os) - 2) os = take-append-le (suc (length os) - 2) os (t ∷ ts) (omega arith) in
    let after : drop (length os) (os ++ t ∷ ts) ≡ t ∷ ts = drop_at os (t ∷ ts) (length os) refl in
    (λ i. reindex_object (cond (h i) (take (e i - 2) (os ++ t ∷ ts)) []) (cond (h i) (drop (e i) (o ∷ (os ++ t ∷ ts))) (o ∷ (os ++ t ∷ ts))))
    ∙ (λ i. reindex_object (inside i) (after i))

pub reindex_options_concurrently : ReindexOptionsConcurrently
reindex_options_concurrently c n [] target rest list close h = absurd (false≢true list)
reindex_options_concurrently c n (o ∷ os) target rest list close h =
    let now = closing_same 0 0 o os target target rest (key keyword.CONCURRENTLY n ∷ rest) close in
    reindex_form c (o ∷ (os ++ target ∷ key keyword.CONCURRENTLY n ∷ rest))
    ∙ ap reindexed (with_options o os target (key keyword.CONCURRENTLY n ∷ rest) list now
    ∙ object_concurrently n (take (suc (length os) - 2) os) target rest h
    ∙ ap (λ (x : Option Body). option_map (concurrent_body n) x) (sym (with_options o os target rest list close)))
    ∙ reindexed_concurrently n (reindex (o ∷ (os ++ target ∷ rest)))
    ∙ ap (λ (r : Option (StmtKind × Body)). option_map (concurrent_form n) r) (sym (reindex_form c (o ∷ (os ++ target ∷ rest))))
