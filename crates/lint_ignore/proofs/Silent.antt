-- A text that lacks some words has no comment whose body begins with them.
use Rattle.std.proofs.Common.{◌≡◌, ℕ, ◌+◌, ◌≤◌, inl, inr, true, false, List, [], ◌∷◌, ◌++◌, length, get_or, take, length-append, length-take, sym, refl, ap, ◌∙◌, subst, arith, Option, Some, None, IfSome}
use Rattle.std.proofs.lemmas.Bool.{cases_Bool, false≢true}
use Rattle.std.proofs.lemmas.List.{get_or-append-add, get_or_append_left, get_or-take, take-take}
use Rattle.std.proofs.lemmas.List.Elements.{All-head, All-tail, All-weaker, All-from_get_or}
use Rattle.std.proofs.lemmas.List.Folds.{list_any_none}
use Rattle.std.specs.Cmp.Lexicographic.{same_text}
use Rattle.std.specs.List.{cons_option, list_any, starts_with}
use Rattle.std.specs.Option.{is_some, option_and_then}
use Rattle.std.specs.Prelude.{All, bytes_eq, nat_eq, if◌then◌else◌}
use Rattle.std.specs.Str.{IsUtf8}
use Rattle.memchr.specs.Find.{FindsNeedle, OccursAt}
use Rattle.sql_tree.specs.sql_token.declared.token.Tok.{Tok}
use Rattle.sql_tree.specs.sql_token.Token.{Text}
use Rattle.sql_tree.specs.Statement.{Tree, IsTree, no_token}
use Rattle.sql_tree.specs.Range.{token_at}
use Rattle.lint_ignore.specs.declared.ignore.IgnoreKind.{IgnoreKind}
use Rattle.lint_ignore.specs.declared.ignore.IgnoreKind.TheVariants.{File, Line}
use Rattle.lint_ignore.specs.Part.{Part, part_after}
use Rattle.lint_ignore.specs.Comment.{BeginsNoBody, comment_body, disable_text, file_text, ignore_in, is_disable_body, is_disable_comment, line_text}
use Rattle.lint_ignore.specs.Found.{Lists, followed_by, found_from, ignore_comments, all_said}
use Rattle.lint_ignore.proofs.Growth.{followed_by-nothing}
use Rattle.lint_ignore.proofs.Places.{IsPartOf, all_of, body_stands}

-- ---- words at the front of a text

begun_by : (s words : List ℕ) → starts_with nat_eq s words ≡ true → take (length words) s ≡ words
begun_by s words begins = sym (same_text words (take (length words) s) (sym begins))

begun_size : (s words : List ℕ) → take (length words) s ≡ words → length words ≤ length s
begun_size s words front = let size : length (take (length words) s) ≡ length words = ap length front in omega (arith, size, length-take (length words) s)

-- what a part of a text begins with is in the text
occurs_in_whole : (whole front s back words : List ℕ) → whole ≡ front ++ (s ++ back) → starts_with nat_eq s words ≡ true → OccursAt whole words (length front)
occurs_in_whole whole front s back words is begins =
    let cut : take (length words) s ≡ words = begun_by s words begins in
    let within : length words ≤ length s = begun_size s words cut in
    let size : length whole ≡ length front + (length s + length back) = ap length is ∙ (length-append front (s ++ back) ∙ ap (λ (n : ℕ). length front + n) (length-append s back)) in
    record {
      fits = omega (arith, size);
      reads = λ j lt.
          ap (λ (xs : List ℕ). get_or xs (length front + j) 0) is
          ∙ (get_or-append-add front (s ++ back) j 0
          ∙ (get_or_append_left s back 0 j (omega arith) ∙ (sym (get_or-take (length words) s j 0 lt) ∙ ap (λ (xs : List ℕ). get_or xs j 0) cut)));
    }

lacks_in_part : (whole front s back words : List ℕ) → FindsNeedle whole words 0 None → whole ≡ front ++ (s ++ back) → starts_with nat_eq s words ≡ false
lacks_in_part whole front s back words lacks is =
    elim (cases_Bool (starts_with nat_eq s words)) [
      | inl same ↦ let occurs = occurs_in_whole whole front s back words is same in absurd (lacks (length front) (omega arith) (omega (arith, occurs.fits)) occurs)
      | inr other ↦ other
    ]

-- ---- a text without some words

silent_body : (t words : List ℕ) (o : Option Part) → FindsNeedle t words 0 None → IfSome o (IsPartOf (all_of t)) → IfSome o (λ body. starts_with nat_eq body.bytes words ≡ false)
silent_body t words None lacks stands = tt
silent_body t words (Some body) lacks stands = lacks_in_part t stands.front body.bytes stands.back words lacks stands.is

-- none of its tokens is a comment whose body begins with them
silent : (tree : Tree) (words : List ℕ) → IsTree tree → IsUtf8 tree.text → FindsNeedle tree.text words 0 None → All (BeginsNoBody words tree.text) tree.toks
silent tree words is utf8 lacks =
    All-from_get_or (BeginsNoBody words tree.text) tree.toks no_token (λ i within. silent_body tree.text words (comment_body tree.text (token_at tree.toks i)) lacks (body_stands tree i is utf8 within))

-- the same of a search that found nothing
pub silent_where_none : (tree : Tree) (text words : List ℕ) (found : Option ℕ) → IsTree tree → IsUtf8 text → text ≡ tree.text → FindsNeedle text words 0 found → is_some found ≡ false → All (BeginsNoBody words tree.text) tree.toks
silent_where_none tree text words None is utf8 same lacks none =
    silent tree words is (subst IsUtf8 same utf8) (subst (λ (t : List ℕ). FindsNeedle t words 0 None) same lacks)
silent_where_none tree text words (Some at) is utf8 same lacks none = absurd (false≢true (sym none))

-- ---- what such a text does not say

not_disable : (o : Option Part) → IfSome o (λ body. starts_with nat_eq body.bytes disable_text ≡ false) → is_disable_body o ≡ false
not_disable None h = refl
not_disable (Some body) h =
    elim (cases_Bool (bytes_eq body.bytes disable_text)) [
      | inl same ↦
          let is : body.bytes ≡ disable_text = same_text body.bytes disable_text (sym same) in
          let begins : starts_with nat_eq body.bytes disable_text ≡ true = ap (λ (s : List ℕ). starts_with nat_eq s disable_text) is in
          absurd (false≢true (sym h ∙ begins))
      | inr other ↦ other
    ]

-- no comment says that no transaction is to be assumed
pub silent_undisabled : (t : Text) (toks : List Tok) → All (BeginsNoBody disable_text t) toks → list_any (is_disable_comment t) toks ≡ false
silent_undisabled t toks h =
    list_any_none (is_disable_comment t) toks (All-weaker (BeginsNoBody disable_text t) (λ k. is_disable_comment t k ≡ false) (λ k one. not_disable (comment_body t k) one) toks h)

-- the words of a file ignore begin with those of a line ignore
not_file : (s : List ℕ) → starts_with nat_eq s line_text ≡ false → starts_with nat_eq s file_text ≡ false
not_file s h =
    elim (cases_Bool (starts_with nat_eq s file_text)) [
      | inl same ↦
          let front : take 13 s ≡ line_text = sym (take-take 13 18 s (omega arith)) ∙ ap (λ (x : List ℕ). take 13 x) (begun_by s file_text same) in
          let begins : starts_with nat_eq s line_text ≡ true = ap (λ (x : List ℕ). bytes_eq line_text x) front in
          absurd (false≢true (sym h ∙ begins))
      | inr other ↦ other
    ]

not_ignore : (o : Option Part) → IfSome o (λ body. starts_with nat_eq body.bytes line_text ≡ false) → option_and_then ignore_in o ≡ None
not_ignore None h = refl
not_ignore (Some body) h =
    λ i. (if not_file body.bytes h i then Some (part_after (length file_text) body, File)
    else (if h i then Some (part_after (length line_text) body, Line)
    else None))

no_comments : (t : Text) (toks : List Tok) → All (BeginsNoBody line_text t) toks → ignore_comments t toks ≡ []
no_comments t [] h = refl
no_comments t (k ∷ ks) h =
    ap (λ (o : Option (Part × IgnoreKind)). cons_option o (ignore_comments t ks)) (not_ignore (comment_body t k) (All-head (BeginsNoBody line_text t) k ks h))
    ∙ no_comments t ks (All-tail (BeginsNoBody line_text t) k ks h)

-- no ignore comment is found
pub silent_found : (tree : Tree) (old : Lists) (number : ℕ) → All (BeginsNoBody line_text tree.text) tree.toks → old ≡ followed_by old (found_from number tree)
silent_found tree old number h =
    sym (ap (λ (cs : List (Part × IgnoreKind)). followed_by old (all_said number cs)) (no_comments tree.text tree.toks h) ∙ followed_by-nothing old)
