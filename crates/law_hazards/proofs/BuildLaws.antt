-- Builds that are done CONCURRENTLY have time, and invalid indexes are dropped before them, or looked at after them.
use Rattle.std.proofs.Common.{◌≡◌, ◌⊎◌, ◌∙◌, inl, inr, sym, ap, subst, refl, arith, ltb-true, ℕ, zero, suc, ◌+◌, ◌<◌, Bool, true, false, ◌&&◌, ◌||◌, not, cond, List, [], ◌∷◌, codes, drop, filter, length, take, Option, Some, None, Contains, eqb-true, option_and_then, option_map}
use Rattle.std.specs.Prelude.{nat_eq, nat_lt}
use Rattle.std.specs.List.{list_any}
use Rattle.std.specs.Str.{bytes_eq}
use Rattle.std.proofs.lemmas.Bool.{and_parts, and_right, false_from_ne_true, not_from_false, or_cases, or_left, or_parts, or_right, false≢true, true≢false}
use Rattle.std.proofs.lemmas.List.Folds.{Any-from_list_any, list_any-append}
use Rattle.std.proofs.lemmas.Slice.Eq.{bytes_eq-Decides}
use Rattle.law_renumber.specs.sql_keyword.declared.words.TheConstants.Keyword as keyword
use Rattle.law_renumber.specs.sql_keyword.declared.words.Keyword.{Keyword}
use Rattle.law_renumber.specs.sql_token.declared.token.Span.{Span}
use Rattle.law_renumber.specs.sql_token.declared.token.Tok.{Tok}
use Rattle.law_renumber.specs.sql_token.declared.token.TokKind.{TokKind}
use Rattle.law_renumber.specs.sql_token.declared.token.TokKind.TheVariants as kinds
use Rattle.law_renumber.specs.sql_token.Terminal.{is_significant_token}
use Rattle.law_renumber.specs.sql_token.Token.{Text, text_of}
use Rattle.law_renumber.specs.sql_tree.declared.kinds.StmtKind.{StmtKind}
use Rattle.law_renumber.specs.sql_tree.declared.kinds.StmtKind.TheVariants as stmt
use Rattle.law_renumber.specs.sql_tree.declared.nodes.Body.{Body}
use Rattle.law_renumber.specs.sql_tree.declared.nodes.Body.TheVariants as body
use Rattle.law_renumber.specs.sql_tree.declared.nodes.Stmt.{Stmt}
use Rattle.law_renumber.specs.sql_tree.Range.{token_at}
use Rattle.law_renumber.specs.sql_tree.Statement.{Tree}
use Rattle.hazard_find.specs.lint_node.Same.{same_kind}
use Rattle.hazard_find.specs.lint_transaction.Earlier.{concat_below}
use Rattle.hazard_find.specs.lint_transaction.Names.{is_one_name, name_at}
use Rattle.hazard_find.specs.lint_transaction.Transaction.{same_path, stmt_at}
use Rattle.hazard_find.proofs.of_lint_transaction.EarlierLaws.{and_true}
use Rattle.hazard_find.proofs.of_lint_transaction.Paths.{same_so}
use Rattle.hazard_find.specs.hazard_base.declared.hazard.Hazard.TheVariants as hazard
use Rattle.hazard_find.specs.Earlier.{dropped_by, drops, is_dropped, is_dropped_index, is_limited, is_under_timeout, last_cut, lock_timeout, statement_timeout}
use Rattle.hazard_find.specs.Findings.{builds, builds_by}
use Rattle.hazard_find.specs.Guards.{guards, is_guarded, is_look, is_look_kind, keeps, keeps_by, look_of, looks, tokens_show}
use Rattle.hazard_find.specs.Here.{index_by, index_of, one_name}
use Rattle.hazard_find.specs.Laws.{BuildsAreUnlimited, IndexesAreDroppedOrGuarded}
use Rattle.hazard_find.specs.Look.{after_optional, after_words, path_after, path_at, path_from, says, text_at, token_from}
use Rattle.hazard_find.specs.Shown.{bare, shows}
use Rattle.hazard_find.specs.Timeouts.{changes, discards_all, gives_limit, is_bare_zero, is_limit, is_limit_at, is_literal, is_parameter, is_to, is_zero_time, limits, parameter_by, resets, sets, value_after}
use Rattle.law_hazards.specs.Builds.{HasWord, IsConcurrent, IsDroppedFirst, IsLookedAtLater, IsSomeTime, IsTimeout, IsTo, Sets, SetsTime, Unsets}
use Rattle.law_hazards.specs.Builds.{IsConcurrent as way, IsTimeout as which, Unsets as ends}
use Rattle.law_hazards.specs.Laws.{BuildsHaveTime, InvalidIndexesAreSeen}
use Rattle.law_hazards.specs.Tables.{names}
use Rattle.law_hazards.specs.Words.{begin_with, is_key, shown, statement_tokens}
use Rattle.law_hazards.proofs.Nodes.{both_on, kind_is, kind_on, name_on}
use Rattle.law_hazards.proofs.Numbers.{found_below, not_so, reset_between}
use Rattle.law_hazards.proofs.PathLaws.{ends_here}
use Rattle.law_hazards.proofs.Silent.{silent}
use Rattle.law_hazards.proofs.WordLaws.{Reads, begins_so, first_shown, reads, some_shown}

-- ---- builds

is_build : (s : Stmt) → IsConcurrent s → builds s ≡ true
unfolding builds
is_build s (way.builds word mark unique guarded name path has) = ap (builds_by s.kind) has
is_build s (way.drops word guarded paths kind has) = ap (builds_by s.kind) has ∙ both_on (same_kind s.kind stmt.DropIndex) true (kind_on s.kind stmt.DropIndex kind) refl
is_build s (way.rebuilds aim word path has) = ap (builds_by s.kind) has

-- ---- what sets a timeout

-- the first token is the key word that the tokens begin with
key_first : (t : Text) (word : Keyword) (toks : List Tok) → begin_with t (word ∷ []) toks ≡ true → (first : Tok) × (toks ≡ first ∷ drop 1 toks) × (is_key t word first ≡ true)
key_first t word [] h = absurd (false≢true h)
key_first t word (first ∷ toks) h = (first, refl, sym (and_true (is_key t word first)) ∙ h)

module _ (tree : Tree) (name : List ℕ) (s : Stmt) where
  is_set : Sets tree name s → sets tree name s ≡ true
  unfolding sets
  is_set set =
      both_on _ _ (ap (λ b. is_parameter tree name (parameter_by b)) set.sets ∙ name_on tree set.path name set.one_name set.is_name)
      (not_from_false _ (begins_so tree (keyword.SET ∷ keyword.LOCAL ∷ []) s.first s.last ∙ set.not_local))

  is_literal_kind : (kind : TokKind) → (kind ≡ kinds.Str) ⊎ (kind ≡ kinds.Number) → is_literal kind ≡ true
  is_literal_kind kind (inl e) = ap is_literal e
  is_literal_kind kind (inr e) = ap is_literal e

  not_zero : (a b c d e f : Bool) → (a || (b || (c || (d || (e || (f || false)))))) ≡ false → ((a || b || c) || (d || e || f)) ≡ false
  not_zero false false false false false false h = refl
  not_zero true b c d e f h = absurd (true≢false h)
  not_zero false true c d e f h = absurd (true≢false h)
  not_zero false false true d e f h = absurd (true≢false h)
  not_zero false false false true e f h = absurd (true≢false h)
  not_zero false false false false true f h = absurd (true≢false h)
  not_zero false false false false false true h = absurd (true≢false h)

  some_time : (v : ℕ) → IsSomeTime tree.text (token_at tree.toks v) → is_limit_at tree v ≡ true
  unfolding is_limit_at is_bare_zero is_zero_time
  some_time v time =
      let is : List ℕ → Bool = bytes_eq (text_of tree.text (token_at tree.toks v)) in
      both_on _ _ (is_literal_kind (token_at tree.toks v).kind time.is_literal)
      (not_from_false _ (not_zero (is (codes "0")) (is (codes "'0'")) (is (codes "'0ms'")) (is (codes "'0s'")) (is (codes "'0min'")) (is (codes "'0h'")) time.is_some))

  sign_there : (k : ℕ) → IsTo tree.text (token_at tree.toks k) → is_to tree k ≡ true
  sign_there k (inl to) = or_left _ _ to
  sign_there k (inr equals) = or_right _ _ ((bytes_eq-Decides (text_of tree.text (token_at tree.toks k)) (codes "=")).1 equals)

  is_limit_set : SetsTime tree name s → limits tree name s ≡ true
  unfolding gives_limit
  is_limit_set time =
      let path : Span = time.sets.path in
      let n : ℕ = s.last + 1 in
      let sign = first_shown tree n (path.last + 1) time.sign (time.value ∷ time.rest) time.tokens in
      let value = first_shown tree n (sign.number + 1) time.value time.rest sign.is_rest in
      let to : is_to tree sign.number ≡ true = sign_there sign.number (subst (IsTo tree.text) (sym sign.is_token) time.is_to) in
      let at : value_after tree n sign.number ≡ Some value.number = ap (λ b. cond b (token_from tree n (sign.number + 1)) None) to ∙ value.found in
      let given : gives_limit tree n (Some path) ≡ true =
      ap (λ o. is_limit tree (option_and_then (value_after tree n) o)) sign.found
      ∙ (ap (is_limit tree) at ∙ some_time value.number (subst (IsSomeTime tree.text) (sym value.is_token) time.is_time))
      in
      both_on _ _ (is_set time.sets) (ap (λ b. gives_limit tree n (parameter_by b)) time.sets.sets ∙ given)

  -- ---- what ends it

  -- a SET of the parameter
  record IsSetting (b : Body) : Type 0 where
    path : Span
    is_setting : b ≡ body.Setting (Some path)
    is_path : is_one_name tree path name ≡ true

  setting_of : (b : Body) → is_parameter tree name (parameter_by b) ≡ true → IsSetting b
  setting_of (body.Setting (Some path)) h = record { path = path; is_setting = refl; is_path = h }
  setting_of _ h = absurd (false≢true h)

  one_is : (path : Span) → is_one_name tree path name ≡ true → (path.first ≡ path.last) × (name_at tree path.first ≡ name)
  one_is path h =
      let both = and_parts (nat_eq path.first path.last) (bytes_eq name (name_at tree path.first)) h in
      (eqb-true path.first path.last both.0, sym ((bytes_eq-Decides name (name_at tree path.first)).0 both.1))

  set_is : sets tree name s ≡ true → Sets tree name s
  unfolding sets
  set_is h =
      let both = and_parts (is_parameter tree name (parameter_by s.body)) (not (says tree (keyword.SET ∷ keyword.LOCAL ∷ []) s)) h in
      let set = setting_of s.body both.0 in
      let one = one_is set.path set.is_path in
      record {
        path = set.path;
        sets = set.is_setting;
        one_name = one.0;
        is_name = one.1;
        not_local = sym (begins_so tree (keyword.SET ∷ keyword.LOCAL ∷ []) s.first s.last) ∙ not_so _ both.1;
      }

  -- RESET of the parameter
  reset_at : (m k : ℕ) → s.kind ≡ stmt.Reset → Reads tree (s.last + 1) (keyword.RESET ∷ []) s.first (Some m) → token_from tree (s.last + 1) m ≡ Some k
      → is_one_name tree (path_at tree (s.last + 1) k) name ≡ true → Unsets tree name s
  reset_at m k kind read at h =
      let word = key_first tree.text keyword.RESET (statement_tokens tree s) read.0 in
      ends.by_reset word.0 (token_at tree.toks k) (shown tree (k + 1) (s.last + 1)) kind
      (word.1 ∙ ap (λ ts. word.0 ∷ ts) (sym read.1 ∙ (some_shown tree (s.last + 1) m k at).shows)) word.2
      (one_is (path_at tree (s.last + 1) k) h).1 (ends_here tree (s.last + 1) k (one_is (path_at tree (s.last + 1) k) h).0)

  reset_by_token : (m : ℕ) → s.kind ≡ stmt.Reset → Reads tree (s.last + 1) (keyword.RESET ∷ []) s.first (Some m) → (o : Option ℕ) → token_from tree (s.last + 1) m ≡ o
      → is_parameter tree name (option_map (path_at tree (s.last + 1)) o) ≡ true → Unsets tree name s
  reset_by_token m kind read None at h = absurd (false≢true h)
  reset_by_token m kind read (Some k) at h = reset_at m k kind read at h

  reset_by_word : s.kind ≡ stmt.Reset → (o : Option ℕ) → Reads tree (s.last + 1) (keyword.RESET ∷ []) s.first o
      → is_parameter tree name (option_and_then (λ i. path_from tree (s.last + 1) (after_optional tree (s.last + 1) [] i)) o) ≡ true → Unsets tree name s
  unfolding path_from after_optional
  reset_by_word kind None read h = absurd (false≢true h)
  reset_by_word kind (Some m) read h = reset_by_token m kind read (token_from tree (s.last + 1) m) refl h

  reset_is : resets tree name s ≡ true → Unsets tree name s
  unfolding resets path_after
  reset_is h =
      let all : Bool = says tree (keyword.RESET ∷ keyword.ALL ∷ []) s in
      let one : Bool = is_parameter tree name (path_after tree (keyword.RESET ∷ []) [] s) in
      let both = and_parts (same_kind s.kind stmt.Reset) (all || one) h in
      let kind = kind_is s.kind stmt.Reset both.0 in
      elim (or_cases all one both.1) [
        | inl whole ↦ ends.by_reset_all kind (sym (begins_so tree (keyword.RESET ∷ keyword.ALL ∷ []) s.first s.last) ∙ whole)
        | inr named ↦ reset_by_word kind (after_words tree (s.last + 1) (keyword.RESET ∷ []) s.first) (reads tree (s.last + 1) (keyword.RESET ∷ []) s.first) named
      ]

  discard_is : discards_all tree s ≡ true → Unsets tree name s
  unfolding discards_all
  discard_is h =
      let both = and_parts (same_kind s.kind stmt.Discard) (says tree (keyword.DISCARD ∷ keyword.ALL ∷ []) s) h in
      ends.by_discard_all (kind_is s.kind stmt.Discard both.0) (sym (begins_so tree (keyword.DISCARD ∷ keyword.ALL ∷ []) s.first s.last) ∙ both.1)

  unset_is : changes tree name s ≡ true → Unsets tree name s
  unset_is h =
      elim (or_cases (sets tree name s || resets tree name s) (discards_all tree s) h) [
        | inl one ↦
            elim (or_cases (sets tree name s) (resets tree name s) one) [
              | inl set ↦ ends.by_set (set_is set)
              | inr reset ↦ reset_is reset
            ]
        | inr discard ↦ discard_is discard
      ]

not_limited : (tree : Tree) (i : ℕ) (name : List ℕ) → IsTimeout name → is_under_timeout tree i ≡ false → is_limited tree name i ≡ false
unfolding is_under_timeout
not_limited tree i _ which.lock h = (or_parts (is_limited tree lock_timeout i) (is_limited tree statement_timeout i) h).0
not_limited tree i _ which.statement h = (or_parts (is_limited tree lock_timeout i) (is_limited tree statement_timeout i) h).1

pub builds_have_time : BuildsAreUnlimited → BuildsHaveTime
builds_have_time unlimited enabled settings tree quiet i l outside build name j timeout earlier time =
    let free = false_from_ne_true (is_under_timeout tree i)
    (λ under. true≢false
    (sym (is_build (stmt_at tree i) build) ∙ unlimited enabled settings tree (silent hazard.BuildUnderTimeout enabled settings tree quiet) i l under outside))
    in
    let between = reset_between (λ k. limits tree name (stmt_at tree k)) (λ k. changes tree name (stmt_at tree k)) i (not_limited tree i name timeout free) j earlier
    (is_limit_set tree name (stmt_at tree j) time)
    in
    record {
      number = between.0;
      is_later = between.1;
      is_earlier = between.2;
      unsets = unset_is tree name (stmt_at tree between.0) between.3;
    }

-- ---- what is dropped

-- a DROP INDEX IF EXISTS, and a path of it that passes the test
record IsDropOf (p : Span → Bool) (kind : StmtKind) (b : Body) : Type 0 where
  word : ℕ
  concurrently : Bool
  paths : List Span
  path : Span
  is_drop : kind ≡ stmt.DropIndex
  drops_them : b ≡ body.Drop word concurrently true paths
  has_path : Contains paths path
  passes : p path ≡ true

drop_by_kind : (p : Span → Bool) (kind : StmtKind) (word : ℕ) (concurrently : Bool) (paths : List Span) (b : Bool) → same_kind kind stmt.DropIndex ≡ b
    → list_any p (cond (b && true) paths []) ≡ true → IsDropOf p kind (body.Drop word concurrently true paths)
drop_by_kind p kind word concurrently paths true is h =
    let any = Any-from_list_any p paths h in
    record {
      word = word;
      concurrently = concurrently;
      paths = paths;
      path = any.1;
      is_drop = kind_is kind stmt.DropIndex is;
      drops_them = refl;
      has_path = (any.0, any.2, any.3);
      passes = any.4;
    }
drop_by_kind p kind word concurrently paths false is h = absurd (false≢true h)

drop_of : (p : Span → Bool) (kind : StmtKind) (b : Body) → list_any p (dropped_by kind b) ≡ true → IsDropOf p kind b
drop_of p kind (body.Drop word concurrently true paths) h = drop_by_kind p kind word concurrently paths (same_kind kind stmt.DropIndex) refl h
drop_of p kind (body.Drop word concurrently false paths) h =
    absurd (false≢true (sym (ap (λ (b : Bool). list_any p (cond b paths [])) (and_right (same_kind kind stmt.DropIndex) false refl)) ∙ h))
drop_of p kind _ h = absurd (false≢true h)

-- the name of a number, cut
abbrev cut : Tree → ℕ → List (List ℕ)
cut tree number = names tree (record { first = number; last = number })

dropped_first : (tree : Tree) (i number : ℕ) → is_dropped tree (cut tree number) i ≡ true → IsDroppedFirst tree i number
dropped_first tree i number h =
    let f = found_below (λ j. drops tree (cut tree number) (stmt_at tree j)) i h in
    let d = drop_of (λ (path : Span). same_path (cut tree number) (last_cut tree path.last)) (stmt_at tree f.number).kind (stmt_at tree f.number).body f.passes in
    record {
      number = f.number;
      word = d.word;
      concurrently = d.concurrently;
      paths = d.paths;
      path = d.path;
      is_earlier = f.is_below;
      is_drop = d.is_drop;
      drops = d.drops_them;
      has_path = d.has_path;
      same_name = same_so (cut tree number) (cut tree d.path.last) d.passes;
    }

-- ---- what is looked at

first_kept : (b : Bool) (x : Tok) (ys : List Tok) → b ≡ true → Contains (cond b (x ∷ ys) ys) x
first_kept true x ys e = (zero, omega arith, refl)
first_kept false x ys e = absurd (false≢true e)

others_kept : (b : Bool) (x y : Tok) (ys : List Tok) → Contains ys y → Contains (cond b (x ∷ ys) ys) y
others_kept true x y ys (k, l, e) = (suc k, (omega (arith, l)), e)
others_kept false x y ys c = c

-- a token that is kept, and passes the test
record Kept (keep p : Tok → Bool) (toks : List Tok) : Type 0 where
  token : Tok
  is_kept : Contains (filter keep toks) token
  passes : p token ≡ true

kept_of : (keep p : Tok → Bool) (toks : List Tok) → list_any (λ (t : Tok). keep t && p t) toks ≡ true → Kept keep p toks
kept_of keep p [] h = absurd (false≢true h)
kept_of keep p (x ∷ xs) h =
    elim (or_cases (keep x && p x) (list_any (λ (t : Tok). keep t && p t) xs) h) [
      | inl here ↦
          let both = and_parts (keep x) (p x) here in
          record { token = x; is_kept = first_kept (keep x) x (filter keep xs) both.0; passes = both.1 }
      | inr there ↦
          let k = kept_of keep p xs there in
          record { token = k.token; is_kept = others_kept (keep x) x k.token (filter keep xs) k.is_kept; passes = k.passes }
    ]

has_word : (tree : Tree) (s : Stmt) (word : List ℕ) → tokens_show tree word (s.last + 1) s.first ≡ true → HasWord tree s word
unfolding shown
has_word tree s word h =
    let k = kept_of is_significant_token (λ (t : Tok). shows word (text_of tree.text t)) (drop s.first (take (s.last + 1) tree.toks)) h in
    record { token = k.token; is_token = k.is_kept; has_it = k.passes }

-- a number below n whose list has an element that passes the test
record Listed {X : Type 0} (p : X → Bool) (f : ℕ → List X) (n : ℕ) : Type 0 where
  number : ℕ
  is_there : number < n
  passes : list_any p (f number) ≡ true

later : {X : Type 0} (p : X → Bool) (f : ℕ → List X) (n : ℕ) → Listed p f n → Listed p f (suc n)
later p f n found = let l = found.is_there in record { number = found.number; is_there = omega (arith, l); passes = found.passes }

listed_below : {X : Type 0} (p : X → Bool) (f : ℕ → List X) (n : ℕ) → list_any p (concat_below f n) ≡ true → Listed p f n
listed_below p f zero h = absurd (false≢true h)
listed_below p f (suc n) h =
    elim (or_cases (list_any p (concat_below f n)) (list_any p (f n)) (sym (list_any-append p (concat_below f n) (f n)) ∙ h)) [
      | inl earlier ↦ later p f n (listed_below p f n earlier)
      | inr last ↦ record { number = n; is_there = omega arith; passes = last }
    ]

listed_by : {X : Type 0} (p : X → Bool) (f : ℕ → List X) (n : ℕ) (b : Bool) → list_any p (cond b (concat_below f n) []) ≡ true → Listed p f n
listed_by p f n true h = listed_below p f n h
listed_by p f n false h = absurd (false≢true h)

first_of : (a : Bool) → (a || false) ≡ true → a ≡ true
first_of true e = refl
first_of false e = e

listed_one : {X : Type 0} (p : X → Bool) (b : Bool) (x : X) → list_any p (cond b (x ∷ []) []) ≡ true → (b ≡ true) × (p x ≡ true)
listed_one p true x h = (refl, first_of (p x) h)
listed_one p false x h = absurd (false≢true h)

-- a statement that looks, and comes after statement i with the word in it
looks_of : (tree : Tree) (word : List ℕ) (i : ℕ) → list_any (guards tree word i) (looks tree) ≡ true
    → Listed (guards tree word i) (λ k. look_of tree k (stmt_at tree k)) (length tree.stmts)
unfolding looks
looks_of tree word i h = listed_by (guards tree word i) (λ k. look_of tree k (stmt_at tree k)) (length tree.stmts) (list_any keeps tree.stmts) h

look_kind : (kind : StmtKind) → is_look_kind kind ≡ true → (kind ≡ stmt.Do) ⊎ (kind ≡ stmt.Select)
look_kind kind h =
    elim (or_cases (same_kind kind stmt.Do) (same_kind kind stmt.Select) h) [
      | inl code ↦ inl (kind_is kind stmt.Do code)
      | inr query ↦ inr (kind_is kind stmt.Select query)
    ]

looked_at : (tree : Tree) (i name : ℕ) → list_any (guards tree (bare (text_at tree name)) i) (looks tree) ≡ true → IsLookedAtLater tree i name
unfolding is_look
looked_at tree i name h =
    let word = bare (text_at tree name) in
    let f = looks_of tree word i h in
    let s = stmt_at tree f.number in
    let one = listed_one (guards tree word i) (is_look tree s) _ f.passes in
    let is = and_parts (is_look_kind s.kind) (tokens_show tree (codes "indisvalid") (s.last + 1) s.first) one.0 in
    let after = and_parts (nat_lt i f.number) (tokens_show tree word (s.last + 1) s.first) one.1 in
    record {
      number = f.number;
      is_later = ltb-true i f.number after.0;
      is_there = f.is_there;
      is_look = look_kind s.kind is.0;
      has_column = has_word tree s (codes "indisvalid") is.1;
      has_name = has_word tree s word after.1;
    }

seen : (tree : Tree) (i : ℕ) (name : Option ℕ) → (is_dropped_index tree i (one_name name) || is_guarded tree i (one_name name)) ≡ true
    → (number : ℕ) × (name ≡ Some number) × (IsDroppedFirst tree i number ⊎ IsLookedAtLater tree i number)
unfolding is_dropped_index is_guarded
seen tree i None h = absurd (false≢true h)
seen tree i (Some number) h =
    elim (or_cases (is_dropped tree (cut tree number) i) (list_any (guards tree (bare (text_at tree number)) i) (looks tree)) h) [
      | inl dropped ↦ (number, refl, inl (dropped_first tree i number dropped))
      | inr guarded ↦ (number, refl, inr (looked_at tree i number guarded))
    ]

pub invalid_indexes_are_seen : IndexesAreDroppedOrGuarded → InvalidIndexesAreSeen
unfolding keeps index_of
invalid_indexes_are_seen first enabled settings tree quiet i word mark unique name path l has =
    let so = first enabled settings tree (silent hazard.InvalidIndexKept enabled settings tree quiet) i l (ap keeps_by has) in
    seen tree i name (ap (λ (o : Option Span). is_dropped_index tree i o || is_guarded tree i o) (sym (ap index_by has)) ∙ so)
